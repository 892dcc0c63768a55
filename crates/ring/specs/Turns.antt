-- The turns of the log: its blocks, counted from the one in which it starts.
use Rattle.std.specs.Prelude.{◌≡◌, ℕ, ◌+◌, ◌-◌, ◌%◌, ◌<◌, ◌≤◌, true, Some, None, Option, ◌≢◌}
use Rattle.chip.specs.Flash.{Flash}
use Rattle.label.specs.declared.Sizes.{Sizes}
use Rattle.ring.specs.Places.{first_block, positions, block_at}

-- sizes and a tally within their limits
pub record Shaped (z : Sizes) (c : ℕ) : Type 0 where
  pub ring_least : 5 ≤ z.ring
  pub ring_most : z.ring ≤ 4096
  pub tally_most : z.tally ≤ 8
  pub cleared_most : c ≤ 262144

-- a chip that has power, with a volume of these sizes and so many cleared bits on it
pub record Ready (s : Flash) (z : Sizes) (c : ℕ) : Type 0 where
  pub power : s.on ≡ true
  pub whole : 1 + z.tally + z.ring ≡ s.blocks
  pub shaped : Shaped z c

-- how many turns the log has
abbrev pub turns_of : Sizes → ℕ → ℕ
turns_of z c = z.ring - c % 2

-- the turn of a ring block; a block that is being erased has none, so no position lies in it
abbrev pub Turned : Sizes → ℕ → ℕ → Option ℕ → Type 0
Turned z c b (Some i) = (i < turns_of z c) × ((first_block z c + i) % z.ring ≡ b)
Turned z c b None = (p : ℕ) → p < positions z c → block_at z c p ≢ b
