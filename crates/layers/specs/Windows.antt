-- The flash that a window shows: the blocks from `first` on, at most `count` of them.
use Rattle.std.specs.Prelude.{◌≡◌, ℕ, ◌+◌, ◌-◌, ◌<◌, ◌≤◌, min, Some, None, Option}
use Rattle.chip.specs.declared.Block.{Block}
use Rattle.chip.specs.Flash.{Flash}

abbrev pub windowed : ℕ → ℕ → Flash → Flash
windowed first count s = record {
  blocks = min count (s.blocks - first);
  byte = λ b o. s.byte (first + b) o;
  on = s.on;
  home = λ b. s.home (first + b);
}

-- the block of the chip that a block of the window is
abbrev pub Lies : ℕ → ℕ → Flash → ℕ → Option Block → Type 0
Lies first count s b (Some c) = (c.0 ≡ first + b) × (b < min count (s.blocks - first))
Lies first count s b None = min count (s.blocks - first) ≤ b
