-- The page of a chip that the label stands in.
use Rattle.std.specs.Prelude.{◌≡◌, ℕ, ◌<◌, true, false, List, length, replicate, slice_index}
use Rattle.chip.specs.Flash.{Flash}

-- the bytes of a chip's first page; ones where there is no block, or no power
pub record Fronts (s : Flash) (page : List ℕ) : Type 0 where
  pub whole : length page ≡ 512
  pub served : 0 < s.blocks → s.on ≡ true → (k : ℕ) → k < 512 → slice_index page k ≡ s.byte 0 k
  pub empty : s.blocks ≡ 0 → page ≡ replicate 512 255
  pub off : s.on ≡ false → page ≡ replicate 512 255
