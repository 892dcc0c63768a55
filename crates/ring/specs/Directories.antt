-- The descriptors of a block, as they are read.
use Rattle.std.specs.Prelude.{◌≡◌, ℕ, ◌+◌, ◌*◌, ◌<◌, List, length, slice_index, slice_index_or}
use Rattle.chip.specs.Flash.{Flash}
use Rattle.ring.specs.declared.directory.Descriptor.{Descriptor}

-- no descriptor
abbrev pub none : Descriptor
none = record { flags = 0; sector = record { 0 = 0 } }

-- the flags and sector numbers that 28 bytes give
pub record Decodes (bytes : List ℕ) (ds : List Descriptor) : Type 0 where
  pub seven : length ds ≡ 7
  pub flags : (j : ℕ) → j < 7 → (slice_index_or ds j none).flags ≡ slice_index bytes (4 * j)
  pub sector : (j : ℕ) → j < 7 → (slice_index_or ds j none).sector.0 ≡ slice_index bytes (4 * j + 1) + 256 * slice_index bytes (4 * j + 2)

-- the flags and sector numbers of the seven slots of the chip's block b
pub record Describes (s : Flash) (b : ℕ) (ds : List Descriptor) : Type 0 where
  pub seven : length ds ≡ 7
  pub flags : (j : ℕ) → j < 7 → (slice_index_or ds j none).flags ≡ s.byte b (4 * j)
  pub sector : (j : ℕ) → j < 7 → (slice_index_or ds j none).sector.0 ≡ s.byte b (4 * j + 1) + 256 * s.byte b (4 * j + 2)
