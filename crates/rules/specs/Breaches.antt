-- What the descriptors of a block show of the log, and what a test of a slot is asked with.
use Rattle.std.specs.Prelude.{◌≡◌, ℕ, ◌+◌, ◌/◌, ◌%◌, ◌<◌, List}
use Rattle.chip.specs.Flash.{Flash}
use Rattle.label.specs.declared.Sizes.{Sizes}
use Rattle.ring.specs.declared.directory.Descriptor.{Descriptor}
use Rattle.ring.specs.Directories.{Describes}
use Rattle.ring.specs.Places.{chip_block, first_block}
use Rattle.ring.specs.Turns.{turns_of}

-- the descriptors of the block at a turn of the log
pub record Shows (s : Flash) (z : Sizes) (c turn : ℕ) (slots : List Descriptor) : Type 0 where
  pub inside : turn < turns_of z c
  pub describes : Describes s (chip_block z ((first_block z c + turn) % z.ring)) slots

-- what a test is asked with: a chip that is as it was, a position, and the descriptors of its block
abbrev pub Asked : Flash → Sizes → ℕ → Flash → ℕ → List Descriptor → Type 0
Asked s z c now p slots = (now ≡ s) × Shows s z c (p / 7) slots
