-- Where things lie in the ring: with z the sizes of the volume, and c cleared bits of its tally.
use Rattle.std.specs.Prelude.{ℕ, ◌+◌, ◌-◌, ◌*◌, ◌/◌, ◌%◌, List}
use Rattle.chip.specs.Flash.{Flash}
use Rattle.label.specs.declared.Sizes.{Sizes}
use Rattle.ring.specs.Searches.{row}
use Rattle.ring.specs.Tally.{booked}

-- ring block b is the chip's block 1 + K + b
abbrev pub chip_block : Sizes → ℕ → ℕ
chip_block z b = 1 + z.tally + b

-- the ring block that is erased next, or is being erased
abbrev pub oldest : Sizes → ℕ → ℕ
oldest z c = booked c % z.ring

-- the ring block in which the log starts: the oldest, or the one after it while the oldest is being erased
abbrev pub first_block : Sizes → ℕ → ℕ
first_block z c = (booked c + c % 2) % z.ring

-- how many positions the log has: seven in each ring block but the one that is being erased
abbrev pub positions : Sizes → ℕ → ℕ
positions z c = 7 * (z.ring - c % 2)

-- the ring block of a position, and the slot there; positions go round the ring
abbrev pub block_at : Sizes → ℕ → ℕ → ℕ
block_at z c p = (first_block z c + p / 7) % z.ring

abbrev pub slot_at : Sizes → ℕ → ℕ → ℕ
slot_at z c p = 7 * block_at z c p + p % 7

-- the byte i of the descriptor of a position: flags, sector (two bytes), FF hex
abbrev pub descriptor_byte : Flash → Sizes → ℕ → ℕ → ℕ → ℕ
descriptor_byte s z c p i = s.byte (chip_block z (block_at z c p)) (4 * (p % 7) + i)

abbrev pub flags_at : Flash → Sizes → ℕ → ℕ → ℕ
flags_at s z c p = descriptor_byte s z c p 0

abbrev pub sector_at : Flash → Sizes → ℕ → ℕ → ℕ
sector_at s z c p = descriptor_byte s z c p 1 + 256 * descriptor_byte s z c p 2

-- the byte o of the page of a position, and the whole page
abbrev pub page_byte : Flash → Sizes → ℕ → ℕ → ℕ → ℕ
page_byte s z c p o = s.byte (chip_block z (block_at z c p)) (512 * (p % 7 + 1) + o)

abbrev pub page_at : Flash → Sizes → ℕ → ℕ → List ℕ
page_at s z c p = row (page_byte s z c p) 512
