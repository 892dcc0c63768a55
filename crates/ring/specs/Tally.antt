-- The tally: the bits of blocks 1 to K, cleared one by one, from byte 0 on, bit 7 first.
use Rattle.std.specs.Prelude.{ℕ, ◌+◌, ◌-◌, ◌*◌, ◌/◌, ◌%◌, ◌^◌, Bool, ◌==◌, nat_eq}
use Rattle.chip.specs.Flash.{Flash}
use Rattle.ring.specs.Searches.{least}

-- the byte j of the tally, counted through all its blocks
abbrev pub tally_byte : Flash → ℕ → ℕ
tally_byte s j = s.byte (1 + j / 4096) (j % 4096)

-- the bit i of the tally: 0 is cleared
abbrev pub tally_bit : Flash → ℕ → ℕ
tally_bit s i = tally_byte s (i / 8) / 2 ^ (7 - i % 8) % 2

-- how many bits a tally of K blocks has
abbrev pub tally_bits : ℕ → ℕ
tally_bits k = 32768 * k

-- how many bits are cleared, up to the first that is not
abbrev pub cleared : Flash → ℕ → ℕ
cleared s k = least (λ i. nat_eq (tally_bit s i) 1) (tally_bits k)

-- with c bits cleared: how many erases are booked, and whether one more has begun
abbrev pub booked : ℕ → ℕ
booked c = c / 2

abbrev pub begun : ℕ → Bool
begun c = c % 2 == 1
