-- The steps by which a volume writes: what they are on a ring of sizes z with c cleared bits of the tally.
use Rattle.std.specs.Prelude.{ℕ, ◌+◌, ◌-◌, ◌*◌, ◌/◌, ◌%◌, ◌^◌, List, [], ◌∷◌}
use Rattle.chip.specs.Steps.{Step, program, erase}
use Rattle.label.specs.declared.Sizes.{Sizes}
use Rattle.ring.specs.Places.{chip_block, oldest, block_at}

-- a program of the flags of position p, which clears the bits that the mask lacks and covers only their byte
abbrev pub mark : Sizes → ℕ → ℕ → ℕ → Step
mark z c p mask = program (chip_block z (block_at z c p)) (4 * (p % 7)) 1 (mask ∷ [])

-- a program of the sector number of position p
abbrev pub number : Sizes → ℕ → ℕ → ℕ → Step
number z c p x = program (chip_block z (block_at z c p)) (4 * (p % 7) + 1) 2 (x % 256 ∷ x / 256 ∷ [])

-- a program of the page of position p
abbrev pub fill : Sizes → ℕ → ℕ → List ℕ → Step
fill z c p page = program (chip_block z (block_at z c p)) (512 * (p % 7 + 1)) 512 page

-- a put at position p: it is claimed (bit 7), numbered, written and filled (bit 5)
abbrev pub putting : Sizes → ℕ → ℕ → ℕ → List ℕ → List Step
putting z c p x page = mark z c p 127 ∷ number z c p x ∷ fill z c p page ∷ mark z c p 223 ∷ []

-- the end of a batch, at its last position: closed (bit 4), or dropped (bit 3)
abbrev pub closing : Sizes → ℕ → ℕ → List Step
closing z c p = mark z c p 239 ∷ []

abbrev pub dropping : Sizes → ℕ → ℕ → List Step
dropping z c p = mark z c p 247 ∷ []

-- what is left of a copy once it is claimed: numbered, written, filled and closed
abbrev pub finishing : Sizes → ℕ → ℕ → ℕ → List ℕ → List Step
finishing z c p x page = number z c p x ∷ fill z c p page ∷ mark z c p 223 ∷ mark z c p 239 ∷ []

-- a copy at position p: it is claimed (bit 6), then finished
abbrev pub copying : Sizes → ℕ → ℕ → ℕ → List ℕ → List Step
copying z c p x page = mark z c p 191 ∷ finishing z c p x page

-- a program that clears the bit i of the tally
abbrev pub clearing : ℕ → Step
clearing i = program (1 + i / 8 / 4096) (i / 8 % 4096) 1 ((255 - 2 ^ (7 - i % 8)) ∷ [])

-- the end of an erase that has begun: the block is erased (again), and the next bit books it
abbrev pub rebooking : Sizes → ℕ → List Step
rebooking z c = erase (chip_block z (oldest z c)) ∷ clearing c ∷ []

-- the oldest block is given back: one bit says that its erase begins, and the next that it is done
abbrev pub freeing : Sizes → ℕ → List Step
freeing z c = clearing c ∷ erase (chip_block z (oldest z c)) ∷ clearing (c + 1) ∷ []
