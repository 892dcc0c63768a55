-- What is counted of a tally: in one byte, up to a byte, and in all.
use Rattle.std.specs.Prelude.{◌≡◌, ℕ, ◌+◌, ◌-◌, ◌*◌, ◌/◌, ◌%◌, ◌^◌, ◌<◌, ◌≤◌, cond, List, length, Some, None, Ok, Err, Option, Result, nat_lt, slice_index}
use Rattle.chip.specs.Flash.{Flash}
use Rattle.ring.specs.Tally.{tally_byte, tally_bit, tally_bits, cleared}
use Rattle.ring.specs.Rules.{Disordered}
use Rattle.tally.specs.declared.Disorder.{Disorder}

-- the bit i of a byte, from the front
abbrev pub bit_of : ℕ → ℕ → ℕ
bit_of v i = v / 2 ^ (7 - i) % 2

-- the first z bits of a byte are cleared, and no other
pub record Front (v z : ℕ) : Type 0 where
  pub most : z ≤ 8
  pub bits : (i : ℕ) → i < 8 → bit_of v i ≡ cond (nat_lt i z) 0 1

-- a byte has a cleared bit behind an uncleared one
pub record Jumbled (v : ℕ) : Type 0 where
  pub bit : ℕ
  pub inside : bit < 8
  pub cleared : bit_of v bit ≡ 0
  pub earlier : ℕ
  pub before : earlier < bit
  pub uncleared : bit_of v earlier ≡ 1

-- how many bits of a byte are cleared, if all at its front
abbrev pub Fronts : ℕ → Option ℕ → Type 0
Fronts v (Some z) = Front v z
Fronts v None = Jumbled v

-- of the first n bytes of the tally the first c bits are cleared, and no other
pub record Scanned (s : Flash) (n c : ℕ) : Type 0 where
  pub most : c ≤ 8 * n
  pub front : (i : ℕ) → i < c → tally_bit s i ≡ 0
  pub rest : (i : ℕ) → c ≤ i → i < 8 * n → tally_bit s i ≡ 1

-- the bytes of the tally from the byte n on
abbrev pub Holds : Flash → ℕ → List ℕ → Type 0
Holds s n bytes = (i : ℕ) → i < length bytes → slice_index bytes i ≡ tally_byte s (n + i)

-- the first byte of a tally of k blocks that is out of order
pub record Out (s : Flash) (k j : ℕ) : Type 0 where
  pub here : Disordered s k j
  pub lower : (q : ℕ) → q < j → Disordered s k q → ⊥

-- what comes of the first n bytes: how many bits are cleared, or the first byte out of order
abbrev pub Advanced : Flash → ℕ → ℕ → Result ℕ Disorder → Type 0
Advanced s k n (Ok c) = Scanned s n c
Advanced s k n (Err d) = Out s k d.byte

-- an orderly tally of k blocks tells of c cleared bits: so it tells how many erases are booked, and whether one more has
-- begun
pub record Told (s : Flash) (k c : ℕ) : Type 0 where
  pub whole : c ≡ cleared s k
  pub most : c ≤ tally_bits k
  pub ordered : (j : ℕ) → Disordered s k j → ⊥

-- what a read of a tally of k blocks answers
abbrev pub Tallied : Flash → ℕ → Result ℕ Disorder → Type 0
Tallied s k (Ok c) = Told s k c
Tallied s k (Err d) = Out s k d.byte
