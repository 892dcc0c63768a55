-- A set of numbers as the bits of 64-bit words.
use Rattle.std.specs.Prelude.{◌≡◌, ℕ, ◌/◌, ◌%◌, ◌^◌, ◌<◌, Bool, ◌||◌, List, ◌==◌, slice_index}
use Rattle.lookup.specs.declared.walk.Visit.{Visit}
use Rattle.lookup.specs.Walks.{hits}

-- the bit of a word at k, and that of the set at j
abbrev pub bit_of : ℕ → ℕ → ℕ
bit_of w k = w / 2 ^ k % 2

abbrev pub bit_at : List ℕ → ℕ → ℕ
bit_at ws j = bit_of (slice_index ws (j / 64)) (j % 64)

-- whether the set has a number
abbrev pub marked : List ℕ → ℕ → Bool
marked ws j = bit_at ws j == 1

-- the sectors below n for which a slot counts are added
abbrev pub Added : ℕ → List ℕ → Visit → List ℕ → Type 0
Added n old v new = (x : ℕ) → x < n → marked new x ≡ (hits v x || marked old x)
