-- The flash of a row of bytes: its blocks lie one after another, and what is left over past the last is not shown.
use Rattle.std.specs.Prelude.{◌≡◌, ℕ, ◌+◌, ◌*◌, ◌/◌, ◌<◌, ◌≤◌, min, Bool, cond, List, length, bit_and, bit_or, nat_lt, slice_index}
use Rattle.chip.specs.Flash.{Flash}

-- the byte at an offset of a block; past a block's end there is none, so that blocks do not overlap
abbrev pub place : List ℕ → ℕ → ℕ → ℕ
place row b o = cond (nat_lt o 4096) (slice_index row (b * 4096 + o)) 0

-- the whole blocks, up to the most that a chip shows
abbrev pub count_of : List ℕ → ℕ
count_of row = min 65535 (length row / 4096)

-- the flash of a row under a name: each block is its own home
abbrev pub flash_of : List ℕ → Bool → ℕ → Flash
flash_of row on name = record {
  blocks = count_of row;
  byte = place row;
  on = on;
  home = λ b. record { name = name; block = b };
}

-- each place of the row holds a byte
abbrev pub Bytes : List ℕ → Type 0
Bytes row = (i : ℕ) → slice_index row i < 256

-- the first n of `into` are those of the row from `base` on
abbrev pub Same : List ℕ → ℕ → ℕ → List ℕ → Type 0
Same row base n into = (k : ℕ) → k < n → slice_index into k ≡ slice_index row (base + k)

-- `new` is `old` but for n bytes from `base` on
pub record Outside (old : List ℕ) (base n : ℕ) (new : List ℕ) : Type 0 where
  pub long : length new ≡ length old
  pub before : (i : ℕ) → i < base → slice_index new i ≡ slice_index old i
  pub after : (i : ℕ) → base + n ≤ i → slice_index new i ≡ slice_index old i

-- `new` is `old` with `given` in it from `base` on
pub record Placed (old : List ℕ) (base : ℕ) (given new : List ℕ) : Type 0 where
  pub outside : Outside old base (length given) new
  pub inside : (k : ℕ) → k < length given → slice_index new (base + k) ≡ slice_index given k

-- each of n bytes from `base` on keeps, of its ones, those that `given` or `mask` has
pub record Masked (old : List ℕ) (base n : ℕ) (given : List ℕ) (mask : ℕ) (new : List ℕ) : Type 0 where
  pub outside : Outside old base n new
  pub inside : (k : ℕ) → k < n → slice_index new (base + k) ≡ bit_and (slice_index old (base + k)) (bit_or (slice_index given k) mask)

-- each of n bytes from `base` on is x
pub record Filled (old : List ℕ) (base n x : ℕ) (new : List ℕ) : Type 0 where
  pub outside : Outside old base n new
  pub inside : (k : ℕ) → k < n → slice_index new (base + k) ≡ x
