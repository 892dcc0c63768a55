-- Bits of a byte that is programmed with a mask which clears one of them.
use Rattle.std.proofs.Common.{◌≡◌, ℕ, zero, suc, ◌-◌, ◌/◌, ◌%◌, ◌^◌, ◌<◌, ◌≤◌, min, Bool, true, cond, ◌&&◌, eqb, sym, refl, ap, ◌∙◌, ⊎_elim, arith}
use native.Mathlib.Nat.{min-zero, min-le_left, min-le_right, min-eq_left}
use lib.Bits.{bit_and, and_step}
use Rattle.std.proofs.lemmas.Nat.{and_shr, mod-mul-add}
use Rattle.std.proofs.lemmas.Bool.{cases_eq, and_parts, eqb-true, eq-eqb, ne_eqb, cond-true, cond-false}
use Rattle.chip.specs.Steps.{Between}

-- the bit k of a number
abbrev pub bit : ℕ → ℕ → ℕ
bit x k = x / 2 ^ k % 2

-- a product of bits has a 1 where both have
low : (x y : ℕ) → bit_and x y % 2 ≡ min (x % 2) (y % 2)
low x y =
    let m : min (x % 2) (y % 2) < 2 = omega (arith, min-le_left (x % 2) (y % 2)) in
    ap (λ n. n % 2) (and_step x y) ∙ mod-mul-add (bit_and (x / 2) (y / 2)) 2 (min (x % 2) (y % 2)) m

pub and_bit : (a b k : ℕ) → bit (bit_and a b) k ≡ min (bit a k) (bit b k)
and_bit a b k = ap (λ n. n % 2) (and_shr a b k) ∙ low (a / 2 ^ k) (b / 2 ^ k)

-- a test holds at all numbers below n
unfoldable every : (ℕ → Bool) → ℕ → Bool
every f zero = true
every f (suc n) = f n && every f n

every_at : (f : ℕ → Bool) (n : ℕ) → every f n ≡ true → (i : ℕ) → i < n → f i ≡ true
unfolding every
every_at f zero all i lt = absurd (omega arith)
every_at f (suc n) all i lt =
    let parts = and_parts (f n) (every f n) all in
    ⊎_elim (λ e. ap f e ∙ parts.0) (λ ne. every_at f n parts.1 i (omega (arith, ne))) (cases_eq i n)

-- the bits of a mask: all but the bit j
masks : ℕ → ℕ → Bool
masks j k = eqb (bit (255 - 2 ^ j) k) (cond (eqb k j) 0 1)

all_masks : every (λ j. every (masks j) 8) 8 ≡ true
unfolding every masks
all_masks = refl

mask_bit : (j k : ℕ) → j < 8 → k < 8 → bit (255 - 2 ^ j) k ≡ cond (eqb k j) 0 1
unfolding masks
mask_bit j k lj lk = eqb-true _ _ (every_at (masks j) 8 (every_at (λ i. every (masks i) 8) 8 all_masks j lj) k lk)

-- a program that is finished clears the bit j and keeps the others
pub mask_here : (a j : ℕ) → j < 8 → bit (bit_and a (255 - 2 ^ j)) j ≡ 0
mask_here a j lj =
    and_bit a (255 - 2 ^ j) j
    ∙ ap (min (bit a j)) (mask_bit j j lj lj ∙ cond-true _ _ _ (eq-eqb j j refl))
    ∙ min-zero (bit a j)

pub mask_other : (a j k : ℕ) → j < 8 → k < 8 → (k ≡ j → ⊥) → bit (bit_and a (255 - 2 ^ j)) k ≡ bit a k
mask_other a j k lj lk ne =
    and_bit a (255 - 2 ^ j) k
    ∙ ap (min (bit a k)) (mask_bit j k lj lk ∙ cond-false _ _ _ (ne_eqb k j ne))
    ∙ min-eq_left (omega arith)

-- what lies between two numbers with the same bit has it too
pub between_bit : (a x b k : ℕ) → Between a x b → bit a k ≡ bit b k → bit x k ≡ bit b k
between_bit a x b k h e =
    let over : min (bit x k) (bit a k) ≡ bit a k = sym (and_bit x a k) ∙ ap (λ n. bit n k) h.over in
    let under : min (bit x k) (bit b k) ≡ bit x k = sym (and_bit x b k) ∙ ap (λ n. bit n k) h.under in
    let up : min (bit x k) (bit a k) ≤ bit x k = min-le_left _ _ in
    let down : min (bit x k) (bit b k) ≤ bit b k = min-le_right _ _ in
    omega arith

-- so a program that is cut keeps all bits but the bit j
pub torn_other : (a x j k : ℕ) → j < 8 → k < 8 → (k ≡ j → ⊥) → Between (bit_and a (255 - 2 ^ j)) x a → bit x k ≡ bit a k
torn_other a x j k lj lk ne h = between_bit (bit_and a (255 - 2 ^ j)) x a k h (mask_other a j k lj lk ne)
