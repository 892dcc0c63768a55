-- What the cleared bits at the front of a byte and the uncleared ones at its end say of its eight bits: one test that
-- is computed at all 256 bytes.
use Rattle.std.proofs.Common.{◌≡◌, ℕ, zero, suc, ◌+◌, ◌-◌, ◌^◌, ◌<◌, Bool, true, cond, ◌&&◌, eqb, ltb, sym, refl, ap, ◌∙◌, ⊎_elim, arith}
use lib.Count.{count_leading_zeros, count_trailing_zeros}
use Rattle.std.proofs.lemmas.Bool.{cases_eq, and_parts, eqb-true, ltb-true, eq-eqb, ne_eqb, cond-true, cond-false}
use Rattle.tally.specs.Counts.{bit_of, Front, Jumbled}

-- a test holds at all numbers below n
unfoldable every : (ℕ → Bool) → ℕ → Bool
every f zero = true
every f (suc n) = f n && every f n

every_at : (f : ℕ → Bool) (n : ℕ) → every f n ≡ true → (i : ℕ) → i < n → f i ≡ true
unfolding every
every_at f zero all i lt = absurd (omega arith)
every_at f (suc n) all i lt =
    let parts = and_parts (f n) (every f n) all in
    ⊎_elim (λ e. ap f e ∙ parts.0) (λ ne. every_at f n parts.1 i (omega (arith, ne))) (cases_eq i n)

-- the cleared bits at the front of a byte, and the uncleared ones at its end
abbrev pub zeros : ℕ → ℕ
zeros v = count_leading_zeros 8 v

abbrev pub ones : ℕ → ℕ
ones v = count_trailing_zeros 8 (2 ^ 8 - 1 - v)

-- those in front are cleared, and the others not
unfoldable ordered : ℕ → Bool
ordered v = ltb (zeros v) 9 && every (λ i. eqb (bit_of v i) (cond (ltb i (zeros v)) 0 1)) 8

-- behind those in front comes one that is not cleared, and before those at the end one that is
unfoldable jumbled : ℕ → Bool
jumbled v = ltb (zeros v + ones v) 7 && (eqb (bit_of v (7 - ones v)) 0 && eqb (bit_of v (zeros v)) 1)

unfoldable right : ℕ → Bool
right v = cond (eqb (zeros v + ones v) 8) (ordered v) (jumbled v)

all_right : every right 256 ≡ true
unfolding every ordered jumbled right count_leading_zeros count_trailing_zeros
all_right = refl

pub front_is : (v : ℕ) → v < 256 → zeros v + ones v ≡ 8 → Front v (zeros v)
unfolding right ordered
front_is v lt e =
    let is = sym (cond-true _ (ordered v) (jumbled v) (eq-eqb (zeros v + ones v) 8 e)) ∙ every_at right 256 all_right v lt in
    let parts = and_parts (ltb (zeros v) 9) _ is in
    let few = ltb-true (zeros v) 9 parts.0 in
    record { most = omega arith; bits = λ i h. eqb-true _ _ (every_at _ 8 parts.1 i h) }

pub jumbled_is : (v : ℕ) → v < 256 → (zeros v + ones v ≡ 8 → ⊥) → Jumbled v
unfolding right jumbled
jumbled_is v lt ne =
    let is = sym (cond-false _ (ordered v) (jumbled v) (ne_eqb (zeros v + ones v) 8 ne)) ∙ every_at right 256 all_right v lt in
    let parts = and_parts (ltb (zeros v + ones v) 7) _ is in
    let bits = and_parts _ _ parts.1 in
    let few = ltb-true (zeros v + ones v) 7 parts.0 in
    record {
      bit = 7 - ones v;
      inside = omega arith;
      cleared = eqb-true _ _ bits.0;
      earlier = zeros v;
      before = omega arith;
      uncleared = eqb-true _ _ bits.1;
    }
