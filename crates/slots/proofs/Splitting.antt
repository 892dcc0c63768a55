-- A byte that loses one bit has it or has lost it: one test that is computed at all 256 bytes.
use Rattle.std.proofs.Common.{◌≡◌, ℕ, zero, suc, ◌<◌, Bool, true, not, ◌&&◌, ◌||◌, eqb, refl, ap, ◌∙◌, inl, inr, ⊎_elim, arith}
use lib.Bits.{bit_and, and_le_r, and_comm, and_mask}
use Rattle.std.proofs.lemmas.Bool.{cases_eq, and_parts, or_cases, eqb-true, eq-eqb, and_from, not_from_true, both_ways}
use Rattle.slots.specs.Left.{Splits}

-- a test holds at all numbers below n
unfoldable every : (ℕ → Bool) → ℕ → Bool
every f zero = true
every f (suc n) = f n && every f n

every_at : (f : ℕ → Bool) (n : ℕ) → every f n ≡ true → (i : ℕ) → i < n → f i ≡ true
unfolding every
every_at f zero all i lt = absurd (omega arith)
every_at f (suc n) all i lt =
    let parts = and_parts (f n) (every f n) all in
    ⊎_elim (λ e. ap f e ∙ parts.0) (λ ne. every_at f n parts.1 i (omega (arith, ne))) (cases_eq i n)

-- x is not between g and f, or is one of the two
unfoldable split : ℕ → ℕ → ℕ → Bool
split f g x = not (eqb (bit_and x g) g && eqb (bit_and x f) x) || (eqb x f || eqb x g)

splits : (f g : ℕ) → f < 256 → every (split f g) 256 ≡ true → Splits f g
unfolding split
splits f g fits all x h =
    let lt : x < 256 = omega (arith, fits, h.under, and_le_r x f) in
    let inside = and_from _ _ (eq-eqb (bit_and x g) g h.over) (eq-eqb (bit_and x f) x h.under) in
    ⊎_elim
    (λ t. absurd (both_ways _ (not_from_true _ inside) t))
    (λ t. ⊎_elim (λ u. inl (eqb-true x f u)) (λ u. inr (eqb-true x g u)) (or_cases _ _ t))
    (or_cases _ _ (every_at (split f g) 256 all x lt))

-- the bits by which a put is claimed, filled, closed and dropped
pub put_claims : Splits 255 127
unfolding every split
put_claims = splits 255 127 (omega arith) refl

pub put_fills : Splits 127 95
unfolding every split
put_fills = splits 127 95 (omega arith) refl

pub put_closes : Splits 95 79
unfolding every split
put_closes = splits 95 79 (omega arith) refl

pub put_drops : Splits 95 87
unfolding every split
put_drops = splits 95 87 (omega arith) refl

pub claim_drops : Splits 127 119
unfolding every split
claim_drops = splits 127 119 (omega arith) refl

-- the bits by which a copy is claimed, filled, filled again and closed
pub copy_claims : Splits 255 191
unfolding every split
copy_claims = splits 255 191 (omega arith) refl

pub copy_fills : Splits 191 159
unfolding every split
copy_fills = splits 191 159 (omega arith) refl

pub copy_refills : Splits 159 159
unfolding every split
copy_refills = splits 159 159 (omega arith) refl

pub copy_closes : Splits 159 143
unfolding every split
copy_closes = splits 159 143 (omega arith) refl

-- a byte programmed into an erased one
pub byte_on_ones : (v : ℕ) → v < 256 → bit_and 255 v ≡ v
byte_on_ones v lt = and_comm 255 v ∙ omega (arith, and_mask v 8)
