-- The first of seven is the least of them.
use Rattle.std.proofs.Common.{◌≡◌, ℕ, ◌<◌, ◌≤◌, Bool, Some, None, Option, sym, ◌∙◌, subst, arith}
use Rattle.chip.specs.Flash.{Flash}
use Rattle.chip.specs.Ranges.{Tells}
use Rattle.label.specs.declared.Sizes.{Sizes}
use Rattle.ring.specs.Logs.{is_live, log}
use Rattle.ring.specs.Rules.{Covers, Copying}
use Rattle.image.proofs.Covering.{tells_same}
use Rattle.ring.specs.Searches.{least}
use Rattle.ring.specs.declared.Position.{Position}
use Rattle.ring.proofs.Searching.{least_unique}
use Rattle.image.specs.Sevens.{FirstOf}

pub least_none : (f : ℕ → Bool) → FirstOf f None → least f 7 ≡ 7
least_none f h = least_unique f 7 7 record { bound = omega arith; before = h; hit = λ lt. absurd (omega arith) }

-- where none is live no copy is right, and a copy is right by the first live one alone
pub no_source : (s : Flash) (z : Sizes) (c p : ℕ) → FirstOf (is_live (log s z c)) None → Copying s z c p → ⊥
no_source s z c p none right = omega (arith, right.source, least_none (is_live (log s z c)) none)

pub least_some : (f : ℕ → Bool) (p : Position) → FirstOf f (Some p) → least f 7 ≡ p.0
least_some f p h = least_unique f 7 p.0 record { bound = omega (arith, h.0); before = h.2; hit = λ _. h.1 }

-- tests that agree on the seven have the same first
pub first_same : (f g : ℕ → Bool) (r : Option Position) → ((i : ℕ) → i < 7 → f i ≡ g i) → FirstOf f r → FirstOf g r
first_same f g None same h = λ k lt. sym (same k lt) ∙ h k lt
first_same f g (Some p) same h = (h.0, sym (same p.0 h.0) ∙ h.1, λ k lt. sym (same k (omega (arith, h.0))) ∙ h.2 k lt)

pub right_tells : (s : Flash) (z : Sizes) (c p : ℕ) (source : Position) (r : Bool) → 7 ≤ p → FirstOf (is_live (log s z c)) (Some source) → Tells r (Covers s z c p source.0) → Tells r (Copying s z c p)
right_tells s z c p source r late first t =
    let least = least_some (is_live (log s z c)) source first in
    tells_same r
    (λ covers. record { late = late; source = omega (arith, first.0, least); covers = subst (Covers s z c p) (sym least) covers })
    (λ right. subst (Covers s z c p) least right.covers)
    t
