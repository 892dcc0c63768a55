-- The slots before the first unclaimed one are those that are claimed.
use Rattle.std.proofs.Common.{◌≡◌, ℕ, ◌+◌, ◌-◌, ◌*◌, ◌<◌, ◌≤◌, false, eqb, List, get_or, Some, None, sym, ◌∙◌, subst, ⊎_elim, arith}
use Rattle.std.proofs.lemmas.Bool.{cases_lt, eq-eqb, ne_eqb}
use Rattle.chip.specs.Flash.{Flash}
use Rattle.label.specs.declared.Sizes.{Sizes}
use Rattle.ring.specs.declared.directory.Descriptor.{Descriptor}
use Rattle.ring.specs.Directories.{none}
use Rattle.ring.specs.Logs.{claimed}
use Rattle.ring.specs.Places.{flags_at, positions}
use Rattle.ring.proofs.Searching.{least_unique}
use Rattle.rules.specs.Firsts.{FirstUnclaimed}
use Rattle.rules.specs.Breaches.{Shows}
use Rattle.rules.proofs.Reading.{flags_of}

-- all positions before n are claimed
abbrev pub AllClaimed : Flash → Sizes → ℕ → ℕ → Type 0
AllClaimed s z c n = (p : ℕ) → p < n → eqb (flags_at s z c p) 255 ≡ false

pub claimed_none : (s : Flash) (z : Sizes) (c : ℕ) → AllClaimed s z c 0
claimed_none s z c p lt = absurd (omega arith)

-- the first m slots of a turn are claimed, as all before them are
claimed_on : (s : Flash) (z : Sizes) (c i : ℕ) (slots : List Descriptor) (m : ℕ) → Shows s z c i slots → AllClaimed s z c (7 * i) → m ≤ 7 → ((k : ℕ) → k < m → (get_or slots k none).flags ≡ 255 → ⊥) → AllClaimed s z c (7 * i + m)
claimed_on s z c i slots m h before most here p lt =
    ⊎_elim (before p)
    (λ le.
    let k = p - 7 * i in
    let e : p ≡ 7 * i + k = omega arith in
    ne_eqb _ 255 (λ f. here k (omega arith) (sym (flags_of s z c i slots k h (omega arith)) ∙ subst (λ q. flags_at s z c q ≡ 255) e f)))
    (cases_lt p (7 * i))

-- all slots of a turn are claimed
pub claimed_more : (s : Flash) (z : Sizes) (c i : ℕ) (slots : List Descriptor) → Shows s z c i slots → AllClaimed s z c (7 * i) → FirstUnclaimed slots None → AllClaimed s z c (7 * (i + 1))
claimed_more s z c i slots h before first p lt = claimed_on s z c i slots 7 h before (omega arith) first p (omega arith)

-- the first slot that is not claimed
pub claimed_some : (s : Flash) (z : Sizes) (c i : ℕ) (slots : List Descriptor) (j : ℕ) → Shows s z c i slots → AllClaimed s z c (7 * i) → FirstUnclaimed slots (Some j) → 7 * i + j ≡ claimed s z c
claimed_some s z c i slots j h before first =
    sym
    (least_unique _ (positions z c) (7 * i + j)
    record {
      bound = omega (arith, h.inside, first.0);
      before = claimed_on s z c i slots j h before (omega (arith, first.0)) first.2;
      hit = λ lt. eq-eqb _ 255 (flags_of s z c i slots j h first.0 ∙ first.1);
    })

-- all slots are claimed
pub claimed_all : (s : Flash) (z : Sizes) (c : ℕ) → AllClaimed s z c (positions z c) → positions z c ≡ claimed s z c
claimed_all s z c before = sym (least_unique _ (positions z c) (positions z c) record { bound = omega arith; before = before; hit = λ lt. absurd (omega arith) })
