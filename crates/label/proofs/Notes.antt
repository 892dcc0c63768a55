-- What is noted of the first fields under a tag: one field further, and that no tag has two notes.
use Rattle.std.proofs.Common.{◌≡◌, ℕ, ◌+◌, ◌<◌, ◌≤◌, List, Some, None, Option, sym, refl, ap, ◌∙◌, ⊎_elim, arith, below_more}
use Rattle.std.proofs.lemmas.Bool.{cases_lt}
use Rattle.label.specs.Fields.{word_at, place, tag_of, Legal, Before, Noted, Number}

-- a field with another tag leaves the note as it was
pub passed : {V : Type 0} (page : List ℕ) (n tag : ℕ) (P : ℕ → V → Type 0) (o : Option V) → (tag_of page n ≡ tag → ⊥) → Noted page n tag P o → Noted page (n + 1) tag P o
passed page n tag P None other h = below_more _ _ h other
passed page n tag P (Some v) other h = (h.0, omega (arith, h.1), h.2, h.3)

-- a field whose tag had no note repeats none
pub unrepeated : {V : Type 0} (page : List ℕ) (n tag : ℕ) (P : ℕ → V → Type 0) → Noted page n tag P None → tag_of page n ≡ tag → (j : ℕ) → j < n → tag_of page j ≡ tag_of page n → 128 ≤ tag_of page n
unrepeated page n tag P h t j lt e = absurd (h j lt (e ∙ t))

-- a field whose tag has a note repeats one, and is not in order
pub repeated : {V : Type 0} (page : List ℕ) (n tag : ℕ) (P : ℕ → V → Type 0) (o : Option V) → (o ≡ None → ⊥) → Noted page n tag P o → tag_of page n ≡ tag → tag < 128 → Legal page n → ⊥
repeated page n tag P None some h t lt legal = some refl
repeated page n tag P (Some v) some h t lt legal = omega (arith, legal.once h.0 h.1 (h.2 ∙ sym t), t, lt)

-- two fields in order with one tag that is not skipped are the same field
pub unique : (page : List ℕ) (n tag j k : ℕ) → Before page n → tag < 128 → j < n → k < n → tag_of page j ≡ tag → tag_of page k ≡ tag → j ≡ k
unique page n tag j k b lt jn kn tj tk =
    ⊎_elim
    (λ jk. absurd (omega (arith, (b k kn).0.once j jk (tj ∙ sym tk), tk)))
    (λ kj. ⊎_elim (λ kj. absurd (omega (arith, (b j jn).0.once k kj (tk ∙ sym tj), tj))) (λ jk. omega arith) (cases_lt k j))
    (cases_lt j k)

-- a number that is noted is the only one under its tag
pub only : (page : List ℕ) (n tag v : ℕ) (o : Option ℕ) → Before page n → tag < 128 → Noted page n tag (Number page) o → Noted page n tag (Number page) (Some v) → o ≡ Some v
only page n tag v None b lt h s = absurd (h s.0 s.1 s.2)
only page n tag v (Some w) b lt h s =
    let e = unique page n tag h.0 s.0 b lt h.1 s.1 h.2 s.2 in
    ap Some (sym h.3 ∙ ap (λ j. word_at page (place page j + 3)) e ∙ s.3)
