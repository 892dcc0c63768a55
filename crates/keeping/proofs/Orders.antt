-- The order of a log: with one entry more at its end, without its last entry, and without its front.
use Rattle.std.proofs.Common.{◌≡◌, ℕ, suc, ◌+◌, ◌-◌, ◌<◌, true, false, List, [], ◌∷◌, ◌++◌, length, get_or, drop, sym, refl, ap, ◌∙◌, subst, inl, inr, ⊎_elim, arith, length-append, length-drop}
use Rattle.std.proofs.lemmas.List.{get_or_append_left, get_or_at, get_or-drop}
use Rattle.std.proofs.lemmas.Bool.{cases_lt, eqb-true, or_cases}
use Rattle.ring.specs.Logs.{Entry, no_entry, closes, ends, is_copy, unclosed_copy}
use Rattle.ring.specs.Rules.{legal, unfilled, numbered}
use Rattle.laid.specs.Sane.{flags_of, last_flags, Ended, Orderly}

-- the places of a list with one entry more
pub length_one : (es : List Entry) (e : Entry) → length (es ++ (e ∷ [])) ≡ length es + 1
length_one es e = length-append es (e ∷ [])

pub place_before : (es : List Entry) (e : Entry) (p : ℕ) → p < length es → get_or (es ++ (e ∷ [])) p no_entry ≡ get_or es p no_entry
place_before es e p lt = get_or_append_left es (e ∷ []) no_entry p lt

pub place_last : (es : List Entry) (e : Entry) (p : ℕ) → p ≡ length es → get_or (es ++ (e ∷ [])) p no_entry ≡ e
place_last es e p is = get_or_at es e [] no_entry p (sym is)

pub last_is : (es : List Entry) (e : Entry) → last_flags (es ++ (e ∷ [])) ≡ e.flags
last_is es e = ap (λ (x : Entry). x.flags) (place_last es e _ (omega (arith, length_one es e)))

-- a log that ends with an entry which ends a group is ended
pub ended_by : (es : List Entry) (e : Entry) → ends e.flags ≡ true → Ended (es ++ (e ∷ []))
ended_by es e h some = ap ends (last_is es e) ∙ h

-- what an entry must be to stand at the end of a log
pub record Follows (limit : ℕ) (es : List Entry) (e : Entry) : Type 0 where
  pub legal : legal e.flags ≡ true
  pub filled : 0 < length es → unfilled (last_flags es) ≡ false
  pub copies : is_copy e.flags ≡ true → Ended es
  pub numbers : numbered e.flags ≡ true → e.sector < limit

module _ (limit : ℕ) (es : List Entry) (e : Entry) where
  len : length (es ++ (e ∷ [])) ≡ length es + 1
  len = length_one es e

  flags_before : (p : ℕ) → p < length es → flags_of (es ++ (e ∷ [])) p ≡ flags_of es p
  flags_before p lt = ap (λ (x : Entry). x.flags) (place_before es e p lt)

  flags_last : (p : ℕ) → p ≡ length es → flags_of (es ++ (e ∷ [])) p ≡ e.flags
  flags_last p is = ap (λ (x : Entry). x.flags) (place_last es e p is)

  pub orderly_more : Orderly limit es → Follows limit es e → Orderly limit (es ++ (e ∷ []))
  orderly_more o f = record {
    legal = λ p lt.
        ⊎_elim
        (λ before. ap legal (flags_before p before) ∙ o.legal p before)
        (λ behind. ap legal (flags_last p (omega (arith, len))) ∙ f.legal)
        (cases_lt p (length es));
    filled = λ p lt.
        let before : p < length es = omega (arith, len) in
        ap unfilled (flags_before p before)
        ∙ ⊎_elim
        (λ inside. o.filled p inside)
        (λ last. ap (λ q. unfilled (flags_of es q)) (omega (arith, len)) ∙ f.filled (omega arith))
        (cases_lt (suc p) (length es));
    copies = λ p some lt copy.
        ap ends (flags_before (p - 1) (omega (arith, len)))
        ∙ ⊎_elim
        (λ before. o.copies p some before (ap is_copy (sym (flags_before p before)) ∙ copy))
        (λ behind.
        let is : p ≡ length es = omega (arith, len) in
        ap (λ q. ends (flags_of es (q - 1))) is ∙ f.copies (ap is_copy (sym (flags_last p is)) ∙ copy) (omega arith))
        (cases_lt p (length es));
    numbers = λ p lt numbered-there.
        ⊎_elim
        (λ before.
        let old = o.numbers p before (ap numbered (sym (flags_before p before)) ∙ numbered-there) in
        subst (λ (x : Entry). x.sector < limit) (sym (place_before es e p before)) old)
        (λ behind.
        let is : p ≡ length es = omega (arith, len) in
        let new = f.numbers (ap numbered (sym (flags_last p is)) ∙ numbered-there) in
        subst (λ (x : Entry). x.sector < limit) (sym (place_last es e p is)) new)
        (cases_lt p (length es));
  }

  -- without its last entry
  pub orderly_less : Orderly limit (es ++ (e ∷ [])) → Orderly limit es
  orderly_less o = record {
    legal = λ p lt. ap legal (sym (flags_before p lt)) ∙ o.legal p (omega (arith, len));
    filled = λ p lt. ap unfilled (sym (flags_before p (omega arith))) ∙ o.filled p (omega (arith, len));
    copies = λ p some lt copy.
        ap ends (sym (flags_before (p - 1) (omega arith)))
        ∙ o.copies p some (omega (arith, len)) (ap is_copy (flags_before p lt) ∙ copy);
    numbers = λ p lt there.
        subst (λ (x : Entry). x.sector < limit) (place_before es e p lt)
        (o.numbers p (omega (arith, len)) (ap numbered (flags_before p lt) ∙ there));
  }

  -- the entry before the last is filled, and ends a group where the last is a copy
  pub before_filled : Orderly limit (es ++ (e ∷ [])) → 0 < length es → unfilled (last_flags es) ≡ false
  before_filled o some =
      ap unfilled (sym (flags_before (length es - 1) (omega arith))) ∙ o.filled (length es - 1) (omega (arith, len))

  pub before_copy : Orderly limit (es ++ (e ∷ [])) → is_copy e.flags ≡ true → Ended es
  before_copy o copy some =
      ap ends (sym (flags_before (length es - 1) (omega arith)))
      ∙ o.copies (length es) some (omega (arith, len)) (ap is_copy (flags_last (length es) refl) ∙ copy)

  pub last_number : Orderly limit (es ++ (e ∷ [])) → numbered e.flags ≡ true → e.sector < limit
  last_number o there =
      subst (λ (x : Entry). x.sector < limit) (place_last es e (length es) refl)
      (o.numbers (length es) (omega (arith, len)) (ap numbered (flags_last (length es) refl) ∙ there))

-- without its front
module _ (limit k : ℕ) (es : List Entry) where
  flags_behind : (p : ℕ) → flags_of (drop k es) p ≡ flags_of es (k + p)
  flags_behind p = ap (λ (x : Entry). x.flags) (get_or-drop k es p no_entry)

  pub orderly_behind : Orderly limit es → Orderly limit (drop k es)
  orderly_behind o = record {
    legal = λ p lt. ap legal (flags_behind p) ∙ o.legal (k + p) (omega (arith, length-drop k es));
    filled = λ p lt. ap unfilled (flags_behind p) ∙ o.filled (k + p) (omega (arith, length-drop k es));
    copies = λ p some lt copy.
        let back : k + (p - 1) ≡ k + p - 1 = omega arith in
        ap ends (flags_behind (p - 1) ∙ ap (flags_of es) back)
        ∙ o.copies (k + p) (omega arith) (omega (arith, length-drop k es)) (ap is_copy (sym (flags_behind p)) ∙ copy);
    numbers = λ p lt there.
        subst (λ (x : Entry). x.sector < limit) (sym (get_or-drop k es p no_entry))
        (o.numbers (k + p) (omega (arith, length-drop k es)) (ap numbered (sym (flags_behind p)) ∙ there));
  }

  pub ended_behind : Ended es → Ended (drop k es)
  ended_behind e some =
      let same : k + (length (drop k es) - 1) ≡ length es - 1 = omega (arith, length-drop k es) in
      ap ends (flags_behind (length (drop k es) - 1) ∙ ap (flags_of es) same) ∙ e (omega (arith, length-drop k es))

-- flags by what they say: those that end a group, and those of an unclosed copy
pub by_ends : (P : ℕ → Type 0) (f : ℕ) → ends f ≡ true → P 79 → P 143 → P 119 → P 87 → P f
by_ends P f h a b d e =
    ⊎_elim
    (⊎_elim (λ x. subst P (sym (eqb-true f 79 x)) a) (λ x. subst P (sym (eqb-true f 143 x)) b))
    (⊎_elim (λ x. subst P (sym (eqb-true f 119 x)) d) (λ x. subst P (sym (eqb-true f 87 x)) e))
    (⊎_elim (λ x. inl (or_cases _ _ x)) (λ x. inr (or_cases _ _ x)) (or_cases (closes f) _ h))

pub by_unclosed : (P : ℕ → Type 0) (f : ℕ) → unclosed_copy f ≡ true → P 191 → P 159 → P f
by_unclosed P f h a b =
    ⊎_elim (λ x. subst P (sym (eqb-true f 191 x)) a) (λ x. subst P (sym (eqb-true f 159 x)) b) (or_cases _ _ h)

-- flags that end a group are those of a filled slot, and of no unclosed copy
pub ended_filled : (f : ℕ) → ends f ≡ true → unfilled f ≡ false
ended_filled f h = by_ends (λ x. unfilled x ≡ false) f h refl refl refl refl

pub ended_closed : (f : ℕ) → ends f ≡ true → unclosed_copy f ≡ false
ended_closed f h = by_ends (λ x. unclosed_copy x ≡ false) f h refl refl refl refl
