-- The steps of a batch: an image that kept the rules keeps them, whole or cut.
use Rattle.std.proofs.Common.{◌≡◌, ℕ, ◌+◌, ◌%◌, ◌<◌, ◌≤◌, true, false, ◌⊎◌, List, [], ◌∷◌, ◌++◌, length, get_or, Ok, Err, sym, refl, ap, ◌∙◌, subst, inl, inr, ⊎_elim, arith}
use lib.Bits.{bit_and}
use Rattle.std.proofs.lemmas.Bool.{both_ways, or_parts}
use Rattle.chip.specs.declared.Fault.{Fault}
use Rattle.chip.specs.Flash.{Flash}
use Rattle.chip.specs.Plans.{Performs}
use Rattle.label.specs.declared.Sizes.{Sizes}
use Rattle.ring.specs.Places.{positions}
use Rattle.ring.specs.Logs.{Entry, closes, ends, is_copy, unclosed_copy, holds}
use Rattle.ring.specs.Rules.{legal, unfilled, numbered}
use Rattle.ring.specs.Turns.{Shaped}
use Rattle.laid.specs.Laid.{Laid}
use Rattle.laid.specs.Sane.{last_flags, Sane}
use Rattle.laid.specs.Writing.{putting, closing, dropping}
use Rattle.holding.specs.Puts.{Put, filled_put, closed_put}
use Rattle.holding.proofs.Growing.{holds_quiet}
use Rattle.slots.specs.Left as left
use Rattle.slots.specs.Left.{PutCut, flagged}
use Rattle.slots.proofs.Puts.{put_whole, put_cut}
use Rattle.slots.proofs.Marks.{close_whole, close_cut, drop_whole, drop_cut}
use Rattle.keeping.proofs.Orders.{length_one, last_is, last_number}
use Rattle.keeping.proofs.Changing.{sane_relaid, sane_put, sane_closed, sane_dropped}
use Rattle.keeping.proofs.Stills.{Still, still}

-- a log whose last entry is filled does not end in an unclosed copy
pub filled_closed : (es : List Entry) → (0 < length es → unfilled (last_flags es) ≡ false) → unclosed_copy (last_flags es) ≡ false
filled_closed [] h = refl
filled_closed (e ∷ es) h = (or_parts _ _ (h (omega arith))).1

-- a put behind the entries, where eight slots are free
module _ (s t : Flash) (z : Sizes) (c : ℕ) (es : List Entry) (p : Put) (sh : Shaped z c) (even : c % 2 ≡ 0) (sane : Sane s z c es) (room : length es + 8 ≤ positions z c) (filled : 0 < length es → unfilled (last_flags es) ≡ false) (low : p.sector < z.sectors) (small : p.sector < 65536) (long : length p.page ≡ 512) (fit : (o : ℕ) → get_or p.page o 0 < 256) where
  inside : length es < positions z c
  inside = omega (arith, room)

  put_laid : Laid t z c (es ++ (filled_put p ∷ [])) → Sane t z c (es ++ (filled_put p ∷ []))
  put_laid laid =
      sane_put es (filled_put p) even sane room
      record { legal = refl; filled = filled; copies = λ copy. absurd (both_ways false refl copy); numbers = λ _. low }
      refl
      laid

  claimed_laid : (e : Entry) → e.flags ≡ 127 → Laid t z c (es ++ (e ∷ [])) → Sane t z c (es ++ (e ∷ []))
  claimed_laid e is laid =
      sane_put es e even sane room
      record {
        legal = ap legal is;
        filled = filled;
        copies = λ copy. absurd (both_ways (is_copy e.flags) (ap is_copy is) copy);
        numbers = λ there. absurd (both_ways (numbered e.flags) (ap numbered is) there);
      }
      (ap unclosed_copy is)
      laid

  pub put_sane : Performs (putting z c (length es) p.sector p.page) s (Ok tt) t → Sane t z c (es ++ (filled_put p ∷ []))
  put_sane h = put_laid (put_whole s t z c es p.sector p.page sh sane.laid inside long fit small h)

  pub put_cut_still : {f : Fault} → Performs (putting z c (length es) p.sector p.page) s (Err f) t → Still t z es
  put_cut_still h = go (put_cut s t z c es p.sector p.page sh sane.laid inside long fit small h)
    where
      go : PutCut t z c es p.sector p.page → Still t z es
      go (left.none laid) = still es sh (sane_relaid es sane (filled_closed es filled) laid) (λ x. refl)
      go (left.claimed e is laid) =
          still (es ++ (e ∷ [])) sh (claimed_laid e is laid) (λ x. holds_quiet x es e (ap closes is))
      go (left.whole laid) =
          still (es ++ (filled_put p ∷ [])) sh (put_laid laid) (λ x. holds_quiet x es (filled_put p) refl)

-- the last put of a batch is closed
module _ (s t : Flash) (z : Sizes) (c : ℕ) (ys : List Entry) (p : Put) (sh : Shaped z c) (even : c % 2 ≡ 0) (sane : Sane s z c (ys ++ (filled_put p ∷ []))) (room : length ys + 8 ≤ positions z c) where
  closed_laid : Laid t z c (ys ++ (closed_put p ∷ [])) → Sane t z c (ys ++ (closed_put p ∷ []))
  closed_laid laid =
      sane_closed ys (filled_put p) (closed_put p) even sane refl refl refl
      (λ _. last_number z.sectors ys (filled_put p) sane.orderly refl)
      laid
      (omega (arith, length_one ys (closed_put p), room))

  pub close_sane : Performs (closing z c (length ys)) s (Ok tt) t → Sane t z c (ys ++ (closed_put p ∷ []))
  close_sane h = closed_laid (close_whole s t z c ys (filled_put p) sh sane.laid refl h)

  pub close_cut_sane : {f : Fault} → Performs (closing z c (length ys)) s (Err f) t → Sane t z c (ys ++ (filled_put p ∷ [])) ⊎ Sane t z c (ys ++ (closed_put p ∷ []))
  close_cut_sane h =
      ⊎_elim
      (λ old. inl (sane_relaid (ys ++ (filled_put p ∷ [])) sane (ap unclosed_copy (last_is ys (filled_put p))) old))
      (λ new. inr (closed_laid new))
      (close_cut s t z c ys (filled_put p) sh sane.laid refl h)

-- the last put of a batch is dropped
module _ (s t : Flash) (z : Sizes) (c : ℕ) (ys : List Entry) (e : Entry) (sh : Shaped z c) (even : c % 2 ≡ 0) (sane : Sane s z c (ys ++ (e ∷ []))) (flags : (e.flags ≡ 95) ⊎ (e.flags ≡ 127)) where
  by_flags : (P : ℕ → Type 0) → P 95 → P 127 → P e.flags
  by_flags P a b = ⊎_elim (λ x. subst P (sym x) a) (λ x. subst P (sym x) b) flags

  -- the flags that it gets
  abbrev after : ℕ
  after = bit_and e.flags 247

  abbrev ended_entry : Entry
  ended_entry = flagged e after

  quiet : closes e.flags ≡ false
  quiet = by_flags (λ f. closes f ≡ false) refl refl

  quiet_after : closes after ≡ false
  quiet_after = by_flags (λ f. closes (bit_and f 247) ≡ false) refl refl

  open_before : unclosed_copy e.flags ≡ false
  open_before = by_flags (λ f. unclosed_copy f ≡ false) refl refl

  number : numbered after ≡ true → e.sector < z.sectors
  number there =
      last_number z.sectors ys e sane.orderly
      (by_flags (λ f. numbered (bit_and f 247) ≡ true → numbered f ≡ true) (λ _. refl) (λ none. none) there)

  dropped_laid : Laid t z c (ys ++ (ended_entry ∷ [])) → Sane t z c (ys ++ (ended_entry ∷ []))
  dropped_laid laid =
      sane_dropped ys e ended_entry even sane
      (by_flags (λ f. legal (bit_and f 247) ≡ true) refl refl)
      (by_flags (λ f. is_copy (bit_and f 247) ≡ false) refl refl)
      (by_flags (λ f. unclosed_copy (bit_and f 247) ≡ false) refl refl)
      number
      laid
      quiet
      open_before
      quiet_after

  held : (x : ℕ) → holds x (ys ++ (ended_entry ∷ [])) ≡ holds x (ys ++ (e ∷ []))
  held x = holds_quiet x ys ended_entry quiet_after ∙ sym (holds_quiet x ys e quiet)

  pub drop_sane : Performs (dropping z c (length ys)) s (Ok tt) t → (f : Entry) × Sane t z c (ys ++ (f ∷ [])) × (ends f.flags ≡ true) × ((x : ℕ) → holds x (ys ++ (f ∷ [])) ≡ holds x (ys ++ (e ∷ [])))
  drop_sane h = (
    ended_entry,
    dropped_laid (drop_whole s t z c ys e sh sane.laid e.flags refl h),
    by_flags (λ f. ends (bit_and f 247) ≡ true) refl refl,
    held,
  )

  pub drop_cut_still : {f : Fault} → Performs (dropping z c (length ys)) s (Err f) t → Still t z (ys ++ (e ∷ []))
  drop_cut_still h =
      ⊎_elim
      (λ old. still (ys ++ (e ∷ [])) sh (sane_relaid (ys ++ (e ∷ [])) sane (ap unclosed_copy (last_is ys e) ∙ open_before) old) (λ x. refl))
      (λ new. still (ys ++ (ended_entry ∷ [])) sh (dropped_laid new) held)
      (drop_cut s t z c ys e sh sane.laid e.flags flags refl h)
