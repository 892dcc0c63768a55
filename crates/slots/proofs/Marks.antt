-- What the programs of the last entry's flags leave: it is closed or dropped.
use Rattle.std.proofs.Common.{◌≡◌, ℕ, ◌<◌, ◌⊎◌, List, [], ◌∷◌, ◌++◌, length, Ok, Err, sym, refl, ap, ◌∙◌, subst, inl, inr, ⊎_elim, arith}
use lib.Bits.{bit_and, and_le_r}
use Rattle.chip.specs.declared.Fault.{Fault}
use Rattle.chip.specs.Flash.{Flash}
use Rattle.chip.specs.Plans as plans
use Rattle.chip.specs.Plans.{Performs}
use Rattle.label.specs.declared.Sizes.{Sizes}
use Rattle.ring.specs.Places.{flags_at}
use Rattle.ring.specs.Logs.{Entry}
use Rattle.ring.specs.Turns.{Shaped}
use Rattle.laid.specs.Laid.{Laid}
use Rattle.laid.specs.Writing.{mark, closing, dropping}
use Rattle.slots.specs.Left.{Splits, flagged}
use Rattle.slots.proofs.Splitting.{put_closes, put_drops, claim_drops}
use Rattle.slots.proofs.Besides.{beside, mark_of}
use Rattle.slots.proofs.Stepping.{mark_worked, mark_broke}
use Rattle.slots.proofs.Carrying.{entry_is, last_is, last_claimed, entry_flagged, alter}

module _ (s t : Flash) (z : Sizes) (c : ℕ) (ys : List Entry) (e : Entry) (sh : Shaped z c) (h : Laid s z c (ys ++ (e ∷ []))) where
  -- some bits of the flags
  module _ (f mask : ℕ) (fits : mask < 255) (is : e.flags ≡ f) where
    was : flags_at s z c (length ys) ≡ f
    was = ap (λ (x : Entry). x.flags) (last_is s z c ys e h) ∙ is

    full : bit_and f mask ≡ 255 → ⊥
    full eq = omega (arith, eq, fits, and_le_r f mask)

    pub mark_whole : Performs (mark z c (length ys) mask ∷ []) s (Ok tt) t → Laid t z c (ys ++ (flagged e (bit_and f mask) ∷ []))
    mark_whole (plans.next w plans.whole) =
        let d = mark_worked s t z c (length ys) f mask (bit_and f mask) w was refl in
        let b = beside z c (length ys) (plans.next w plans.whole) (mark_of z c (length ys) mask, tt) in
        alter s t z c ys sh b e (flagged e (bit_and f mask)) h
        (entry_flagged s t z c (length ys) e (bit_and f mask) d.1 (last_is s z c ys e h) d.0)
        full

    pub mark_cut : {fault : Fault} → Splits f (bit_and f mask) → Performs (mark z c (length ys) mask ∷ []) s (Err fault) t → Laid t z c (ys ++ (e ∷ [])) ⊎ Laid t z c (ys ++ (flagged e (bit_and f mask) ∷ []))
    mark_cut splits (plans.cut w) =
        let d = mark_broke s t z c (length ys) f mask (bit_and f mask) w was refl splits in
        let b = beside z c (length ys) (plans.cut {ps = []} w) (mark_of z c (length ys) mask, tt) in
        ⊎_elim
        (λ old. inl (alter s t z c ys sh b e e h
        (entry_flagged s t z c (length ys) e f d.1 (last_is s z c ys e h) old ∙ entry_is (flagged e f) e (sym is) refl refl)
        (last_claimed s z c ys e h)))
        (λ new. inr (alter s t z c ys sh b e (flagged e (bit_and f mask)) h
        (entry_flagged s t z c (length ys) e (bit_and f mask) d.1 (last_is s z c ys e h) new)
        full))
        d.0
    mark_cut splits (plans.next w rest) = elim rest [ ]

  -- a put that is filled is closed
  pub close_whole : e.flags ≡ 95 → Performs (closing z c (length ys)) s (Ok tt) t → Laid t z c (ys ++ (flagged e 79 ∷ []))
  close_whole is = mark_whole 95 239 (omega arith) is

  pub close_cut : {fault : Fault} → e.flags ≡ 95 → Performs (closing z c (length ys)) s (Err fault) t → Laid t z c (ys ++ (e ∷ [])) ⊎ Laid t z c (ys ++ (flagged e 79 ∷ []))
  close_cut is = mark_cut 95 239 (omega arith) is put_closes

  -- a put that is filled or claimed is dropped: 95 becomes 87, and 127 becomes 119
  drops : (f : ℕ) → (f ≡ 95) ⊎ (f ≡ 127) → Splits f (bit_and f 247)
  drops f k =
      ⊎_elim
      (λ x. subst (λ n. Splits n (bit_and n 247)) (sym x) put_drops)
      (λ x. subst (λ n. Splits n (bit_and n 247)) (sym x) claim_drops)
      k

  pub drop_whole : (f : ℕ) → e.flags ≡ f → Performs (dropping z c (length ys)) s (Ok tt) t → Laid t z c (ys ++ (flagged e (bit_and f 247) ∷ []))
  drop_whole f is = mark_whole f 247 (omega arith) is

  pub drop_cut : {fault : Fault} (f : ℕ) → (f ≡ 95) ⊎ (f ≡ 127) → e.flags ≡ f → Performs (dropping z c (length ys)) s (Err fault) t → Laid t z c (ys ++ (e ∷ [])) ⊎ Laid t z c (ys ++ (flagged e (bit_and f 247) ∷ []))
  drop_cut f k is = mark_cut f 247 (omega arith) is (drops f k)
