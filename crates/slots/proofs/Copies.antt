-- What a copy leaves, and the rest of one that was cut before, whole or cut.
use Rattle.std.proofs.Common.{◌≡◌, ℕ, ◌<◌, ◌⊎◌, List, [], ◌∷◌, ◌++◌, length, get_or, Ok, Err, sym, refl, subst, inl, ⊎_elim, arith}
use Rattle.chip.specs.declared.Fault.{Fault}
use Rattle.chip.specs.Flash.{Flash}
use Rattle.chip.specs.Plans as plans
use Rattle.chip.specs.Plans.{Performs}
use Rattle.label.specs.declared.Sizes.{Sizes}
use Rattle.ring.specs.Places.{positions, flags_at}
use Rattle.ring.specs.Logs.{Entry, entry_at}
use Rattle.ring.specs.Turns.{Shaped}
use Rattle.laid.specs.Laid.{Blank, Laid}
use Rattle.laid.specs.Writing.{finishing, copying}
use Rattle.slots.specs.Left as left
use Rattle.slots.specs.Left.{Overs, Beside, CopyCut, entry_of}
use Rattle.slots.proofs.Splitting.{copy_claims}
use Rattle.slots.proofs.Besides.{beside, finishing_of, copying_of}
use Rattle.slots.proofs.Stepping.{Written, Copied, FilledBelow, blank_overs, claim_whole, claim_cut, finishing_whole, finishing_cut}
use Rattle.slots.proofs.Carrying.{entry_written, last_is, append, unappended, alter}

-- flags of a copy that is not closed are not those of a blank slot
copied_not : (f : ℕ) → Copied f → f ≡ 255 → ⊥
copied_not f k e = ⊎_elim (λ x. omega (arith, x, e)) (λ x. omega (arith, x, e)) k

-- the rest of a copy, which is the last entry
module _ (s t : Flash) (z : Sizes) (c : ℕ) (ys : List Entry) (e : Entry) (x : ℕ) (page : List ℕ) (sh : Shaped z c) (h : Laid s z c (ys ++ (e ∷ []))) (unclosed : (e.flags ≡ 191) ⊎ (e.flags ≡ 159)) (over : Overs s z c (length ys) x page) (long : length page ≡ 512) where
  was : Copied (flags_at s z c (length ys))
  was = subst (λ (d : Entry). Copied d.flags) (sym (last_is s z c ys e h)) unclosed

  done : Beside s t z c (length ys) → flags_at t z c (length ys) ≡ 143 → Written t z c (length ys) x page → Laid t z c (ys ++ (entry_of 143 x page ∷ []))
  done b f w =
      alter s t z c ys sh b e (entry_of 143 x page) h (entry_written t z c (length ys) 143 x page long f w) (λ eq. omega (arith, eq))

  pub finish_whole : Performs (finishing z c (length ys) x page) s (Ok tt) t → Laid t z c (ys ++ (entry_of 143 x page ∷ []))
  finish_whole p =
      let d = finishing_whole z c (length ys) x page p over was in
      done (beside z c (length ys) p (finishing_of z c (length ys) x page)) d.0 d.1

  pub finish_cut : {fault : Fault} → Performs (finishing z c (length ys) x page) s (Err fault) t → (limit : ℕ) → x < limit → (e.flags ≡ 159 → e.sector < limit) → CopyCut t z c ys x page limit
  finish_cut p limit lt below =
      let b = beside z c (length ys) p (finishing_of z c (length ys) x page) in
      ⊎_elim
      (λ d. left.unclosed (entry_at t z c (length ys)) d.0 d.1
      (alter s t z c ys sh b e (entry_at t z c (length ys)) h refl (copied_not _ d.0)) d.2)
      (λ d. left.closed (done b d.0 d.1))
      (finishing_cut z c (length ys) x page p over was limit lt
      (subst (λ (d : Entry). d.flags ≡ 159 → d.sector < limit) (sym (last_is s z c ys e h)) below))

-- a copy behind the entries
module _ (s t : Flash) (z : Sizes) (c : ℕ) (es : List Entry) (x : ℕ) (page : List ℕ) (sh : Shaped z c) (h : Laid s z c es) (room : length es < positions z c) (long : length page ≡ 512) (fit : (o : ℕ) → get_or page o 0 < 256) (small : x < 65536) where
  blank : Blank s z c (length es)
  blank = h.blank (length es) (omega arith) room

  full : Overs s z c (length es) x page
  full = blank_overs s z c (length es) x page small fit blank

  closed : Beside s t z c (length es) → flags_at t z c (length es) ≡ 143 → Written t z c (length es) x page → Laid t z c (es ++ (entry_of 143 x page ∷ []))
  closed b f w =
      append s t z c es sh b (entry_of 143 x page) h room (entry_written t z c (length es) 143 x page long f w) (λ eq. omega (arith, eq))

  begun : Beside s t z c (length es) → Copied (flags_at t z c (length es)) → Overs t z c (length es) x page → (limit : ℕ) → FilledBelow t z c (length es) limit → CopyCut t z c es x page limit
  begun b f over limit below =
      left.unclosed (entry_at t z c (length es)) f over
      (append s t z c es sh b (entry_at t z c (length es)) h room refl (copied_not _ f)) below

  pub copy_whole : Performs (copying z c (length es) x page) s (Ok tt) t → Laid t z c (es ++ (entry_of 143 x page ∷ []))
  copy_whole p = go (beside z c (length es) p (copying_of z c (length es) x page)) p
    where
      go : Beside s t z c (length es) → Performs (copying z c (length es) x page) s (Ok tt) t → Laid t z c (es ++ (entry_of 143 x page ∷ []))
      go b (plans.next {m = m} w rest) =
          let a = claim_whole s m z c (length es) 191 x page w blank refl full in
          let d = finishing_whole z c (length es) x page rest a.1 (inl a.0) in
          closed b d.0 d.1

  pub copy_cut : {fault : Fault} → Performs (copying z c (length es) x page) s (Err fault) t → (limit : ℕ) → x < limit → CopyCut t z c es x page limit
  copy_cut p limit lt = go (beside z c (length es) p (copying_of z c (length es) x page)) p
    where
      go : Beside s t z c (length es) → {fault : Fault} → Performs (copying z c (length es) x page) s (Err fault) t → CopyCut t z c es x page limit
      go b (plans.cut w) =
          ⊎_elim
          (λ empty. left.none (unappended s t z c es sh b h room empty))
          (λ a. begun b (inl a.0) a.1 limit (λ filled. omega (arith, a.0, filled)))
          (claim_cut s t z c (length es) 191 x page w blank refl copy_claims full)
      go b (plans.next {m = m} w rest) =
          let a = claim_whole s m z c (length es) 191 x page w blank refl full in
          ⊎_elim
          (λ d. begun b d.0 d.1 limit d.2)
          (λ d. left.closed (closed b d.0 d.1))
          (finishing_cut z c (length es) x page rest a.1 (inl a.0) limit lt (λ filled. omega (arith, a.0, filled)))
