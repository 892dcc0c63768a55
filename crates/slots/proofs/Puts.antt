-- What a put leaves, whole or cut.
use Rattle.std.proofs.Common.{◌≡◌, ℕ, ◌<◌, List, [], ◌∷◌, ◌++◌, length, get_or, Ok, Err, refl, ⊎_elim, arith}
use Rattle.chip.specs.declared.Fault.{Fault}
use Rattle.chip.specs.Flash.{Flash}
use Rattle.chip.specs.Plans as plans
use Rattle.chip.specs.Plans.{Performs}
use Rattle.label.specs.declared.Sizes.{Sizes}
use Rattle.ring.specs.Places.{positions, flags_at}
use Rattle.ring.specs.Logs.{Entry, entry_at}
use Rattle.ring.specs.Turns.{Shaped}
use Rattle.laid.specs.Laid.{Blank, Laid}
use Rattle.laid.specs.Writing.{putting}
use Rattle.slots.specs.Left as left
use Rattle.slots.specs.Left.{Overs, Beside, PutCut, entry_of}
use Rattle.slots.proofs.Splitting.{put_claims, put_fills}
use Rattle.slots.proofs.Besides.{beside, putting_of}
use Rattle.slots.proofs.Stepping.{Written, blank_overs, claim_whole, claim_cut, writing_whole, writing_cut}
use Rattle.slots.proofs.Carrying.{entry_written, append, unappended}

module _ (s t : Flash) (z : Sizes) (c : ℕ) (es : List Entry) (x : ℕ) (page : List ℕ) (sh : Shaped z c) (h : Laid s z c es) (room : length es < positions z c) (long : length page ≡ 512) (fit : (o : ℕ) → get_or page o 0 < 256) (small : x < 65536) where
  blank : Blank s z c (length es)
  blank = h.blank (length es) (omega arith) room

  over : Overs s z c (length es) x page
  over = blank_overs s z c (length es) x page small fit blank

  filled : Beside s t z c (length es) → flags_at t z c (length es) ≡ 95 → Written t z c (length es) x page → Laid t z c (es ++ (entry_of 95 x page ∷ []))
  filled b e w =
      append s t z c es sh b (entry_of 95 x page) h room (entry_written t z c (length es) 95 x page long e w) (λ eq. omega (arith, eq))

  claimed : Beside s t z c (length es) → flags_at t z c (length es) ≡ 127 → PutCut t z c es x page
  claimed b e =
      left.claimed (entry_at t z c (length es)) e
      (append s t z c es sh b (entry_at t z c (length es)) h room refl (λ eq. omega (arith, e, eq)))

  pub put_whole : Performs (putting z c (length es) x page) s (Ok tt) t → Laid t z c (es ++ (entry_of 95 x page ∷ []))
  put_whole p = go (beside z c (length es) p (putting_of z c (length es) x page)) p
    where
      go : Beside s t z c (length es) → Performs (putting z c (length es) x page) s (Ok tt) t → Laid t z c (es ++ (entry_of 95 x page ∷ []))
      go b (plans.next {m = m} w rest) =
          let a = claim_whole s m z c (length es) 127 x page w blank refl over in
          let d = writing_whole z c (length es) x page 127 95 rest a.1 a.0 refl in
          filled b d.0 d.1

  pub put_cut : {fault : Fault} → Performs (putting z c (length es) x page) s (Err fault) t → PutCut t z c es x page
  put_cut p = go (beside z c (length es) p (putting_of z c (length es) x page)) p
    where
      go : Beside s t z c (length es) → {fault : Fault} → Performs (putting z c (length es) x page) s (Err fault) t → PutCut t z c es x page
      go b (plans.cut w) =
          ⊎_elim
          (λ empty. left.none (unappended s t z c es sh b h room empty))
          (λ a. claimed b a.0)
          (claim_cut s t z c (length es) 127 x page w blank refl put_claims over)
      go b (plans.next {m = m} w rest) =
          let a = claim_whole s m z c (length es) 127 x page w blank refl over in
          ⊎_elim
          (λ d. claimed b d.0)
          (λ d. left.whole (filled b d.0 d.1))
          (writing_cut z c (length es) x page 127 95 rest a.1 a.0 refl put_fills)
