-- An erase in the back half of a joint, as the joint shows it.
use Rattle.std.proofs.Common.{◌≡◌, ℕ, ◌+◌, ◌-◌, ◌<◌, min, true, [], ◌∷◌, Ok, Err, Result, sym, ap, ◌∙◌, subst, inr, ⊎_elim, arith, rules}
use Rattle.std.proofs.lemmas.Bool.{cond-false, le-ltb}
use Rattle.chip.specs.declared.Fault.{Fault}
use Rattle.chip.specs.declared.Home.{Home}
use Rattle.chip.specs.Flash.{Flash}
use Rattle.chip.proofs.Performed.{on_off}
use Rattle.chip.specs.Steps.{erase, Erased, TornErase, Elsewhere, Broke, Answers}
use Rattle.layers.specs.Joints.{joined}

-- a byte of the back half
back_byte : (s u : Flash) (b o : ℕ) → (joined s u).byte (s.blocks + b) o ≡ u.byte b o
back_byte s u b o =
    let e : s.blocks + b - s.blocks ≡ b = omega arith in
    cond-false _ _ _ (le-ltb (s.blocks + b) s.blocks (omega arith)) ∙ ap (λ c. u.byte c o) e

back_home : (s t : Flash) (b : ℕ) → (joined s t).home (s.blocks + b) ≡ t.home b
back_home s t b =
    let e : s.blocks + b - s.blocks ≡ b = omega arith in
    cond-false _ _ _ (le-ltb (s.blocks + b) s.blocks (omega arith)) ∙ ap t.home e

-- what an erase leaves alone in the back half, it leaves alone in the joint
back_elsewhere : (s t u : Flash) (b at size : ℕ) → Elsewhere t b at size u → Elsewhere (joined s t) (s.blocks + b) at size (joined s u)
back_elsewhere s t u b at size e = search rules

back_erased : (s t u : Flash) (b : ℕ) → Erased t b u → Erased (joined s t) (s.blocks + b) (joined s u)
back_erased s t u b e = record { elsewhere = back_elsewhere s t u b 0 4096 e.elsewhere; inside = λ o lt. back_byte s u b o ∙ e.inside o lt }

back_torn : (s t u : Flash) (b : ℕ) → TornErase t b u → TornErase (joined s t) (s.blocks + b) (joined s u)
back_torn s t u b e = record { elsewhere = back_elsewhere s t u b 0 4096 e.elsewhere; inside = λ o lt. omega (arith, back_byte s u b o, e.inside o lt) }

pub back_erase : (s t u : Flash) (b c : ℕ) (r : Result (Unit {0}) Fault) → s.blocks + b ≡ c → s.on ≡ true → t.on ≡ true → c < min 65535 (s.blocks + t.blocks) → Answers (erase b) t r u → Answers (erase c) (joined s t) r (joined s u)
back_erase s t u b c (Ok v) e on power room w =
    subst (λ n. Answers (erase n) (joined s t) (Ok v) (joined s u)) e
    (record { allowed = omega arith; was = search rules; on = search rules; done = back_erased s t u b w.done })
back_erase s t u b c (Err f) e on power room w =
    ⊎_elim
    (λ x. absurd (x.1 (omega arith)))
    (⊎_elim
    (λ x. absurd (on_off t.on power x.2))
    (λ x.
    subst (λ n. Answers (erase n) (joined s t) (Err f) (joined s u)) e
    (inr
    (inr
    (x.0 ∙ ap (λ (h : Home). 16 ∷ h.name ∷ h.block ∷ []) (sym (back_home s t b)), broke x.1)))))
    w
  where
    broke : Broke (erase b) t u → Broke (erase (s.blocks + b)) (joined s t) (joined s u)
    broke k = record { allowed = omega arith; was = search rules; off = search rules; torn = back_torn s t u b k.torn }
