-- A plan whose steps are allowed, tried on a chip that has power, is performed whole or cut.
use Rattle.std.proofs.Common.{◌≡◌, ℕ, ◌<◌, Bool, true, false, List, [], ◌∷◌, ◌++◌, length, get_or, IsErrAnd, Ok, Err, Result, sym, refl, ap, ◌∙◌, subst, ⊎_elim, arith}
use Rattle.std.proofs.lemmas.Result.{err_from_is_err_and}
use Rattle.chip.specs.declared.Home.{Home}
use Rattle.chip.specs.declared.Fault.{Fault}
use Rattle.chip.specs.declared.Fault.TheVariants.{Range, NoPower, Cut}
use Rattle.chip.specs.Faults.{numbers}
use Rattle.chip.specs.Flash.{Flash}
use Rattle.chip.specs.Ranges.{Paged}
use Rattle.chip.specs.Steps.{Step, block, program, erase, Allowed, Worked, Broke, Answers, Frame}
use Rattle.chip.specs.Plans as plans
use Rattle.chip.specs.Plans.{Tries, Performs, AllAllowed}

pub on_off : (b : Bool) → b ≡ true → b ≡ false → ⊥
on_off b p q = let z : true ≡ false = cc in let w : ◌≡◌ {A = ℕ} 0 1 = cc in omega arith

-- a home is its name and its block
home_is : (k h : Home) → k.name ≡ h.name → k.block ≡ h.block → k ≡ h
home_is k h p q =
    let make : ℕ → ℕ → Home = λ n b. record { name = n; block = b } in
    ap (λ n. make n k.block) p ∙ ap (λ b. make h.name b) q

-- the numbers of a cut tell the home
pub cut_is : (f : Fault) (h : Home) → numbers f ≡ 16 ∷ h.name ∷ h.block ∷ [] → f ≡ Cut h
cut_is Range h e = absurd (omega (arith, ap (λ l. get_or l 0 0) e))
cut_is NoPower h e = absurd (omega (arith, ap (λ l. get_or l 0 0) e))
cut_is (Cut k) h e =
    ap (λ (x : Home). Cut x) (home_is k h (ap (λ l. get_or l 1 0) e) (ap (λ l. get_or l 2 0) e))

-- a step that is allowed, refused by a chip that has power, was cut
pub broken : (p : Step) (ps : List Step) (s t : Flash) (f : Fault) → Allowed p s → s.on ≡ true → Answers p s (Err f) t → Performs (p ∷ ps) s (Err f) t
broken p ps s t f a o h =
    ⊎_elim
    (λ x. absurd (x.1 a))
    (⊎_elim
    (λ x. absurd (on_off s.on o x.2))
    (λ x.
    let P : Fault → Type 0 = λ g. Performs (p ∷ ps) s (Err g) t in
    subst P (sym (cut_is f (s.home (block p)) x.0)) (plans.cut x.1)))
    h

-- the exit of a `?` after a step
pub stops : {p : Step} {ps : List Step} {s t : Flash} {r : Result (Unit {0}) Fault} (f : Fault) → Answers p s (Err f) t → IsErrAnd r (λ e. e ≡ f) → Tries (p ∷ ps) s r t
stops {p} {ps} {s} {t} {r} f h e = let q = err_from_is_err_and r e in rw (q.1, q.2) (plans.stop h)

-- a step that is finished keeps the number of blocks and the homes
pub kept : (p : Step) (s t : Flash) → Worked p s t → Frame s t
kept (program b at size given) s t w = w.done.elsewhere.frame
kept (erase b) s t w = w.done.elsewhere.frame

still_allowed : (p : Step) (s t : Flash) → Frame s t → Allowed p s → Allowed p t
still_allowed (program b at size given) s t f a =
    let P : ℕ → Type 0 = λ n. Paged n b at size (length given) in subst P (sym f.blocks) a
still_allowed (erase b) s t f a = let P : ℕ → Type 0 = λ n. b < n in subst P (sym f.blocks) a

all_still : (ps : List Step) (s t : Flash) → Frame s t → AllAllowed ps s → AllAllowed ps t
all_still [] s t f a = tt
all_still (p ∷ ps) s t f a = (still_allowed p s t f a.0, all_still ps s t f a.1)

-- a plan whose steps are allowed, tried on a chip that has power
pub performed : {ps : List Step} {s t : Flash} {r : Result (Unit {0}) Fault} → AllAllowed ps s → s.on ≡ true → Tries ps s r t → Performs ps s r t
performed a o plans.whole = plans.whole
performed a o (plans.next {p} {ps} {s} {m} {t} w rest) = plans.next w (performed (all_still ps s m (kept p s m w) a.1) w.on rest)
performed a o (plans.stop {p} {ps} {s} {t} {f} h) = broken p ps s t f a.0 o h

-- one plan after another
pub tries_then : {ps qs : List Step} {s m t : Flash} {r : Result (Unit {0}) Fault} → Tries ps s (Ok tt) m → Tries qs m r t → Tries (ps ++ qs) s r t
tries_then plans.whole q = q
tries_then (plans.next w rest) q = plans.next w (tries_then rest q)

-- a plan that was stopped, with what was to come after it
pub tries_less : (qs : List Step) {ps : List Step} {s t : Flash} {f : Fault} → Tries ps s (Err f) t → Tries (ps ++ qs) s (Err f) t
tries_less qs (plans.next w rest) = plans.next w (tries_less qs rest)
tries_less qs (plans.stop h) = plans.stop h

-- the steps of two plans are allowed where those of each are
pub all_both : (ps qs : List Step) (s : Flash) → AllAllowed ps s → AllAllowed qs s → AllAllowed (ps ++ qs) s
all_both [] qs s a b = b
all_both (p ∷ ps) qs s a b = (a.0, all_both ps qs s a.1 b)

-- a plan that was performed whole, in two parts
pub performs_parts : (ps : List Step) {qs : List Step} {s t : Flash} → Performs (ps ++ qs) s (Ok tt) t → (m : Flash) × Performs ps s (Ok tt) m × Performs qs m (Ok tt) t
performs_parts [] {qs} {s} h = (s, plans.whole, h)
performs_parts (p ∷ ps) (plans.next w rest) = let x = performs_parts ps rest in (x.0, plans.next w x.1, x.2)

-- a plan that was not performed whole was cut
pub only_cut : {ps : List Step} {s t : Flash} {f : Fault} → Performs ps s (Err f) t → (h : Home) × (f ≡ Cut h)
only_cut (plans.next w rest) = only_cut rest
only_cut (plans.cut {p} {ps} {s} b) = (s.home (block p), refl)

frame_trans : (s m t : Flash) → Frame s m → Frame m t → Frame s t
frame_trans s m t f g = record { blocks = g.blocks ∙ f.blocks; home = λ b. g.home b ∙ f.home b }

torn_frame : (p : Step) (s t : Flash) → Broke p s t → Frame s t
torn_frame (program b at size given) s t w = w.torn.elsewhere.frame
torn_frame (erase b) s t w = w.torn.elsewhere.frame

-- a plan keeps the number of blocks and the homes, however far it comes
pub performed_frame : {ps : List Step} {s t : Flash} {r : Result (Unit {0}) Fault} → Performs ps s r t → Frame s t
performed_frame plans.whole = record { blocks = refl; home = λ b. refl }
performed_frame (plans.next {p} {ps} {s} {m} {t} w rest) = frame_trans s m t (kept p s m w) (performed_frame rest)
performed_frame (plans.cut {p} {ps} {s} {t} b) = torn_frame p s t b

-- a chip that has performed a plan whole has power, if it had
pub performs_on : {ps : List Step} {s t : Flash} → Performs ps s (Ok tt) t → s.on ≡ true → t.on ≡ true
performs_on plans.whole o = o
performs_on (plans.next w rest) o = performs_on rest w.on
