-- What a start answers, by what its examination and its repair say.
use Rattle.std.proofs.Common.{◌≡◌, true, Ok, Err, sym, refl, ◌∙◌, subst, ⊎_elim}
use Rattle.chip.specs.declared.Fault.{Fault}
use Rattle.chip.specs.Flash.{Flash, awake}
use Rattle.chip.proofs.Performed.{on_off}
use Rattle.image.specs.declared.flaw.Flaw.{Flaw}
use Rattle.image.specs.declared.flaw.Flaw.TheVariants as flaw
use Rattle.ring.specs.declared.layout.Log.{Log}
use Rattle.image.specs.Examined as images
use Rattle.image.specs.Examined.{Sound, Examined}
use Rattle.image.specs.Surveys.{Bounded}
use Rattle.upkeep.specs.Repairs.{Repaired}
use Rattle.engine.specs.declared.memory.Memory.{Memory}
use Rattle.engine.specs.Refusals.{numbers, converted, flawed}
use Rattle.engine.specs.Memories.{halted, idle}
use Rattle.engine.specs.Calls as calls
use Rattle.engine.specs.Calls.{Starts}
use Rattle.engine.proofs.Serving.{cut_of}

-- a flaw keeps its numbers
same_numbers : (f : Flaw) → numbers (flawed f) ≡ images.numbers f
same_numbers flaw.NoPower = refl
same_numbers (flaw.Label x) = refl
same_numbers (flaw.Rule x) = refl

-- the flaw of a chip that has power
flawed_awake : {s : Flash} {m : Memory} (f : Flaw) → Examined (awake s) (Err f) → Starts s m (Err (flawed f)) (awake s) (halted m)
flawed_awake f h =
    ⊎_elim
    (λ x. absurd (on_off true refl x.1))
    (⊎_elim
    (λ x. calls.label (same_numbers f ∙ x.1) x.3)
    (λ x. calls.rule (same_numbers f ∙ x.2) x.3))
    h

-- a is the chip s once it has power, b that after the examination, and t that after the repair
module _ {s a b : Flash} {m : Memory} (woken : a ≡ awake s) (kept : b ≡ a) where
  pub start_flawed : (f : Flaw) → Examined a (Err f) → Starts s m (Err (flawed f)) b (halted m)
  start_flawed f h =
      subst (λ (x : Flash). Starts s m (Err (flawed f)) x (halted m)) (sym (kept ∙ woken))
      (flawed_awake f (subst (λ (x : Flash). Examined x (Err f)) woken h))

  module _ {t : Flash} {log : Log} (sound : Sound a log) (stands : Bounded a log) where
    pub start_cut : (f : Fault) → Repaired b log (Err f) t → Starts s m (Err (converted f)) t (halted m)
    start_cut f h =
        let x = subst (λ (y : Flash). Repaired y log (Err f) t) (kept ∙ woken) h in
        let y = cut_of x.3 in
        calls.cut y.1 (subst (λ (z : Flash). Sound z log) woken sound) (subst (λ (z : Flash). Bounded z log) woken stands) x.2 y.2

    pub start_done : (new : Log) → Repaired b log (Ok new) t → Starts s m (Ok tt) t (idle m new)
    start_done new h =
        let x = subst (λ (y : Flash). Repaired y log (Ok new) t) (kept ∙ woken) h in
        calls.done (subst (λ (z : Flash). Sound z log) woken sound) (subst (λ (z : Flash). Bounded z log) woken stands) x.2 x.3 x.4
