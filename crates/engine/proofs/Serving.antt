-- From what the parts of a call ensure to the call's answer.
use Rattle.std.proofs.Common.{◌≡◌, ℕ, ◌-◌, ◌<◌, List, length, get_or, Ok, Err, ap, subst, ⊎_elim}
use Rattle.chip.specs.declared.Home.{Home}
use Rattle.chip.specs.declared.Fault.{Fault}
use Rattle.chip.specs.declared.Fault.TheVariants as fault
use Rattle.chip.specs.Flash.{Flash}
use Rattle.chip.specs.Steps.{Step}
use Rattle.chip.specs.Plans.{Performs}
use Rattle.chip.proofs.Performed.{only_cut}
use Rattle.label.specs.declared.Sizes.{Sizes}
use Rattle.image.specs.declared.survey.Survey.{Survey}
use Rattle.image.specs.Surveys.{SurveyedAmong}
use Rattle.laid.specs.Writing.{putting}
use Rattle.engine.specs.declared.memory.Batch.{Batch}
use Rattle.engine.specs.declared.memory.Started.{Started}
use Rattle.engine.specs.declared.memory.Memory.{Memory}
use Rattle.engine.specs.declared.refusal.Refusal.{Refusal}
use Rattle.engine.specs.Refusals.{numbers, converted}
use Rattle.engine.specs.Memories.{Serves, Mine, Paged, sizes_of, cleared_of, claimed_of, halted, idle}
use Rattle.engine.specs.Calls as calls
use Rattle.engine.specs.Calls.{CutAt, Allowed, Puttable, Puts, Ends, Reads, Reports}

-- a plan that was not performed whole was cut, and the refusal tells where
pub cut_of : {plan : List Step} {s t : Flash} {f : Fault} → Performs plan s (Err f) t → (h : Home) × CutAt (converted f) h × Performs plan s (Err (fault.Cut h)) t
cut_of {plan} {s} {t} {f} p =
    let x = only_cut p in
    let P : Fault → Type 0 = λ g. Performs plan s (Err g) t in
    (x.0, ap (λ (g : Fault). numbers (converted g)) x.1, subst P x.1 p)

-- a read that is refused for its page or its sector
pub read_refused : {x : ℕ} {old : List ℕ} {s : Flash} {m : Memory} {st : Started} {e : Refusal} → Serves s m st → Paged st x (length old) (Err e) → Reads x s m old (Err e) old
read_refused serves h = ⊎_elim (λ a. calls.no_page a.0 serves a.1) (λ a. calls.sector a.0 serves a.1 a.2) h

-- a put that may join its batch
pub puttable : {n x : ℕ} {page : List ℕ} {s : Flash} {m : Memory} {st : Started} {b : Batch} → Serves s m st → Mine st n b → ((o : ℕ) → get_or page o 0 < 256) → Allowed st b x (length page) (Ok tt) → Puttable n x page s m st b
puttable serves mine bytes h = record { serves = serves; mine = mine; whole = h.0; bytes = bytes; sector = h.1; room = h.2 }

-- a put that may not join its batch
pub put_refused : {n x : ℕ} {page : List ℕ} {s : Flash} {m : Memory} {st : Started} {b : Batch} {e : Refusal} → Serves s m st → Mine st n b → Allowed st b x (length page) (Err e) → Puts n x page s m (Err e) s m
put_refused serves mine h =
    ⊎_elim
    (λ a. calls.no_page a.0 serves mine a.1)
    (⊎_elim
    (λ a. calls.sector a.0 serves mine a.1 a.2)
    (λ a. calls.full a.0 serves mine a.1 a.2 a.3))
    h

-- a put that was cut
pub put_cut : {n x : ℕ} {page : List ℕ} {s t : Flash} {m : Memory} {st : Started} {b : Batch} {f : Fault} → Puttable n x page s m st b → Performs (putting (sizes_of st) (cleared_of st) (claimed_of st) x page) s (Err f) t → Puts n x page s m (Err (converted f)) t (halted m)
put_cut may p = let y = cut_of p in calls.cut y.1 may y.2

-- the end of a batch that has puts, by its plan at the position p
module _ {plan : Sizes → ℕ → ℕ → List Step} {n p : ℕ} {s t : Flash} {m : Memory} {st : Started} {b : Batch} (serves : Serves s m st) (mine : Mine st n b) (some : 0 < b.puts) (last : p ≡ claimed_of st - 1) where
  pub end_done : Performs (plan (sizes_of st) (cleared_of st) p) s (Ok tt) t → Ends plan n s m (Ok tt) t (idle m st.log)
  end_done h =
      calls.done serves mine some (subst (λ k. Performs (plan (sizes_of st) (cleared_of st) k) s (Ok tt) t) last h)

  pub end_cut : {f : Fault} → Performs (plan (sizes_of st) (cleared_of st) p) s (Err f) t → Ends plan n s m (Err (converted f)) t (halted m)
  end_cut {f} h =
      let y = cut_of (subst (λ k. Performs (plan (sizes_of st) (cleared_of st) k) s (Err f) t) last h) in
      calls.cut y.1 serves mine some y.2

-- the figures of a survey
pub reported : {s : Flash} {m : Memory} {st : Started} (r : Survey) → Serves s m st → SurveyedAmong s st.log r → Reports s m (Ok record { booked = r.booked; unclaimed = r.unclaimed; written = r.written; left = r.left })
reported {s} {m} {st} r serves h = rw (h.booked, h.unclaimed, h.written, h.left) (calls.done serves)
