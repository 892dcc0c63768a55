-- One call of a run comes to what the law says.
use Rattle.std.proofs.Common.{◌≡◌, ℕ, min, Bool, List, length, Ok, Err, Result, refl, ap}
use Rattle.std.specs.Result.{MatchResult, IsOkAnd, result_and}
use Rattle.chip.specs.Flash.{Flash}
use Rattle.label.specs.declared.Sizes.{Sizes}
use Rattle.ring.specs.declared.Sector.{Sector}
use Rattle.engine.specs.declared.memory.Memory.{Memory}
use Rattle.engine.specs.declared.refusal.Refusal.{Refusal}
use Rattle.runs.specs.declared.run.Call.{Call}
use Rattle.engine.specs.Calls.{Reads}
use Rattle.runs.specs.declared.run.Call.TheVariants as call
use Rattle.runs.specs.declared.run.Reply.{Reply}
use Rattle.runs.specs.declared.run.Reply.TheVariants as reply
use Rattle.runs.specs.Ledger.{Ledger, Answer}
use Rattle.runs.specs.Runs as runs
use Rattle.runs.specs.Runs.{replied, said, shown, Calls}
use Rattle.runs.proofs.Standing.{Inv, Next}
use Rattle.runs.proofs.Reading.{next_read, next_report}
use Rattle.runs.proofs.Starting.{next_start}
use Rattle.runs.proofs.Opening.{next_open}
use Rattle.runs.proofs.Batches.{next_put, next_close, next_drop}

-- a read, by the answer of its own call
pub read_is : {room : ℕ} {x : Sector} {len : ℕ} {s : Flash} {m : Memory} {old new : List ℕ} (r : Result Bool Refusal) → Reads x.0 s m old r new → length old ≡ min len room → Calls room s m (call.Read x len) (shown r new) s m
read_is r reads long = runs.read long reads

-- a call without a result
pub done_is : (r : Result (Unit {0}) Refusal) → result_and r (Ok reply.Done) ≡ said r
done_is (Ok x) = refl
done_is (Err e) = refl

-- an answer that `map` made of a call's result
pub mapped : {T : Type 0} (f : T → Reply) (r : Result T Refusal) (a : Answer) → MatchResult r (λ x. IsOkAnd a (λ y. y ≡ f x)) (λ e. a ≡ Err e) → a ≡ replied f r
mapped f (Ok x) (Ok y) h = ap (λ (z : Reply). Ok z) h
mapped f (Ok x) (Err e) h = absurd h
mapped f (Err e) a h = h

-- every call keeps the invariant and does what the law says of it
pub next : {room : ℕ} {z : Sizes} {s t : Flash} {m w : Memory} {l : Ledger} {c : Call} {a : Answer} → Inv z s m l → Calls room s m c a t w → Next z s m l c a t w
next inv (runs.start h) = next_start inv h
next inv (runs.open_batch h) = next_open inv h
next inv (runs.put h) = next_put inv h
next inv (runs.close h) = next_close inv h
next inv (runs.drop h) = next_drop inv h
next inv (runs.read long h) = next_read inv h
next inv (runs.report h) = next_report inv h
