-- One call of a run, by what its own contract says.
use Rattle.std.specs.Prelude.{◌≡◌, ℕ, min, Bool, List, length, Ok, Err, Result}
use Rattle.std.specs.Borrow.{Bor}
use Rattle.chip.specs.Flash.{Flash}
use Rattle.ring.specs.declared.Sector.{Sector}
use Rattle.laid.specs.Writing.{closing, dropping}
use Rattle.engine.specs.declared.memory.Memory.{Memory}
use Rattle.engine.specs.declared.refusal.Refusal.{Refusal}
use Rattle.engine.specs.declared.sector.Report.{Report}
use Rattle.engine.specs.Calls.{Starts, Opens, Puts, Ends, Reads, Reports}
use Rattle.runs.specs.declared.run.Call.{Call}
use Rattle.runs.specs.declared.run.Call.TheVariants as call
use Rattle.runs.specs.declared.run.Reply.{Reply}
use Rattle.runs.specs.declared.run.Reply.TheVariants as reply
use Rattle.runs.specs.Ledger.{Answer}

-- results as answers
abbrev pub replied : {T : Type 0} → (T → Reply) → Result T Refusal → Answer
replied f (Ok x) = Ok (f x)
replied f (Err e) = Err e

abbrev pub said : Result (Unit {0}) Refusal → Answer
said r = replied (λ _. reply.Done) r

abbrev pub given : Result ℕ Refusal → Answer
given r = replied (λ k. reply.Opened k) r

abbrev pub shown : Result Bool Refusal → List ℕ → Answer
shown r page = replied (λ found. reply.Shown found page) r

abbrev pub told : Result Report Refusal → Answer
told r = replied (λ f. reply.Figures f) r

-- the call on a volume with the chip s and the memory m answers so and leaves t and w; a run has a buffer of `room` bytes
-- for its reads, and a read that asks for more gets all of it
pub data Calls (room : ℕ) (s : Flash) (m : Memory) : Call → Answer → Flash → Memory → Type 0 where
  start : {r : Result (Unit {0}) Refusal} {t : Flash} {w : Memory} → Starts s m r t w → Calls room s m call.Start (said r) t w
  open_batch : {n : ℕ} {r : Result ℕ Refusal} {t : Flash} {w : Memory} → Opens n s m r t w → Calls room s m (call.Open n) (given r) t w
  put : {n : ℕ} {x : Sector} {page : Bor (List ℕ)} {r : Result (Unit {0}) Refusal} {t : Flash} {w : Memory} → Puts n x.0 page.now s m r t w → Calls room s m (call.Put n x page) (said r) t w
  close : {n : ℕ} {r : Result (Unit {0}) Refusal} {t : Flash} {w : Memory} → Ends closing n s m r t w → Calls room s m (call.Close n) (said r) t w
  drop : {n : ℕ} {r : Result (Unit {0}) Refusal} {t : Flash} {w : Memory} → Ends dropping n s m r t w → Calls room s m (call.Drop n) (said r) t w
  read : {x : Sector} {len : ℕ} {r : Result Bool Refusal} {old new : List ℕ} → length old ≡ min len room → Reads x.0 s m old r new → Calls room s m (call.Read x len) (shown r new) s m
  report : {r : Result Report Refusal} → Reports s m r → Calls room s m call.Report (told r) s m
