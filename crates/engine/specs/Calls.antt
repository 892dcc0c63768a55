-- What each call answers, when, and what it leaves: s and m are the chip and the memory before it, t and w after it. A
-- refusal is said by its numbers; of those that apply, the lowest is answered.
use Rattle.std.specs.Prelude.{◌≡◌, ℕ, ◌+◌, ◌-◌, ◌*◌, ◌<◌, ◌≤◌, Bool, ◌⊎◌, List, [], ◌∷◌, length, Some, None, Ok, Err, Result, ◌≢◌, slice_index}
use Rattle.std.specs.Borrow.{Bor}
use Rattle.chip.specs.declared.Home.{Home}
use Rattle.chip.specs.declared.Fault.TheVariants as fault
use Rattle.chip.specs.Flash.{Flash, awake}
use Rattle.chip.specs.Steps.{Step}
use Rattle.chip.specs.Plans.{Performs}
use Rattle.label.specs.Labels.{Faulty}
use Rattle.label.specs.declared.Sizes.{Sizes}
use Rattle.ring.specs.Tally.{booked}
use Rattle.ring.specs.Places.{positions}
use Rattle.ring.specs.declared.layout.Log.{Log}
use Rattle.image.specs.Fronts.{front_page}
use Rattle.image.specs.Examined.{Sound, Unsound}
use Rattle.image.specs.Surveys.{Bounded, Shown}
use Rattle.lookup.specs.Answers.{written_among}
use Rattle.laid.specs.Writing.{putting}
use Rattle.upkeep.specs.Repairs.{Repairs}
use Rattle.upkeep.specs.Reclaims.{Rooms, made, spent}
use Rattle.engine.specs.declared.memory.Batch.{Batch}
use Rattle.engine.specs.declared.memory.Started.{Started}
use Rattle.engine.specs.declared.memory.Memory.{Memory}
use Rattle.engine.specs.declared.refusal.Refusal.{Refusal}
use Rattle.engine.specs.declared.sector.Report.{Report}
use Rattle.engine.specs.Refusals.{numbers}
use Rattle.engine.specs.Memories.{largest_batch, most_tickets, Serves, Stopped, Mine, At, sizes_of, cleared_of, claimed_of, halted, idle, opened, one_more}

-- a refusal with these numbers: a step was cut at a block with the home h
abbrev pub CutAt : Refusal → Home → Type 0
CutAt e h = numbers e ≡ 13 ∷ h.name ∷ h.block ∷ []

-- start: the image is accepted and repaired, its label or a rule is at fault, or a step was cut
pub data Starts (s : Flash) (m : Memory) : Result (Unit {0}) Refusal → Flash → Memory → Type 0 where
  label : {e : Refusal} {at : ℕ} → numbers e ≡ 10 ∷ at ∷ [] → Faulty (front_page (awake s)) s.blocks at → Starts s m (Err e) (awake s) (halted m)
  rule : {e : Refusal} {rule place : ℕ} → numbers e ≡ 11 ∷ rule ∷ place ∷ [] → Unsound (awake s) rule place → Starts s m (Err e) (awake s) (halted m)
  done : {log new : Log} {plan : List Step} {c : ℕ} {t : Flash} → Sound (awake s) log → Bounded (awake s) log → Repairs (awake s) log.layout.sizes log.layout.cleared log.claimed plan c → Performs plan (awake s) (Ok tt) t → At new log.layout.sizes c log.claimed → Starts s m (Ok tt) t (idle m new)
  cut : {e : Refusal} {h : Home} {log : Log} {plan : List Step} {c : ℕ} {t : Flash} → CutAt e h → Sound (awake s) log → Bounded (awake s) log → Repairs (awake s) log.layout.sizes log.layout.cleared log.claimed plan c → Performs plan (awake s) (Err (fault.Cut h)) t → Starts s m (Err e) t (halted m)

-- open: what is asked of a batch of n puts before room is made
pub record Openable (n : ℕ) (s : Flash) (m : Memory) (st : Started) : Type 0 where
  pub serves : Serves s m st
  pub free : st.batch ≡ None
  pub some : 1 ≤ n
  pub most : n ≤ largest_batch
  pub ticket : m.tickets < most_tickets

-- whether a batch of n puts may be opened after k tickets, or the refusal
abbrev pub Permitted : Started → ℕ → ℕ → Result (Unit {0}) Refusal → Type 0
Permitted st n k (Ok _) = (st.batch ≡ None) × (1 ≤ n) × (n ≤ largest_batch) × (k < most_tickets)
Permitted st n k (Err e) =
    ((b : Batch) × (numbers e ≡ 3 ∷ []) × (st.batch ≡ Some b))
    ⊎ (((numbers e ≡ 4 ∷ []) × (st.batch ≡ None) × (1 ≤ n → n ≤ largest_batch → ⊥))
    ⊎ ((numbers e ≡ 8 ∷ []) × (st.batch ≡ None) × (1 ≤ n) × (n ≤ largest_batch) × (most_tickets ≤ k)))

pub data Opens (n : ℕ) (s : Flash) (m : Memory) : Result ℕ Refusal → Flash → Memory → Type 0 where
  stopped : {e : Refusal} → numbers e ≡ 1 ∷ [] → Stopped s m → Opens n s m (Err e) s m
  busy : {e : Refusal} {st : Started} {b : Batch} → numbers e ≡ 3 ∷ [] → Serves s m st → st.batch ≡ Some b → Opens n s m (Err e) s m
  count : {e : Refusal} {st : Started} → numbers e ≡ 4 ∷ [] → Serves s m st → st.batch ≡ None → (1 ≤ n → n ≤ largest_batch → ⊥) → Opens n s m (Err e) s m
  no_ticket : {e : Refusal} {st : Started} → numbers e ≡ 8 ∷ [] → Serves s m st → st.batch ≡ None → 1 ≤ n → n ≤ largest_batch → most_tickets ≤ m.tickets → Opens n s m (Err e) s m
  no_bits : {e : Refusal} {st : Started} {log : Log} {c q : ℕ} {t : Flash} → numbers e ≡ 12 ∷ [] → Openable n s m st → Rooms (n + 7) (sizes_of st) s (cleared_of st) (claimed_of st) (Ok (spent c q)) t → At log (sizes_of st) c q → Opens n s m (Err e) t (idle m log)
  cut : {e : Refusal} {h : Home} {st : Started} {t : Flash} → CutAt e h → Openable n s m st → Rooms (n + 7) (sizes_of st) s (cleared_of st) (claimed_of st) (Err (fault.Cut h)) t → Opens n s m (Err e) t (halted m)
  done : {st : Started} {log : Log} {c q : ℕ} {t : Flash} → Openable n s m st → Rooms (n + 7) (sizes_of st) s (cleared_of st) (claimed_of st) (Ok (made c q)) t → At log (sizes_of st) c q → Opens n s m (Ok (m.tickets + 1)) t (opened m log n)

-- put: what is asked of a put of a page to the sector x under the ticket n
pub record Puttable (n x : ℕ) (page : List ℕ) (s : Flash) (m : Memory) (st : Started) (b : Batch) : Type 0 where
  pub serves : Serves s m st
  pub mine : Mine st n b
  pub whole : length page ≡ 512
  pub bytes : (o : ℕ) → slice_index page o < 256
  pub sector : x < (sizes_of st).sectors
  pub room : b.puts < b.limit

-- whether a put of so many bytes may join a batch, or the refusal
abbrev pub Allowed : Started → Batch → ℕ → ℕ → Result (Unit {0}) Refusal → Type 0
Allowed st b x len (Ok _) = (len ≡ 512) × (x < (sizes_of st).sectors) × (b.puts < b.limit)
Allowed st b x len (Err e) =
    ((numbers e ≡ 5 ∷ []) × (len ≢ 512))
    ⊎ (((numbers e ≡ 6 ∷ []) × (len ≡ 512) × ((sizes_of st).sectors ≤ x))
    ⊎ ((numbers e ≡ 7 ∷ []) × (len ≡ 512) × (x < (sizes_of st).sectors) × (b.limit ≤ b.puts)))

-- these bytes as a page, where the put of them may join the batch
abbrev pub Joins : Started → Batch → ℕ → List ℕ → Result (Bor (List ℕ)) Refusal → Type 0
Joins st b x bytes (Ok page) = (page.now ≡ bytes) × Allowed st b x (length bytes) (Ok tt)
Joins st b x bytes (Err e) = Allowed st b x (length bytes) (Err e)

pub data Puts (n x : ℕ) (page : List ℕ) (s : Flash) (m : Memory) : Result (Unit {0}) Refusal → Flash → Memory → Type 0 where
  stopped : {e : Refusal} → numbers e ≡ 1 ∷ [] → Stopped s m → Puts n x page s m (Err e) s m
  other : {e : Refusal} {st : Started} → numbers e ≡ 2 ∷ [] → Serves s m st → ((b : Batch) → Mine st n b → ⊥) → Puts n x page s m (Err e) s m
  no_page : {e : Refusal} {st : Started} {b : Batch} → numbers e ≡ 5 ∷ [] → Serves s m st → Mine st n b → (length page ≢ 512) → Puts n x page s m (Err e) s m
  sector : {e : Refusal} {st : Started} {b : Batch} → numbers e ≡ 6 ∷ [] → Serves s m st → Mine st n b → length page ≡ 512 → (sizes_of st).sectors ≤ x → Puts n x page s m (Err e) s m
  full : {e : Refusal} {st : Started} {b : Batch} → numbers e ≡ 7 ∷ [] → Serves s m st → Mine st n b → length page ≡ 512 → x < (sizes_of st).sectors → b.limit ≤ b.puts → Puts n x page s m (Err e) s m
  done : {st : Started} {b : Batch} {t : Flash} → Puttable n x page s m st b → Performs (putting (sizes_of st) (cleared_of st) (claimed_of st) x page) s (Ok tt) t → Puts n x page s m (Ok tt) t (one_more m st b)
  cut : {e : Refusal} {h : Home} {st : Started} {b : Batch} {t : Flash} → CutAt e h → Puttable n x page s m st b → Performs (putting (sizes_of st) (cleared_of st) (claimed_of st) x page) s (Err (fault.Cut h)) t → Puts n x page s m (Err e) t (halted m)

-- close and drop, by their plan at the batch's last slot; a batch without puts needs no step
pub data Ends (plan : Sizes → ℕ → ℕ → List Step) (n : ℕ) (s : Flash) (m : Memory) : Result (Unit {0}) Refusal → Flash → Memory → Type 0 where
  stopped : {e : Refusal} → numbers e ≡ 1 ∷ [] → Stopped s m → Ends plan n s m (Err e) s m
  other : {e : Refusal} {st : Started} → numbers e ≡ 2 ∷ [] → Serves s m st → ((b : Batch) → Mine st n b → ⊥) → Ends plan n s m (Err e) s m
  empty : {st : Started} {b : Batch} → Serves s m st → Mine st n b → b.puts ≡ 0 → Ends plan n s m (Ok tt) s (idle m st.log)
  done : {st : Started} {b : Batch} {t : Flash} → Serves s m st → Mine st n b → 0 < b.puts → Performs (plan (sizes_of st) (cleared_of st) (claimed_of st - 1)) s (Ok tt) t → Ends plan n s m (Ok tt) t (idle m st.log)
  cut : {e : Refusal} {h : Home} {st : Started} {b : Batch} {t : Flash} → CutAt e h → Serves s m st → Mine st n b → 0 < b.puts → Performs (plan (sizes_of st) (cleared_of st) (claimed_of st - 1)) s (Err (fault.Cut h)) t → Ends plan n s m (Err e) t (halted m)

-- read: `old` is the caller's buffer before it, `new` after it
pub data Reads (x : ℕ) (s : Flash) (m : Memory) (old : List ℕ) : Result Bool Refusal → List ℕ → Type 0 where
  stopped : {e : Refusal} → numbers e ≡ 1 ∷ [] → Stopped s m → Reads x s m old (Err e) old
  no_page : {e : Refusal} {st : Started} → numbers e ≡ 5 ∷ [] → Serves s m st → (length old ≢ 512) → Reads x s m old (Err e) old
  sector : {e : Refusal} {st : Started} → numbers e ≡ 6 ∷ [] → Serves s m st → length old ≡ 512 → (sizes_of st).sectors ≤ x → Reads x s m old (Err e) old
  done : {st : Started} {found : Bool} {new : List ℕ} → Serves s m st → length old ≡ 512 → x < (sizes_of st).sectors → Shown s st.log x found new → Reads x s m old (Ok found) new

-- report: booked erases, unclaimed slots, written sectors, unbooked erases left
abbrev pub figures : Flash → Started → Report
figures s st = record {
  booked = booked (cleared_of st);
  unclaimed = positions (sizes_of st) (cleared_of st) - claimed_of st;
  written = written_among s (sizes_of st) (cleared_of st) (claimed_of st);
  left = 16384 * (sizes_of st).tally - booked (cleared_of st);
}

pub data Reports (s : Flash) (m : Memory) : Result Report Refusal → Type 0 where
  stopped : {e : Refusal} → numbers e ≡ 1 ∷ [] → Stopped s m → Reports s m (Err e)
  done : {st : Started} → Serves s m st → Reports s m (Ok (figures s st))
