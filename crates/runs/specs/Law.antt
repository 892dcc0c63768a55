-- The law over whole runs: after an accepted format, for every list of calls, wherever power fails. z are the sizes that
-- the format gave the volume.
use Rattle.std.specs.Prelude.{◌≡◌, ℕ, ◌+◌, ◌<◌, ◌≤◌, min, Bool, true, false, ◌⊎◌, List, [], ◌∷◌, ◌++◌, map, length, take, drop, replicate, Some, None, Ok, Err, Option, Result}
use Rattle.chip.specs.Flash.{Flash}
use Rattle.label.specs.declared.Sizes.{Sizes}
use Rattle.ring.specs.declared.Sector.{Sector}
use Rattle.ring.specs.Tally.{tally_bits, cleared, booked}
use Rattle.ring.specs.Logs as logs
use Rattle.engine.specs.declared.memory.Memory.{Memory}
use Rattle.engine.specs.declared.memory.Started.{Started}
use Rattle.engine.specs.declared.refusal.Refusal.{Refusal}
use Rattle.engine.specs.Refusals.{row}
use Rattle.engine.specs.Formats.{sizes_on, Accepts, Formats, Untouched}
use Rattle.engine.specs.Memories.{largest_batch, most_tickets, Serves, halted, Forgets}
use Rattle.runs.specs.declared.run.Call.{Call}
use Rattle.runs.specs.declared.run.Call.TheVariants as call
use Rattle.runs.specs.declared.run.Reply.TheVariants as reply
use Rattle.runs.specs.Ledger.{Ledger, blank, puts_of, enter, puts_to, Answer}
use Rattle.runs.specs.Runs.{Calls}

-- what a sector holds on a chip, the cleared bits of its tally, and its unclaimed slots
abbrev pub cleared_on : Sizes → Flash → ℕ
cleared_on z t = cleared t z.tally

abbrev pub holding : Sizes → Flash → ℕ → Option (List ℕ)
holding z t x = logs.holds x (logs.log t z (cleared_on z t))

abbrev pub unclaimed : Sizes → Flash → ℕ
unclaimed z t = logs.unclaimed t z (cleared_on z t)

-- one turn of a run: a call, its answer, what the chip and the volume's memory are then, what the ledger says then, and the
-- choice that was made, should the call be a close that was cut
pub record Turn : Type 0 where
  pub call : Call
  pub answer : Answer
  pub flash : Flash
  pub memory : Memory
  pub ledger : Ledger
  pub choice : Bool

-- the answer of a read agrees with what its sector holds
abbrev pub Agrees : Bool → List ℕ → Option (List ℕ) → Type 0
Agrees true page o = o ≡ Some page
Agrees false page o = (o ≡ None) × (page ≡ replicate 512 255)

-- a start is accepted unless power fails in it, and then every sector holds what the ledger says
abbrev StartsWell : Sizes → Ledger → Flash → Answer → Type 0
StartsWell z l t (Ok reply.Done) = (x : ℕ) → x < z.sectors → holding z t x ≡ l.sectors x
StartsWell z l t (Ok (reply.Opened k)) = ⊥
StartsWell z l t (Ok (reply.Shown found page)) = ⊥
StartsWell z l t (Ok (reply.Figures f)) = ⊥
StartsWell z l t (Err e) = row e ≡ 13

-- a read that is accepted is of a sector of the volume, and gives what the ledger says
abbrev ReadsWell : Sizes → Ledger → ℕ → Answer → Type 0
ReadsWell z l x (Ok reply.Done) = ⊥
ReadsWell z l x (Ok (reply.Opened k)) = ⊥
ReadsWell z l x (Ok (reply.Shown found page)) = (x < z.sectors) × Agrees found page (l.sectors x)
ReadsWell z l x (Ok (reply.Figures f)) = ⊥
ReadsWell z l x (Err e) = Unit {0}

-- where the ledger and the volume must agree, l being what the ledger says after the turn
abbrev pub Meets : Sizes → Ledger → Flash → Call → Answer → Type 0
Meets z l t call.Start a = StartsWell z l t a
Meets z l t (call.Open n) a = Unit {0}
Meets z l t (call.Put n x page) a = Unit {0}
Meets z l t (call.Close n) a = Unit {0}
Meets z l t (call.Drop n) a = Unit {0}
Meets z l t (call.Read x len) a = ReadsWell z l x.0 a
Meets z l t call.Report a = Unit {0}

-- an open of n puts, from a chip s and a memory m to a chip t: it is refused exactly when power fails in it, when all
-- tickets are given, or when a reclaim is due and the tally is spent
abbrev pub OpensWell : Sizes → ℕ → Memory → Flash → Answer → Type 0
OpensWell z n m t (Ok reply.Done) = ⊥
OpensWell z n m t (Ok (reply.Opened k)) = (k ≡ m.tickets + 1) × (t.on ≡ true) × (m.tickets < most_tickets) × (n + 7 ≤ unclaimed z t)
OpensWell z n m t (Ok (reply.Shown found page)) = ⊥
OpensWell z n m t (Ok (reply.Figures f)) = ⊥
OpensWell z n m t (Err e) =
    ((row e ≡ 13) × (t.on ≡ false))
    ⊎ (((row e ≡ 8) × (most_tickets ≤ m.tickets))
    ⊎ ((row e ≡ 12) × (unclaimed z t < n + 7) × (cleared_on z t ≡ tally_bits z.tally)))

pub record Opening (z : Sizes) (n : ℕ) (s : Flash) (m : Memory) (t : Flash) (a : Answer) : Type 0 where
  pub answers : OpensWell z n m t a
  pub books : booked (cleared_on z t) ≤ booked (cleared_on z s) + z.ring

-- the promise on an open of 1 to 14 puts, on a started volume that has no batch
abbrev pub Promised : Sizes → Flash → Memory → Flash → Call → Answer → Type 0
Promised z s m t call.Start a = Unit {0}
Promised z s m t (call.Open n) a = (st : Started) → m.started ≡ Some st → st.batch ≡ None → 1 ≤ n → n ≤ largest_batch → Opening z n s m t a
Promised z s m t (call.Put n x page) a = Unit {0}
Promised z s m t (call.Close n) a = Unit {0}
Promised z s m t (call.Drop n) a = Unit {0}
Promised z s m t (call.Read x len) a = Unit {0}
Promised z s m t call.Report a = Unit {0}

-- a turn, from the chip s, the memory m and the ledger l: a started volume serves its calls, so that none of them is
-- answered as if it were not; the call is served or refused as its contract says; the ledger takes the call and its answer;
-- the two agree where they must; and an open keeps its promise
pub record Link (room : ℕ) (z : Sizes) (s : Flash) (m : Memory) (l : Ledger) (turn : Turn) : Type 0 where
  pub serves : (st : Started) → m.started ≡ Some st → Serves s m st
  pub does : Calls room s m turn.call turn.answer turn.flash turn.memory
  pub enters : turn.ledger ≡ enter turn.choice l turn.call turn.answer
  pub meets : Meets z turn.ledger turn.flash turn.call turn.answer
  pub promised : Promised z s m turn.flash turn.call turn.answer

pub data Chain (room : ℕ) (z : Sizes) : Flash → Memory → Ledger → List Turn → Flash → Memory → Type 0 where
  none : {s : Flash} {m : Memory} {l : Ledger} → Chain room z s m l [] s m
  more : {s t : Flash} {m w : Memory} {l : Ledger} {turn : Turn} {turns : List Turn} → Link room z s m l turn → Chain room z turn.flash turn.memory turn.ledger turns t w → Chain room z s m l (turn ∷ turns) t w

-- a close that is accepted or cut, of a batch with a put to the sector x
abbrev after_close : Ledger → ℕ → Answer → Type 0
after_close l x (Ok reply.Done) = puts_to x (puts_of l.batch) ≡ true
after_close l x (Ok (reply.Opened k)) = ⊥
after_close l x (Ok (reply.Shown found page)) = ⊥
after_close l x (Ok (reply.Figures f)) = ⊥
after_close l x (Err e) = (row e ≡ 13) × (puts_to x (puts_of l.batch) ≡ true)

abbrev pub Overwrites : Ledger → ℕ → Call → Answer → Type 0
Overwrites l x call.Start a = ⊥
Overwrites l x (call.Open n) a = ⊥
Overwrites l x (call.Put n y page) a = ⊥
Overwrites l x (call.Close n) a = after_close l x a
Overwrites l x (call.Drop n) a = ⊥
Overwrites l x (call.Read y len) a = ⊥
Overwrites l x call.Report a = ⊥

-- no turn overwrites the sector x, l being what the ledger says before the first
abbrev pub Spared : ℕ → Ledger → List Turn → Type 0
Spared x l [] = Unit {0}
Spared x l (t ∷ ts) = (Overwrites l x t.call t.answer → ⊥) × Spared x t.ledger ts

-- what an accepted read showed of a sector is what it holds after every later accepted start, until it is overwritten
abbrev pub Recalls : Sizes → List Turn → Type 0
Recalls z turns =
    (before between after : List Turn) (shows starts : Turn) (x : Sector) (len : ℕ) (found : Bool) (page : List ℕ) →
    turns ≡ before ++ (shows ∷ (between ++ (starts ∷ after))) →
    shows.call ≡ call.Read x len →
    shows.answer ≡ Ok (reply.Shown found page) →
    starts.call ≡ call.Start →
    starts.answer ≡ Ok reply.Done →
    Spared x.0 shows.ledger between →
    Agrees found page (holding z starts.flash x.0)

abbrev pub call_of : Turn → Call
call_of t = t.call

abbrev pub answer_of : Turn → Answer
answer_of t = t.answer

-- a run of these calls with these answers, from a chip and a memory after an accepted format: one list of turns, with one
-- choice for each close that was cut, explains all of it
pub record Ran (room : ℕ) (z : Sizes) (s : Flash) (m : Memory) (calls : List Call) (answers : List Answer) (t : Flash) (w : Memory) : Type 0 where
  pub turns : List Turn
  pub called : map call_of turns ≡ calls
  pub answered : map answer_of turns ≡ answers
  pub chain : Chain room z s m blank turns t w
  pub recalls : Recalls z turns

-- a run: a format that is refused ends it; after an accepted one all calls are made, as far as there is room for answers
abbrev pub Runs : ℕ → ℕ → ℕ → List ℕ → Flash → Memory → List Call → Result ℕ Refusal → List Answer → Flash → Memory → Type 0
Runs room sectors tally name s m calls (Ok n) answers t w =
    (formatted : Flash)
    × Accepts sectors tally name s formatted
    × Ran room (sizes_on s.blocks sectors tally) formatted (halted m) (take n calls) (take n answers) t w
Runs room sectors tally name s m calls (Err e) answers t w = Formats sectors tally name s (Err e) t × Forgets (Err e) m w × Untouched (Err e) m w

-- how many calls were made, and which answers were noted: none of those behind them, and none at all after a refused format
abbrev pub Noted : List Call → List Answer → Result ℕ Refusal → List Answer → Type 0
Noted calls old (Ok n) new = (n ≡ min (length calls) (length old)) × (length new ≡ length old) × (drop n new ≡ drop n old)
Noted calls old (Err e) new = new ≡ old
