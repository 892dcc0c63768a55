-- What holds of a volume between any two calls of a run: its image keeps the rules, its sectors hold what the ledger says,
-- and a started volume knows where its log stands.
use Rattle.std.proofs.Common.{◌≡◌, ℕ, ◌+◌, ◌-◌, ◌%◌, ◌≤◌, Bool, true, List, [], ◌++◌, length, Some, None, Option}
use Rattle.chip.specs.Flash.{Flash}
use Rattle.label.specs.declared.Sizes.{Sizes}
use Rattle.label.specs.Labels.{Sized}
use Rattle.ring.specs.Places.{positions}
use Rattle.ring.specs.Logs.{Entry, holds}
use Rattle.ring.specs.Turns.{Shaped}
use Rattle.image.specs.Fronts.{LabelledBy}
use Rattle.laid.specs.Sane.{Ended, Sane}
use Rattle.holding.specs.Puts.{Put, filled_puts}
use Rattle.keeping.specs.Carries.{Carries}
use Rattle.engine.specs.declared.memory.Batch.{Batch}
use Rattle.engine.specs.declared.memory.Started.{Started}
use Rattle.engine.specs.declared.memory.Memory.{Memory}
use Rattle.engine.specs.Memories.{sizes_of, cleared_of, claimed_of}
use Rattle.runs.specs.declared.run.Call.{Call}
use Rattle.runs.specs.Ledger.{Ledger, enter, Answer}
use Rattle.runs.specs.Law.{Meets, Promised}

-- the open batch of a volume and that of the ledger agree, and there is room for its puts and seven more; `free` is how
-- many slots are unclaimed
pub record Room (b : Batch) (puts : List Put) (free : ℕ) : Type 0 where
  pub count : b.puts ≡ length puts
  pub most : b.puts ≤ b.limit
  pub room : b.limit + 7 ≤ free + b.puts

abbrev pub Batched : Option Batch → Option (List Put) → List Put → ℕ → Type 0
Batched None listed puts free = (listed ≡ None) × (puts ≡ [])
Batched (Some b) listed puts free = (listed ≡ Some puts) × Room b puts free

-- a started volume: behind the entries that end a group come the puts of the open batch, and nothing else
pub record Stands (z : Sizes) (s : Flash) (st : Started) (l : Ledger) : Type 0 where
  pub power : s.on ≡ true
  pub sizes : sizes_of st ≡ z
  pub shaped : Shaped z (cleared_of st)
  pub even : cleared_of st % 2 ≡ 0
  pub ended_entries : List Entry
  pub puts : List Put
  pub ended : Ended ended_entries
  pub sane : Sane s z (cleared_of st) (ended_entries ++ filled_puts puts)
  pub count : claimed_of st ≡ length (ended_entries ++ filled_puts puts)
  pub same : (x : ℕ) → holds x ended_entries ≡ l.sectors x
  pub batched : Batched st.batch l.batch puts (positions z (cleared_of st) - claimed_of st)

-- the same of a volume that may be started or not
abbrev pub Kept : Sizes → Flash → Option Started → Ledger → Type 0
Kept z s None l = l.batch ≡ None
Kept z s (Some st) l = Stands z s st l

pub record Inv (z : Sizes) (s : Flash) (m : Memory) (l : Ledger) : Type 0 where
  pub labelled : LabelledBy s z
  pub sized : Sized s.blocks z
  pub carries : Carries s z l.sectors
  pub kept : Kept z s m.started l

-- what a call comes to: with one choice, the invariant again, and what the law says of this turn
pub record Next (z : Sizes) (s : Flash) (m : Memory) (l : Ledger) (call : Call) (answer : Answer) (t : Flash) (w : Memory) : Type 0 where
  pub choice : Bool
  pub inv : Inv z t w (enter choice l call answer)
  pub meets : Meets z (enter choice l call answer) t call answer
  pub promised : Promised z s m t call answer
