-- What a volume keeps in memory, and how the calls change it.
use Rattle.std.specs.Prelude.{◌≡◌, ℕ, ◌+◌, ◌*◌, ◌%◌, ◌<◌, ◌≤◌, true, ◌⊎◌, [], ◌∷◌, Some, None, Ok, Err, Result, ◌≢◌}
use Rattle.chip.specs.Flash.{Flash}
use Rattle.label.specs.declared.Sizes.{Sizes}
use Rattle.label.specs.Labels.{Sized}
use Rattle.ring.specs.Tally.{tally_bits}
use Rattle.ring.specs.declared.layout.Log.{Log}
pub use Rattle.upkeep.specs.Numbers.{At}
use Rattle.engine.specs.declared.memory.Batch.{Batch}
use Rattle.engine.specs.declared.memory.Started.{Started}
use Rattle.engine.specs.declared.memory.Memory.{Memory}
use Rattle.engine.specs.declared.refusal.Refusal.{Refusal}
use Rattle.engine.specs.Refusals.{numbers}

-- the most puts that a batch may have
abbrev pub largest_batch : ℕ
largest_batch = 14

-- the most tickets that a volume gives
abbrev pub most_tickets : ℕ
most_tickets = 4294967295

-- a log fits a chip: the chip has power and is of that size, and no erase has begun
pub record Fits (s : Flash) (log : Log) : Type 0 where
  pub power : s.on ≡ true
  pub sized : Sized s.blocks log.layout.sizes
  pub bits : log.layout.cleared ≤ tally_bits log.layout.sizes.tally
  pub even : log.layout.cleared % 2 ≡ 0
  pub inside : log.claimed ≤ 7 * log.layout.sizes.ring

-- a volume that serves calls: it is started, and its log fits the chip
pub record Serves (s : Flash) (m : Memory) (st : Started) : Type 0 where
  pub started : m.started ≡ Some st
  pub fits : Fits s st.log

abbrev pub Stopped : Flash → Memory → Type 0
Stopped s m = (st : Started) → Serves s m st → ⊥

-- what is served, or the refusal
abbrev pub Served : Flash → Memory → Result Started Refusal → Type 0
Served s m (Ok st) = Serves s m st
Served s m (Err e) = (numbers e ≡ 1 ∷ []) × Stopped s m

-- the open batch has this ticket
abbrev pub Mine : Started → ℕ → Batch → Type 0
Mine st n b = (st.batch ≡ Some b) × (b.ticket ≡ n)

-- the batch of a ticket, or the refusal
abbrev pub Held : Started → ℕ → Result Batch Refusal → Type 0
Held st n (Ok b) = Mine st n b
Held st n (Err e) = (numbers e ≡ 2 ∷ []) × ((b : Batch) → Mine st n b → ⊥)

abbrev pub sizes_of : Started → Sizes
sizes_of st = st.log.layout.sizes

abbrev pub cleared_of : Started → ℕ
cleared_of st = st.log.layout.cleared

abbrev pub claimed_of : Started → ℕ
claimed_of st = st.log.claimed

-- there is a sector x, or the refusal
abbrev pub Numbered : Started → ℕ → Result (Unit {0}) Refusal → Type 0
Numbered st x (Ok _) = x < (sizes_of st).sectors
Numbered st x (Err e) = (numbers e ≡ 6 ∷ []) × ((sizes_of st).sectors ≤ x)

-- a buffer of so many bytes is as long as a page, and there is a sector x, or the refusal
abbrev pub Paged : Started → ℕ → ℕ → Result (Unit {0}) Refusal → Type 0
Paged st x len (Ok _) = (len ≡ 512) × (x < (sizes_of st).sectors)
Paged st x len (Err e) =
    ((numbers e ≡ 5 ∷ []) × (len ≢ 512))
    ⊎ ((numbers e ≡ 6 ∷ []) × (len ≡ 512) × ((sizes_of st).sectors ≤ x))

-- the memory of a volume that is not started
abbrev pub halted : Memory → Memory
halted m = record { tickets = m.tickets; started = None }

-- that of a volume that is started and has no batch
abbrev pub idle : Memory → Log → Memory
idle m log = record { tickets = m.tickets; started = Some record { log = log; batch = None } }

-- a batch of n puts is opened, with the next ticket
abbrev pub opened : Memory → Log → ℕ → Memory
opened m log n = record {
  tickets = m.tickets + 1;
  started = Some record { log = log; batch = Some record { ticket = m.tickets + 1; limit = n; puts = 0 } };
}

-- a put is added to the batch
abbrev pub one_more : Memory → Started → Batch → Memory
one_more m st b = record {
  tickets = m.tickets;
  started = Some record {
    log = record { layout = st.log.layout; claimed = claimed_of st + 1 };
    batch = Some record { ticket = b.ticket; limit = b.limit; puts = b.puts + 1 };
  };
}

-- a format ends any batch and leaves the volume not started, unless its sizes are refused
abbrev pub Forgets : Result (Unit {0}) Refusal → Memory → Memory → Type 0
Forgets (Ok _) m w = w ≡ halted m
Forgets (Err e) m w = (numbers e ≢ 9 ∷ []) → w ≡ halted m
