-- An open of a volume that keeps the invariant, and the promise on it.
use Rattle.std.proofs.Common.{◌≡◌, ℕ, ◌+◌, ◌-◌, ◌*◌, ◌<◌, ◌≤◌, true, false, List, [], ◌++◌, length, Some, None, Ok, Err, Option, Result, sym, refl, ap, ◌∙◌, subst, inl, inr, arith}
use Rattle.chip.specs.declared.Fault.{Fault}
use Rattle.chip.specs.Flash.{Flash}
use Rattle.chip.specs.Steps.{Step}
use Rattle.chip.specs.Plans as plans
use Rattle.chip.specs.Plans.{Performs}
use Rattle.label.specs.declared.Sizes.{Sizes}
use Rattle.ring.specs.Tally.{tally_bits, booked}
use Rattle.ring.specs.Places.{positions}
use Rattle.ring.specs.Logs.{Entry}
use Rattle.laid.specs.Sane.{Sane}
use Rattle.holding.specs.Puts.{Put, filled_puts}
use Rattle.upkeep.specs.Reclaims as reclaims
use Rattle.upkeep.specs.Reclaims.{Reclaims, Room, Rooms}
use Rattle.keeping.proofs.Moving.{StillBy}
use Rattle.keeping.proofs.Rooming.{Roomed, rooms_made, rooms_spent, rooms_cut, past_rooms, blocks_rooms, on_rooms}
use Rattle.engine.specs.declared.memory.Batch.{Batch}
use Rattle.engine.specs.declared.memory.Started.{Started}
use Rattle.engine.specs.declared.memory.Memory.{Memory}
use Rattle.engine.specs.declared.refusal.Refusal.{Refusal}
use Rattle.engine.specs.Refusals.{row}
use Rattle.ring.specs.declared.layout.Log.{Log}
use Rattle.engine.specs.Memories.{largest_batch, sizes_of, cleared_of, claimed_of, At, halted, idle, opened}
use Rattle.engine.specs.Calls as calls
use Rattle.engine.specs.Calls.{Openable, Opens}
use Rattle.runs.specs.declared.run.Call.TheVariants as call
use Rattle.runs.specs.declared.run.Reply.TheVariants as reply
use Rattle.runs.specs.Ledger.{Ledger}
use Rattle.runs.specs.Runs.{given}
use Rattle.runs.specs.Law.{cleared_on, OpensWell}
use Rattle.runs.proofs.Standing.{Batched, Stands, Inv, Next}
use Rattle.runs.proofs.Common.{kept_of, serves_of}
use Rattle.runs.proofs.Settling.{first_is, cleared_is, unclaimed_is, behind_nothing, inv_halted, inv_started}

-- a plan that was cut leaves no power
pub performs_off : {ps : List Step} {s t : Flash} {f : Fault} → Performs ps s (Err f) t → t.on ≡ false
performs_off (plans.next w rest) = performs_off rest
performs_off (plans.cut b) = b.off

-- and so do a reclaim and reclaims that were cut
pub off_reclaims : {s t : Flash} {z : Sizes} {c q : ℕ} {f : Fault} → Reclaims s z c q (Err f) t → t.on ≡ false
off_reclaims (reclaims.copy_cut moves lt alive h) = performs_off h.1
off_reclaims (reclaims.free_cut moves h) = performs_off h

pub off_rooms : {n : ℕ} {z : Sizes} {s t : Flash} {c q : ℕ} {f : Fault} → Rooms n z s c q (Err f) t → t.on ≡ false
off_rooms (reclaims.round due left reclaim rest) = off_rooms rest
off_rooms (reclaims.cut due left reclaim) = off_reclaims reclaim

-- a volume that is started in two ways is started in one
one_started : (o : Option Started) (a b : Started) → o ≡ Some a → o ≡ Some b → a ≡ b
one_started o a b p q = cc

-- no batch is not a batch
none_some : (o : Option Batch) (b : Batch) → o ≡ None → o ≡ Some b → ⊥
none_some o b p q = cc

-- a refusal before room is made changes nothing
same_next : {z : Sizes} {n : ℕ} {s : Flash} {m : Memory} {l : Ledger} (e : Refusal) → Inv z s m l → ((st : Started) → m.started ≡ Some st → st.batch ≡ None → 1 ≤ n → n ≤ largest_batch → OpensWell z n m s (Err e)) → Next z s m l (call.Open n) (Err e) s m
same_next e inv answers = record {
  choice = false;
  inv = inv;
  meets = tt;
  promised = λ st is free some most. record { answers = answers st is free some most; books = omega arith };
}

-- room is made for a volume that has no batch
module _ {z : Sizes} {n : ℕ} {s : Flash} {m : Memory} {l : Ledger} {st : Started} (inv : Inv z s m l) (asked : Openable n s m st) where
  stands : Stands z s st l
  stands = kept_of inv asked.serves.started

  none : (l.batch ≡ None) × (stands.puts ≡ [])
  none = subst (λ (o : Option Batch). Batched o l.batch stands.puts (positions z (cleared_of st) - claimed_of st)) asked.free stands.batched

  -- the log that it carries
  whole : stands.ended_entries ++ filled_puts stands.puts ≡ stands.ended_entries
  whole = ap (λ (ps : List Put). stands.ended_entries ++ filled_puts ps) none.1 ∙ sym (behind_nothing stands.ended_entries)

  sane : Sane s z (cleared_of st) stands.ended_entries
  sane = subst (Sane s z (cleared_of st)) whole stands.sane

  count : claimed_of st ≡ length stands.ended_entries
  count = stands.count ∙ ap (λ (es : List Entry). length es) whole

  -- the reclaims, by the sizes of the volume
  about : {r : Result Room Fault} {t : Flash} → Rooms (n + 7) (sizes_of st) s (cleared_of st) (claimed_of st) r t → Rooms (n + 7) z s (cleared_of st) (claimed_of st) r t
  about {r} {t} h = subst (λ (y : Sizes). Rooms (n + 7) y s (cleared_of st) (claimed_of st) r t) stands.sizes h

  -- no more erases are booked than the ring has blocks
  books : (t : Flash) (d : ℕ) → cleared_on z t ≡ d → d ≤ cleared_of st + 2 * z.ring → booked (cleared_on z t) ≤ booked (cleared_on z s) + z.ring
  books t d is most = omega (arith, is, most, cleared_is s z (cleared_of st) stands.ended_entries stands.shaped sane)

  -- there is room
  made : {log : Log} {d u : ℕ} {t : Flash} → Rooms (n + 7) z s (cleared_of st) (claimed_of st) (Ok (reclaims.made d u)) t → At log (sizes_of st) d u → Next z s m l (call.Open n) (Ok (reply.Opened (m.tickets + 1))) t (opened m log n)
  made {log} {d} {u} {t} h here =
      let made : Roomed t z (cleared_of st) stands.ended_entries d u × (n + 7 ≤ positions z d - u) =
      rooms_made stands.ended_entries stands.shaped stands.even sane stands.ended count inv.sized.sectors_most (omega (arith, asked.most)) h in
      let x = made.0 in
      let on : t.on ≡ true = on_rooms h stands.power in
      record {
        choice = false;
        inv =
            inv_started inv (blocks_rooms h) (past_rooms h) x.entries on stands.sizes x.shaped x.sane x.even x.ended
            x.claimed (λ i. x.same i ∙ stands.same i)
            (refl, record { count = refl; most = omega arith; room = omega (arith, made.1) }) here;
        meets = tt;
        promised = λ _ _ _ _ _. record {
          answers = (refl, on, asked.ticket, omega (arith, made.1, x.claimed, unclaimed_is t z d x.entries x.shaped x.sane));
          books = books t d (cleared_is t z d x.entries x.shaped x.sane) x.most;
        };
      }

  -- there is none, and the tally is spent
  spent : {log : Log} {d u : ℕ} {t : Flash} {e : Refusal} → row e ≡ 12 → Rooms (n + 7) z s (cleared_of st) (claimed_of st) (Ok (reclaims.spent d u)) t → At log (sizes_of st) d u → Next z s m l (call.Open n) (Err e) t (idle m log)
  spent {log} {d} {u} {t} twelve h here =
      let spent : Roomed t z (cleared_of st) stands.ended_entries d u × (positions z d - u < n + 7) × (tally_bits z.tally ≤ d) =
      rooms_spent stands.ended_entries stands.shaped stands.even sane stands.ended count inv.sized.sectors_most (omega (arith, asked.most)) h in
      let x = spent.0 in
      let is : cleared_on z t ≡ d = cleared_is t z d x.entries x.shaped x.sane in
      record {
        choice = false;
        inv =
            inv_started inv (blocks_rooms h) (past_rooms h) x.entries (on_rooms h stands.power) stands.sizes x.shaped x.sane
            x.even x.ended x.claimed (λ i. x.same i ∙ stands.same i) (none.0, refl) here;
        meets = tt;
        promised = λ _ _ _ _ _. record {
          answers = inr (inr (
            twelve,
            omega (arith, spent.1, x.claimed, unclaimed_is t z d x.entries x.shaped x.sane),
            omega (arith, is, spent.2, x.sane.laid.bits),
          ));
          books = books t d is x.most;
        };
      }

  -- power fails
  cut : {t : Flash} {e : Refusal} {f : Fault} → row e ≡ 13 → Rooms (n + 7) z s (cleared_of st) (claimed_of st) (Err f) t → Next z s m l (call.Open n) (Err e) t (halted m)
  cut {t} thirteen h =
      let cut : StillBy t z stands.ended_entries (cleared_of st + 2 * z.ring) =
      rooms_cut stands.ended_entries stands.shaped stands.even sane stands.ended count inv.sized.sectors_most (omega (arith, asked.most)) h in
      let x = cut.0 in
      record {
        choice = false;
        inv = inv_halted inv (blocks_rooms h) (past_rooms h) x stands.same none.0;
        meets = tt;
        promised = λ _ _ _ _ _. record {
          answers = inl (thirteen, off_rooms h);
          books = books t x.cleared (cleared_is t z x.cleared x.entries x.shaped x.sane) cut.1;
        };
      }

-- what an open comes to
pub next_open : {z : Sizes} {n : ℕ} {s t : Flash} {m w : Memory} {l : Ledger} {r : Result ℕ Refusal} → Inv z s m l → Opens n s m r t w → Next z s m l (call.Open n) (given r) t w
next_open inv (calls.stopped {e} is none) = same_next e inv (λ st started free some most. absurd (none st (serves_of inv started)))
next_open {m = m} inv (calls.busy {e} {st} {b} is serves held) =
    same_next e inv
    (λ other started free some most.
    absurd (none_some st.batch b (ap (λ (x : Started). x.batch) (one_started m.started st other serves.started started) ∙ free) held))
next_open inv (calls.count {e} is serves free wrong) = same_next e inv (λ st started idle some most. absurd (wrong some most))
next_open inv (calls.no_ticket {e} is serves free some most given) =
    same_next e inv (λ _ _ _ _ _. inr (inl (first_is is, given)))
next_open inv (calls.no_bits is asked h here) = spent inv asked (first_is is) (about inv asked h) here
next_open inv (calls.cut is asked h) = cut inv asked (first_is is) (about inv asked h)
next_open inv (calls.done asked h here) = made inv asked (about inv asked h) here
