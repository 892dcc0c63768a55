-- What an open answers, by its checks and the room that is made.
use Rattle.std.proofs.Common.{◌≡◌, ℕ, ◌+◌, Ok, Err, refl, ap, subst, ⊎_elim}
use Rattle.chip.specs.declared.Home.{Home}
use Rattle.chip.specs.declared.Fault.{Fault}
use Rattle.chip.specs.declared.Fault.TheVariants as fault
use Rattle.chip.specs.Flash.{Flash}
use Rattle.chip.proofs.Performed.{only_cut}
use Rattle.label.specs.declared.Sizes.{Sizes}
use Rattle.ring.specs.declared.layout.Log.{Log}
use Rattle.upkeep.specs.declared.room.Room.{Room}
use Rattle.upkeep.specs.declared.room.Room.TheVariants.{Made, Spent}
use Rattle.upkeep.specs.Reclaims as reclaims
use Rattle.upkeep.specs.Reclaims.{Reclaims, Rooms}
use Rattle.upkeep.specs.Roomy.{RoomMade}
use Rattle.engine.specs.declared.memory.Started.{Started}
use Rattle.engine.specs.declared.memory.Memory.{Memory}
use Rattle.engine.specs.declared.refusal.Refusal.{Refusal}
use Rattle.engine.specs.declared.refusal.Refusal.TheVariants as refusal
use Rattle.engine.specs.Refusals.{numbers, converted}
use Rattle.engine.specs.Memories.{Serves, halted, idle, opened}
use Rattle.engine.specs.Calls as calls
use Rattle.engine.specs.Calls.{Openable, Permitted, Opens}

-- a reclaim that was not finished was cut, and so was room that was not made
pub reclaim_cut : {s t : Flash} {z : Sizes} {c q : ℕ} {f : Fault} → Reclaims s z c q (Err f) t → (h : Home) × (f ≡ fault.Cut h)
reclaim_cut (reclaims.copy_cut moved inside live copy) = only_cut copy.1
reclaim_cut (reclaims.free_cut moved free) = only_cut free

pub room_cut : {n : ℕ} {z : Sizes} {s t : Flash} {c q : ℕ} {f : Fault} → Rooms n z s c q (Err f) t → (h : Home) × (f ≡ fault.Cut h)
room_cut (reclaims.round few bits one rest) = room_cut rest
room_cut (reclaims.cut few bits one) = reclaim_cut one

module _ {n : ℕ} {s : Flash} {m : Memory} {st : Started} (serves : Serves s m st) where
  -- a batch that may not be opened
  pub open_refused : {e : Refusal} → Permitted st n m.tickets (Err e) → Opens n s m (Err e) s m
  open_refused h =
      ⊎_elim
      (λ a. calls.busy a.1 serves a.2)
      (⊎_elim
      (λ a. calls.count a.0 serves a.1 a.2)
      (λ a. calls.no_ticket a.0 serves a.1 a.2 a.3 a.4))
      h

  module _ (may : Permitted st n m.tickets (Ok tt)) where
    openable : Openable n s m st
    openable = record { serves = serves; free = may.0; some = may.1; most = may.2; ticket = may.3 }

    -- room was not made, for a step was cut
    pub open_cut : {t : Flash} (f : Fault) → RoomMade s st.log (n + 7) (Err f) t → Opens n s m (Err (converted f)) t (halted m)
    open_cut {t} f h =
        let x = room_cut h in
        calls.cut (ap (λ (g : Fault). numbers (converted g)) x.1) openable
        (subst (λ (g : Fault). RoomMade s st.log (n + 7) (Err g) t) x.1 h)

    -- the tally is spent, or room was made
    pub open_spent : {t : Flash} (room : Room) (log : Log) → room ≡ Spent log → RoomMade s st.log (n + 7) (Ok room) t → Opens n s m (Err refusal.Spent) t (idle m log)
    open_spent {t} room log e h =
        let x = subst (λ (r : Room). RoomMade s st.log (n + 7) (Ok r) t) e h in
        calls.no_bits refl openable x.2 x.3

    pub open_done : {t : Flash} (room : Room) (log : Log) → room ≡ Made log → RoomMade s st.log (n + 7) (Ok room) t → Opens n s m (Ok (m.tickets + 1)) t (opened m log n)
    open_done {t} room log e h =
        let x = subst (λ (r : Room). RoomMade s st.log (n + 7) (Ok r) t) e h in
        calls.done openable x.2 x.3
