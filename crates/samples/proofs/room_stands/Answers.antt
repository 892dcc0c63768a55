-- Room for 14 puts and 7 more, with 21 slots unclaimed and with 20.
use Rattle.std.proofs.Common.{◌≡◌, ℕ, ◌+◌, ◌-◌, ◌<◌, Ok, Err, Result, refl, arith}
use Rattle.chip.specs.declared.Fault.{Fault}
use Rattle.chip.specs.Flash.{Flash}
use Rattle.label.specs.declared.Sizes.{Sizes}
use Rattle.ring.specs.Tally.{tally_bits}
use Rattle.ring.specs.Places.{positions}
use Rattle.upkeep.specs.Reclaims as rooms
use Rattle.upkeep.specs.Reclaims.{Reclaims, Room, made, Rooms}
use Rattle.samples.proofs.room_stands.Goals as goal

enough : (z : Sizes) (s t : Flash) (c q : ℕ) (r : Result Room Fault) → positions z c - q ≡ 21 → Rooms (14 + 7) z s c q r t → (r ≡ Ok (made c q)) × (t ≡ s)
enough z s t c q r free (rooms.enough some) = (refl, refl)
enough z s t c q r free (rooms.no_bits few spent) = absurd (omega (arith, few, free))
enough z s t c q r free (rooms.round few left one more) = absurd (omega (arith, few, free))
enough z s t c q r free (rooms.cut few left one) = absurd (omega (arith, few, free))

due : (z : Sizes) (s t : Flash) (c q : ℕ) (r : Result Room Fault) → positions z c - q ≡ 20 → c < tally_bits z.tally → Rooms (14 + 7) z s c q r t → (u : Result ℕ Fault) × (m : Flash) × Reclaims s z c q u m
due z s t c q r free bits (rooms.enough some) = absurd (omega (arith, some, free))
due z s t c q r free bits (rooms.no_bits few spent) = absurd (omega (arith, bits, spent))
due z s t c q r free bits (rooms.round {m = m} {u = u} few left one more) = (Ok u, m, one)
due z s t c q r free bits (rooms.cut {f = f} few left one) = (Err f, t, one)

pub returns : goal.returns
returns c = record { enough = enough; due = due }
