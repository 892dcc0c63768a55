-- Worked examples of when an open reclaims.
use Rattle.std.specs.Prelude.{◌≡◌, ℕ, ◌+◌, ◌-◌, ◌<◌, Ok, Result}
use Rattle.chip.specs.declared.Fault.{Fault}
use Rattle.chip.specs.Flash.{Flash}
use Rattle.label.specs.declared.Sizes.{Sizes}
use Rattle.ring.specs.Tally.{tally_bits}
use Rattle.ring.specs.Places.{positions}
use Rattle.upkeep.specs.Reclaims.{Reclaims, Room, made, Rooms}

-- an open of 14 puts makes room for 14 and 7: with 21 slots unclaimed it reclaims nothing, and leaves the chip as it was;
-- with 20 it reclaims, where the tally is not spent
pub record Reclaiming : Type 0 where
  pub enough : (z : Sizes) (s t : Flash) (c q : ℕ) (r : Result Room Fault) → positions z c - q ≡ 21 → Rooms (14 + 7) z s c q r t → (r ≡ Ok (made c q)) × (t ≡ s)
  pub due : (z : Sizes) (s t : Flash) (c q : ℕ) (r : Result Room Fault) → positions z c - q ≡ 20 → c < tally_bits z.tally → Rooms (14 + 7) z s c q r t → (u : Result ℕ Fault) × (m : Flash) × Reclaims s z c q u m
