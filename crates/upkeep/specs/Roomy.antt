-- What comes of making room, by the log after it.
use Rattle.std.specs.Prelude.{◌≡◌, ℕ, ◌%◌, Ok, Err, Result}
use Rattle.chip.specs.declared.Fault.{Fault}
use Rattle.chip.specs.Flash.{Flash}
use Rattle.ring.specs.declared.layout.Log.{Log}
use Rattle.image.specs.Surveys.{Bounded}
use Rattle.upkeep.specs.declared.room.Room.{Room}
use Rattle.upkeep.specs.declared.room.Room.TheVariants.{Made, Spent}
use Rattle.upkeep.specs.Numbers.{At}
use Rattle.upkeep.specs.Reclaims.{Rooms, made, spent}

-- room for n slots is made, or the tally is spent, or a reclaim was cut
abbrev pub RoomMade : Flash → Log → ℕ → Result Room Fault → Flash → Type 0
RoomMade s log n (Ok (Made new)) t =
    (c : ℕ) × (q : ℕ) × Rooms n log.layout.sizes s log.layout.cleared log.claimed (Ok (made c q)) t × At new log.layout.sizes c q
RoomMade s log n (Ok (Spent new)) t =
    (c : ℕ) × (q : ℕ) × Rooms n log.layout.sizes s log.layout.cleared log.claimed (Ok (spent c q)) t × At new log.layout.sizes c q
RoomMade s log n (Err f) t = Rooms n log.layout.sizes s log.layout.cleared log.claimed (Err f) t

-- the log after it stands, and no erase has begun
abbrev pub RoomStands : Flash → Result Room Fault → Type 0
RoomStands t (Ok (Made new)) = Bounded t new × (new.layout.cleared % 2 ≡ 0)
RoomStands t (Ok (Spent new)) = Bounded t new × (new.layout.cleared % 2 ≡ 0)
RoomStands t (Err f) = Unit {0}
