-- What a slot is, and the flags that say it.
use Rattle.std.specs.Prelude.{◌≡◌, ℕ, false, Ok, Err, Result}
use Rattle.ring.specs.declared.flags.State.{State}
use Rattle.ring.specs.declared.flags.State.TheVariants.{Unclaimed, Claimed, Filled, Closed, DroppedClaimed, DroppedFilled, CopyClaimed, CopyFilled, CopyClosed}
use Rattle.ring.specs.declared.flags.Illegal.{Illegal}
use Rattle.ring.specs.Rules.{legal}

-- the flags of a slot: FF; 7F, 5F, 4F, 77, 57 of puts; BF, 9F, 8F of copies
abbrev pub byte_of : State → ℕ
byte_of Unclaimed = 255
byte_of Claimed = 127
byte_of Filled = 95
byte_of Closed = 79
byte_of DroppedClaimed = 119
byte_of DroppedFilled = 87
byte_of CopyClaimed = 191
byte_of CopyFilled = 159
byte_of CopyClosed = 143

-- what flags say: a state, or that they are not legal
abbrev pub StateOf : ℕ → Result State Illegal → Type 0
StateOf flags (Ok state) = byte_of state ≡ flags
StateOf flags (Err x) = (x.0 ≡ flags) × (legal flags ≡ false)
