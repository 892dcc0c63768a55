-- What an image may carry after giving back its oldest block was cut.
use Rattle.std.specs.Prelude.{ℕ, ◌+◌, List, drop}
use Rattle.chip.specs.Flash.{Flash}
use Rattle.label.specs.declared.Sizes.{Sizes}
use Rattle.ring.specs.Logs.{Entry}
use Rattle.laid.specs.Laid.{Laid}

-- the erase has not begun, it has begun, or it is booked
pub data FreeCut (t : Flash) (z : Sizes) (c : ℕ) (es : List Entry) : Type 0 where
  before : Laid t z c es → FreeCut t z c es
  midway : Laid t z (c + 1) (drop 7 es) → FreeCut t z c es
  after : Laid t z (c + 2) (drop 7 es) → FreeCut t z c es
