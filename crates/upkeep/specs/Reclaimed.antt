-- What reclaims answer.
use Rattle.std.specs.Prelude.{ℕ, ◌+◌, Ok, Err, Result}
use Rattle.chip.specs.declared.Fault.{Fault}
use Rattle.chip.specs.Flash.{Flash}
use Rattle.ring.specs.declared.layout.Log.{Log}
use Rattle.upkeep.specs.Numbers.{At}
use Rattle.upkeep.specs.Reclaims.{Moves, Reclaims}

-- the copies of a reclaim: Ok has how many there are
abbrev pub Moved : Flash → Log → Result ℕ Fault → Flash → Type 0
Moved s log (Ok k) t = Moves s log.layout.sizes log.layout.cleared log.claimed 7 k t
Moved s log (Err f) t = Reclaims s log.layout.sizes log.layout.cleared log.claimed (Err f) t

-- one reclaim: Ok has the log after it
abbrev pub Reclaimed : Flash → Log → Result Log Fault → Flash → Type 0
Reclaimed s log (Ok new) t =
    (u : ℕ) × Reclaims s log.layout.sizes log.layout.cleared log.claimed (Ok u) t × At new log.layout.sizes (log.layout.cleared + 2) u
Reclaimed s log (Err f) t = Reclaims s log.layout.sizes log.layout.cleared log.claimed (Err f) t
