-- A log that stands on a chip is within the chip's limits.
use Rattle.chip.specs.Flash.{Flash}
use Rattle.ring.specs.declared.layout.Log.{Log}
use Rattle.image.specs.Surveys.{Standing, Bounded}

pub bounded : (s : Flash) (log : Log) → Standing s log → Bounded s log
bounded s log h = record { ready = h.ready; inside = h.inside; bits = h.bits; sectors = h.sectors }
