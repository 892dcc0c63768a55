-- What comes of making room from here on comes of it from the start.
use Rattle.std.proofs.Common.{◌-◌, ◌*◌}
use Rattle.upkeep.proofs.Rooming.{Goes}
use Rattle.upkeep.proofs.room.make_room.Given as goal

abbrev pub invariant-loop-log : goal.invariant-loop-log
invariant-loop-log g l = Goes l.slots (g.C.Chip.flash l.initial.chip) l.initial.log (g.C.Chip.flash l.chip) l.log

abbrev pub decreases-loop-log : goal.decreases-loop-log
decreases-loop-log g l = 32768 * l.log.layout.sizes.tally - l.log.layout.cleared
