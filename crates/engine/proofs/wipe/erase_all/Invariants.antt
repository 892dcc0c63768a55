use Rattle.std.proofs.Common.{Ok}
use Rattle.chip.specs.Plans.{Tries}
use Rattle.engine.specs.Formats.{erasing}
use Rattle.engine.proofs.wipe.erase_all.Given as goal

abbrev pub invariant-loop-b : goal.invariant-loop-b
invariant-loop-b g l =
    let flash = g.C.Chip.flash in
    Tries (erasing l.b) (flash l.initial.chip) (Ok tt) (flash l.chip)
