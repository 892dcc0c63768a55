-- Of the positions so far, those that are live are copied.
use Rattle.upkeep.specs.Reclaims.{Moves}
use Rattle.upkeep.proofs.reclaims.move_live.Given as goal

abbrev pub invariant-loop-i : goal.invariant-loop-i
invariant-loop-i g l =
    let flash = g.C.Chip.flash in
    Moves (flash l.initial.chip) l.log.layout.sizes l.log.layout.cleared l.log.claimed l.i l.copies (flash l.chip)
