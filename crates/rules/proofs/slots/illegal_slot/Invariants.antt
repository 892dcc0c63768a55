-- The property that the test tells is that the rule is broken.
use Rattle.ring.specs.Rules.{Illegal}
use Rattle.rules.proofs.slots.illegal_slot.Given as goal

abbrev pub ghosts-first_slot : goal.ghosts-first_slot
ghosts-first_slot g a = record { holds = Illegal (g.C.Chip.flash a.chip.now) a.layout.sizes a.layout.cleared }
