-- The property that the test tells is that the rule is broken.
use Rattle.ring.specs.Rules.{Beyond}
use Rattle.rules.proofs.slots.beyond_slot.Given as goal

abbrev pub ghosts-first_slot : goal.ghosts-first_slot
ghosts-first_slot g a = record { holds = Beyond (g.C.Chip.flash a.chip.now) a.layout.sizes a.layout.cleared }
