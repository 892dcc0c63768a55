-- The property that the test tells is that the rule is broken.
use Rattle.ring.specs.Rules.{Unclean}
use Rattle.rules.proofs.slots.unclean_slot.Given as goal

abbrev pub ghosts-first_slot : goal.ghosts-first_slot
ghosts-first_slot g a = record { holds = Unclean (g.C.Chip.flash a.chip.now) a.layout.sizes a.layout.cleared }
