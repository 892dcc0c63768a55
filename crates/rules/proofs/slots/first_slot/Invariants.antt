-- The chip is as it was, and no position of the blocks before this one has the property.
use Rattle.std.proofs.Common.{◌≡◌}
use Rattle.rules.proofs.Going.{Clear}
use Rattle.rules.proofs.slots.first_slot.Given as goal

abbrev pub invariant-loop-b : goal.invariant-loop-b
invariant-loop-b g l =
    let s = g.C.Chip.flash l.initial.chip in
    let z = l.layout.sizes in
    let c = l.layout.cleared in
    (g.C.Chip.flash l.chip ≡ s) × Clear z c g.P.Property.holds l.b
