-- The chip is as it was, and no position of the slots before this one has the property.
use Rattle.std.proofs.Common.{◌≡◌, ℕ, ◌+◌, ◌*◌, ◌<◌}
use Rattle.rules.proofs.slots.first_at_turn.Given as goal

abbrev pub invariant-loop-j : goal.invariant-loop-j
invariant-loop-j g l =
    let s = g.C.Chip.flash l.initial.chip in
    (g.C.Chip.flash l.chip ≡ s)
    × ((k : ℕ) → k < l.j → g.P.Property.holds (7 * l.turn + k) → ⊥)
