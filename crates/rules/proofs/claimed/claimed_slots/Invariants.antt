-- The chip is as it was, and all slots of the turns so far are claimed.
use Rattle.std.proofs.Common.{◌≡◌, ◌*◌}
use Rattle.rules.proofs.Claiming.{AllClaimed}
use Rattle.rules.proofs.claimed.claimed_slots.Given as goal

abbrev pub invariant-loop-turn : goal.invariant-loop-turn
invariant-loop-turn g l =
    let s = g.C.Chip.flash l.initial.chip in
    (g.C.Chip.flash l.chip ≡ s) × AllClaimed s l.layout.sizes l.layout.cleared (7 * l.turn)
