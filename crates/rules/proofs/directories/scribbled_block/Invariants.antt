-- The chip is as it was, and no block before this one is scribbled on.
use Rattle.std.proofs.Common.{◌≡◌}
use Rattle.ring.specs.Rules.{Scribbled}
use Rattle.rules.proofs.Going.{Clear}
use Rattle.rules.proofs.directories.scribbled_block.Given as goal

abbrev pub invariant-loop-b : goal.invariant-loop-b
invariant-loop-b g l =
    let s = g.C.Chip.flash l.initial.chip in
    let z = l.layout.sizes in
    let c = l.layout.cleared in
    (g.C.Chip.flash l.chip ≡ s) × Clear z c (Scribbled s z c) l.b
