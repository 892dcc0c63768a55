-- No slot behind the walk is live for the sector.
use Rattle.std.proofs.Common.{◌≡◌, None}
use Rattle.lookup.specs.Walks.{Walking}
use Rattle.lookup.proofs.Backward.{last_in}
use Rattle.lookup.proofs.live_slot.Given as goal

abbrev pub invariant-loop-visit : goal.invariant-loop-visit
invariant-loop-visit g l =
    let s = g.C.Chip.flash l.initial.chip in
    record {
      same : g.C.Chip.flash l.chip ≡ s;
      walks : Walking s l.log l.walk;
      none : last_in s l.log l.sector.0 l.walk.position ≡ None;
    }

abbrev pub decreases-loop-visit : goal.decreases-loop-visit
decreases-loop-visit g l = l.walk.position
