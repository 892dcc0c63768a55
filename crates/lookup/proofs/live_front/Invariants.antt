-- For each position, the last slot behind the walk that counts for its sector is noted.
use Rattle.std.proofs.Common.{◌≡◌}
use Rattle.lookup.specs.Walks.{Walking}
use Rattle.lookup.proofs.Fronting.{Latest}
use Rattle.lookup.proofs.live_front.Given as goal

abbrev pub invariant-loop-visit : goal.invariant-loop-visit
invariant-loop-visit g l =
    let s = g.C.Chip.flash l.initial.chip in
    record {
      same : g.C.Chip.flash l.chip ≡ s;
      walks : Walking s l.log l.walk;
      latest : Latest s l.log l.initial.front.places l.walk.position l.front.places;
    }

abbrev pub decreases-loop-visit : goal.decreases-loop-visit
decreases-loop-visit g l = l.walk.position
