-- The sectors are marked for which a slot behind the walk counts.
use Rattle.std.proofs.Common.{◌≡◌}
use Rattle.lookup.specs.Walks.{Walking}
use Rattle.lookup.proofs.Counting.{Marked}
use Rattle.lookup.proofs.written_sectors.Given as goal

abbrev pub invariant-loop-visit : goal.invariant-loop-visit
invariant-loop-visit g l =
    let s = g.C.Chip.flash l.initial.chip in
    record {
      same : g.C.Chip.flash l.chip ≡ s;
      walks : Walking s l.log l.walk;
      marked : Marked s l.log l.walk.position l.written.words;
    }

abbrev pub decreases-loop-visit : goal.decreases-loop-visit
decreases-loop-visit g l = l.walk.position
