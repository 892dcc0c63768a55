-- The bytes of the page so far are counted in.
use Rattle.std.proofs.Common.{◌+◌, ◌*◌, ◌≤◌}
use Rattle.chip.specs.Flash.{Flash}
use Rattle.tally.specs.Counts.{Scanned, Holds}
use Rattle.tally.proofs.add_page.Given as goal

abbrev pub invariant-loop-i : goal.invariant-loop-i
invariant-loop-i l =
    (l.cleared ≤ 8 * (l.first + l.i))
    × ((s : Flash) → Scanned s l.first l.initial.cleared → Holds s l.first l.page → Scanned s (l.first + l.i) l.cleared)
