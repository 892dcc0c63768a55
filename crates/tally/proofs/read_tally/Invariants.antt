-- The pages so far are counted in, and the chip is as it was.
use Rattle.std.proofs.Common.{◌≡◌, ◌*◌}
use Rattle.tally.specs.Counts.{Scanned}
use Rattle.tally.proofs.read_tally.Given as goal

abbrev pub invariant-loop-page : goal.invariant-loop-page
invariant-loop-page g l =
    let flash = g.C.Chip.flash in
    Scanned (flash l.initial.chip) (512 * l.page) l.cleared × (flash l.chip ≡ flash l.initial.chip)
