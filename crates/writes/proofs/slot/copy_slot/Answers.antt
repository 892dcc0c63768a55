-- The claim was answered by an error, or finished before the rest.
use Rattle.std.proofs.Common.{rules}
use Rattle.chip.specs.Plans as plans
use Rattle.chip.proofs.Performed.{stops, performed}
use Rattle.writes.proofs.Allowing.{a_copy}
use Rattle.writes.proofs.slot.copy_slot.Goals as goal

pub returns-in_err-mark : goal.returns-in_err-mark
returns-in_err-mark g c =
    performed (a_copy c.requires c.args.at.0 c.args.sector.0 _ (search rules)) c.requires.power
    (stops _ c.in_err-mark.ensures c.from_residual.ensures.1)

pub returns : goal.returns
returns g c = plans.next c.in_ok-mark.ensures c.finish_copy.ensures
