-- Each step was answered by an error, or finished before the next.
use Rattle.std.proofs.Common.{rules}
use Rattle.chip.specs.Plans as plans
use Rattle.chip.proofs.Performed.{stops, performed}
use Rattle.writes.proofs.Allowing.{ends, a_put}
use Rattle.writes.proofs.slot.put_slot.Goals as goal

pub returns-in_err-mark : goal.returns-in_err-mark
returns-in_err-mark g c =
    performed (a_put c.requires c.args.at.0 c.args.sector.0 _ (search rules)) c.requires.power
    (stops _ c.in_err-mark.ensures c.from_residual.ensures.1)

pub returns-in_err-number : goal.returns-in_err-number
returns-in_err-number g c =
    performed (a_put c.requires c.args.at.0 c.args.sector.0 _ (search rules)) c.requires.power
    (plans.next c.in_ok-mark.ensures
    (stops _ c.in_err-number.ensures c.from_residual-in_err-number.ensures.1))

pub returns-in_err-fill : goal.returns-in_err-fill
returns-in_err-fill g c =
    performed (a_put c.requires c.args.at.0 c.args.sector.0 _ (search rules)) c.requires.power
    (plans.next c.in_ok-mark.ensures
    (plans.next c.in_ok-number.ensures
    (stops _ c.in_err-fill.ensures c.from_residual-in_err-fill.ensures.1)))

pub returns : goal.returns
returns g c =
    performed (a_put c.requires c.args.at.0 c.args.sector.0 _ (search rules)) c.requires.power
    (plans.next c.in_ok-mark.ensures
    (plans.next c.in_ok-number.ensures
    (plans.next c.in_ok-fill.ensures (ends c.mark-2.result c.mark-2.ensures))))
