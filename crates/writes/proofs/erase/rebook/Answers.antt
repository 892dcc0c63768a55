-- Each step was answered by an error, or finished before the next.
use Rattle.chip.specs.Plans as plans
use Rattle.chip.proofs.Performed.{stops, performed}
use Rattle.writes.proofs.Allowing.{ends, a_rebooking}
use Rattle.writes.proofs.erase.rebook.Goals as goal

pub returns-in_err-erase_oldest : goal.returns-in_err-erase_oldest
returns-in_err-erase_oldest g c =
    performed (a_rebooking c.requires.0 c.requires.1.1) c.requires.0.power
    (stops _ c.in_err-erase_oldest.ensures c.from_residual.ensures.1)

pub returns : goal.returns
returns g c =
    performed (a_rebooking c.requires.0 c.requires.1.1) c.requires.0.power
    (plans.next c.in_ok-erase_oldest.ensures (ends c.clear_bit.result c.clear_bit.ensures))
