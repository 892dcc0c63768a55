-- One step, which the chip has.
use Rattle.chip.proofs.Performed.{performed}
use Rattle.writes.proofs.Allowing.{ends, one_mark}
use Rattle.writes.proofs.slot.drop_slot.Goals as goal

pub returns : goal.returns
returns g c = performed (one_mark c.requires c.args.at.0 247) c.requires.power (ends c.mark.result c.mark.ensures)
