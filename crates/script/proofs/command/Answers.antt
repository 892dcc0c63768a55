-- Where the numbers behind a letter are missing, no line is said.
use Rattle.script.proofs.Lines.{no_plan, no_format}
use Rattle.script.proofs.command.Goals as goal

pub returns-in_err-step-in-120 : goal.returns-in_err-step-in-120
returns-in_err-step-in-120 c = rw c.from_residual.ensures (no_plan _ c.args.first c.in-120.is c.in_err-step-in-120.ensures)

pub returns-in_err-one-in-102 : goal.returns-in_err-one-in-102
returns-in_err-one-in-102 c = rw c.from_residual-in_err-one-in-102.ensures (no_format _ c.args.first c.in-102.is c.in_err-one-in-102.ensures)
