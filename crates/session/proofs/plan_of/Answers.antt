use Rattle.script.specs.declared.Line.TheVariants.{Plan}
use Rattle.session.proofs.plan_of.Goals as goal

pub returns-in_err-step : goal.returns-in_err-step
returns-in_err-step c = rw c.from_residual.ensures (λ step mask. c.in_err-step.ensures (Plan step mask))
