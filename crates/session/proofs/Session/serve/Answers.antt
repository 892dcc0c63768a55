use Rattle.std.proofs.Common.{refl}
use Rattle.session.specs.Sessions.{served}
use Rattle.session.proofs.Session.serve.Goals as goal

pub returns-in-Some-Plan : goal.returns-in-Some-Plan
returns-in-Some-Plan g c = served _ c.in-Some-Plan.ensures (rw c.in-Some-Plan.field-0-is (refl, refl))

pub returns-in-Some-Format : goal.returns-in-Some-Format
returns-in-Some-Format g c =
    served _ c.in-Some-Format.ensures
    (rw c.in-Some-Format.field-0-is
    record { answer = c.format.result; formats = c.format.ensures.formats; says = refl })
