-- The numbers of the survey.
use Rattle.std.proofs.lemmas.Result.{err_from_is_err_and}
use Rattle.engine.specs.Calls as calls
use Rattle.engine.proofs.Serving.{reported}
use Rattle.engine.proofs.Engine.report.Goals as goal

pub returns-in_err-started-clause-reports : goal.returns-in_err-started-clause-reports
returns-in_err-started-clause-reports g c =
    let out = err_from_is_err_and c.from_residual.result c.from_residual.ensures.1 in
    let stopped = c.in_err-started.ensures in
    rw (out.1, out.2) (calls.stopped stopped.0 stopped.1)

pub returns-clause-reports : goal.returns-clause-reports
returns-clause-reports g c =
    reported c.survey_image-survey.result c.in_ok-started.ensures c.survey_image-survey.ensures.among
