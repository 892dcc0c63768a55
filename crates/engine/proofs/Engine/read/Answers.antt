-- The checks, each by its refusal; then the sector's page.
use Rattle.std.proofs.lemmas.Result.{err_from_is_err_and}
use Rattle.engine.specs.Calls as calls
use Rattle.engine.proofs.Serving.{read_refused}
use Rattle.engine.proofs.Engine.read.Goals as goal

pub returns-in_err-started-clause-reads : goal.returns-in_err-started-clause-reads
returns-in_err-started-clause-reads g c =
    let out = err_from_is_err_and c.from_residual.result c.from_residual.ensures.1 in
    let stopped = c.in_err-started.ensures in
    rw (out.1, out.2) (calls.stopped stopped.0 stopped.1)

pub returns-in_err-check_page-clause-reads : goal.returns-in_err-check_page-clause-reads
returns-in_err-check_page-clause-reads g c =
    let out = err_from_is_err_and c.from_residual-in_err-check_page.result c.from_residual-in_err-check_page.ensures.1 in
    rw (out.1, out.2) (read_refused c.in_ok-started.ensures c.in_err-check_page.ensures)

pub returns-clause-reads : goal.returns-clause-reads
returns-clause-reads g c =
    let asked = c.in_ok-check_page.ensures in
    calls.done c.in_ok-started.ensures asked.0 asked.1 c.read_sector.ensures.shown
