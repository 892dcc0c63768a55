-- A read, by what its own contract says.
use Rattle.std.proofs.Common.{Ok, Err, rules}
use Rattle.std.proofs.lemmas.Result.{err_from_is_err_and}
use Rattle.runs.proofs.Serving.{read_is}
use Rattle.runs.proofs.run.show.Goals as goal

pub returns-in_err-found-clause-calls : goal.returns-in_err-found-clause-calls
returns-in_err-found-clause-calls g c =
    let out = err_from_is_err_and c.from_residual.result c.from_residual.ensures.1 in
    let read = c.in_err-found.ensures in
    rw (out.1, out.2, read.keeps.0, read.keeps.1) (read_is (Err _) read.reads (search rules))

pub returns-clause-calls : goal.returns-clause-calls
returns-clause-calls g c =
    let read = c.in_ok-found.ensures in
    rw (c.copy_from_slice.ensures.after, read.keeps.0, read.keeps.1) (read_is (Ok _) read.reads (search rules))
