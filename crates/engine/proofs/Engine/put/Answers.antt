-- The checks, each by its refusal; then the steps of a put.
use Rattle.std.proofs.Common.{rules}
use Rattle.std.proofs.lemmas.Result.{err_from_is_err_and}
use Rattle.engine.specs.Calls as calls
use Rattle.engine.proofs.Serving.{puttable, put_refused, put_cut}
use Rattle.engine.proofs.Engine.put.Goals as goal

pub returns-in_err-started : goal.returns-in_err-started
returns-in_err-started g c =
    let out = err_from_is_err_and c.from_residual.result c.from_residual.ensures.1 in
    let stopped = c.in_err-started.ensures in
    rw (out.1, out.2) (calls.stopped stopped.0 stopped.1)

pub returns-in_err-batch : goal.returns-in_err-batch
returns-in_err-batch g c =
    let out = err_from_is_err_and c.from_residual-in_err-batch.result c.from_residual-in_err-batch.ensures.1 in
    let other = c.in_err-batch.ensures in
    rw (out.1, out.2) (calls.other {e = c.in_err-batch.field-0.0} other.0 c.in_ok-started.ensures other.1)

pub returns-in_err-whole : goal.returns-in_err-whole
returns-in_err-whole g c =
    let out = err_from_is_err_and c.from_residual-in_err-whole.result c.from_residual-in_err-whole.ensures.1 in
    rw (out.1, out.2) (put_refused {e = c.in_err-whole.field-0.0} c.in_ok-started.ensures c.in_ok-batch.ensures c.in_err-whole.ensures)

pub returns-in_err-put_slot : goal.returns-in_err-put_slot
returns-in_err-put_slot g c =
    let out = err_from_is_err_and c.from_residual-in_err-put_slot.result c.from_residual-in_err-put_slot.ensures.1 in
    rw (out.1, out.2)
    (put_cut (puttable c.in_ok-started.ensures c.in_ok-batch.ensures (search rules) c.in_ok-whole.ensures.1) (rw c.in_ok-whole.ensures.0 at c.in_err-put_slot.ensures))

pub returns : goal.returns
returns g c =
    calls.done (puttable c.in_ok-started.ensures c.in_ok-batch.ensures (search rules) c.in_ok-whole.ensures.1) (rw c.in_ok-whole.ensures.0 at c.in_ok-put_slot.ensures)
