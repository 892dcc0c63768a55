-- A batch without puts, or the last slot by its plan.
use Rattle.std.proofs.Common.{arith}
use Rattle.std.proofs.lemmas.Result.{err_from_is_err_and}
use Rattle.engine.specs.Calls as calls
use Rattle.engine.proofs.Serving.{end_done, end_cut}
use Rattle.engine.proofs.Engine.end_batch.Goals as goal
use Rattle.engine.proofs.Engine.end_batch.Goals.{then-batch-gt0+in_ok-end, else-batch-gt0}

pub returns-in_err-started : goal.returns-in_err-started
returns-in_err-started g c =
    let out = err_from_is_err_and c.from_residual.result c.from_residual.ensures.1 in
    let stopped = c.in_err-started.ensures in
    λ plan does. rw (out.1, out.2) (calls.stopped stopped.0 stopped.1)

pub returns-in_err-batch : goal.returns-in_err-batch
returns-in_err-batch g c =
    let out = err_from_is_err_and c.from_residual-in_err-batch.result c.from_residual-in_err-batch.ensures.1 in
    let other = c.in_err-batch.ensures in
    λ plan does. rw (out.1, out.2) (calls.other {e = c.in_err-batch.field-0.0} other.0 c.in_ok-started.ensures other.1)

pub returns-in_err-end : goal.returns-in_err-end
returns-in_err-end g c =
    let s = g.C.Chip.flash c.args.self.now.chip in
    let t = g.C.Chip.flash c.end.new.arg2 in
    let out = err_from_is_err_and c.from_residual-in_err-end.result c.from_residual-in_err-end.ensures.1 in
    λ plan does.
    rw (out.1, out.2)
    (end_cut {plan = plan} {s = s} {t = t} c.in_ok-started.ensures c.in_ok-batch.ensures (omega arith) c.saturating_sub.ensures (does _ _ _ _ _ c.in_err-end.ensures))

pub returns : goal.returns
returns g c =
    λ plan does.
    elim c.if-batch-gt0.branch [
      | then-batch-gt0+in_ok-end w ↦ rw (c.idle.ensures, w.self-is) (end_done {plan = plan} c.in_ok-started.ensures c.in_ok-batch.ensures (omega (arith, w.if-batch-gt0.true)) w.saturating_sub.ensures (does _ _ _ _ _ w.in_ok-end.ensures))
      | else-batch-gt0 w ↦ rw (c.idle.ensures, w.self-is) (calls.empty c.in_ok-started.ensures c.in_ok-batch.ensures (omega (arith, w.if-batch-gt0.false)))
    ]
