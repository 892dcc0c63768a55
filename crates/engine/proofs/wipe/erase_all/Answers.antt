use Rattle.std.proofs.Common.{arith}
use Rattle.std.proofs.lemmas.Result.{err_from_is_err_and}
use Rattle.engine.proofs.Erasing.{erase_none, erase_more, erase_stops}
use Rattle.engine.proofs.wipe.erase_all.Goals as goal

pub loop-b-init : goal.loop-b-init
loop-b-init g c = erase_none _

pub returns-in_err-erase : goal.returns-in_err-erase
returns-in_err-erase g c =
    let out = err_from_is_err_and c.from_residual.result c.from_residual.ensures.1 in
    rw (out.1, out.2) (erase_stops c.loop-b.b _ (omega arith) c.loop-b.invariant c.in_err-erase.ensures)

pub loop-b-preserved : goal.loop-b-preserved
loop-b-preserved g c = erase_more c.loop-b.invariant c.in_ok-erase.ensures
