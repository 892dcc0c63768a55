use Rattle.std.proofs.lemmas.Result.{err_from_is_err_and}
use Rattle.chip.specs.Plans as plans
use Rattle.chip.proofs.Performed.{stops, tries_then, tries_less}
use Rattle.engine.proofs.wipe.write.Goals as goal

pub returns-in_err-erase_all-clause-tries : goal.returns-in_err-erase_all-clause-tries
returns-in_err-erase_all-clause-tries g c =
    let out = err_from_is_err_and c.from_residual.result c.from_residual.ensures.1 in
    rw (out.1, out.2) (tries_less _ c.in_err-erase_all.ensures)

pub returns-in_err-program-clause-tries : goal.returns-in_err-program-clause-tries
returns-in_err-program-clause-tries g c =
    tries_then c.in_ok-erase_all.ensures
    (stops _ c.in_err-program.ensures c.from_residual-in_err-program.ensures.1)

pub returns-clause-tries : goal.returns-clause-tries
returns-clause-tries g c = tries_then c.in_ok-erase_all.ensures (plans.next c.in_ok-program.ensures plans.whole)
