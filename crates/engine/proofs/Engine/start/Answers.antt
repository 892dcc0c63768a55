-- The examination on the chip with power, then the repair.
use Rattle.std.proofs.lemmas.Result.{err_from_is_err_and}
use Rattle.image.proofs.Bounds.{bounded}
use Rattle.engine.proofs.Starting.{start_flawed, start_cut, start_done}
use Rattle.engine.proofs.Engine.start.Goals as goal

pub returns-in_err-found : goal.returns-in_err-found
returns-in_err-found g c =
    let out = err_from_is_err_and c.from_residual.result c.from_residual.ensures.1 in
    rw (out.1, out.2)
    (start_flawed c.power_on.ensures c.examine.ensures.keeps _ c.in_err-found.ensures.examined)

pub returns-in_err-log : goal.returns-in_err-log
returns-in_err-log g c =
    let s = g.C.Chip.flash c.args.self.now.chip in
    let t = g.C.Chip.flash c.repair.new.chip in
    let found = c.in_ok-found.ensures in
    let out = err_from_is_err_and c.from_residual-in_err-log.result c.from_residual-in_err-log.ensures.1 in
    rw (out.1, out.2)
    (start_cut {s = s} c.power_on.ensures c.examine.ensures.keeps {t = t} found.examined (bounded _ _ found.stands) _ c.in_err-log.ensures)

pub returns : goal.returns
returns g c =
    let found = c.in_ok-found.ensures in
    rw c.idle.ensures (start_done c.power_on.ensures c.examine.ensures.keeps found.examined (bounded _ _ found.stands) _ c.in_ok-log.ensures)
