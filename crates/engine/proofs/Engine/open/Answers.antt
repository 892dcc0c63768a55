-- The checks, each by its refusal; then what comes of making room.
use Rattle.std.proofs.lemmas.Result.{err_from_is_err_and}
use Rattle.engine.specs.Calls as calls
use Rattle.engine.proofs.Opening.{open_refused, open_cut, open_spent, open_done}
use Rattle.engine.proofs.Engine.open.Goals as goal

pub returns-in_err-started : goal.returns-in_err-started
returns-in_err-started g c =
    let out = err_from_is_err_and c.from_residual.result c.from_residual.ensures.1 in
    let stopped = c.in_err-started.ensures in
    rw (out.1, out.2) (calls.stopped stopped.0 stopped.1)

pub returns-in_err-check_open : goal.returns-in_err-check_open
returns-in_err-check_open g c =
    let s = g.C.Chip.flash c.args.self.now.chip in
    let out = err_from_is_err_and c.from_residual-in_err-check_open.result c.from_residual-in_err-check_open.ensures.1 in
    rw (out.1, out.2) (open_refused {s = s} c.in_ok-started.ensures c.in_err-check_open.ensures)

pub returns-in_err-log : goal.returns-in_err-log
returns-in_err-log g c =
    let s = g.C.Chip.flash c.args.self.now.chip in
    let t = g.C.Chip.flash c.make_room.new.chip in
    let out = err_from_is_err_and c.from_residual-in_err-log.result c.from_residual-in_err-log.ensures.1 in
    rw (out.1, out.2)
    (open_cut {s = s} c.in_ok-started.ensures c.in_ok-check_open.ensures {t = t} _ c.in_err-log.ensures.rooms)

pub returns-in-Made : goal.returns-in-Made
returns-in-Made g c =
    rw (c.open.ensures.ticket, c.open.ensures.opened)
    (open_done c.in_ok-started.ensures c.in_ok-check_open.ensures _ _ c.in-Made.is c.in_ok-log.ensures.rooms)

pub returns-in-Spent : goal.returns-in-Spent
returns-in-Spent g c =
    rw c.idle.ensures (open_spent c.in_ok-started.ensures c.in_ok-check_open.ensures _ _ c.in-Spent.is c.in_ok-log.ensures.rooms)
