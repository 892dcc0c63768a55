-- A round more, or the answer.
use Rattle.std.proofs.Common.{arith}
use Rattle.std.proofs.lemmas.Result.{err_from_is_err_and}
use Rattle.upkeep.proofs.Rooming.{goes_none, goes_made, goes_spent, goes_cut, goes_round}
use Rattle.upkeep.proofs.room.make_room.Goals as goal

pub loop-log-init : goal.loop-log-init
loop-log-init g c = goes_none _ _ c.args.log c.requires.0 c.requires.1

pub returns-then-log-from : goal.returns-then-log-from
returns-then-log-from g c =
    let inv = c.loop-log.invariant in
    record {
      rooms = goes_spent c.args.slots _ c.args.log _ c.loop-log.log inv (omega (arith, c.unclaimed.ensures, c.loop-log-test.true)) (omega (arith, c.from.ensures, c.if-log-from.true));
      stands = (inv.stands, inv.idle);
    }

pub returns-in_err-log : goal.returns-in_err-log
returns-in_err-log g c =
    let out = err_from_is_err_and c.from_residual.result c.from_residual.ensures.1 in
    rw (out.1, out.2)
    record {
      rooms = goes_cut c.args.slots _ c.args.log _ c.loop-log.log c.loop-log.invariant (omega (arith, c.unclaimed.ensures, c.loop-log-test.true)) (omega (arith, c.from.ensures, c.if-log-from.false)) (g.C.Chip.flash c.reclaim.new.chip) c.in_err-log.ensures.reclaims;
      stands = tt;
    }

pub loop-log-preserved : goal.loop-log-preserved
loop-log-preserved g c =
    let done = c.in_ok-log.ensures in
    goes_round c.args.slots _ c.args.log _ c.loop-log.log c.loop-log.invariant (omega (arith, c.unclaimed.ensures, c.loop-log-test.true)) (omega (arith, c.from.ensures, c.if-log-from.false)) (g.C.Chip.flash c.reclaim.new.chip) c.in_ok-log.log done.reclaims done.stands

pub returns : goal.returns
returns g c =
    let inv = c.loop-log.invariant in
    record {
      rooms = goes_made c.args.slots _ c.args.log _ c.loop-log.log inv (omega (arith, c.unclaimed.ensures, c.loop-log-test.false));
      stands = (inv.stands, inv.idle);
    }
