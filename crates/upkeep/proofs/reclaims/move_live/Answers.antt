-- A live position is copied, and any other is left.
use Rattle.std.proofs.Common.{◌≡◌, ℕ, true, false, subst, arith}
use Rattle.std.proofs.lemmas.Result.{err_from_is_err_and}
use Rattle.upkeep.specs.Reclaims as reclaims
use Rattle.upkeep.specs.Reclaims.{Moves}
use Rattle.upkeep.proofs.Moving.{moves_few, moves_ready, front_is}
use Rattle.upkeep.proofs.reclaims.move_live.Goals as goal
use Rattle.upkeep.proofs.reclaims.move_live.Goals.{then-live+in_ok-copy_live, else-live}

pub loop-i-init : goal.loop-i-init
loop-i-init g c = reclaims.none

pub overflow_add-to : goal.overflow_add-to
overflow_add-to g c = omega (arith, c.requires.inside, c.requires.ready.shaped.ring_most, moves_few c.loop-i.invariant)

pub copy_live-requires : goal.copy_live-requires
copy_live-requires g c = moves_ready c.loop-i.invariant (rw c.live_front-front.ensures.keeps c.requires.ready)

pub returns-in_err-copy_live : goal.returns-in_err-copy_live
returns-in_err-copy_live g c =
    let flash = g.C.Chip.flash in
    let log = c.args.log in
    let out = err_from_is_err_and c.from_residual.result c.from_residual.ensures.1 in
    let live = front_is (flash c.args.chip.now) log c.live_front-front.result c.live_front-front.ensures.among c.loop-i.i c.loop-i-test.true in
    rw (out.1, out.2) (reclaims.copy_cut {m = flash c.loop-i.chip} {t = flash c.copy_live.new.chip} (rw c.live_front-front.ensures.keeps at c.loop-i.invariant) c.loop-i-test.true (live true c.if-live.true) c.in_err-copy_live.ensures)

pub overflow_add-copies : goal.overflow_add-copies
overflow_add-copies g c = omega (arith, moves_few c.loop-i.invariant)

pub loop-i-preserved : goal.loop-i-preserved
loop-i-preserved g c =
    let flash = g.C.Chip.flash in
    let log = c.args.log in
    let kept = c.live_front-front.ensures.keeps in
    let lt = c.loop-i-test.true in
    let live = front_is (flash c.args.chip.now) log c.live_front-front.result c.live_front-front.ensures.among c.loop-i.i lt in
    elim c.if-live.branch [
      | then-live+in_ok-copy_live w ↦ rw (w.copies-is, w.chip-is, kept) (reclaims.copy {m = flash c.loop-i.chip} {n = flash w.copy_live.new.chip} (rw kept at c.loop-i.invariant) lt (live true w.if-live.true) w.in_ok-copy_live.ensures)
      | else-live w ↦ rw (w.copies-is, w.chip-is, kept) (reclaims.skip {m = flash c.loop-i.chip} (rw kept at c.loop-i.invariant) lt (live false w.if-live.false))
    ]

pub returns : goal.returns
returns g c =
    let flash = g.C.Chip.flash in
    let log = c.args.log in
    let seven : c.loop-i.i ≡ 7 = omega (arith, c.loop-i-test.false, c.loop-i.auto.i-end) in
    subst (λ (i : ℕ). Moves (flash c.args.chip.now) log.layout.sizes log.layout.cleared log.claimed i c.loop-i.copies (flash c.loop-i.chip)) seven (rw c.live_front-front.ensures.keeps at c.loop-i.invariant)
