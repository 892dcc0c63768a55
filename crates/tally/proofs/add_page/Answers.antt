-- One byte more is counted in, or is the first out of order.
use Rattle.std.proofs.Common.{◌≡◌, ◌+◌, length, sym, subst, arith}
use Rattle.std.proofs.lemmas.Result.{err_from_is_err_and}
use Rattle.tally.specs.Counts.{Scanned}
use Rattle.tally.proofs.add_page.Goals as goal

pub returns-in_err-cleared : goal.returns-in_err-cleared
returns-in_err-cleared c s k h holds inside =
    let out = err_from_is_err_and c.from_residual.result c.from_residual.ensures.1 in
    let advances = c.in_err-cleared.ensures.advances in
    rw (out.1, out.2) (advances s k (c.loop-i.invariant.1 s h holds) (sym (holds _ (omega arith))) (omega arith))

pub loop-i-preserved : goal.loop-i-preserved
loop-i-preserved c =
    let i = c.loop-i.i in
    let first = c.args.first in
    let joined : first + i + 1 ≡ first + (i + 1) = omega arith in
    let advances = c.in_ok-cleared.ensures.advances in (
      omega (arith, c.in_ok-cleared.ensures.most),
      λ s h holds.
          subst (λ n. Scanned s n c.in_ok-cleared.cleared) joined
          (advances s (first + i + 1) (c.loop-i.invariant.1 s h holds) (sym (holds _ (omega arith))) (omega arith)),
    )

pub returns : goal.returns
returns c s k h holds inside =
    let e : c.loop-i.i ≡ length c.args.page.now = omega arith in
    subst (λ n. Scanned s (c.args.first + n) c.loop-i.cleared) e (c.loop-i.invariant.1 s h holds)
