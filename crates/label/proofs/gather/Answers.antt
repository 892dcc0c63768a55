-- One field more in order, and what it says found; or one that repeats another.
use Rattle.std.proofs.Common.{◌+◌, sym, subst}
use Rattle.std.proofs.lemmas.Result.{err_from_is_err_and}
use Rattle.label.proofs.Steps.{Walked, here, again, walk}
use Rattle.label.proofs.gather.Goals as goal

pub returns-in_err-take : goal.returns-in_err-take
returns-in_err-take c =
    let page = c.args.page.now in
    let inv = c.loop-field.invariant in
    let field = c.in_ok-field.field in
    let old = c.loop-field.found in
    let i = here page inv.0 c.loop-field.at old field inv.1 c.in_ok-field.ensures.1 in
    let a = again page inv.0 c.loop-field.at c.in_err-take.field-0.0 old c.take.new.self field i inv.1.says inv.1.reached c.in_err-take.ensures in
    let p = err_from_is_err_and c.from_residual-in_err-take.result c.from_residual-in_err-take.ensures.1 in
    rw (p.1, p.2) record { count = inv.0; before = inv.1.before; illegal = a.0; place = a.1 }

pub loop-field-preserved : goal.loop-field-preserved
loop-field-preserved c =
    let page = c.args.page.now in
    let inv = c.loop-field.invariant in
    let read = c.in_ok-field.ensures in
    let w = walk page inv.0 c.loop-field.at c.loop-field.found c.take.new.self c.in_ok-field.field inv.1 read.0 read.1 c.in_default.not-End c.in_ok-take.ensures in
    (inv.0 + 1, subst (λ at. Walked page (inv.0 + 1) at c.take.new.self) (sym c.end-at.ensures) w)
