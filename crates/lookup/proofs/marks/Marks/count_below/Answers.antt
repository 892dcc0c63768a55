-- One number more is counted if it is in the set.
use Rattle.std.proofs.Common.{ℕ, cond, sym, ap, ◌∙◌, arith}
use Rattle.ring.proofs.Searching.{count_none, count_more}
use Rattle.lookup.specs.Bits.{marked}
use Rattle.lookup.proofs.marks.Marks.count_below.Goals as goal
use Rattle.lookup.proofs.marks.Marks.count_below.Goals.{then-has, else-has}

pub loop-number-init : goal.loop-number-init
loop-number-init c = (omega arith, sym (count_none (marked c.args.self.now.words)))

pub loop-number-preserved : goal.loop-number-preserved
loop-number-preserved c =
    let more = count_more (marked c.args.self.now.words) c.loop-number.number in
    let inv = c.loop-number.invariant in
    elim c.if-has.branch [ then-has w ↦ (omega (arith, w.found-is), omega (arith, w.found-is, inv.1, more, ap (λ t. cond {A = ℕ} t 1 0) (sym c.has.ensures ∙ w.if-has.true))) | else-has w ↦ (omega (arith, w.found-is), omega (arith, w.found-is, inv.1, more, ap (λ t. cond {A = ℕ} t 1 0) (sym c.has.ensures ∙ w.if-has.false))) ]
