-- After k turns the first k bytes of the range are masked.
use Rattle.rows.specs.Rows.{Masked}
use Rattle.rows.proofs.clear_bits.Given as goal

abbrev pub invariant-loop-k : goal.invariant-loop-k
invariant-loop-k l = Masked l.initial.row l.base l.k l.given l.mask l.row
