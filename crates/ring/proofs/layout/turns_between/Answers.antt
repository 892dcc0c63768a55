-- Whether the block comes before the ring's end or after it, it comes at that turn.
use Rattle.std.proofs.Common.{refl, inl, inr, arith}
use Rattle.ring.proofs.Turning.{comes}
use Rattle.ring.proofs.layout.turns_between.Goals as goal

pub returns-then-to-from : goal.returns-then-to-from
returns-then-to-from c = comes _ _ _ _ (omega arith) (omega arith) (inl (c.if-to-from.true, refl))

pub returns-else-to-from : goal.returns-else-to-from
returns-else-to-from c = comes _ _ _ _ (omega arith) (omega arith) (inr (c.if-to-from.false, refl))
