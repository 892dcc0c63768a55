-- A byte that is out of order by itself, one that is so by what comes before it, and one in order.
use Rattle.std.proofs.Common.{inl, inr, arith}
use Rattle.tally.proofs.Scanning.{scanned_more, out_jumbled, out_late}
use Rattle.tally.proofs.add_byte.Goals as goal
use Rattle.tally.proofs.add_byte.Goals.{else-front-gt0-via-then-front-gt0+else-cleared-from, else-front-gt0-via-else-front-gt0}

pub returns-in_default : goal.returns-in_default
returns-in_default c = record {
  most = tt;
  advances = λ s k h is inside. out_jumbled s _ _ h _ is k inside c.in_default.ensures;
}

pub returns-then-cleared-from : goal.returns-then-cleared-from
returns-then-cleared-from c = record {
  most = tt;
  advances = λ s k h is inside. out_late s _ _ h _ is k inside _ c.in-Some.ensures (omega arith) (omega arith);
}

pub returns : goal.returns
returns c = record {
  most = omega (arith, c.in-Some.ensures.most);
  advances = λ s k h is inside.
      scanned_more s _ _ h _ is _ c.in-Some.ensures
      (elim c.else-front-gt0.branch [ else-front-gt0-via-then-front-gt0+else-cleared-from w ↦ inr (omega (arith, w.if-cleared-from.false, w.from.ensures, h.most)) | else-front-gt0-via-else-front-gt0 w ↦ inl (omega (arith, w.if-front-gt0.false)) ]);
}
