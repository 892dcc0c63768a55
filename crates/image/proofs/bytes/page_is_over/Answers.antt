-- A page is over where all its chunks are.
use Rattle.std.proofs.Common.{◌∙◌, arith}
use Rattle.image.proofs.Chunks.{above_more, above_part}
use Rattle.image.proofs.bytes.page_is_over.Goals as goal

pub returns-then-not-range_is_over : goal.returns-then-not-range_is_over
returns-then-not-range_is_over g c = record {
  tells = λ a. c.if-not-range_is_over.ensures.tells (above_part _ _ _ _ _ _ c.loop-i.i c.loop-i.invariant.0 (omega arith) a);
  keeps = c.range_is_over.ensures.keeps ∙ c.loop-i.invariant.0;
}

pub loop-i-preserved : goal.loop-i-preserved
loop-i-preserved g c = (
  c.range_is_over.ensures.keeps ∙ c.loop-i.invariant.0,
  above_more _ _ _ _ _ _ c.loop-i.i c.loop-i.invariant.0 c.loop-i.invariant.1 c.if-not-range_is_over.ensures.tells,
)
