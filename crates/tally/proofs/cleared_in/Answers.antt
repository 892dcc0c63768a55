-- The eight bits of a byte, by the test at all bytes.
use Rattle.std.proofs.Common.{arith}
use Rattle.tally.proofs.Bytes.{front_is, jumbled_is}
use Rattle.tally.proofs.cleared_in.Goals as goal

pub returns-then-front-trailing_ones-eq8 : goal.returns-then-front-trailing_ones-eq8
returns-then-front-trailing_ones-eq8 c = front_is c.args.byte (omega arith) (omega arith)

pub returns-else-front-trailing_ones-eq8 : goal.returns-else-front-trailing_ones-eq8
returns-else-front-trailing_ones-eq8 c = jumbled_is c.args.byte (omega arith) (λ e. c.if-front-trailing_ones-eq8.false (omega arith))
