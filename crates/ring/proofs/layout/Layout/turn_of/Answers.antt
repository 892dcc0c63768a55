-- A block that would come behind the last turn is the one that is being erased.
use Rattle.std.proofs.Common.{arith, rules}
use Rattle.ring.proofs.Turning.{comes_late}
use Rattle.ring.proofs.layout.Layout.turn_of.Goals as goal

pub returns-else-turn-turns : goal.returns-else-turn-turns
returns-else-turn-turns c = comes_late c.args.self.now.sizes c.args.self.now.cleared c.args.block.0 c.turns_between-turn.result (search rules) (search rules) (search rules) (omega arith)
