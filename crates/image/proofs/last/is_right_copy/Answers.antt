-- The source is the first live position; where there is none, no copy is right.
use Rattle.std.proofs.Common.{arith}
use Rattle.image.proofs.Sevens.{no_source, right_tells}
use Rattle.image.proofs.last.is_right_copy.Goals as goal

pub returns-then-turn-ge1-clause-tells : goal.returns-then-turn-ge1-clause-tells
returns-then-turn-ge1-clause-tells g c =
    right_tells (g.C.Chip.flash c.args.chip.now) c.args.layout.sizes c.args.layout.cleared c.args.at.0 c.in-Some.source c.covers.result (omega arith) (rw c.in-Some.is at c.requires.source) c.covers.ensures.tells

pub returns-in-None-clause-tells : goal.returns-in-None-clause-tells
returns-in-None-clause-tells g c =
    no_source (g.C.Chip.flash c.args.chip.now) c.args.layout.sizes c.args.layout.cleared c.args.at.0 (rw c.in-None.is at c.requires.source)
