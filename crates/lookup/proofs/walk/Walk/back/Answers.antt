-- The slot before is described at its place in the directory.
use Rattle.std.proofs.Common.{arith}
use Rattle.lookup.proofs.Stepping.{stepped}
use Rattle.lookup.proofs.walk.Walk.back.Goals as goal

pub returns-clause-steps : goal.returns-clause-steps
returns-clause-steps g c =
    stepped (g.C.Chip.flash c.args.chip.now) c.args.log c.args.self.now c.next_directory-descriptors.result c.index.result c.group_counts-counts.result c.requires.walks.bound c.requires.walks.inside c.requires.walks.group (omega arith) c.next_directory-descriptors.ensures.describes c.index.ensures.place c.group_counts-counts.ensures
