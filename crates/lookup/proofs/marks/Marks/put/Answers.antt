-- One bit more is set, and the others stay.
use Rattle.lookup.proofs.Words.{put_marks}
use Rattle.lookup.proofs.marks.Marks.put.Goals as goal

pub returns : goal.returns
returns c j = rw c.from.ensures (put_marks c.args.self.now.words c.args.number j c.requires c.args.self.now.whole)
