-- Words of 0 have no bit.
use Rattle.lookup.proofs.Words.{no_marks}
use Rattle.lookup.proofs.marks.Marks.none.Goals as goal

pub returns : goal.returns
returns c j = no_marks 448 j
