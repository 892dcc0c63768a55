-- Each of the seven descriptors is read from its own four bytes.
use Rattle.std.proofs.Common.{refl}
use Rattle.ring.proofs.Directories.{seven}
use Rattle.ring.proofs.directory.describe_all.Goals as goal

pub returns : goal.returns
returns c = record {
  seven = refl;
  flags = seven _ c.describe.ensures.flags c.describe-2.ensures.flags c.describe-3.ensures.flags c.describe-4.ensures.flags c.describe-5.ensures.flags c.describe-6.ensures.flags c.describe-7.ensures.flags;
  sector = seven _ c.describe.ensures.sector c.describe-2.ensures.sector c.describe-3.ensures.sector c.describe-4.ensures.sector c.describe-5.ensures.sector c.describe-6.ensures.sector c.describe-7.ensures.sector;
}
