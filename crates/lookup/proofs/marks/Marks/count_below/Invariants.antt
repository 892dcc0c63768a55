-- So many numbers are in the set so far.
use Rattle.std.proofs.Common.{◌≡◌, ◌≤◌}
use Rattle.ring.specs.Searches.{count}
use Rattle.lookup.specs.Bits.{marked}
use Rattle.lookup.proofs.marks.Marks.count_below.Given as goal

abbrev pub invariant-loop-number : goal.invariant-loop-number
invariant-loop-number l = (l.found ≤ l.number) × (l.found ≡ count (marked l.self.words) l.number)
