-- So many fields are in order, none of them is the end, and what they say was found.
use Rattle.std.proofs.Common.{ℕ, ◌-◌, length}
use Rattle.label.proofs.Steps.{Walked}
use Rattle.label.proofs.gather.Given as goal

abbrev pub invariant-loop-field : goal.invariant-loop-field
invariant-loop-field l = (n : ℕ) × Walked l.page n l.at l.found

abbrev pub decreases-loop-field : goal.decreases-loop-field
decreases-loop-field l = length l.page - l.at
