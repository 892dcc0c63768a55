-- Those so far are counted.
use Rattle.std.proofs.Common.{◌≡◌, ◌≤◌, false, get_or}
use Rattle.ring.specs.Searches.{count}
use Rattle.image.proofs.seven.how_many.Given as goal

abbrev pub invariant-loop-live : goal.invariant-loop-live
invariant-loop-live l = (l.n ≡ count (λ j. get_or l.live-items j false) l.live-index) × (l.n ≤ l.live-index)
