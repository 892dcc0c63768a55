-- The positions so far are told.
use Rattle.std.proofs.Common.{◌≡◌, ℕ, ◌<◌, false, length, get_or}
use Rattle.ring.specs.Logs.{points}
use Rattle.lookup.specs.Fronts.{place_at}
use Rattle.lookup.proofs.front.Front.own_places.Given as goal

abbrev pub invariant-loop-j : goal.invariant-loop-j
invariant-loop-j l = (length l.own ≡ 7) × ((k : ℕ) → k < l.j → get_or l.own k false ≡ points (place_at l.self.places k).latest k)
