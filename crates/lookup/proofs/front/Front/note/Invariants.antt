-- The slot is noted for the positions so far.
use Rattle.std.proofs.Common.{◌≡◌, ℕ, ◌<◌, ◌≤◌, length}
use Rattle.lookup.specs.Fronts.{place_at}
use Rattle.lookup.specs.Walks.{hits, or_here}
use Rattle.lookup.proofs.front.Front.note.Given as goal

abbrev pub invariant-loop-place : goal.invariant-loop-place
invariant-loop-place l =
    let old = l.initial.place-items in
    record {
      whole : length l.place-items ≡ 7;
      noted : (k : ℕ) → k < l.place-index → ((place_at l.place-items k).sector ≡ (place_at old k).sector) × ((place_at l.place-items k).latest ≡ or_here (place_at old k).latest (hits l.visit (place_at old k).sector.0) l.visit.position);
      rest : (k : ℕ) → l.place-index ≤ k → place_at l.place-items k ≡ place_at old k;
    }
