-- The marked sectors are those with a live slot.
use Rattle.std.proofs.Common.{◌≡◌, ℕ, ◌+◌, ◌<◌, Bool, true, false, ◌||◌, List, is_some, Some, None, Option, sym, refl, ap, ◌∙◌}
use Rattle.chip.specs.Flash.{Flash}
use Rattle.ring.specs.declared.layout.Log.{Log}
use Rattle.ring.specs.Searches.{count}
use Rattle.ring.specs.Logs.{live}
use Rattle.ring.proofs.Searching.{count_same}
use Rattle.lookup.specs.declared.walk.Walk.{Walk}
use Rattle.lookup.specs.declared.walk.Visit.{Visit}
use Rattle.lookup.specs.Walks.{slots_of, Visited, hits, or_here}
use Rattle.lookup.specs.Bits.{marked, Added}
use Rattle.lookup.specs.Answers.{written_among}
use Rattle.lookup.proofs.Backward.{last_in, live_back, last_all}

-- the sectors for which a slot from p on counts
abbrev pub Marked : Flash → Log → ℕ → List ℕ → Type 0
Marked s log p ws = (x : ℕ) → x < log.layout.sizes.sectors → marked ws x ≡ is_some (last_in s log x p)

some_or_here : (o : Option ℕ) (hit : Bool) (p : ℕ) → is_some (or_here o hit p) ≡ (hit || is_some o)
some_or_here None true p = refl
some_or_here None false p = refl
some_or_here (Some i) true p = refl
some_or_here (Some i) false p = refl

pub marked_back : (s : Flash) (log : Log) (old new : List ℕ) (w u : Walk) (v : Visit) → v.position + 1 ≡ w.position → u.position ≡ v.position → Visited s log v → Added log.layout.sizes.sectors old v new → Marked s log w.position old → Marked s log u.position new
marked_back s log old new w u v next at h added before x lt =
    added x lt
    ∙ ap (λ t. hits v x || t) (before x lt)
    ∙ sym (ap is_some (live_back s log x w u v next at h) ∙ some_or_here (last_in s log x w.position) (hits v x) v.position)

pub written_is : (s : Flash) (log : Log) (p : ℕ) (ws : List ℕ) → p ≡ 0 → Marked s log p ws → count (marked ws) log.layout.sizes.sectors ≡ written_among s log.layout.sizes log.layout.cleared log.claimed
written_is s log p ws end marks =
    count_same (marked ws) (λ x. is_some (live x (slots_of s log))) log.layout.sizes.sectors
    (λ x lt. marks x lt ∙ ap is_some (last_all s log.layout.sizes log.layout.cleared log.claimed x p end))
