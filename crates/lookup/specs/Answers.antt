-- What the look-ups answer.
use Rattle.std.specs.Prelude.{◌≡◌, ℕ, ◌<◌, Bool, false, List, is_some, Some, None, Option, slice_index_or}
use Rattle.chip.specs.Flash.{Flash}
use Rattle.label.specs.declared.Sizes.{Sizes}
use Rattle.ring.specs.declared.Slot.{Slot}
use Rattle.ring.specs.Searches.{count}
use Rattle.ring.specs.Places.{slot_at}
use Rattle.ring.specs.Logs.{live, is_live, log, log_of}

-- the slot that is live for the sector x, if there is one
abbrev pub Found : Flash → Sizes → ℕ → ℕ → Option Slot → Type 0
Found s z c x None = live x (log s z c) ≡ None
Found s z c x (Some t) = (i : ℕ) × (live x (log s z c) ≡ Some i) × (t.0 ≡ slot_at z c i)

-- which of the first seven positions are live
abbrev pub LiveFront : Flash → Sizes → ℕ → List Bool → Type 0
LiveFront s z c r = (j : ℕ) → j < 7 → slice_index_or r j false ≡ is_live (log s z c) j

-- how many sectors are written: they have a live slot
abbrev pub written : Flash → Sizes → ℕ → ℕ
written s z c = count (λ x. is_some (live x (log s z c))) z.sectors

-- the same of the first m slots, claimed or not: the slot that is live for the sector x among them, if there is one
abbrev pub FoundAmong : Flash → Sizes → ℕ → ℕ → ℕ → Option Slot → Type 0
FoundAmong s z c m x None = live x (log_of s z c m) ≡ None
FoundAmong s z c m x (Some t) = (i : ℕ) × (live x (log_of s z c m) ≡ Some i) × (t.0 ≡ slot_at z c i)

-- which of the first seven positions are live among them
abbrev pub LiveFrontAmong : Flash → Sizes → ℕ → ℕ → List Bool → Type 0
LiveFrontAmong s z c m r = (j : ℕ) → j < 7 → slice_index_or r j false ≡ is_live (log_of s z c m) j

-- how many sectors have a live slot among them
abbrev pub written_among : Flash → Sizes → ℕ → ℕ → ℕ
written_among s z c m = count (λ x. is_some (live x (log_of s z c m))) z.sectors
