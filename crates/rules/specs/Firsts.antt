-- The first slot of a block, or of the ring, that has a property.
use Rattle.std.specs.Prelude.{◌≡◌, ℕ, ◌+◌, ◌*◌, ◌<◌, List, Some, None, Option, slice_index_or}
use Rattle.ring.specs.declared.Slot.{Slot}
use Rattle.ring.specs.declared.RingBlock.{RingBlock}
use Rattle.ring.specs.declared.directory.Descriptor.{Descriptor}
use Rattle.ring.specs.Directories.{none}
use Rattle.ring.specs.Searches.{First}

-- the first slot of the ring that has a property, or none
abbrev pub FirstSlot : (ℕ → Type 0) → Option Slot → Type 0
FirstSlot P None = First P None
FirstSlot P (Some t) = First P (Some t.0)

-- the first block of the ring that has a property, or none
abbrev pub FirstBlock : (ℕ → Type 0) → Option RingBlock → Type 0
FirstBlock P None = First P None
FirstBlock P (Some b) = First P (Some b.0)

-- the first of seven that has a property, or none
abbrev pub FirstOfSeven : (ℕ → Type 0) → Option ℕ → Type 0
FirstOfSeven P None = (k : ℕ) → k < 7 → P k → ⊥
FirstOfSeven P (Some j) = (j < 7) × P j × ((k : ℕ) → k < j → P k → ⊥)

-- the first slot of a block that is not claimed
abbrev pub FirstUnclaimed : List Descriptor → Option ℕ → Type 0
FirstUnclaimed slots = FirstOfSeven (λ j. (slice_index_or slots j none).flags ≡ 255)

-- the first slot of a turn of the log at whose position a property holds
abbrev pub FirstAtTurn : (ℕ → Type 0) → ℕ → Option ℕ → Type 0
FirstAtTurn P turn = FirstOfSeven (λ j. P (7 * turn + j))
