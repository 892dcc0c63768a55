-- What format does: which sizes it takes, its steps in their order, and the image that it leaves.
use Rattle.std.specs.Prelude.{◌≡◌, ℕ, zero, suc, ◌-◌, ◌<◌, ◌≤◌, true, ◌⊎◌, List, [], ◌∷◌, ◌++◌, length, Some, None, Ok, Err, Option, Result, slice_index}
use Rattle.chip.specs.declared.Home.{Home}
use Rattle.chip.specs.declared.Fault.TheVariants as fault
use Rattle.chip.specs.Flash.{Flash, awake}
use Rattle.chip.specs.Steps.{Step, program, erase, Frame}
use Rattle.chip.specs.Plans.{Performs}
use Rattle.label.specs.declared.Sizes.{Sizes}
use Rattle.label.specs.Labels.{Sized}
use Rattle.label.specs.Written.{label_bytes}
use Rattle.engine.specs.declared.refusal.Refusal.{Refusal}
use Rattle.engine.specs.Refusals.{numbers}

-- the sizes of a volume on a chip of so many blocks: what label and tally leave is the ring
abbrev pub sizes_on : ℕ → ℕ → ℕ → Sizes
sizes_on blocks sectors tally = record { ring = blocks - 1 - tally; sectors = sectors; tally = tally }

-- what format takes: sizes that fit the chip, and a name of at most 32 bytes
pub record Takes (blocks sectors tally : ℕ) (name : List ℕ) : Type 0 where
  pub sized : Sized blocks (sizes_on blocks sectors tally)
  pub short : length name ≤ 32

-- the label of an admitted format
pub record Admitted (blocks sectors tally : ℕ) (name label : List ℕ) : Type 0 where
  pub takes : Takes blocks sectors tally name
  pub bytes : label ≡ label_bytes (sizes_on blocks sectors tally) name
  pub some : 0 < length label
  pub most : length label ≤ 58

abbrev pub Admits : ℕ → ℕ → ℕ → List ℕ → Option (List ℕ) → Type 0
Admits blocks sectors tally name None = Takes blocks sectors tally name → ⊥
Admits blocks sectors tally name (Some label) = Admitted blocks sectors tally name label

-- erases of the first n blocks, from block 0 up
unfoldable pub erasing : ℕ → List Step
erasing zero = []
erasing (suc n) = erasing n ++ (erase n ∷ [])

-- the steps of a format: all blocks are erased, then the label is written by one program
abbrev pub formatting : ℕ → List ℕ → List Step
formatting n label = erasing n ++ (program 0 0 (length label) label ∷ [])

-- the defined image: the label at the front, and FF hex in every other byte
pub record Formatted (label : List ℕ) (s t : Flash) : Type 0 where
  pub frame : Frame s t
  pub on : t.on ≡ true
  pub front : (o : ℕ) → o < length label → t.byte 0 o ≡ slice_index label o
  pub behind : (o : ℕ) → length label ≤ o → o < 4096 → t.byte 0 o ≡ 255
  pub others : (b o : ℕ) → 0 < b → b < s.blocks → o < 4096 → t.byte b o ≡ 255

-- an accepted format
pub record Accepts (sectors tally : ℕ) (name : List ℕ) (s t : Flash) : Type 0 where
  pub takes : Takes s.blocks sectors tally name
  pub performs : Performs (formatting s.blocks (label_bytes (sizes_on s.blocks sectors tally) name)) (awake s) (Ok tt) t
  pub image : Formatted (label_bytes (sizes_on s.blocks sectors tally) name) s t

-- a format that was cut: the steps before were finished, the one at the block with the home h was not
pub record Cuts (sectors tally : ℕ) (name : List ℕ) (s : Flash) (h : Home) (t : Flash) : Type 0 where
  pub takes : Takes s.blocks sectors tally name
  pub performs : Performs (formatting s.blocks (label_bytes (sizes_on s.blocks sectors tally) name)) (awake s) (Err (fault.Cut h)) t

-- what a format answers, and what it leaves: it is accepted, refused by 9 with nothing changed, or cut
abbrev pub Formats : ℕ → ℕ → List ℕ → Flash → Result (Unit {0}) Refusal → Flash → Type 0
Formats sectors tally name s (Ok _) t = Accepts sectors tally name s t
Formats sectors tally name s (Err e) t =
    ((numbers e ≡ 9 ∷ []) × (Takes s.blocks sectors tally name → ⊥) × (t ≡ s))
    ⊎ ((h : Home) × (numbers e ≡ 13 ∷ h.name ∷ h.block ∷ []) × Cuts sectors tally name s h t)

-- a refusal by 9 leaves the whole volume as it was
abbrev pub Untouched : {V : Type 0} → Result (Unit {0}) Refusal → V → V → Type 0
Untouched (Ok _) before after = Unit {0}
Untouched (Err e) before after = numbers e ≡ 9 ∷ [] → after ≡ before
