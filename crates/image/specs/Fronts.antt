-- The label that a chip carries.
use Rattle.std.specs.Prelude.{◌≡◌, ℕ, List, Ok, Err, Result}
use Rattle.chip.specs.Flash.{Flash}
use Rattle.label.specs.declared.Sizes.{Sizes}
use Rattle.label.specs.declared.Label.{Label}
use Rattle.label.specs.declared.LabelFault.{LabelFault}
use Rattle.label.specs.Labels.{Good, Faulty}
use Rattle.ring.specs.Searches.{row}

-- page 0 of block 0
abbrev pub front_page : Flash → List ℕ
front_page s = row (s.byte 0) 512

-- a chip with a good label that states these sizes
pub record LabelledBy (s : Flash) (z : Sizes) : Type 0 where
  pub label : Label
  pub good : Good (front_page s) s.blocks label
  pub same : label.sizes ≡ z

-- what is said of a chip's label
abbrev pub Carries : Flash → Result Sizes LabelFault → Type 0
Carries s (Ok z) = LabelledBy s z
Carries s (Err f) = Faulty (front_page s) s.blocks f.at
