-- An image that keeps the rules, by what its sectors hold.
use Rattle.std.specs.Prelude.{◌≡◌, ℕ, List, Option}
use Rattle.chip.specs.Flash.{Flash}
use Rattle.label.specs.declared.Sizes.{Sizes}
use Rattle.ring.specs.Turns.{Shaped}
use Rattle.ring.specs.Logs.{Entry, holds}
use Rattle.laid.specs.Sane.{Sane}

-- t keeps the rules, and its sectors hold what h says
pub record Carries (t : Flash) (z : Sizes) (h : ℕ → Option (List ℕ)) : Type 0 where
  pub cleared : ℕ
  pub entries : List Entry
  pub shaped : Shaped z cleared
  pub sane : Sane t z cleared entries
  pub holds : (x : ℕ) → holds x entries ≡ h x
