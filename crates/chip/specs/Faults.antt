-- The numbers of a chip's refusals: which refusal it is, and the values that come with it.
use Rattle.std.specs.Prelude.{ℕ, List, [], ◌∷◌}
use Rattle.chip.specs.declared.Fault.{Fault}
use Rattle.chip.specs.declared.Fault.TheVariants.{Range, NoPower, Cut}

-- 14: the range is empty, outside or of another length; 15: no power; 16: this step was cut, with the block's home
abbrev pub numbers : Fault → List ℕ
numbers Range = 14 ∷ []
numbers NoPower = 15 ∷ []
numbers (Cut h) = 16 ∷ h.name ∷ h.block ∷ []
