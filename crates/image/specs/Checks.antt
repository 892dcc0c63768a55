-- What is said of some of the rules.
use Rattle.std.specs.Prelude.{ℕ, ◌<◌, ◌≤◌, Ok, Err, Result}
use Rattle.chip.specs.Flash.{Flash}
use Rattle.label.specs.declared.Sizes.{Sizes}
use Rattle.ring.specs.Rules.{Breach, Kept}
use Rattle.image.specs.declared.flaw.Broken.{Broken}

-- the rules from a to b are kept
abbrev pub KeptFrom : Flash → Sizes → ℕ → ℕ → ℕ → Type 0
KeptFrom s z c a b = (rule : ℕ) → a ≤ rule → rule ≤ b → Kept s z c rule

-- of the rules from a on, the lowest broken one is named, with its lowest place, and it is at most b
pub record Lowest (s : Flash) (z : Sizes) (c a b : ℕ) (x : Broken) : Type 0 where
  pub from : a ≤ x.rule
  pub to : x.rule ≤ b
  pub breach : Breach s z c x.rule x.place
  pub lowest : (q : ℕ) → q < x.place → Breach s z c x.rule q → ⊥
  pub before : (rule : ℕ) → a ≤ rule → rule < x.rule → Kept s z c rule

-- what a check of the rules from a to b answers
abbrev pub Checked : {A : Type 0} → Flash → Sizes → ℕ → ℕ → ℕ → Result A Broken → Type 0
Checked s z c a b (Ok _) = KeptFrom s z c a b
Checked s z c a b (Err x) = Lowest s z c a b x
