-- What an examination says of a chip.
use Rattle.std.specs.Prelude.{◌≡◌, ℕ, true, false, ◌⊎◌, List, [], ◌∷◌, Ok, Err, Result}
use Rattle.chip.specs.Flash.{Flash}
use Rattle.label.specs.declared.Sizes.{Sizes}
use Rattle.label.specs.Labels.{Faulty}
use Rattle.ring.specs.declared.layout.Layout.{Layout}
use Rattle.ring.specs.Tally.{cleared}
use Rattle.ring.specs.Logs as logs
use Rattle.ring.specs.Rules as rules
use Rattle.ring.specs.Rules.{Lawful}
use Rattle.image.specs.declared.flaw.Broken.{Broken}
use Rattle.image.specs.declared.flaw.Flaw.{Flaw}
use Rattle.image.specs.declared.flaw.Flaw.TheVariants.{NoPower, Label, Rule}
use Rattle.ring.specs.declared.layout.Log.{Log}
use Rattle.image.specs.Fronts.{front_page, LabelledBy}
use Rattle.image.specs.Checks.{KeptFrom, Lowest}

-- a flaw's number, and the values that come with it: 10, a label's fault, with its byte; 11, a broken rule, with rule
-- and place; 15, no power
abbrev pub numbers : Flaw → List ℕ
numbers NoPower = 15 ∷ []
numbers (Label f) = 10 ∷ f.at ∷ []
numbers (Rule x) = 11 ∷ x.rule ∷ x.place ∷ []

-- the tally is in order, and tells so many cleared bits; or the first rule is broken
abbrev pub Laid : Flash → Sizes → Result Layout Broken → Type 0
Laid s z (Ok l) = (l.sizes ≡ z) × (l.cleared ≡ cleared s z.tally) × KeptFrom s z (cleared s z.tally) 1 1
Laid s z (Err x) = Lowest s z (cleared s z.tally) 1 1 x

-- so many slots are claimed, where the rules from the second on are kept
abbrev pub Counted : Flash → Layout → Result Log Broken → Type 0
Counted s l (Ok log) = (log.layout ≡ l) × (log.claimed ≡ logs.claimed s l.sizes l.cleared)
Counted s l (Err x) = Unit {0}

-- an image that keeps all rules, and where its log stands
pub record Sound (s : Flash) (log : Log) : Type 0 where
  pub power : s.on ≡ true
  pub labelled : LabelledBy s log.layout.sizes
  pub cleared : log.layout.cleared ≡ cleared s log.layout.sizes.tally
  pub claimed : log.claimed ≡ logs.claimed s log.layout.sizes log.layout.cleared
  pub lawful : Lawful s log.layout.sizes log.layout.cleared

-- an image with a good label that breaks a rule
pub record Unsound (s : Flash) (rule place : ℕ) : Type 0 where
  pub power : s.on ≡ true
  pub sizes : Sizes
  pub labelled : LabelledBy s sizes
  pub broken : rules.Broken s sizes (cleared s sizes.tally) rule place

-- the answer of an examination, a flaw by its numbers
abbrev pub Examined : Flash → Result Log Flaw → Type 0
Examined s (Ok log) = Sound s log
Examined s (Err f) =
    ((numbers f ≡ 15 ∷ []) × (s.on ≡ false))
    ⊎ (((at : ℕ) × (numbers f ≡ 10 ∷ at ∷ []) × (s.on ≡ true) × Faulty (front_page s) s.blocks at)
    ⊎ ((rule : ℕ) × (place : ℕ) × (numbers f ≡ 11 ∷ rule ∷ place ∷ []) × Unsound s rule place))
