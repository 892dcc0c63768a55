-- The numbers of a volume's refusals: which refusal it is, and the values that come with it.
use Rattle.std.specs.Prelude.{ℕ, ◌<◌, List, [], ◌∷◌, slice_index}
use Rattle.std.specs.List.{All}
use Rattle.chip.specs.declared.Fault.{Fault}
use Rattle.chip.specs.declared.Fault.TheVariants as fault
use Rattle.image.specs.declared.flaw.Flaw.{Flaw}
use Rattle.image.specs.declared.flaw.Flaw.TheVariants as flaw
use Rattle.engine.specs.declared.refusal.Refusal.{Refusal}
use Rattle.engine.specs.declared.refusal.Refusal.TheVariants.{NotStarted, OtherTicket, BatchOpen, Count, Length, NoSector, BatchFull, NoTicket, Sizes, Label, Rule, Spent, Cut, Range, NoPower}

-- 1: not started; 2: not the open batch's ticket; 3: a batch is open; 4: no batch of that many; 5: not a page; 6: no such
-- sector; 7: the batch is full; 8: no ticket is left; 9: sizes or name; 10: a fault of the label, with its byte; 11: a
-- broken rule, with its place; 12: a reclaim is due, and the tally is spent; 13: a step was cut, with the block's home;
-- 14 and 15: the chip's own, which no call answers
abbrev pub numbers : Refusal → List ℕ
numbers NotStarted = 1 ∷ []
numbers OtherTicket = 2 ∷ []
numbers BatchOpen = 3 ∷ []
numbers Count = 4 ∷ []
numbers Length = 5 ∷ []
numbers NoSector = 6 ∷ []
numbers BatchFull = 7 ∷ []
numbers NoTicket = 8 ∷ []
numbers Sizes = 9 ∷ []
numbers (Label f) = 10 ∷ f.at ∷ []
numbers (Rule x) = 11 ∷ x.rule ∷ x.place ∷ []
numbers Spent = 12 ∷ []
numbers (Cut h) = 13 ∷ h.name ∷ h.block ∷ []
numbers Range = 14 ∷ []
numbers NoPower = 15 ∷ []

-- that each number is one of 16 bits; but a label's fault comes with a byte, which may be any
abbrev pub Words : Refusal → List ℕ → Type 0
Words (Label f) ns = Unit {0}
Words e ns = All (λ n. n < 65536) ns

-- the first of them: which refusal it is
abbrev pub row : Refusal → ℕ
row e = slice_index (numbers e) 0

-- a chip's fault, and an image's flaw, as the volume hands them on
abbrev pub converted : Fault → Refusal
converted fault.Range = Range
converted fault.NoPower = NoPower
converted (fault.Cut h) = Cut h

abbrev pub flawed : Flaw → Refusal
flawed flaw.NoPower = NoPower
flawed (flaw.Label f) = Label f
flawed (flaw.Rule x) = Rule x
