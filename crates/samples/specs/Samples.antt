-- Worked examples of the format, in hex where the comment says so.
use Rattle.std.specs.Prelude.{◌≡◌, true, false, List, [], ◌∷◌, ℕ, suc, ◌+◌, ◌*◌, ◌<◌, get_or}
use Rattle.chip.specs.Flash.{Flash}
use Rattle.chip.specs.Steps.{Programmed}
use Rattle.label.specs.declared.Sizes.{Sizes}
use Rattle.label.specs.Labels.{Sized}
use Rattle.label.specs.Written.{label_bytes}
use Rattle.ring.specs.Tally.{tally_byte, cleared, booked, begun}
use Rattle.ring.specs.Places.{descriptor_byte, flags_at, sector_at}
use Rattle.ring.specs.Logs.{Entry, closes, counts, claimed}
use Rattle.ring.specs.Rules.{Misplaced}

-- 15 programmed with FA gives 10 (hex)
abbrev pub Programming : Type 0
Programming = (s t : Flash) (b at : ℕ) → s.byte b (at + 0) ≡ 21 → Programmed s b at (250 ∷ []) t → t.byte b (at + 0) ≡ 16

-- a closed put to sector 300 has the descriptor 4F 2C 01 FF (hex)
abbrev pub Described : List ℕ → ℕ → Type 0
Described bytes x = (s : Flash) (z : Sizes) (c p : ℕ) → ((i : ℕ) → i < 4 → descriptor_byte s z c p i ≡ get_or bytes i 0) → (closes (flags_at s z c p) ≡ true) × (sector_at s z c p ≡ x)

-- a tally whose first byte is 1F (hex), and the others FF: one erase is booked, and one has begun
abbrev pub Tallying : Type 0
Tallying = (s : Flash) (k : ℕ) → 0 < k → tally_byte s 0 ≡ 31 → ((j : ℕ) → 0 < j → j < 4096 * k → tally_byte s j ≡ 255) → (booked (cleared s k) ≡ 1) × (begun (cleared s k) ≡ true)

-- sizes of a volume with one tally block
abbrev pub sized : ℕ → ℕ → Sizes
sized ring sectors = record { ring = ring; sectors = sectors; tally = 1 }

-- with 6 ring blocks 14 sectors pass and 15 do not; with 5, 7 pass and 8 do not
pub record Limits : Type 0 where
  pub six : Sized 8 (sized 6 14)
  pub six_more : Sized 8 (sized 6 15) → ⊥
  pub five : Sized 7 (sized 5 7)
  pub five_more : Sized 7 (sized 5 8) → ⊥

-- the label for 14 sectors, 6 ring blocks, 1 tally block and no name
abbrev pub Labelling : Type 0
Labelling = label_bytes (sized 6 14) [] ≡ 1 ∷ 2 ∷ 0 ∷ 1 ∷ 0 ∷ 2 ∷ 2 ∷ 0 ∷ 6 ∷ 0 ∷ 3 ∷ 2 ∷ 0 ∷ 14 ∷ 0 ∷ 4 ∷ 2 ∷ 0 ∷ 1 ∷ 0 ∷ 0 ∷ 0 ∷ 0 ∷ []

-- a slot with these flags
abbrev pub flagged : ℕ → Entry
flagged f = record { flags = f; sector = 0; page = [] }

-- flags 5F 4F (hex): both slots count; 5F 57: neither does; 5F 8F: the copy breaks the rule on order
pub record Grouping : Type 0 where
  pub closed : (counts (flagged 95 ∷ flagged 79 ∷ []) ≡ true) × (counts (flagged 79 ∷ []) ≡ true)
  pub dropped : (counts (flagged 95 ∷ flagged 87 ∷ []) ≡ false) × (counts (flagged 87 ∷ []) ≡ false)
  pub copied : (s : Flash) (z : Sizes) (c p : ℕ) → flags_at s z c p ≡ 95 → flags_at s z c (suc p) ≡ 143 → suc p < claimed s z c → Misplaced s z c (suc p)

pub record Samples : Type 0 where
  pub programming : Programming
  pub described : Described (79 ∷ 44 ∷ 1 ∷ 255 ∷ []) 300
  pub tallying : Tallying
  pub limits : Limits
  pub labelling : Labelling
  pub grouping : Grouping
