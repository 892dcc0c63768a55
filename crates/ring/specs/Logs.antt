-- The log: the claimed slots in order of position, what each sector holds, and which slots are live.
use Rattle.std.specs.Prelude.{ℕ, suc, ◌-◌, Bool, false, cond, ◌&&◌, ◌||◌, List, [], ◌∷◌, Some, None, Option, ◌==◌, nat_eq, slice_index_or}
use Rattle.chip.specs.Flash.{Flash}
use Rattle.label.specs.declared.Sizes.{Sizes}
use Rattle.ring.specs.Searches.{least, row}
use Rattle.ring.specs.Places.{positions, flags_at, sector_at, page_at}

-- a claimed slot
pub record Entry : Type 0 where
  pub flags : ℕ
  pub sector : ℕ
  pub page : List ℕ

-- what a slot is that is not claimed
abbrev pub no_entry : Entry
no_entry = record { flags = 255; sector = 65535; page = [] }

-- flags in hex: 4F closes a group of puts, 8F a copy; 77 and 57 end a group that was dropped
abbrev pub closes : ℕ → Bool
closes f = f == 79 || f == 143

abbrev pub ends : ℕ → Bool
ends f = closes f || (f == 119 || f == 87)

-- flags of a copy, and those of a copy that is not closed
abbrev pub is_copy : ℕ → Bool
is_copy f = f == 191 || (f == 159 || f == 143)

abbrev pub unclosed_copy : ℕ → Bool
unclosed_copy f = f == 191 || f == 159

-- whether the first slot of a log counts: its group ends, and is closed
abbrev pub counts : List Entry → Bool
counts [] = false
counts (e ∷ es) = cond (ends e.flags) (closes e.flags) (counts es)

-- the place in a log of the slot that is live for a sector: the last one that counts and has its number
abbrev pub later : Option ℕ → Option ℕ → Option ℕ
later (Some i) o = Some (suc i)
later None o = o

abbrev pub live : ℕ → List Entry → Option ℕ
live x [] = None
live x (e ∷ es) = later (live x es) (cond (e.sector == x && counts (e ∷ es)) (Some 0) None)

-- what a sector holds: the page of its live slot, or nothing
abbrev pub shows : List Entry → Option ℕ → Option (List ℕ)
shows es None = None
shows es (Some i) = Some (slice_index_or es i no_entry).page

abbrev pub holds : ℕ → List Entry → Option (List ℕ)
holds x es = shows es (live x es)

-- whether the slot at a place is live
abbrev pub points : Option ℕ → ℕ → Bool
points None i = false
points (Some j) i = j == i

abbrev pub is_live : List Entry → ℕ → Bool
is_live es i = points (live (slice_index_or es i no_entry).sector es) i

-- how many slots of an image are claimed: all before the first whose flags are FF hex
abbrev pub claimed : Flash → Sizes → ℕ → ℕ
claimed s z c = least (λ p. nat_eq (flags_at s z c p) 255) (positions z c)

abbrev pub unclaimed : Flash → Sizes → ℕ → ℕ
unclaimed s z c = positions z c - claimed s z c

-- the log of an image
abbrev pub entry_at : Flash → Sizes → ℕ → ℕ → Entry
entry_at s z c p = record { flags = flags_at s z c p; sector = sector_at s z c p; page = page_at s z c p }

abbrev pub log : Flash → Sizes → ℕ → List Entry
log s z c = row (entry_at s z c) (claimed s z c)

-- the first m slots of an image, as a log
abbrev pub log_of : Flash → Sizes → ℕ → ℕ → List Entry
log_of s z c m = row (entry_at s z c) m
