-- An image that keeps all rules, by the log that it carries.
use Rattle.std.specs.Prelude.{◌≡◌, ℕ, suc, ◌+◌, ◌-◌, ◌%◌, ◌<◌, ◌≤◌, true, false, cond, List, length, slice_index_or}
use Rattle.chip.specs.Flash.{Flash}
use Rattle.label.specs.declared.Sizes.{Sizes}
use Rattle.ring.specs.Searches.{least, count}
use Rattle.ring.specs.Places.{positions, descriptor_byte, page_byte}
use Rattle.ring.specs.Logs.{Entry, no_entry, ends, is_copy, unclosed_copy, is_live}
use Rattle.ring.specs.Rules.{legal, unfilled, numbered, Covers}
use Rattle.laid.specs.Laid.{Laid}

-- the flags of the entry at a place
abbrev pub flags_of : List Entry → ℕ → ℕ
flags_of es p = (slice_index_or es p no_entry).flags

-- the flags of the last entry
abbrev pub last_flags : List Entry → ℕ
last_flags es = flags_of es (length es - 1)

-- a log whose last entry, if it has one, ends a group
abbrev pub Ended : List Entry → Type 0
Ended es = 0 < length es → ends (last_flags es) ≡ true

-- how many of the first seven entries are live, and the first that is
abbrev pub front_live : List Entry → ℕ
front_live es = count (is_live es) 7

abbrev pub source : List Entry → ℕ
source es = least (is_live es) 7

-- what the rules say of the entries alone, for sectors below a limit
pub record Orderly (limit : ℕ) (es : List Entry) : Type 0 where
  pub legal : (p : ℕ) → p < length es → legal (flags_of es p) ≡ true
  pub filled : (p : ℕ) → suc p < length es → unfilled (flags_of es p) ≡ false
  pub copies : (p : ℕ) → 0 < p → p < length es → is_copy (flags_of es p) ≡ true → ends (flags_of es (p - 1)) ≡ true
  pub numbers : (p : ℕ) → p < length es → numbered (flags_of es p) ≡ true → (slice_index_or es p no_entry).sector < limit

-- a log that ends in an unclosed copy: its source is there, and the copy shows a 1 wherever the source does
pub record Copied (s : Flash) (z : Sizes) (c : ℕ) (es : List Entry) : Type 0 where
  pub late : 7 < length es
  pub some : source es < 7
  pub covers : Covers s z c (length es - 1) (source es)

pub record Sane (s : Flash) (z : Sizes) (c : ℕ) (es : List Entry) : Type 0 where
  pub laid : Laid s z c es
  pub orderly : Orderly z.sectors es
  pub ended : c % 2 ≡ 1 → Ended es
  pub roomy : c % 2 ≡ 0 → front_live es ≤ positions z c - length es + cond (unclosed_copy (last_flags es)) 1 0
  pub copied : unclosed_copy (last_flags es) ≡ true → Copied s z c es

-- a position whose number and page are bytes, as a chip reads them
pub record Readable (s : Flash) (z : Sizes) (c p : ℕ) : Type 0 where
  pub number : (i : ℕ) → i < 2 → descriptor_byte s z c p (i + 1) < 256
  pub page : (o : ℕ) → o < 512 → page_byte s z c p o < 256
