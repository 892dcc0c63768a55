-- An image that carries a log: c bits of its tally are cleared, the first positions have the entries of the log, and all
-- behind them is blank.
use Rattle.std.specs.Prelude.{◌≡◌, ℕ, ◌%◌, ◌<◌, ◌≤◌, ◌⊎◌, List, length, get_or, ◌≢◌, slice_index_or}
use Rattle.chip.specs.Flash.{Flash}
use Rattle.label.specs.declared.Sizes.{Sizes}
use Rattle.ring.specs.Tally.{tally_bit, tally_bits}
use Rattle.ring.specs.Places.{positions, block_at, chip_block, descriptor_byte, page_byte}
use Rattle.ring.specs.Logs.{Entry, no_entry, entry_at}

-- a position whose descriptor and page are all FF hex
pub record Blank (s : Flash) (z : Sizes) (c p : ℕ) : Type 0 where
  pub descriptor : (i : ℕ) → i < 4 → descriptor_byte s z c p i ≡ 255
  pub page : (o : ℕ) → o < 512 → page_byte s z c p o ≡ 255

-- the offsets of a directory that carry nothing: those behind the descriptors, and the last byte of each
abbrev pub Spare : ℕ → Type 0
Spare o = (28 ≤ o) ⊎ (o % 4 ≡ 3)

pub record Laid (s : Flash) (z : Sizes) (c : ℕ) (es : List Entry) : Type 0 where
  pub cleared : (i : ℕ) → i < c → tally_bit s i ≡ 0
  pub uncleared : (i : ℕ) → c ≤ i → i < tally_bits z.tally → tally_bit s i ≡ 1
  pub bits : c ≤ tally_bits z.tally
  pub room : length es ≤ positions z c
  pub entries : (p : ℕ) → p < length es → entry_at s z c p ≡ slice_index_or es p no_entry
  pub claimed : (p : ℕ) → p < length es → (get_or es p no_entry).flags ≢ 255
  pub blank : (p : ℕ) → length es ≤ p → p < positions z c → Blank s z c p
  pub spare : (p o : ℕ) → p < positions z c → o < 512 → Spare o → s.byte (chip_block z (block_at z c p)) o ≡ 255
