-- Which pages are labels, for a chip of so many blocks, with which numbers; and where another page is at fault.
use Rattle.std.specs.Prelude.{◌≡◌, ℕ, ◌+◌, ◌-◌, ◌*◌, ◌<◌, ◌≤◌, List, length, Some, None, Ok, Err, Option, Result, slice_index, slice_index_or}
use Rattle.label.specs.declared.Sizes.{Sizes}
use Rattle.label.specs.declared.Label.{Label}
use Rattle.label.specs.declared.LabelFault.{LabelFault}
use Rattle.label.specs.Fields.{place, after, Legal, Before, Ends, Noted, Number, Bytes}

-- the most sectors of a ring of so many blocks
abbrev pub most_sectors : ℕ → ℕ
most_sectors ring = 7 * (ring - 4)

-- sizes that agree with each other and with a chip of so many blocks
pub record Sized (blocks : ℕ) (sizes : Sizes) : Type 0 where
  pub tally_some : 1 ≤ sizes.tally
  pub tally_most : sizes.tally ≤ 8
  pub ring_least : 5 ≤ sizes.ring
  pub ring_most : sizes.ring ≤ 4096
  pub sectors_some : 1 ≤ sizes.sectors
  pub sectors_most : sizes.sectors ≤ most_sectors sizes.ring
  pub whole : 1 + sizes.tally + sizes.ring ≡ blocks

-- the first n fields state the format 1 and these sizes
pub record States (page : List ℕ) (n : ℕ) (sizes : Sizes) : Type 0 where
  pub format : Noted page n 1 (Number page) (Some 1)
  pub ring : Noted page n 2 (Number page) (Some sizes.ring)
  pub sectors : Noted page n 3 (Number page) (Some sizes.sectors)
  pub tally : Noted page n 4 (Number page) (Some sizes.tally)

-- from the byte `from` on, all are FF hex
abbrev pub Blank : List ℕ → ℕ → Type 0
Blank page from = (o : ℕ) → from ≤ o → o < length page → slice_index page o ≡ 255

-- the first byte from `from` on that is not FF hex
pub record Stray (page : List ℕ) (from at : ℕ) : Type 0 where
  pub behind : from ≤ at
  pub inside : at < length page
  pub first : (o : ℕ) → from ≤ o → o < at → slice_index page o ≡ 255
  pub marked : slice_index_or page at 0 ≡ 255 → ⊥

-- the first such byte, or none
abbrev pub FirstStray : List ℕ → ℕ → Option ℕ → Type 0
FirstStray page from None = Blank page from
FirstStray page from (Some at) = Stray page from at

-- a good label
pub record Good (page : List ℕ) (blocks : ℕ) (label : Label) : Type 0 where
  pub fields : ℕ
  pub ends : Ends page fields
  pub blank : Blank page (after page (place page fields))
  pub states : States page fields label.sizes
  pub sized : Sized blocks label.sizes
  pub name : Noted page fields 5 (Bytes page) label.name

-- the byte at which a page is at fault. A chip without blocks comes first; then the first field that is not in order;
-- then the first byte behind the end that is not FF hex; last a number that is missing or wrong, at the end field.
pub data Faulty (page : List ℕ) (blocks at : ℕ) : Type 0 where
  no_blocks : blocks ≡ 0 → at ≡ 0 → Faulty page blocks at
  field : (n : ℕ) → 0 < blocks → Before page n → (Legal page n → ⊥) → at ≡ place page n → Faulty page blocks at
  stray : (n : ℕ) → 0 < blocks → Ends page n → Stray page (after page (place page n)) at → Faulty page blocks at
  sizes : (n : ℕ) → 0 < blocks → Ends page n → Blank page (after page (place page n)) → ((x : Sizes) → States page n x → Sized blocks x → ⊥) → at ≡ place page n → Faulty page blocks at

-- what the reader of a label answers
abbrev pub Labelled : List ℕ → ℕ → Result Label LabelFault → Type 0
Labelled page blocks (Ok label) = Good page blocks label
Labelled page blocks (Err fault) = Faulty page blocks fault.at
