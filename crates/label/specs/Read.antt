-- What the reader of one field answers.
use Rattle.std.specs.Prelude.{◌≡◌, ℕ, ◌+◌, ◌<◌, ◌≤◌, List, length, drop, Some, None, Ok, Err, Option, Result, slice_index}
use Rattle.label.specs.declared.LabelFault.{LabelFault}
use Rattle.label.specs.declared.field.Head.{Head}
use Rattle.label.specs.declared.field.Field.{Field}
use Rattle.label.specs.declared.field.Field.TheVariants.{Format, Ring, Sectors, Tally, Name, Skipped, End}
use Rattle.label.specs.Fields.{word_at, tag_at, len_at, after, Suits, Number, Bytes}

-- the front of what is left of a page: at least three bytes
abbrev pub FrontOf : List ℕ → Option Head → Type 0
FrontOf rest None = length rest < 3
FrontOf rest (Some h) = (3 ≤ length rest) × (h.tag ≡ slice_index rest 0) × (h.len ≡ word_at rest 1) × (h.after.now ≡ drop 3 rest)

-- the same, of a page from a byte on
abbrev pub HeadAt : List ℕ → ℕ → Option Head → Type 0
HeadAt page at None = length page < at + 3
HeadAt page at (Some h) = (at + 3 ≤ length page) × (h.tag ≡ tag_at page at) × (h.len ≡ len_at page at) × (h.after.now ≡ drop (at + 3) page)

-- the field at a byte lies in the page, and its length goes with its tag
abbrev pub Sound : List ℕ → ℕ → Type 0
Sound page at = (after page at ≤ length page) × Suits (tag_at page at) (len_at page at)

-- a field as it stands at a byte
abbrev pub FieldAt : List ℕ → ℕ → Field → Type 0
FieldAt page at (Format v) = (tag_at page at ≡ 1) × Number page at v
FieldAt page at (Ring v) = (tag_at page at ≡ 2) × Number page at v
FieldAt page at (Sectors v) = (tag_at page at ≡ 3) × Number page at v
FieldAt page at (Tally v) = (tag_at page at ≡ 4) × Number page at v
FieldAt page at (Name s) = (tag_at page at ≡ 5) × Bytes page at s
FieldAt page at (Skipped s) = (128 ≤ tag_at page at) × Bytes page at s
FieldAt page at End = tag_at page at ≡ 0

-- what a tag and the bytes of a field say
abbrev pub Says : ℕ → List ℕ → Field → Type 0
Says tag bytes (Format v) = (tag ≡ 1) × (word_at bytes 0 ≡ v)
Says tag bytes (Ring v) = (tag ≡ 2) × (word_at bytes 0 ≡ v)
Says tag bytes (Sectors v) = (tag ≡ 3) × (word_at bytes 0 ≡ v)
Says tag bytes (Tally v) = (tag ≡ 4) × (word_at bytes 0 ≡ v)
Says tag bytes (Name s) = (tag ≡ 5) × (s.now ≡ bytes)
Says tag bytes (Skipped s) = (128 ≤ tag) × (s.now ≡ bytes)
Says tag bytes End = tag ≡ 0

-- the field of a tag and its bytes, if their number goes with the tag
abbrev pub Told : ℕ → List ℕ → Option Field → Type 0
Told tag bytes None = Suits tag (length bytes) → ⊥
Told tag bytes (Some field) = Suits tag (length bytes) × Says tag bytes field

-- what the reader of a field answers at a byte
abbrev pub ReadAt : List ℕ → ℕ → Result Field LabelFault → Type 0
ReadAt page at (Ok field) = Sound page at × FieldAt page at field
ReadAt page at (Err fault) = (Sound page at → ⊥) × (fault.at ≡ at)

-- the byte after a field that begins at a byte
abbrev pub end_of : ℕ → Field → ℕ
end_of at (Format v) = at + 5
end_of at (Ring v) = at + 5
end_of at (Sectors v) = at + 5
end_of at (Tally v) = at + 5
end_of at (Name s) = at + 3 + length s.now
end_of at (Skipped s) = at + 3 + length s.now
end_of at End = at + 3
