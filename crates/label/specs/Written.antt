-- The bytes of a label as it is written: the fields in order of tag, the end field last.
use Rattle.std.specs.Prelude.{◌≡◌, ℕ, ◌/◌, ◌%◌, ◌<◌, ◌≤◌, List, [], ◌∷◌, ◌++◌, length, Some, None, Ok, Err, Option, Result, slice_index, slice_index_or}
use Rattle.std.specs.Borrow.{Bor}
use Rattle.label.specs.declared.Sizes.{Sizes}
use Rattle.label.specs.declared.Label.{Label}
use Rattle.label.specs.declared.LabelFault.{LabelFault}

-- a number's field: tag, length 2, low byte, high byte
abbrev pub number_field : ℕ → ℕ → List ℕ
number_field tag n = tag ∷ 2 ∷ 0 ∷ n % 256 ∷ n / 256 ∷ []

-- a name's field; an empty name has none
abbrev pub name_field : List ℕ → List ℕ
name_field [] = []
name_field (x ∷ xs) = 5 ∷ length (x ∷ xs) ∷ 0 ∷ x ∷ xs

-- the field that ends a label
abbrev pub end_field : List ℕ
end_field = 0 ∷ 0 ∷ 0 ∷ []

-- the whole label
abbrev pub label_bytes : Sizes → List ℕ → List ℕ
label_bytes sizes name =
    number_field 1 1
    ++ (number_field 2 sizes.ring
    ++ (number_field 3 sizes.sectors
    ++ (number_field 4 sizes.tally
    ++ (name_field name ++ end_field))))

-- the label of these sizes and this name
pub record Holding (sizes : Sizes) (name label : List ℕ) : Type 0 where
  pub short : length name ≤ 32
  pub bytes : label ≡ label_bytes sizes name
  pub some : 0 < length label
  pub most : length label ≤ 58

-- what the writer of a label answers: only a name that is too long is refused
abbrev pub Writes : Sizes → List ℕ → Option (List ℕ) → Type 0
Writes sizes name None = 32 < length name
Writes sizes name (Some label) = Holding sizes name label

-- a page that holds a written label, and is erased behind it
pub record Fresh (page : List ℕ) (sizes : Sizes) (name : List ℕ) : Type 0 where
  pub whole : length page ≡ 512
  pub bytes : (o : ℕ) → o < 512 → slice_index page o ≡ slice_index_or (label_bytes sizes name) o 255

-- the name as a label has it: an empty one is none
abbrev pub Named : List ℕ → Option (Bor (List ℕ)) → Type 0
Named name None = name ≡ []
Named name (Some s) = (0 < length name) × (s.now ≡ name)

-- a label of these sizes and this name is read
abbrev pub Accepted : Sizes → List ℕ → Result Label LabelFault → Type 0
Accepted sizes name (Ok label) = (label.sizes ≡ sizes) × Named name label.name
Accepted sizes name (Err fault) = ⊥
