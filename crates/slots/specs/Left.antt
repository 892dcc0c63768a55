-- What the programs of one slot leave, whole or cut.
use Rattle.std.specs.Prelude.{◌≡◌, ℕ, ◌+◌, ◌*◌, ◌/◌, ◌%◌, ◌<◌, ◌≤◌, ◌⊎◌, List, [], ◌∷◌, ◌++◌, length, ◌≢◌, bit_and, slice_index}
use Rattle.chip.specs.Flash.{Flash}
use Rattle.chip.specs.Steps.{Step, program, erase, block, Between}
use Rattle.label.specs.declared.Sizes.{Sizes}
use Rattle.ring.specs.Places.{chip_block, block_at, descriptor_byte, page_byte}
use Rattle.ring.specs.Logs.{Entry}
use Rattle.laid.specs.Laid.{Laid}

-- no step is of block 0
abbrev pub AllPast : List Step → Type 0
AllPast [] = Unit {0}
AllPast (p ∷ ps) = (block p ≢ 0) × AllPast ps

-- a range of a block that lies in the first three bytes of the descriptor of slot j, or in its page
pub data Slotted (j at size : ℕ) : Type 0 where
  in_descriptor : 4 * j ≤ at → at + size ≤ 4 * j + 3 → Slotted j at size
  in_page : 512 * (j + 1) ≤ at → at + size ≤ 512 * (j + 2) → Slotted j at size

-- a step that is a program of the slot of position p
abbrev pub OfSlot : Sizes → ℕ → ℕ → Step → Type 0
OfSlot z c p (program b at size given) = (b ≡ chip_block z (block_at z c p)) × Slotted (p % 7) at size
OfSlot z c p (erase b) = ⊥

abbrev pub AllOfSlot : Sizes → ℕ → ℕ → List Step → Type 0
AllOfSlot z c p [] = Unit {0}
AllOfSlot z c p (s ∷ ps) = OfSlot z c p s × AllOfSlot z c p ps

-- s and t differ in nothing but the flags, the number and the page of position p
pub record Beside (s t : Flash) (z : Sizes) (c p : ℕ) : Type 0 where
  pub others : (b o : ℕ) → (b ≢ chip_block z (block_at z c p)) → t.byte b o ≡ s.byte b o
  pub before : (o : ℕ) → o < 4 * (p % 7) → t.byte (chip_block z (block_at z c p)) o ≡ s.byte (chip_block z (block_at z c p)) o
  pub between : (o : ℕ) → 4 * (p % 7) + 3 ≤ o → o < 512 * (p % 7 + 1) → t.byte (chip_block z (block_at z c p)) o ≡ s.byte (chip_block z (block_at z c p)) o
  pub after : (o : ℕ) → 512 * (p % 7 + 2) ≤ o → t.byte (chip_block z (block_at z c p)) o ≡ s.byte (chip_block z (block_at z c p)) o

-- a byte on its way from f to g is one of the two
abbrev pub Splits : ℕ → ℕ → Type 0
Splits f g = (x : ℕ) → Between g x f → (x ≡ f) ⊎ (x ≡ g)

-- position p shows a 1 in its number and page wherever the number x and these bytes do
pub record Overs (s : Flash) (z : Sizes) (c p x : ℕ) (bytes : List ℕ) : Type 0 where
  pub low : bit_and (descriptor_byte s z c p 1) (x % 256) ≡ x % 256
  pub high : bit_and (descriptor_byte s z c p 2) (x / 256) ≡ x / 256
  pub page : (o : ℕ) → o < 512 → bit_and (page_byte s z c p o) (slice_index bytes o) ≡ slice_index bytes o

-- an entry with these flags, this number and this page, and one that is changed in its flags alone
abbrev pub entry_of : ℕ → ℕ → List ℕ → Entry
entry_of f x page = record { flags = f; sector = x; page = page }

abbrev pub flagged : Entry → ℕ → Entry
flagged e f = record { flags = f; sector = e.sector; page = e.page }

-- what a put of the page as sector x leaves that was cut, behind the entries es
pub data PutCut (t : Flash) (z : Sizes) (c : ℕ) (es : List Entry) (x : ℕ) (page : List ℕ) : Type 0 where
  none : Laid t z c es → PutCut t z c es x page
  claimed : (e : Entry) → e.flags ≡ 127 → Laid t z c (es ++ (e ∷ [])) → PutCut t z c es x page
  whole : Laid t z c (es ++ (entry_of 95 x page ∷ [])) → PutCut t z c es x page

-- what a copy of the page as sector x leaves that was cut, behind the entries es: one that is filled has a number below
-- the limit
pub data CopyCut (t : Flash) (z : Sizes) (c : ℕ) (es : List Entry) (x : ℕ) (page : List ℕ) (limit : ℕ) : Type 0 where
  none : Laid t z c es → CopyCut t z c es x page limit
  unclosed : (e : Entry) → (e.flags ≡ 191) ⊎ (e.flags ≡ 159) → Overs t z c (length es) x page → Laid t z c (es ++ (e ∷ [])) → (e.flags ≡ 159 → e.sector < limit) → CopyCut t z c es x page limit
  closed : Laid t z c (es ++ (entry_of 143 x page ∷ [])) → CopyCut t z c es x page limit
