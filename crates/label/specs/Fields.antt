-- The fields of a label: each is a tag byte, a two-byte length, then that many bytes. They follow one another from the
-- first byte of the page on.
use Rattle.std.specs.Prelude.{◌≡◌, ℕ, zero, suc, ◌+◌, ◌*◌, ◌<◌, ◌≤◌, ◌⊎◌, List, length, take, drop, Some, None, Option, ◌≢◌, slice_index}
use Rattle.std.specs.Borrow.{Bor}

-- the two-byte number at a byte, low byte first
abbrev pub word_at : List ℕ → ℕ → ℕ
word_at page o = slice_index page o + 256 * slice_index page (o + 1)

-- the tag, the length and the bytes of the field that begins at a byte
abbrev pub tag_at : List ℕ → ℕ → ℕ
tag_at page at = slice_index page at

abbrev pub len_at : List ℕ → ℕ → ℕ
len_at page at = word_at page (at + 1)

abbrev pub body_at : List ℕ → ℕ → List ℕ
body_at page at = take (len_at page at) (drop (at + 3) page)

-- where the field after it begins
abbrev pub after : List ℕ → ℕ → ℕ
after page at = at + 3 + len_at page at

-- where the k-th field begins, and its tag
abbrev pub place : List ℕ → ℕ → ℕ
place page zero = 0
place page (suc k) = after page (place page k)

abbrev pub tag_of : List ℕ → ℕ → ℕ
tag_of page k = tag_at page (place page k)

-- a tag, and a length that goes with it: the end (0) is empty, a number (1 to 4) has two bytes, a name (5) has 1 to
-- 32 bytes, and what is skipped (80 to FE hex) has any length
abbrev pub Suits : ℕ → ℕ → Type 0
Suits tag len =
    ((tag ≡ 0) × (len ≡ 0))
    ⊎ (((1 ≤ tag) × (tag ≤ 4) × (len ≡ 2))
    ⊎ (((tag ≡ 5) × (1 ≤ len) × (len ≤ 32))
    ⊎ ((128 ≤ tag) × (tag ≤ 254))))

-- the k-th field is in order: it lies in the page, its length goes with its tag, and only a field that is skipped may
-- have the tag of an earlier one
pub record Legal (page : List ℕ) (k : ℕ) : Type 0 where
  pub extent : after page (place page k) ≤ length page
  pub suits : Suits (tag_of page k) (len_at page (place page k))
  pub once : (j : ℕ) → j < k → tag_of page j ≡ tag_of page k → 128 ≤ tag_of page k

-- the first n fields are in order, and none of them is the end
abbrev pub Before : List ℕ → ℕ → Type 0
Before page n = (k : ℕ) → k < n → Legal page k × (tag_of page k ≢ 0)

-- the n-th field is the end, and all before it are in order
pub record Ends (page : List ℕ) (n : ℕ) : Type 0 where
  pub before : Before page n
  pub legal : Legal page n
  pub end : tag_of page n ≡ 0

-- what is found under a tag among the first n fields: P says what a field at a byte gives
abbrev pub Noted : {V : Type 0} → List ℕ → ℕ → ℕ → (ℕ → V → Type 0) → Option V → Type 0
Noted page n tag P None = (j : ℕ) → j < n → tag_of page j ≢ tag
Noted page n tag P (Some v) = (j : ℕ) × (j < n) × (tag_of page j ≡ tag) × P (place page j) v

-- a field at a byte gives a number; it gives a name
abbrev pub Number : List ℕ → ℕ → ℕ → Type 0
Number page at v = word_at page (at + 3) ≡ v

abbrev pub Bytes : List ℕ → ℕ → Bor (List ℕ) → Type 0
Bytes page at s = s.now ≡ body_at page at
