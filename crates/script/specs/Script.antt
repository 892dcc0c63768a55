-- What a line of a bench script says: a letter, and then numbers, each after one blank.
use Rattle.std.specs.Prelude.{◌≡◌, ℕ, ◌+◌, ◌-◌, ◌*◌, ◌<◌, ◌≤◌, ◌⊎◌, List, [], ◌∷◌, ◌++◌, length, fold, ◌≢◌, slice_index}
use Rattle.script.specs.declared.Line.{Line}
use Rattle.script.specs.declared.Line.TheVariants.{Plan, Format}

-- no byte of s is b
abbrev pub Lacks : ℕ → List ℕ → Type 0
Lacks b s = (k : ℕ) → k < length s → slice_index s k ≢ b

-- the first line of a text, and the text behind it
pub record FirstLine (text line rest : List ℕ) : Type 0 where
  pub shorter : length rest < length text
  pub single : Lacks 10 line
  pub parts : (text ≡ line ++ 10 ∷ rest) ⊎ ((text ≡ line) × (rest ≡ []))

-- the number that digits write
abbrev pub digit_on : ℕ → ℕ → ℕ
digit_on n b = 10 * n + (b - 48)

abbrev pub value : List ℕ → ℕ
value s = fold digit_on 0 s

-- digits alone, at least one, that write a number below `limit`; leading zeros are fine
abbrev pub Numeral : ℕ → List ℕ → Type 0
Numeral limit s =
    (0 < length s) × ((k : ℕ) → k < length s → (48 ≤ slice_index s k) × (slice_index s k ≤ 57)) × (value s < limit)

-- one number below a limit after a blank; two of them
abbrev pub One : ℕ → List ℕ → ℕ → Type 0
One limit rest n = (x : List ℕ) × (rest ≡ 32 ∷ x) × Numeral limit x × (n ≡ value x)

abbrev pub Two : ℕ → ℕ → List ℕ → ℕ → ℕ → Type 0
Two limit other rest a b =
    (x : List ℕ)
    × (y : List ℕ)
    × (rest ≡ 32 ∷ (x ++ 32 ∷ y))
    × Numeral limit x
    × (a ≡ value x)
    × Numeral other y
    × (b ≡ value y)

-- the letter that a line begins with: x and f
abbrev pub letter : Line → ℕ
letter (Plan step mask) = 120
letter (Format sectors) = 102

-- what comes behind the letter: a step and a byte; a number of sectors
abbrev pub Tail : Line → List ℕ → Type 0
Tail (Plan step mask) rest = Two 65536 256 rest step mask
Tail (Format sectors) rest = One 65536 rest sectors

abbrev pub Says : List ℕ → Line → Type 0
Says line x = (rest : List ℕ) × (line ≡ letter x ∷ rest) × Tail x rest
