-- What one step, a program or an erase, leaves when it is finished and when it is cut, and what a call may answer.
use Rattle.std.specs.Prelude.{◌≡◌, ℕ, ◌+◌, ◌<◌, ◌≤◌, true, false, ◌⊎◌, List, [], ◌∷◌, length, Ok, Err, Result, ◌≢◌, bit_and, slice_index}
use Rattle.chip.specs.declared.Fault.{Fault}
use Rattle.chip.specs.Faults.{numbers}
use Rattle.chip.specs.Flash.{Flash}
use Rattle.chip.specs.Ranges.{Within, Paged}

-- a program of `given` into `size` bytes of a block from an offset on, or an erase of a block
pub data Step : Type 0 where
  program : ℕ → ℕ → ℕ → List ℕ → Step
  erase : ℕ → Step

-- the block that a step works on
abbrev pub block : Step → ℕ
block (program b at size given) = b
block (erase b) = b

-- a step that a chip with power does not refuse
abbrev pub Allowed : Step → Flash → Type 0
Allowed (program b at size given) s = Paged s.blocks b at size (length given)
Allowed (erase b) s = b < s.blocks

-- what no step changes
pub record Frame (s t : Flash) : Type 0 where
  pub blocks : t.blocks ≡ s.blocks
  pub home : (b : ℕ) → t.home b ≡ s.home b

-- t is s but for `size` bytes of the block b from `at` on
pub record Elsewhere (s : Flash) (b at size : ℕ) (t : Flash) : Type 0 where
  pub frame : Frame s t
  pub others : (c o : ℕ) → (c ≢ b) → t.byte c o ≡ s.byte c o
  pub before : (o : ℕ) → o < at → t.byte b o ≡ s.byte b o
  pub after : (o : ℕ) → at + size ≤ o → t.byte b o ≡ s.byte b o

-- what a finished program makes of the k-th byte of its range
abbrev pub finished : Flash → ℕ → ℕ → List ℕ → ℕ → ℕ
finished s b at given k = bit_and (s.byte b (at + k)) (slice_index given k)

-- x has every 1 of `low`, and no 1 that `high` lacks
pub record Between (low x high : ℕ) : Type 0 where
  pub over : bit_and x low ≡ low
  pub under : bit_and x high ≡ x

pub record Programmed (s : Flash) (b at : ℕ) (given : List ℕ) (t : Flash) : Type 0 where
  pub elsewhere : Elsewhere s b at (length given) t
  pub inside : (k : ℕ) → k < length given → t.byte b (at + k) ≡ finished s b at given k

pub record TornProgram (s : Flash) (b at : ℕ) (given : List ℕ) (t : Flash) : Type 0 where
  pub elsewhere : Elsewhere s b at (length given) t
  pub inside : (k : ℕ) → k < length given → Between (finished s b at given k) (t.byte b (at + k)) (s.byte b (at + k))

pub record Erased (s : Flash) (b : ℕ) (t : Flash) : Type 0 where
  pub elsewhere : Elsewhere s b 0 4096 t
  pub inside : (o : ℕ) → o < 4096 → t.byte b o ≡ 255

-- an erase that was cut leaves any bytes in the block
pub record TornErase (s : Flash) (b : ℕ) (t : Flash) : Type 0 where
  pub elsewhere : Elsewhere s b 0 4096 t
  pub inside : (o : ℕ) → o < 4096 → t.byte b o < 256

abbrev pub Done : Step → Flash → Flash → Type 0
Done (program b at size given) s t = Programmed s b at given t
Done (erase b) s t = Erased s b t

abbrev pub Torn : Step → Flash → Flash → Type 0
Torn (program b at size given) s t = TornProgram s b at given t
Torn (erase b) s t = TornErase s b t

-- a step that was finished
pub record Worked (p : Step) (s t : Flash) : Type 0 where
  pub allowed : Allowed p s
  pub was : s.on ≡ true
  pub on : t.on ≡ true
  pub done : Done p s t

-- a step that was cut
pub record Broke (p : Step) (s t : Flash) : Type 0 where
  pub allowed : Allowed p s
  pub was : s.on ≡ true
  pub off : t.on ≡ false
  pub torn : Torn p s t

-- a step that was refused, by the numbers of the refusal
abbrev pub Refuses : Step → Flash → List ℕ → Flash → Type 0
Refuses p s ns t =
    ((ns ≡ 14 ∷ []) × (Allowed p s → ⊥) × (t ≡ s))
    ⊎ (((ns ≡ 15 ∷ []) × Allowed p s × (s.on ≡ false) × (t ≡ s))
    ⊎ ((ns ≡ 16 ∷ (s.home (block p)).name ∷ (s.home (block p)).block ∷ []) × Broke p s t))

-- what a call that asks for the step p at s may answer, and what it leaves
abbrev pub Answers : Step → Flash → Result (Unit {0}) Fault → Flash → Type 0
Answers p s (Ok _) t = Worked p s t
Answers p s (Err f) t = Refuses p s (numbers f) t

-- a read that was served: the bytes of the range, and a buffer as long as it was
pub record Copied (s : Flash) (b at size : ℕ) (old new : List ℕ) : Type 0 where
  pub within : Within s.blocks b at size (length old)
  pub on : s.on ≡ true
  pub bytes : (k : ℕ) → k < length old → slice_index new k ≡ s.byte b (at + k)

-- what a read of a range into a buffer may answer, and what the buffer then holds
abbrev pub Reads : Flash → ℕ → ℕ → ℕ → List ℕ → Result (Unit {0}) Fault → List ℕ → Type 0
Reads s b at size old (Ok _) new = Copied s b at size old new
Reads s b at size old (Err f) new =
    ((numbers f ≡ 14 ∷ []) × (Within s.blocks b at size (length old) → ⊥) × (new ≡ old))
    ⊎ ((numbers f ≡ 15 ∷ []) × Within s.blocks b at size (length old) × (s.on ≡ false) × (new ≡ old))
