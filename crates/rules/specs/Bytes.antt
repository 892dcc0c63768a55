-- Bytes of a block: copies of them, and which of them are not erased.
use Rattle.std.specs.Prelude.{◌≡◌, ℕ, ◌+◌, ◌%◌, ◌<◌, ◌≤◌, ◌⊎◌, List, length, ◌≢◌, slice_index}
use Rattle.chip.specs.Flash.{Flash}

-- n bytes of the chip's block b, from an offset on
pub record Copies (s : Flash) (b at n : ℕ) (bytes : List ℕ) : Type 0 where
  pub whole : length bytes ≡ n
  pub same : (k : ℕ) → k < n → slice_index bytes k ≡ s.byte b (at + k)

-- one of n bytes is not FF hex
abbrev pub Marked : (ℕ → ℕ) → ℕ → Type 0
Marked byte n = (k : ℕ) × (k < n) × (byte k ≢ 255)

-- an offset of a directory that no flags and no sector number lie at
abbrev pub Spare : ℕ → Type 0
Spare o = (28 ≤ o) ⊎ (o % 4 ≡ 3)

-- a spare byte of a directory is not FF hex
abbrev pub Strays : (ℕ → ℕ) → Type 0
Strays byte = (o : ℕ) × (o < 512) × Spare o × (byte o ≢ 255)
