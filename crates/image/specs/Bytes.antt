-- Bytes as they are read, and which of them cover others.
use Rattle.std.specs.Prelude.{◌≡◌, ℕ, ◌<◌, bit_and}

-- each of the first n bytes of `upper` shows a 1 wherever that of `lower` does
abbrev pub Over : (ℕ → ℕ) → (ℕ → ℕ) → ℕ → Type 0
Over upper lower n = (k : ℕ) → k < n → bit_and (upper k) (lower k) ≡ lower k
