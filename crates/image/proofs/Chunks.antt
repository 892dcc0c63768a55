-- Ranges that are compared chunk by chunk.
use Rattle.std.proofs.Common.{◌≡◌, ℕ, ◌+◌, ◌-◌, ◌*◌, ◌<◌, sym, subst, ⊎_elim, arith}
use lib.Bits.{bit_and}
use Rattle.std.proofs.lemmas.Bool.{cases_lt}
use Rattle.chip.specs.Flash.{Flash}
use Rattle.image.specs.Bytes.{Over}

-- the range of block u from `up` on shows a 1 wherever that of block l from `low` on does
abbrev pub Above : Flash → ℕ → ℕ → ℕ → ℕ → ℕ → Type 0
Above s u l up low n = Over (λ k. s.byte u (up + k)) (λ k. s.byte l (low + k)) n

-- two offsets of one place
pub moved : (s : Flash) (u l a b c d : ℕ) → a ≡ b → c ≡ d → bit_and (s.byte u a) (s.byte l c) ≡ s.byte l c → bit_and (s.byte u b) (s.byte l d) ≡ s.byte l d
moved s u l a b c d e f h =
    subst (λ n. bit_and (s.byte u b) (s.byte l n) ≡ s.byte l n) f
    (subst (λ n. bit_and (s.byte u n) (s.byte l c) ≡ s.byte l c) e h)

-- one chunk more
pub above_more : (s m : Flash) (u l up low i : ℕ) → m ≡ s → Above s u l up low (64 * i) → Above m u l (up + i * 64) (low + i * 64) 64 → Above s u l up low (64 * (i + 1))
above_more s m u l up low i e a b k lt =
    let chunk = subst (λ (x : Flash). Above x u l (up + i * 64) (low + i * 64) 64) e b in
    ⊎_elim (a k)
    (λ le. moved s u l (up + i * 64 + (k - 64 * i)) (up + k) (low + i * 64 + (k - 64 * i)) (low + k) (omega arith) (omega arith) (chunk (k - 64 * i) (omega arith)))
    (cases_lt k (64 * i))

-- a chunk of a whole
pub above_part : (s m : Flash) (u l up low i : ℕ) → m ≡ s → i < 8 → Above s u l up low 512 → Above m u l (up + i * 64) (low + i * 64) 64
above_part s m u l up low i e lt a =
    subst (λ (x : Flash). Above x u l (up + i * 64) (low + i * 64) 64) (sym e)
    (λ k inside. moved s u l (up + (i * 64 + k)) (up + i * 64 + k) (low + (i * 64 + k)) (low + i * 64 + k) (omega arith) (omega arith) (a (i * 64 + k) (omega arith)))
