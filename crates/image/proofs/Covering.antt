-- A position covers another where its number and its page do.
use Rattle.std.proofs.Common.{◌≡◌, ℕ, ◌+◌, ◌*◌, ◌%◌, Bool, true, false, sym, subst, arith}
use Rattle.chip.specs.Flash.{Flash}
use Rattle.chip.specs.Ranges.{Tells}
use Rattle.label.specs.declared.Sizes.{Sizes}
use Rattle.ring.specs.Places.{chip_block, block_at}
use Rattle.ring.specs.Rules.{Covers}
use Rattle.image.proofs.Chunks.{Above, moved}

-- a test of one thing decides another that agrees with it
pub tells_same : {P Q : Type 0} (r : Bool) → (P → Q) → (Q → P) → Tells r P → Tells r Q
tells_same true f g h = f h
tells_same false f g h = λ q. h (g q)

-- what fails in a part fails in the whole
pub tells_part : {P Q : Type 0} (r : Bool) → r ≡ false → (Q → P) → Tells r P → Tells r Q
tells_part true e g h = absurd (let w : ◌≡◌ {A = ℕ} 0 1 = cc in omega arith)
tells_part false e g h = λ q. h (g q)

-- blocks and offsets that are the same
same_places : (P : ℕ → ℕ → ℕ → ℕ → Type 0) {u l a b v m c d : ℕ} → u ≡ v → l ≡ m → a ≡ c → b ≡ d → P u l a b → P v m c d
same_places P {u} {l} {a} {b} {v} {m} {c} {d} e f g h x =
    subst (λ n. P v m c n) h (subst (λ n. P v m n b) g (subst (λ n. P v n a b) f (subst (λ n. P n l a b) e x)))

-- blocks and offsets that are those of two positions
module _ (s : Flash) (z : Sizes) (c q p u l a b m n : ℕ) (above : u ≡ chip_block z (block_at z c q)) (below : l ≡ chip_block z (block_at z c p)) (up : a ≡ 4 * (q % 7)) (low : b ≡ 4 * (p % 7)) (top : m ≡ 512 * (q % 7 + 1)) (bottom : n ≡ 512 * (p % 7 + 1)) where
  pub covering : Above s u l (a + 1) (b + 1) 2 → Above s u l m n 512 → Covers s z c q p
  covering number page = record {
    number = λ k lt.
        moved s _ _ (4 * (q % 7) + 1 + k) (4 * (q % 7) + (k + 1)) (4 * (p % 7) + 1 + k) (4 * (p % 7) + (k + 1)) (omega arith) (omega arith)
        (same_places (λ v w i j. Above s v w (i + 1) (j + 1) 2) above below up low number k lt);
    page = same_places (λ v w i j. Above s v w i j 512) above below top bottom page;
  }

  pub number_of : Covers s z c q p → Above s u l (a + 1) (b + 1) 2
  number_of h =
      same_places (λ v w i j. Above s v w (i + 1) (j + 1) 2) (sym above) (sym below) (sym up) (sym low)
      (λ k lt. moved s _ _ (4 * (q % 7) + (k + 1)) (4 * (q % 7) + 1 + k) (4 * (p % 7) + (k + 1)) (4 * (p % 7) + 1 + k) (omega arith) (omega arith) (h.number k lt))

  pub page_of : Covers s z c q p → Above s u l m n 512
  page_of h = same_places (λ v w i j. Above s v w i j 512) (sym above) (sym below) (sym top) (sym bottom) h.page
