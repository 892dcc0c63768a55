-- Going round a ring of n blocks: each block comes at one turn.
use Rattle.std.proofs.Common.{◌≡◌, ℕ, ◌+◌, ◌-◌, ◌/◌, ◌%◌, ◌<◌, ◌≤◌, ◌⊎◌, sym, ◌∙◌, inl, inr, ⊎_elim, mod-lt, mod-eq_of_lt, arith}
use native.Mathlib.Nat.{mod-eq-sub-mod}
use Rattle.std.proofs.lemmas.Bool.{cases_lt}
use Rattle.label.specs.declared.Sizes.{Sizes}
use Rattle.ring.specs.Places.{first_block, positions, block_at}
use Rattle.ring.specs.Turns.{Shaped, turns_of}

-- a sum of two numbers below n, around n
pub around : (n a i : ℕ) → a < n → i < n → ((a + i < n) × ((a + i) % n ≡ a + i)) ⊎ ((n ≤ a + i) × ((a + i) % n ≡ a + i - n))
around n a i la li =
    ⊎_elim
    (λ lt. inl (lt, mod-eq_of_lt lt))
    (λ le. inr (le, mod-eq-sub-mod le ∙ mod-eq_of_lt (omega arith)))
    (cases_lt (a + i) n)

-- the turn at which b comes
pub comes : (n a b i : ℕ) → a < n → b < n → ((b < a) × (i ≡ b + n - a)) ⊎ ((a ≤ b) × (i ≡ b - a)) → (i < n) × ((a + i) % n ≡ b)
comes n a b i la lb h =
    let lt : i < n = ⊎_elim (λ x. omega (arith, x.0, x.1)) (λ x. omega (arith, x.0, x.1)) h in (
      lt,
      ⊎_elim
          (λ x. ⊎_elim (λ y. y.1 ∙ omega (arith, x.0, x.1, y.0)) (λ y. y.1 ∙ omega (arith, x.0, x.1, y.0)) (around n a i la lt))
          (λ x. ⊎_elim (λ y. y.1 ∙ omega (arith, x.0, x.1, y.0)) (λ y. y.1 ∙ omega (arith, x.0, x.1, y.0)) (around n a i la lt))
          h,
    )

-- one block comes at one turn
pub comes_once : (n a i j : ℕ) → a < n → i < n → j < n → (a + i) % n ≡ (a + j) % n → i ≡ j
comes_once n a i j la li lj e =
    ⊎_elim
    (λ x. ⊎_elim (λ y. omega (arith, x.0, x.1, y.0, y.1)) (λ y. omega (arith, x.0, x.1, y.0, y.1)) (around n a j la lj))
    (λ x. ⊎_elim (λ y. omega (arith, x.0, x.1, y.0, y.1)) (λ y. omega (arith, x.0, x.1, y.0, y.1)) (around n a j la lj))
    (around n a i la li)

-- the log starts in a block of the ring
pub starts_inside : (z : Sizes) (c : ℕ) → Shaped z c → first_block z c < z.ring
starts_inside z c h = mod-lt _ (omega (arith, h.ring_least))

-- a block that would come too late holds no position
pub comes_late : (z : Sizes) (c b i : ℕ) → Shaped z c → i < z.ring → (first_block z c + i) % z.ring ≡ b → turns_of z c ≤ i → (p : ℕ) → p < positions z c → block_at z c p ≡ b → ⊥
comes_late z c b i h lt e late p inside at =
    let turn : p / 7 < turns_of z c = omega arith in
    let same : i ≡ p / 7 = comes_once z.ring (first_block z c) i (p / 7) (starts_inside z c h) lt (omega arith) (e ∙ sym at) in
    omega arith
