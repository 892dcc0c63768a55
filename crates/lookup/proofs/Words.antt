-- Sets of bits in words: the empty one, and one bit more.
use Rattle.std.proofs.Common.{◌≡◌, ℕ, zero, suc, ◌+◌, ◌-◌, ◌*◌, ◌/◌, ◌%◌, ◌^◌, ◌<◌, ◌≤◌, max, false, cond, ◌||◌, eqb, List, length, get_or, set, replicate, sym, refl, ap, ◌∙◌, subst, ⊎_elim, one-mul, arith, get_or-set_other, get_or-set_same}
use native.Mathlib.Nat.{max-le, max-zero, max-eq_right}
use lib.Bits.{bit_or, or_step}
use Rattle.std.proofs.lemmas.Nat.{or_shr, shl-shr, pow-add, pow_pos, pow_below, div_below, mod-mul-add, one_shl}
use Rattle.std.proofs.lemmas.Bool.{cases_eq, cases_lt, eq-eqb, ne_eqb, cond-true, cond-false}
use Rattle.lookup.specs.Bits.{bit_of, bit_at, marked}

-- a sum of bits has a 1 where one of the two has
low : (x y : ℕ) → bit_or x y % 2 ≡ max (x % 2) (y % 2)
low x y =
    let p : x % 2 ≤ 1 = omega arith in
    let q : y % 2 ≤ 1 = omega arith in
    let m : max (x % 2) (y % 2) < 2 = omega (arith, max-le p q) in
    ap (λ n. n % 2) (or_step x y) ∙ mod-mul-add (bit_or (x / 2) (y / 2)) 2 (max (x % 2) (y % 2)) m

or_bit : (a b k : ℕ) → bit_of (bit_or a b) k ≡ max (bit_of a k) (bit_of b k)
or_bit a b k = ap (λ n. n % 2) (or_shr a b k) ∙ low (a / 2 ^ k) (b / 2 ^ k)

-- a power of 2 has one bit
here : (m : ℕ) → bit_of (2 ^ m) m ≡ 1
here m = ap (λ n. n % 2) (ap (λ n. n / 2 ^ m) (sym (one-mul (2 ^ m))) ∙ shl-shr 1 m)

above : (m k : ℕ) → m < k → bit_of (2 ^ m) k ≡ 0
above m k lt =
    let d : 2 ^ m / 2 ^ k < 1 = div_below (2 ^ m) (2 ^ k) 1 (pow_pos k) (omega (arith, pow_below m k lt)) in
    omega arith

beneath : (d k : ℕ) → bit_of (2 ^ (d + 1 + k)) k ≡ 0
beneath d k =
    let e = ap (λ n. n / 2 ^ k) (pow-add 2 (d + 1) k) ∙ shl-shr (2 ^ (d + 1)) k in
    let f = pow-add 2 d 1 in
    omega arith

elsewhere : (m k : ℕ) → (k ≡ m → ⊥) → bit_of (2 ^ m) k ≡ 0
elsewhere m k ne =
    ⊎_elim (above m k)
    (λ le. let e : (m - k - 1) + 1 + k ≡ m = omega (arith, ⊎_elim {C = k < m} (λ h. h) (λ h. absurd (ne (omega arith))) (cases_lt k m)) in subst (λ n. bit_of (2 ^ n) k ≡ 0) e (beneath (m - k - 1) k))
    (cases_lt m k)

-- one bit more in a word
word : (a m k : ℕ) → bit_of (bit_or a (2 ^ m)) k ≡ cond (eqb k m) 1 (bit_of a k)
word a m k =
    ⊎_elim
    (λ e. let one : bit_of (2 ^ m) k ≡ 1 = subst (λ n. bit_of (2 ^ m) n ≡ 1) (sym e) (here m) in
    or_bit a (2 ^ m) k ∙ ap (max (bit_of a k)) one ∙ max-eq_right (omega arith) ∙ sym (cond-true _ _ _ (eq-eqb k m e)))
    (λ ne. or_bit a (2 ^ m) k ∙ ap (max (bit_of a k)) (elsewhere m k ne) ∙ max-zero _ ∙ sym (cond-false _ _ _ (ne_eqb k m ne)))
    (cases_eq k m)

-- one bit more in many words
put_bit : (ws : List ℕ) (i j : ℕ) → i < 28672 → length ws ≡ 448 → bit_at (set ws (i / 64) (bit_or (get_or ws (i / 64) 0) (1 * 2 ^ (i % 64) % 2 ^ 64))) j ≡ cond (eqb j i) 1 (bit_at ws j)
put_bit ws i j lt whole =
    let m : i % 64 < 64 = omega arith in
    let room : i / 64 < length ws = omega arith in
    let v = bit_or (get_or ws (i / 64) 0) (1 * 2 ^ (i % 64) % 2 ^ 64) in
    ⊎_elim
    (λ e.
    let w : bit_at (set ws (i / 64) v) j ≡ bit_of v (j % 64) = ap (λ n. bit_of (get_or (set ws (i / 64) v) n 0) (j % 64)) e ∙ ap (λ x. bit_of x (j % 64)) (get_or-set_same ws (i / 64) v 0 room) in
    let x : bit_of v (j % 64) ≡ bit_of (bit_or (get_or ws (i / 64) 0) (2 ^ (i % 64))) (j % 64) = ap (λ n. bit_of (bit_or (get_or ws (i / 64) 0) n) (j % 64)) (one_shl (i % 64) 64 m) in
    let t : eqb (j % 64) (i % 64) ≡ eqb j i = ⊎_elim (λ s. eq-eqb _ _ s ∙ sym (eq-eqb j i (omega arith))) (λ s. ne_eqb _ _ s ∙ sym (ne_eqb j i (λ q. s (ap (λ n. n % 64) q)))) (cases_eq (j % 64) (i % 64)) in
    w ∙ x ∙ word (get_or ws (i / 64) 0) (i % 64) (j % 64) ∙ ap (λ b. cond b 1 (bit_of (get_or ws (i / 64) 0) (j % 64))) t ∙ ap (λ n. cond (eqb j i) 1 (bit_of (get_or ws n 0) (j % 64))) (sym e))
    (λ ne.
    ap (λ x. bit_of x (j % 64)) (get_or-set_other ws (i / 64) (j / 64) v 0 ne) ∙ sym (cond-false _ _ _ (ne_eqb j i (λ q. ne (ap (λ n. n / 64) q)))))
    (cases_eq (j / 64) (i / 64))

-- words of 0 have no bit
zeros : (n k : ℕ) → ◌≡◌ {A = ℕ} (get_or (replicate n 0) k 0) 0
zeros zero k = refl
zeros (suc n) zero = refl
zeros (suc n) (suc k) = zeros n k

no_bit : (n j : ℕ) → bit_at (replicate n 0) j ≡ 0
no_bit n j = ap (λ w. bit_of w (j % 64)) (zeros n (j / 64)) ∙ (let d : 0 / 2 ^ (j % 64) < 1 = div_below 0 (2 ^ (j % 64)) 1 (pow_pos (j % 64)) (omega (arith, pow_pos (j % 64))) in omega arith)

-- the same of the set
pub put_marks : (ws : List ℕ) (i j : ℕ) → i < 28672 → length ws ≡ 448 → marked (set ws (i / 64) (bit_or (get_or ws (i / 64) 0) (1 * 2 ^ (i % 64) % 2 ^ 64))) j ≡ (eqb i j || marked ws j)
put_marks ws i j lt whole =
    ap (λ n. eqb n 1) (put_bit ws i j lt whole)
    ∙ ⊎_elim
    (λ e. ap (λ t. eqb (cond t 1 (bit_at ws j)) 1) (eq-eqb j i e) ∙ sym (ap (λ t. t || marked ws j) (eq-eqb i j (sym e))))
    (λ ne. ap (λ t. eqb (cond t 1 (bit_at ws j)) 1) (ne_eqb j i ne) ∙ sym (ap (λ t. t || marked ws j) (ne_eqb i j (λ e. ne (sym e)))))
    (cases_eq j i)

pub no_marks : (n j : ℕ) → marked (replicate n 0) j ≡ false
no_marks n j = ap (λ b. eqb b 1) (no_bit n j)
