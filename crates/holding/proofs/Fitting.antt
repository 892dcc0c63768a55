-- How many slots can be live: counts, and a log of live slots that is no longer than there are sectors.
use Rattle.std.proofs.Common.{◌≡◌, ℕ, zero, suc, ◌+◌, ◌<◌, ◌≤◌, Bool, true, false, cond, eqb, List, length, get_or, Some, sym, refl, ap, ◌∙◌, ⊎_elim, arith}
use Rattle.std.proofs.lemmas.Bool.{cases_lt, cases_eq, eq-eqb, ne_eqb, cond-true, cond-false}
use Rattle.ring.specs.Searches.{least, count}
use Rattle.ring.specs.Logs.{Entry, no_entry, live, is_live}
use Rattle.ring.proofs.Searching.{least_is, count_same}
use Rattle.laid.specs.Sane.{front_live}
use Rattle.holding.proofs.Growing.{is_live_is}

-- no more are counted than there are
pub count_most : (f : ℕ → Bool) (n : ℕ) → count f n ≤ n
unfolding count
count_most f zero = omega arith
count_most f (suc n) = omega (arith, count_most f n, most (f n))
  where
    most : (b : Bool) → cond b 1 0 ≤ 1
    most true = omega arith
    most false = omega arith

pub front_most : (es : List Entry) → front_live es ≤ 7
front_most es = count_most (is_live es) 7

-- none is counted exactly where the test holds nowhere
pub count_zero : (f : ℕ → Bool) (n : ℕ) → ((i : ℕ) → i < n → f i ≡ false) → count f n ≡ 0
unfolding count
count_zero f zero h = refl
count_zero f (suc n) h =
    let before = count_zero f n (λ i lt. h i (omega arith)) in
    let last : ◌≡◌ {A = ℕ} (cond (f n) 1 0) 0 = ap (λ b. cond b 1 0) (h n (omega arith)) in
    omega arith

pub count_zero_back : (f : ℕ → Bool) (n : ℕ) → count f n ≡ 0 → (i : ℕ) → i < n → f i ≡ false
unfolding count
count_zero_back f zero h i lt = absurd (omega arith)
count_zero_back f (suc n) h i lt =
    ⊎_elim (λ e. ap f e ∙ none (f n) (omega arith)) (λ ne. count_zero_back f n (omega arith) i (omega (arith, ne))) (cases_eq i n)
  where
    none : (b : Bool) → ◌≡◌ {A = ℕ} (cond b 1 0) 0 → b ≡ false
    none true g = absurd (omega arith)
    none false g = refl

-- a test that holds at one number less counts one less
pub count_less : (f g : ℕ → Bool) (n i : ℕ) → i < n → f i ≡ false → g i ≡ true → ((j : ℕ) → j < n → (j ≡ i → ⊥) → f j ≡ g j) → count f n + 1 ≡ count g n
unfolding count
count_less f g zero i lt u t same = absurd (omega arith)
count_less f g (suc n) i lt u t same =
    ⊎_elim
    (λ e. let front = count_same f g n (λ j less. same j (omega arith) (λ k. omega arith)) in
    let out : ◌≡◌ {A = ℕ} (cond (f n) 1 0) 0 = ap (λ b. cond b 1 0) (ap f (sym e) ∙ u) in
    let in-it : ◌≡◌ {A = ℕ} (cond (g n) 1 0) 1 = ap (λ b. cond b 1 0) (ap g (sym e) ∙ t) in
    omega arith)
    (λ ne. let front = count_less f g n i (omega (arith, ne)) u t (λ j less. same j (omega arith)) in
    let last : ◌≡◌ {A = ℕ} (cond (f n) 1 0) (cond (g n) 1 0) = ap (λ b. cond b 1 0) (same n (omega arith) (λ k. ne (sym k))) in
    omega arith)
    (cases_eq i n)

-- if some are counted, there is a first
pub count_some : (f : ℕ → Bool) (n : ℕ) → 0 < count f n → least f n < n
count_some f n h =
    ⊎_elim (λ lt. lt)
    (λ le. absurd (omega (arith, count_zero f n (λ i lt. (least_is f n).before i (omega arith)))))
    (cases_lt (least f n) n)

-- different numbers below a limit, one for each below n: n is at most the limit
pub different_fit : (limit n : ℕ) (f : ℕ → ℕ) → ((i : ℕ) → i < n → f i < limit) → ((i j : ℕ) → i < n → j < n → f i ≡ f j → i ≡ j) → n ≤ limit
different_fit zero zero f small one = omega arith
different_fit zero (suc n) f small one = absurd (omega (arith, small n (omega arith)))
different_fit (suc l) zero f small one = omega arith
different_fit (suc l) (suc n) f small one = omega (arith, different_fit l n moved below apart)
  where
    moved : ℕ → ℕ
    moved i = cond (eqb (f i) l) (f n) (f i)

    here : (i : ℕ) → f i ≡ l → moved i ≡ f n
    here i e = cond-true _ _ _ (eq-eqb (f i) l e)

    there : (i : ℕ) → (f i ≡ l → ⊥) → moved i ≡ f i
    there i ne = cond-false _ _ _ (ne_eqb (f i) l ne)

    below : (i : ℕ) → i < n → moved i < l
    below i lt =
        ⊎_elim
        (λ e. let ne : f n ≡ l → ⊥ = λ g. omega (arith, one i n (omega arith) (omega arith) (e ∙ sym g)) in omega (arith, here i e, small n (omega arith), ne))
        (λ ne. omega (arith, there i ne, small i (omega arith), ne))
        (cases_eq (f i) l)

    apart : (i j : ℕ) → i < n → j < n → moved i ≡ moved j → i ≡ j
    apart i j a b same =
        ⊎_elim
        (λ e. ⊎_elim
        (λ g. one i j (omega arith) (omega arith) (e ∙ sym g))
        (λ ng. absurd (omega (arith, one n j (omega arith) (omega arith) (sym (here i e) ∙ same ∙ there j ng))))
        (cases_eq (f j) l))
        (λ ne. ⊎_elim
        (λ g. absurd (omega (arith, one i n (omega arith) (omega arith) (sym (there i ne) ∙ same ∙ here j g))))
        (λ ng. one i j (omega arith) (omega arith) (sym (there i ne) ∙ same ∙ there j ng))
        (cases_eq (f j) l))
        (cases_eq (f i) l)

-- two live slots have different sectors
pub live_one : (es : List Entry) (i j : ℕ) → is_live es i ≡ true → is_live es j ≡ true → (get_or es i no_entry).sector ≡ (get_or es j no_entry).sector → i ≡ j
live_one es i j a b same =
    let both : Some i ≡ Some j = sym (is_live_is es i a) ∙ ap (λ x. live x es) same ∙ is_live_is es j b in
    cc

-- so a log all of which is live is no longer than there are sectors
pub all_live_fit : (limit : ℕ) (es : List Entry) → ((i : ℕ) → i < length es → is_live es i ≡ true) → ((i : ℕ) → i < length es → (get_or es i no_entry).sector < limit) → length es ≤ limit
all_live_fit limit es alive small =
    different_fit limit (length es) (λ i. (get_or es i no_entry).sector) small (λ i j a b. live_one es i j (alive i a) (alive j b))
