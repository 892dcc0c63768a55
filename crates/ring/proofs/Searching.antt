-- What searches, counts and rows say, place by place.
use Rattle.std.proofs.Common.{◌≡◌, ℕ, zero, suc, ◌+◌, ◌<◌, Bool, cond, ltb, List, [], ◌∷◌, ◌++◌, length, get_or, sym, refl, ap, ◌∙◌, subst, ⊎_elim, zero-add, add-one, arith}
use Rattle.std.proofs.lemmas.List.FromFn.{length-map-range_with_len, get_or-map-range_with_len, map-range_with_len_more, fill_by_all}
use Rattle.std.proofs.lemmas.Bool.{cases_lt, cases_eq, cases_Bool, cases_order, lt-ltb, le-ltb, cond-true, cond-false, both_ways}
use Rattle.ring.specs.Searches.{least, count, row, Least}

-- one number more to search
least_more : (f : ℕ → Bool) (n k : ℕ) → Least f n k → Least f (suc n) (cond (ltb k n) k (cond (f n) n (suc n)))
least_more f n k h =
    ⊎_elim
    (λ lt. subst (Least f (suc n)) (sym (cond-true _ _ _ (lt-ltb k n lt)))
    record { bound = omega arith; before = h.before; hit = λ _. h.hit lt })
    (λ le. subst (Least f (suc n)) (sym (cond-false _ _ _ (le-ltb k n le)))
    (⊎_elim
    (λ t. subst (Least f (suc n)) (sym (cond-true _ _ _ t))
    record { bound = omega arith; before = λ i lt. h.before i (omega (arith, h.bound)); hit = λ _. t })
    (λ u. subst (Least f (suc n)) (sym (cond-false _ _ _ u))
    record {
      bound = omega arith;
      before = λ i lt. ⊎_elim (λ e. ap f e ∙ u) (λ ne. h.before i (omega (arith, h.bound, ne))) (cases_eq i n);
      hit = λ lt. absurd (omega arith);
    })
    (cases_Bool (f n))))
    (cases_lt k n)

-- the search finds the least number
pub least_is : (f : ℕ → Bool) (n : ℕ) → Least f n (least f n)
unfolding least
least_is f zero = record { bound = omega arith; before = λ i lt. absurd (omega arith); hit = λ lt. absurd (omega arith) }
least_is f (suc n) = least_more f n (least f n) (least_is f n)

-- there is one least number
pub least_one : (f : ℕ → Bool) (n j k : ℕ) → Least f n j → Least f n k → j ≡ k
least_one f n j k a b =
    ⊎_elim (λ e. e)
    (⊎_elim
    (λ lt. absurd (both_ways (f j) (b.before j lt) (a.hit (omega (arith, b.bound)))))
    (λ lt. absurd (both_ways (f k) (a.before k lt) (b.hit (omega (arith, a.bound))))))
    (cases_order j k)

pub least_unique : (f : ℕ → Bool) (n k : ℕ) → Least f n k → least f n ≡ k
least_unique f n k h = least_one f n (least f n) k (least_is f n) h

-- one number more is counted
pub count_more : (f : ℕ → Bool) (n : ℕ) → count f (n + 1) ≡ count f n + cond (f n) 1 0
unfolding count
count_more f n = ap (count f) (add-one n)

pub count_none : (f : ℕ → Bool) → count f 0 ≡ 0
unfolding count
count_none f = refl

-- a row has its length, and its places
pub length-row : {A : Type 0} (f : ℕ → A) (n : ℕ) → length (row f n) ≡ n
unfolding row
length-row f n = length-map-range_with_len f 0 n

pub get_or-row : {A : Type 0} (f : ℕ → A) (n i : ℕ) (d : A) → i < n → get_or (row f n) i d ≡ f i
unfolding row
get_or-row f n i d lt = get_or-map-range_with_len f 0 n i i d lt (zero-add i)

-- a list with these places is the row
pub row_is : {A : Type 0} (f : ℕ → A) (xs : List A) (n : ℕ) (d : A) → length xs ≡ n → ((k : ℕ) → k < n → get_or xs k d ≡ f k) → xs ≡ row f n
unfolding row
row_is f xs n d len places = fill_by_all f xs n d len places

-- one place more
pub row_more : {A : Type 0} (f : ℕ → A) (n : ℕ) → row f (n + 1) ≡ row f n ++ (f n ∷ [])
unfolding row
row_more f n = map-range_with_len_more f 0 n n (zero-add n)

-- tests that agree below n count the same, and have the same least number
pub count_same : (f g : ℕ → Bool) (n : ℕ) → ((i : ℕ) → i < n → f i ≡ g i) → count f n ≡ count g n
unfolding count
count_same f g zero h = refl
count_same f g (suc n) h =
    ap (λ a. a + cond (f n) 1 0) (count_same f g n (λ i lt. h i (omega arith))) ∙ ap (λ b. count g n + cond b 1 0) (h n (omega arith))

pub least_same : (f g : ℕ → Bool) (n : ℕ) → ((i : ℕ) → i < n → f i ≡ g i) → least f n ≡ least g n
least_same f g n h =
    let l = least_is g n in
    least_unique f n (least g n) record {
      bound = l.bound;
      before = λ i lt. h i (omega (arith, l.bound)) ∙ l.before i lt;
      hit = λ lt. h (least g n) lt ∙ l.hit lt;
    }
