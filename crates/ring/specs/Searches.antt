-- Searches and counts over the numbers below n, and lists made of them.
use Rattle.std.specs.Prelude.{◌≡◌, ℕ, zero, suc, ◌+◌, ◌<◌, ◌≤◌, Bool, true, false, cond, List, map, Some, None, Option, nat_lt}
use Rattle.std.specs.List.{range_with_len}

-- the least number below n at which a test holds, or n
unfoldable pub least : (ℕ → Bool) → ℕ → ℕ
least f zero = zero
least f (suc n) = cond (nat_lt (least f n) n) (least f n) (cond (f n) n (suc n))

-- at how many numbers below n a test holds
unfoldable pub count : (ℕ → Bool) → ℕ → ℕ
count f zero = 0
count f (suc n) = count f n + cond (f n) 1 0

-- the list of f 0 to f (n - 1)
unfoldable pub row : {A : Type 0} → (ℕ → A) → ℕ → List A
row f n = map f (range_with_len 0 n)

-- k is the least number below n at which a test holds, or n
pub record Least (f : ℕ → Bool) (n k : ℕ) : Type 0 where
  pub bound : k ≤ n
  pub before : (i : ℕ) → i < k → f i ≡ false
  pub hit : k < n → f k ≡ true

-- the first number that has a property, or none
abbrev pub First : (ℕ → Type 0) → Option ℕ → Type 0
First P None = (n : ℕ) → P n → ⊥
First P (Some n) = P n × ((q : ℕ) → q < n → P q → ⊥)
