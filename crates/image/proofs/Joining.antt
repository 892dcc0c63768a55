-- Checks of single rules, joined to checks of several.
use Rattle.std.proofs.Common.{◌≡◌, ℕ, ◌+◌, ◌≤◌, Some, None, subst, ⊎_elim, arith}
use Rattle.std.proofs.lemmas.Bool.{cases_lt}
use Rattle.chip.specs.Flash.{Flash}
use Rattle.label.specs.declared.Sizes.{Sizes}
use Rattle.ring.specs.Searches.{First}
use Rattle.ring.specs.Rules.{Breach, Kept}
use Rattle.image.specs.declared.flaw.Broken.{Broken}
use Rattle.image.specs.Checks.{KeptFrom, Lowest}

module _ {s : Flash} {z : Sizes} {c : ℕ} where
  -- one rule is kept
  pub kept_one : (r : ℕ) → Kept s z c r → KeptFrom s z c r r
  kept_one r h rule lo hi = let e : r ≡ rule = omega arith in subst (Kept s z c) e h

  -- some rules are kept, and some more
  pub kept_join : (a m n b : ℕ) → m + 1 ≡ n → KeptFrom s z c a m → KeptFrom s z c n b → KeptFrom s z c a b
  kept_join a m n b e f g rule lo hi = ⊎_elim (λ lt. f rule lo (omega arith)) (λ le. g rule (omega arith) hi) (cases_lt rule n)

  -- a property of places that is the breach of a rule
  pub kept_first : (P : ℕ → Type 0) (r : ℕ) → ((n : ℕ) → Breach s z c r n → P n) → First P None → KeptFrom s z c r r
  kept_first P r of none = kept_one r (λ n b. none n (of n b))

  pub lowest_first : (P : ℕ → Type 0) (r n : ℕ) → ((q : ℕ) → Breach s z c r q → P q) → (P n → Breach s z c r n) → First P (Some n) → Lowest s z c r r record { rule = r; place = n }
  lowest_first P r n of to h = record {
    from = omega arith;
    to = omega arith;
    breach = to h.0;
    lowest = λ q lt b. h.1 q lt (of q b);
    before = λ rule lo lt. absurd (omega arith);
  }

  -- a breach is the lowest of more rules, where those before are kept
  pub lowest_later : (a m n b : ℕ) {x : Broken} → m + 1 ≡ n → a ≤ n → KeptFrom s z c a m → Lowest s z c n b x → Lowest s z c a b x
  lowest_later a m n b {x} e le f h = record {
    from = omega (arith, h.from);
    to = h.to;
    breach = h.breach;
    lowest = h.lowest;
    before = λ rule lo lt. ⊎_elim (λ less. f rule lo (omega arith)) (λ more. h.before rule more lt) (cases_lt rule n);
  }

  -- and of rules that come after it
  pub lowest_wider : (a m b : ℕ) {x : Broken} → m ≤ b → Lowest s z c a m x → Lowest s z c a b x
  lowest_wider a m b {x} le h = record { from = h.from; to = omega (arith, h.to); breach = h.breach; lowest = h.lowest; before = h.before }
