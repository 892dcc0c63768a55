-- The rules about the last claimed slot: what breaks each, and where.
use Rattle.std.proofs.Common.{◌≡◌, ℕ, ◌+◌, ◌<◌, ◌≤◌, Bool, true, false, cond, List, get_or, sym, ap, ◌∙◌, subst, ⊎_elim, arith}
use Rattle.std.proofs.lemmas.Bool.{both_ways, or_cases, eqb-true}
use Rattle.chip.specs.Flash.{Flash}
use Rattle.label.specs.declared.Sizes.{Sizes}
use Rattle.ring.specs.Searches.{count}
use Rattle.ring.specs.Tally.{begun}
use Rattle.ring.specs.Places.{positions, slot_at, flags_at}
use Rattle.ring.specs.Logs.{ends, unclosed_copy, claimed, unclaimed}
use Rattle.ring.specs.Rules as rules
use Rattle.ring.specs.Rules.{At, LastIs, Unended, Crowded, Astray, Copying, Breach, Kept, live_front, first_live}
use Rattle.ring.proofs.Searching.{count_same}
use Rattle.lookup.specs.Answers.{LiveFront}
use Rattle.image.proofs.Breaches.{of_group, of_room, of_copy}
use Rattle.image.specs.Checks.{KeptFrom, Lowest}

-- what is live in front, counted and searched in the array that says it
pub front_count : (s : Flash) (z : Sizes) (c : ℕ) (front : List Bool) → LiveFront s z c front → count (λ j. get_or front j false) 7 ≡ live_front s z c
front_count s z c front h = count_same _ _ 7 h

-- a slot that ends a group is no unclosed copy
pub ended_closed : (f : ℕ) → ends f ≡ true → unclosed_copy f ≡ false
ended_closed f e =
    ⊎_elim
    (λ a. ⊎_elim (λ b. ap unclosed_copy (eqb-true f 79 b)) (λ b. ap unclosed_copy (eqb-true f 143 b)) (or_cases _ _ a))
    (λ a. ⊎_elim (λ b. ap unclosed_copy (eqb-true f 119 b)) (λ b. ap unclosed_copy (eqb-true f 87 b)) (or_cases _ _ a))
    (or_cases _ _ e)

module _ (s : Flash) (z : Sizes) (c : ℕ) where
  -- no position breaks rules 7, 8 and 9
  pub kept_all : ((p : ℕ) → Unended s z c p → ⊥) → ((p : ℕ) → Crowded s z c p → ⊥) → ((p : ℕ) → Astray s z c p → ⊥) → KeptFrom s z c 7 9
  kept_all a b d rule lo hi place (rules.tally x) = omega arith
  kept_all a b d rule lo hi place (rules.directory x) = omega arith
  kept_all a b d rule lo hi place (rules.flags x) = omega arith
  kept_all a b d rule lo hi place (rules.blank x) = omega arith
  kept_all a b d rule lo hi place (rules.order x) = omega arith
  kept_all a b d rule lo hi place (rules.sector x) = omega arith
  kept_all a b d rule lo hi place (rules.group x) = a x.0 x.3
  kept_all a b d rule lo hi place (rules.room x) = b x.0 x.3
  kept_all a b d rule lo hi place (rules.copy x) = d x.0 x.3

  -- the last slot is one
  one_last : (p q : ℕ) → LastIs s z c p → LastIs s z c q → q ≡ p
  one_last p q a b = omega arith

  -- why rule 7 is kept: no erase has begun, or the last slot ends a group
  pub ended_idle : begun c ≡ false → (q : ℕ) → Unended s z c q → ⊥
  ended_idle e q h = both_ways (begun c) e h.begun

  pub ended : (p : ℕ) → LastIs s z c p → ends (flags_at s z c p) ≡ true → (q : ℕ) → Unended s z c q → ⊥
  ended p last e q h =
      both_ways (ends (flags_at s z c p)) (ap (λ n. ends (flags_at s z c n)) (sym (one_last p q last h.last)) ∙ h.inside) e

  -- why rule 8 is kept: an erase has begun, or there is room
  pub roomy_begun : begun c ≡ true → (q : ℕ) → Crowded s z c q → ⊥
  roomy_begun e q h = both_ways (begun c) h.idle e

  pub roomy : (p : ℕ) → LastIs s z c p → live_front s z c ≤ unclaimed s z c + cond (unclosed_copy (flags_at s z c p)) 1 0 → (q : ℕ) → Crowded s z c q → ⊥
  roomy p last le q h =
      let same = one_last p q last h.last in
      omega (arith, h.few, ap (λ n. cond {A = ℕ} (unclosed_copy (flags_at s z c n)) 1 0) same)

  -- why rule 9 is kept: the last slot is no unclosed copy, or is a right one
  pub straight_closed : (p : ℕ) → LastIs s z c p → unclosed_copy (flags_at s z c p) ≡ false → (q : ℕ) → Astray s z c q → ⊥
  straight_closed p last e q h =
      both_ways (unclosed_copy (flags_at s z c p)) e (ap (λ n. unclosed_copy (flags_at s z c n)) (sym (one_last p q last h.last)) ∙ h.copy)

  pub straight : (p : ℕ) → LastIs s z c p → Copying s z c p → (q : ℕ) → Astray s z c q → ⊥
  straight p last right q h = h.wrong (subst (Copying s z c) (sym (one_last p q last h.last)) right)

  -- where there is no last slot
  pub kept_none : claimed s z c ≡ 0 → KeptFrom s z c 7 9
  kept_none e = kept_all (λ p h. omega (arith, h.last)) (λ p h. omega (arith, h.last)) (λ p h. omega (arith, h.last))

  -- only the last slot is a place
  only_place : (P : ℕ → Type 0) → ((q : ℕ) → P q → LastIs s z c q) → (p place : ℕ) → LastIs s z c p → place ≡ slot_at z c p → (q : ℕ) → q < place → At z c (slot_at z c) P q → ⊥
  only_place P at_last p place last e q lt x =
      let same : x.0 ≡ p = omega (arith, at_last x.0 x.3) in
      omega (arith, ap (slot_at z c) same, x.2)

  module _ (p place : ℕ) (last : LastIs s z c p) (inside : p < positions z c) (e : place ≡ slot_at z c p) where
    pub breaks_group : Unended s z c p → Lowest s z c 7 9 record { rule = 7; place = place }
    breaks_group h = record {
      from = omega arith;
      to = omega arith;
      breach = rules.group (p, inside, sym e, h);
      lowest = λ q lt b. only_place (Unended s z c) (λ q x. x.last) p place last e q lt (of_group s z c q b);
      before = λ rule lo lt. absurd (omega arith);
    }

    pub breaks_room : ((q : ℕ) → Unended s z c q → ⊥) → Crowded s z c p → Lowest s z c 7 9 record { rule = 8; place = place }
    breaks_room a h = record {
      from = omega arith;
      to = omega arith;
      breach = rules.room (p, inside, sym e, h);
      lowest = λ q lt b. only_place (Crowded s z c) (λ q x. x.last) p place last e q lt (of_room s z c q b);
      before = λ rule lo lt n b. below rule lo lt n b;
    }
      where
        below : (rule : ℕ) → 7 ≤ rule → rule < 8 → Kept s z c rule
        below rule lo lt n (rules.tally x) = omega arith
        below rule lo lt n (rules.directory x) = omega arith
        below rule lo lt n (rules.flags x) = omega arith
        below rule lo lt n (rules.blank x) = omega arith
        below rule lo lt n (rules.order x) = omega arith
        below rule lo lt n (rules.sector x) = omega arith
        below rule lo lt n (rules.group x) = a x.0 x.3
        below rule lo lt n (rules.room x) = omega arith
        below rule lo lt n (rules.copy x) = omega arith

    pub breaks_copy : ((q : ℕ) → Unended s z c q → ⊥) → ((q : ℕ) → Crowded s z c q → ⊥) → Astray s z c p → Lowest s z c 7 9 record { rule = 9; place = place }
    breaks_copy a b h = record {
      from = omega arith;
      to = omega arith;
      breach = rules.copy (p, inside, sym e, h);
      lowest = λ q lt x. only_place (Astray s z c) (λ q x. x.last) p place last e q lt (of_copy s z c q x);
      before = below;
    }
      where
        below : (rule : ℕ) → 7 ≤ rule → rule < 9 → Kept s z c rule
        below rule lo lt n (rules.tally x) = omega arith
        below rule lo lt n (rules.directory x) = omega arith
        below rule lo lt n (rules.flags x) = omega arith
        below rule lo lt n (rules.blank x) = omega arith
        below rule lo lt n (rules.order x) = omega arith
        below rule lo lt n (rules.sector x) = omega arith
        below rule lo lt n (rules.group x) = a x.0 x.3
        below rule lo lt n (rules.room x) = b x.0 x.3
        below rule lo lt n (rules.copy x) = omega arith
