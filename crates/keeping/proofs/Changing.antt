-- An image that kept the rules keeps them when its log has changed in one of the ways in which a volume changes it.
use Rattle.std.proofs.Common.{◌≡◌, ℕ, ◌+◌, ◌-◌, ◌%◌, ◌<◌, ◌≤◌, true, false, cond, List, [], ◌∷◌, ◌++◌, length, drop, sym, refl, ap, ◌∙◌, arith, length-drop}
use Rattle.std.proofs.lemmas.Bool.{both_ways, cond-false}
use Rattle.chip.specs.Flash.{Flash}
use Rattle.label.specs.declared.Sizes.{Sizes}
use Rattle.ring.specs.Places.{positions}
use Rattle.ring.specs.Logs.{Entry, closes, is_copy, unclosed_copy, is_live}
use Rattle.ring.specs.Rules.{legal, numbered}
use Rattle.ring.proofs.Searching.{count_same, least_same}
use Rattle.laid.specs.Laid.{Laid}
use Rattle.laid.specs.Sane.{last_flags, Ended, front_live, source, Orderly, Sane}
use Rattle.holding.proofs.Growing.{is_live_quiet}
use Rattle.holding.proofs.Fitting.{front_most}
use Rattle.keeping.proofs.Orders.{length_one, last_is, Follows, orderly_more, orderly_less, before_filled, orderly_behind, ended_behind, ended_closed}

-- an entry that closes nothing leaves the front as it is
pub front_quiet : (es : List Entry) (e : Entry) → closes e.flags ≡ false → front_live (es ++ (e ∷ [])) ≡ front_live es
front_quiet es e h = count_same (is_live (es ++ (e ∷ []))) (is_live es) 7 (λ i lt. is_live_quiet es e i h)

pub source_quiet : (es : List Entry) (e : Entry) → closes e.flags ≡ false → source (es ++ (e ∷ [])) ≡ source es
source_quiet es e h = least_same (is_live (es ++ (e ∷ []))) (is_live es) 7 (λ i lt. is_live_quiet es e i h)

-- with no unclosed copy at its end, a log has room for what is live of its front
pub roomy_closed : {s : Flash} {z : Sizes} {c : ℕ} (es : List Entry) → Sane s z c es → c % 2 ≡ 0 → unclosed_copy (last_flags es) ≡ false → front_live es ≤ positions z c - length es
roomy_closed {s} {z} {c} es sane even closed =
    let none : ◌≡◌ {A = ℕ} (cond (unclosed_copy (last_flags es)) 1 0) 0 = cond-false _ _ _ closed in
    omega (arith, sane.roomy even, none)

pub ended_last : (es : List Entry) → 0 < length es → Ended es → unclosed_copy (last_flags es) ≡ false
ended_last es some ended = ended_closed (last_flags es) (ended some)

pub ended_none : (es : List Entry) → Ended es → unclosed_copy (last_flags es) ≡ false
ended_none [] ended = refl
ended_none (e ∷ es) ended = ended_last (e ∷ es) (omega arith) ended

-- the same log, on another image
pub sane_relaid : {s t : Flash} {z : Sizes} {c : ℕ} (es : List Entry) → Sane s z c es → unclosed_copy (last_flags es) ≡ false → Laid t z c es → Sane t z c es
sane_relaid es sane closed laid = record {
  laid = laid;
  orderly = sane.orderly;
  ended = sane.ended;
  roomy = sane.roomy;
  copied = λ there. absurd (both_ways _ closed there);
}

-- one entry more, which is no copy, where eight slots are free
module _ {s t : Flash} {z : Sizes} {c : ℕ} (es : List Entry) (e : Entry) (even : c % 2 ≡ 0) where
  pub sane_put : Sane s z c es → length es + 8 ≤ positions z c → Follows z.sectors es e → unclosed_copy e.flags ≡ false → Laid t z c (es ++ (e ∷ [])) → Sane t z c (es ++ (e ∷ []))
  sane_put sane room follows closed laid = record {
    laid = laid;
    orderly = orderly_more z.sectors es e sane.orderly follows;
    ended = λ odd. absurd (omega (arith, odd, even));
    roomy = λ _. omega (arith, front_most (es ++ (e ∷ [])), length_one es e);
    copied = λ there. absurd (both_ways _ closed (ap unclosed_copy (sym (last_is es e)) ∙ there));
  }

-- another last entry, which is no copy
module _ {s t : Flash} {z : Sizes} {c : ℕ} (ys : List Entry) (e f : Entry) (even : c % 2 ≡ 0) (sane : Sane s z c (ys ++ (e ∷ []))) (lawful : legal f.flags ≡ true) (put : is_copy f.flags ≡ false) (closed : unclosed_copy f.flags ≡ false) (number : numbered f.flags ≡ true → f.sector < z.sectors) (laid : Laid t z c (ys ++ (f ∷ []))) where
  orders : Orderly z.sectors (ys ++ (f ∷ []))
  orders = orderly_more z.sectors ys f (orderly_less z.sectors ys e sane.orderly) record {
    legal = lawful;
    filled = before_filled z.sectors ys e sane.orderly;
    copies = λ copy. absurd (both_ways _ put copy);
    numbers = number;
  }

  altered : front_live (ys ++ (f ∷ [])) ≤ positions z c - length (ys ++ (f ∷ [])) → Sane t z c (ys ++ (f ∷ []))
  altered room = record {
    laid = laid;
    orderly = orders;
    ended = λ odd. absurd (omega (arith, odd, even));
    roomy = λ _. omega (arith, room);
    copied = λ there. absurd (both_ways _ closed (ap unclosed_copy (sym (last_is ys f)) ∙ there));
  }

  -- it closes the group, where seven slots are free
  pub sane_closed : length (ys ++ (f ∷ [])) + 7 ≤ positions z c → Sane t z c (ys ++ (f ∷ []))
  sane_closed room = altered (omega (arith, front_most (ys ++ (f ∷ []))))

  -- neither of the two closes the group
  pub sane_dropped : closes e.flags ≡ false → unclosed_copy e.flags ≡ false → closes f.flags ≡ false → Sane t z c (ys ++ (f ∷ []))
  sane_dropped before unfinished after =
      altered (omega (
        arith,
        front_quiet ys e before,
        front_quiet ys f after,
        length_one ys e,
        length_one ys f,
        roomy_closed (ys ++ (e ∷ [])) sane even (ap unclosed_copy (last_is ys e) ∙ unfinished),
      ))

behind_closed : (limit : ℕ) (es : List Entry) → Ended es → unclosed_copy (last_flags (drop 7 es)) ≡ false
behind_closed limit es ended = ended_none (drop 7 es) (ended_behind limit 7 es ended)

-- the oldest block leaves the log, is erased, and comes back free
module _ {s t : Flash} {z : Sizes} {c : ℕ} (es : List Entry) (sane : Sane s z c es) (even : c % 2 ≡ 0) (ended : Ended es) where
  pub sane_begun : Laid t z (c + 1) (drop 7 es) → Sane t z (c + 1) (drop 7 es)
  sane_begun laid = record {
    laid = laid;
    orderly = orderly_behind z.sectors 7 es sane.orderly;
    ended = λ _. ended_behind z.sectors 7 es ended;
    roomy = λ even-again. absurd (omega (arith, even, even-again));
    copied = λ there. absurd (both_ways _ (behind_closed z.sectors es ended) there);
  }

  pub sane_freed : 1 ≤ z.ring → Laid t z (c + 2) (drop 7 es) → Sane t z (c + 2) (drop 7 es)
  sane_freed some laid = record {
    laid = laid;
    orderly = orderly_behind z.sectors 7 es sane.orderly;
    ended = λ odd. absurd (omega (arith, even, odd));
    roomy = λ _. omega (arith, front_most (drop 7 es), length-drop 7 es, sane.laid.room, even);
    copied = λ there. absurd (both_ways _ (behind_closed z.sectors es ended) there);
  }

-- an erase that has begun is booked
pub sane_booked : {s t : Flash} {z : Sizes} {c : ℕ} (es : List Entry) → Sane s z c es → c % 2 ≡ 1 → 1 ≤ z.ring → Laid t z (c + 1) es → Sane t z (c + 1) es
sane_booked {s} {t} {z} {c} es sane odd some laid = record {
  laid = laid;
  orderly = sane.orderly;
  ended = λ odd-again. absurd (omega (arith, odd, odd-again));
  roomy = λ _. omega (arith, front_most es, sane.laid.room, odd);
  copied = λ there. absurd (both_ways _ (ended_none es (sane.ended odd)) there);
}
