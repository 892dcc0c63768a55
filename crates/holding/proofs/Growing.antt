-- A log that grows by entries that do not close a group, and what is known of a live slot.
use Rattle.std.proofs.Common.{◌≡◌, ℕ, zero, suc, ◌<◌, ◌≤◌, Bool, true, false, cond, ◌&&◌, ◌||◌, eqb, List, [], ◌∷◌, ◌++◌, length, get_or, drop, Some, None, Option, sym, refl, ap, ◌∙◌, subst, ap₂, ⊎_elim, arith, drop-cons}
use Rattle.std.proofs.lemmas.List.{get_or_append_left, drop_all}
use Rattle.std.proofs.lemmas.Bool.{cases_lt, and_right, and_parts, eqb-true, eq-eqb, ne_eqb, or_cases, both_ways, cond-false}
use Rattle.ring.specs.Logs.{Entry, no_entry, closes, ends, counts, later, live, shows, holds, points, is_live}
use Rattle.ring.specs.Rules.{legal, unfilled, numbered}
use Rattle.laid.specs.Sane.{flags_of, Orderly}

-- an entry that does not close its group changes no group before it, and has none that counts
pub counts_quiet : (es : List Entry) (e : Entry) → closes e.flags ≡ false → counts (es ++ (e ∷ [])) ≡ counts es
counts_quiet [] e h = ap (λ c. cond (ends e.flags) c false) h ∙ same (ends e.flags)
  where
    same : (b : Bool) → cond b false false ≡ false
    same true = refl
    same false = refl
counts_quiet (d ∷ es) e h = ap (cond (ends d.flags) (closes d.flags)) (counts_quiet es e h)

-- so it changes no live slot
pub live_quiet : (x : ℕ) (es : List Entry) (e : Entry) → closes e.flags ≡ false → live x (es ++ (e ∷ [])) ≡ live x es
live_quiet x [] e h = cond-false _ _ _ (and_right (eqb e.sector x) (counts (e ∷ [])) (counts_quiet [] e h))
live_quiet x (d ∷ es) e h =
    ap₂ (λ o c. later o (cond (eqb d.sector x && c) (Some 0) None)) (live_quiet x es e h) (counts_quiet (d ∷ es) e h)

-- what a live slot is: it is in the log, has the sector's number, and its group is closed
pub record Alive (x : ℕ) (es : List Entry) (i : ℕ) : Type 0 where
  pub inside : i < length es
  pub number : (get_or es i no_entry).sector ≡ x
  pub group : counts (drop i es) ≡ true

pub live_is : (x : ℕ) (es : List Entry) (i : ℕ) → live x es ≡ Some i → Alive x es i
live_is x [] i h = absurd (grind arith)
live_is x (e ∷ es) i h = step (live x es) (live_is x es) (eqb e.sector x && counts (e ∷ es)) refl i h
  where
    step : (o : Option ℕ) → ((k : ℕ) → o ≡ Some k → Alive x es k) → (hit : Bool) → eqb e.sector x && counts (e ∷ es) ≡ hit → (k : ℕ) → later o (cond hit (Some 0) None) ≡ Some k → Alive x (e ∷ es) k
    step (Some j) before hit is zero g = absurd (grind arith)
    step (Some j) before hit is (suc k) g =
        let same : j ≡ k = cc in
        let a = before k (ap Some same) in
        record { inside = omega (arith, a.inside); number = a.number; group = a.group }
    step None before true is zero g =
        let both = and_parts (eqb e.sector x) (counts (e ∷ es)) is in
        record { inside = omega arith; number = eqb-true e.sector x both.0; group = both.1 }
    step None before true is (suc k) g = absurd (grind arith)
    step None before false is k g = absurd (grind arith)

-- each of these alone
pub live_inside : (x : ℕ) (es : List Entry) (i : ℕ) → live x es ≡ Some i → i < length es
live_inside x es i h = (live_is x es i h).inside

pub live_number : (x : ℕ) (es : List Entry) (i : ℕ) → live x es ≡ Some i → (get_or es i no_entry).sector ≡ x
live_number x es i h = (live_is x es i h).number

pub live_counts : (x : ℕ) (es : List Entry) (i : ℕ) → live x es ≡ Some i → counts (drop i es) ≡ true
live_counts x es i h = (live_is x es i h).group

-- a slot that a place points to is at that place
pub points_is : (o : Option ℕ) (i : ℕ) → points o i ≡ true → o ≡ Some i
points_is None i h = absurd (both_ways false refl h)
points_is (Some j) i h = ap Some (eqb-true j i h)

-- a live slot is the one that is live for its sector, and the other way round
pub is_live_is : (es : List Entry) (i : ℕ) → is_live es i ≡ true → live (get_or es i no_entry).sector es ≡ Some i
is_live_is es i h = points_is (live (get_or es i no_entry).sector es) i h

pub live_is_live : (x : ℕ) (es : List Entry) (i : ℕ) → live x es ≡ Some i → is_live es i ≡ true
live_is_live x es i h =
    ap (λ y. points (live y es) i) (live_number x es i h) ∙ ap (λ o. points o i) h ∙ eq-eqb i i refl

-- it is in the log
pub is_live_inside : (es : List Entry) (i : ℕ) → is_live es i ≡ true → i < length es
is_live_inside es i h = live_inside (get_or es i no_entry).sector es i (is_live_is es i h)

-- no place behind the log is live
pub none_behind : (x : ℕ) (es : List Entry) (j : ℕ) → length es ≤ j → points (live x es) j ≡ false
none_behind x es j le = behind (live x es) refl
  where
    behind : (o : Option ℕ) → live x es ≡ o → points o j ≡ false
    behind None is = refl
    behind (Some i) is = ne_eqb i j (λ e. omega (arith, live_inside x es i is))

-- a live slot has the same page when entries follow
pub shows_grown : (x : ℕ) (es ys : List Entry) → shows (es ++ ys) (live x es) ≡ shows es (live x es)
shows_grown x es ys = grown (live x es) refl
  where
    grown : (o : Option ℕ) → live x es ≡ o → shows (es ++ ys) o ≡ shows es o
    grown None is = refl
    grown (Some i) is = ap (λ d. Some d.page) (get_or_append_left es ys no_entry i (live_inside x es i is))

-- an entry that does not close its group changes nothing that a sector holds, and no slot's liveness
pub holds_quiet : (x : ℕ) (es : List Entry) (e : Entry) → closes e.flags ≡ false → holds x (es ++ (e ∷ [])) ≡ holds x es
holds_quiet x es e h = ap (shows (es ++ (e ∷ []))) (live_quiet x es e h) ∙ shows_grown x es (e ∷ [])

pub is_live_quiet : (es : List Entry) (e : Entry) (i : ℕ) → closes e.flags ≡ false → is_live (es ++ (e ∷ [])) i ≡ is_live es i
is_live_quiet es e i h =
    ap (λ o. points o i) (live_quiet (get_or (es ++ (e ∷ [])) i no_entry).sector es e h)
    ∙ ⊎_elim
    (λ lt. ap (λ d. points (live d.sector es) i) (get_or_append_left es (e ∷ []) no_entry i lt))
    (λ le. none_behind (get_or (es ++ (e ∷ [])) i no_entry).sector es i le ∙ sym (none_behind (get_or es i no_entry).sector es i le))
    (cases_lt i (length es))

-- a slot whose group is closed has a number, by what the rules say of its flags
abbrev Numbers : Bool → ℕ → Type 0
Numbers more f = (f ≡ 255 → ⊥) → (more ≡ true → unfilled f ≡ false) → cond (ends f) (closes f) more ≡ true → numbered f ≡ true

numbers_since : (more : Bool) (f : ℕ) → legal f ≡ true → Numbers more f
numbers_since more f =
    try 255 _ (λ ne un c. absurd (ne refl))
    (try 127 _ (λ ne un c. absurd (both_ways true (un c) refl))
    (try 95 _ (λ ne un c. refl)
    (try 79 _ (λ ne un c. refl)
    (try 119 _ (λ ne un c. absurd (both_ways false refl c))
    (try 87 _ (λ ne un c. refl)
    (try 191 _ (λ ne un c. absurd (both_ways true (un c) refl))
    (try 159 _ (λ ne un c. refl)
    (at 143 (λ ne un c. refl)))))))))
  where
    at : (n : ℕ) → Numbers more n → eqb f n ≡ true → Numbers more f
    at n p t = subst (Numbers more) (sym (eqb-true f n t)) p

    try : (n : ℕ) (b : Bool) → Numbers more n → (b ≡ true → Numbers more f) → (eqb f n || b) ≡ true → Numbers more f
    try n b p next h = ⊎_elim (at n p) next (or_cases (eqb f n) b h)

-- so the sector of a live slot is below the limit, in a log of claimed slots
pub live_numbered : (limit : ℕ) (es : List Entry) (i : ℕ) → Orderly limit es → ((p : ℕ) → p < length es → (get_or es p no_entry).flags ≡ 255 → ⊥) → is_live es i ≡ true → (get_or es i no_entry).sector < limit
live_numbered limit es i order claimed h =
    let lt = is_live_inside es i h in
    order.numbers i lt
    (numbers_since (counts (drop (suc i) es)) (flags_of es i) (order.legal i lt) (claimed i lt)
    (λ more. ⊎_elim (order.filled i)
    (λ le. absurd (both_ways (counts (drop (suc i) es)) (ap counts (drop_all (suc i) es le)) more))
    (cases_lt (suc i) (length es)))
    (sym (ap counts (drop-cons es i no_entry lt)) ∙ live_counts (get_or es i no_entry).sector es i (is_live_is es i h)))
