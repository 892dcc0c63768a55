-- A log whose front is dropped: what is live in the rest, and what each sector holds.
use Rattle.std.proofs.Common.{◌≡◌, ℕ, zero, suc, ◌+◌, ◌<◌, Bool, true, false, cond, ◌&&◌, eqb, List, [], ◌∷◌, get_or, drop, Some, None, Option, sym, refl, ap, ◌∙◌, ⊎_elim, zero-add, arith}
use Rattle.std.proofs.lemmas.List.{get_or-drop}
use Rattle.std.proofs.lemmas.Bool.{cases_eq, eq-eqb, ne_eqb, both_ways}
use Rattle.ring.specs.Logs.{Entry, no_entry, counts, later, live, shows, holds, points, is_live}
use Rattle.holding.proofs.Growing.{live_is_live}

-- a slot that is live in the rest of a log is live in the log
pub live_dropped : (k : ℕ) (es : List Entry) (x i : ℕ) → live x (drop k es) ≡ Some i → live x es ≡ Some (k + i)
live_dropped zero es x i h = h ∙ ap Some (sym (zero-add i))
live_dropped (suc k) [] x i h = absurd (grind arith)
live_dropped (suc k) (e ∷ es) x i h = ap (λ o. later o (cond (eqb e.sector x && counts (e ∷ es)) (Some 0) None)) (live_dropped k es x i h) ∙ ap Some (omega arith)

-- where none is live in the rest, one that is live in the log is in the front
pub live_front : (k : ℕ) (es : List Entry) (x i : ℕ) → live x (drop k es) ≡ None → live x es ≡ Some i → i < k
live_front zero es x i none some = absurd (grind arith)
live_front (suc k) [] x i none some = absurd (grind arith)
live_front (suc k) (e ∷ es) x i none some = front (live x es) (λ j. live_front k es x j none) (eqb e.sector x && counts (e ∷ es)) some
  where
    front : (o : Option ℕ) → ((j : ℕ) → o ≡ Some j → j < k) → (hit : Bool) → later o (cond hit (Some 0) None) ≡ Some i → i < suc k
    front (Some j) before hit g = let lt = before j refl in let same : suc j ≡ i = cc in omega arith
    front None before true g = let same : ◌≡◌ {A = ℕ} 0 i = cc in omega arith
    front None before false g = absurd (grind arith)

-- a slot is live in the rest exactly when it is in the log
pub is_live_dropped : (k : ℕ) (es : List Entry) (j : ℕ) → is_live (drop k es) j ≡ is_live es (k + j)
is_live_dropped k es j =
    ap (λ e. points (live e.sector (drop k es)) j) (get_or-drop k es j no_entry) ∙ rest (live x (drop k es)) refl (live x es) refl
  where
    x : ℕ
    x = (get_or es (k + j) no_entry).sector

    rest : (o : Option ℕ) → live x (drop k es) ≡ o → (all : Option ℕ) → live x es ≡ all → points o j ≡ points all (k + j)
    rest (Some i) some all is =
        ⊎_elim
        (λ e. eq-eqb i j e ∙ sym (eq-eqb (k + i) (k + j) (ap (λ n. k + n) e)))
        (λ ne. ne_eqb i j ne ∙ sym (ne_eqb (k + i) (k + j) (λ e. ne (omega arith))))
        (cases_eq i j)
        ∙ ap (λ a. points a (k + j)) (sym (live_dropped k es x i some) ∙ is)
    rest None none None is = refl
    rest None none (Some m) is = sym (ne_eqb m (k + j) (λ e. omega (arith, live_front k es x m none is)))

-- where none of the front is live, each sector holds in the rest what it holds in the log
pub holds_dropped : (k : ℕ) (es : List Entry) → ((i : ℕ) → i < k → is_live es i ≡ false) → (x : ℕ) → holds x (drop k es) ≡ holds x es
holds_dropped k es dead x = rest (live x (drop k es)) refl (live x es) refl
  where
    rest : (o : Option ℕ) → live x (drop k es) ≡ o → (all : Option ℕ) → live x es ≡ all → shows (drop k es) (live x (drop k es)) ≡ shows es (live x es)
    rest (Some i) some all is =
        ap (shows (drop k es)) some
        ∙ ap (λ e. Some e.page) (get_or-drop k es i no_entry)
        ∙ ap (shows es) (sym (live_dropped k es x i some))
    rest None none None is = ap (shows (drop k es)) none ∙ ap (shows es) (sym is)
    rest None none (Some m) is = absurd (both_ways (is_live es m) (dead m (live_front k es x m none is)) (live_is_live x es m is))
