-- The first m slots from a position on, and the last one there that is live for a sector: how one slot more in front
-- changes them.
use Rattle.std.proofs.Common.{◌≡◌, ℕ, zero, suc, ◌+◌, ◌<◌, ◌≤◌, Bool, true, false, cond, ◌&&◌, eqb, List, [], ◌∷◌, length, drop, Some, None, Option, sym, refl, ap, ◌∙◌, subst, ap₂, zero-add, add-one, arith, drop-cons}
use Rattle.std.proofs.lemmas.List.{drop_all}
use Rattle.chip.specs.Flash.{Flash}
use Rattle.label.specs.declared.Sizes.{Sizes}
use Rattle.ring.specs.Places.{positions, flags_at}
use Rattle.ring.specs.Logs.{Entry, no_entry, closes, ends, counts, later, live, claimed, entry_at, log_of}
use Rattle.ring.proofs.Searching.{least_is, length-row, get_or-row}
use Rattle.lookup.specs.declared.walk.Walk.{Walk}
use Rattle.lookup.specs.declared.walk.Visit.{Visit}
use Rattle.ring.specs.declared.layout.Log.{Log}
use Rattle.lookup.specs.Walks.{slots_of, Visited, Stepped, hits, or_here}

-- the first m slots from one of them on are that slot and the rest
tail_step : (s : Flash) (z : Sizes) (c m p : ℕ) → p < m → drop p (log_of s z c m) ≡ entry_at s z c p ∷ drop (p + 1) (log_of s z c m)
tail_step s z c m p lt =
    let long : p < length (log_of s z c m) = omega (arith, length-row (entry_at s z c) m) in
    drop-cons (log_of s z c m) p no_entry long
    ∙ ap (λ e. e ∷ drop (suc p) (log_of s z c m)) (get_or-row (entry_at s z c) m p no_entry lt)
    ∙ ap (λ n. entry_at s z c p ∷ drop n (log_of s z c m)) (sym (add-one p))

-- behind the newest slot there is none
tail_none : (s : Flash) (z : Sizes) (c m : ℕ) → drop m (log_of s z c m) ≡ []
tail_none s z c m = drop_all m (log_of s z c m) (omega (arith, length-row (entry_at s z c) m))

-- whether a group counts, one slot further back
pub counts_step : (s : Flash) (z : Sizes) (c m p : ℕ) → p < m → counts (drop p (log_of s z c m)) ≡ cond (ends (entry_at s z c p).flags) (closes (entry_at s z c p).flags) (counts (drop (p + 1) (log_of s z c m)))
counts_step s z c m p lt = ap counts (tail_step s z c m p lt)

pub counts_none : (s : Flash) (z : Sizes) (c m : ℕ) → counts (drop m (log_of s z c m)) ≡ false
counts_none s z c m = ap counts (tail_none s z c m)

-- a place in the rest of a log from p on, as a position
abbrev onward : ℕ → Option ℕ → Option ℕ
onward p None = None
onward p (Some i) = Some (p + i)

-- the position of the last slot, from p on, that is live for the sector x
abbrev pub last_from : Flash → Sizes → ℕ → ℕ → ℕ → ℕ → Option ℕ
last_from s z c m x p = onward p (live x (drop p (log_of s z c m)))

onward_step : (p : ℕ) (o : Option ℕ) (hit : Bool) → onward p (later o (cond hit (Some 0) None)) ≡ or_here (onward (p + 1) o) hit p
onward_step p (Some i) hit = ap Some (omega arith)
onward_step p None true = ap Some (omega arith)
onward_step p None false = refl

-- one slot further back
live_step : (s : Flash) (z : Sizes) (c m p x : ℕ) → p < m → last_from s z c m x p ≡ or_here (last_from s z c m x (p + 1)) (eqb (entry_at s z c p).sector x && counts (drop p (log_of s z c m))) p
live_step s z c m p x lt =
    ap (λ es. onward p (live x es)) (tail_step s z c m p lt)
    ∙ onward_step p (live x (drop (p + 1) (log_of s z c m))) (eqb (entry_at s z c p).sector x && counts (entry_at s z c p ∷ drop (p + 1) (log_of s z c m)))
    ∙ ap (λ es. or_here (last_from s z c m x (p + 1)) (eqb (entry_at s z c p).sector x && counts es) p) (sym (tail_step s z c m p lt))

-- the position of the last slot of a log, from p on, that is live for the sector x
abbrev pub last_in : Flash → Log → ℕ → ℕ → Option ℕ
last_in s log x p = last_from s log.layout.sizes log.layout.cleared log.claimed x p

-- one step of a walk
pub live_back : (s : Flash) (log : Log) (x : ℕ) (old new : Walk) (v : Visit) → v.position + 1 ≡ old.position → new.position ≡ v.position → Visited s log v → last_in s log x new.position ≡ or_here (last_in s log x old.position) (hits v x) v.position
live_back s log x old new v next at h =
    ap (last_in s log x) at
    ∙ live_step s log.layout.sizes log.layout.cleared log.claimed v.position x h.inside
    ∙ ap₂ (λ p t. or_here (last_in s log x p) t v.position) next (ap₂ (λ n t. eqb n x && t) (sym h.number) (sym h.group))

-- before the first step nothing is found; after the last, what is live among the m slots
pub last_none : (s : Flash) (z : Sizes) (c m x p : ℕ) → p ≡ m → last_from s z c m x p ≡ None
last_none s z c m x p e = ap (last_from s z c m x) e ∙ ap (λ es. onward m (live x es)) (tail_none s z c m)

pub last_all : (s : Flash) (z : Sizes) (c m x p : ℕ) → p ≡ 0 → last_from s z c m x p ≡ live x (log_of s z c m)
last_all s z c m x p e = ap (last_from s z c m x) e ∙ whole (live x (log_of s z c m))
  where
    whole : (o : Option ℕ) → onward 0 o ≡ o
    whole None = refl
    whole (Some i) = ap Some (zero-add i)

-- a slot that is live in the rest of a log is live in the log
live_later : (x p i : ℕ) (es : List Entry) → live x (drop p es) ≡ Some i → live x es ≡ Some (p + i)
live_later x zero i es h = h ∙ ap Some (sym (zero-add i))
live_later x (suc p) i [] h = absurd (grind arith)
live_later x (suc p) i (e ∷ es) h = ap (λ o. later o (cond (eqb e.sector x && counts (e ∷ es)) (Some 0) None)) (live_later x p i es h) ∙ ap Some (omega arith)

pub last_kept : (s : Flash) (z : Sizes) (c m x p i : ℕ) → last_from s z c m x p ≡ Some i → live x (log_of s z c m) ≡ Some i
last_kept s z c m x p i h = kept (live x (drop p (log_of s z c m))) refl h
  where
    kept : (o : Option ℕ) → live x (drop p (log_of s z c m)) ≡ o → onward p o ≡ Some i → live x (log_of s z c m) ≡ Some i
    kept None e g = absurd (grind arith)
    kept (Some k) e g = live_later x p k (log_of s z c m) e ∙ g

-- the claimed slots have positions
pub claimed_most : (s : Flash) (z : Sizes) (c : ℕ) → claimed s z c ≤ positions z c
claimed_most s z c = (least_is (λ p. eqb (flags_at s z c p) 255) (positions z c)).bound

-- the first hit from the back is the live slot, and a miss changes nothing
pub hit_is : (s : Flash) (log : Log) (x : ℕ) (old new : Walk) (v : Visit) → v.position + 1 ≡ old.position → new.position ≡ v.position → Visited s log v → last_in s log x old.position ≡ None → hits v x ≡ true → live x (slots_of s log) ≡ Some v.position
hit_is s log x old new v next at h before hit =
    last_kept s log.layout.sizes log.layout.cleared log.claimed x new.position v.position
    (live_back s log x old new v next at h ∙ ap₂ (λ o t. or_here o t v.position) before hit)

pub miss_is : (s : Flash) (log : Log) (x : ℕ) (old new : Walk) (v : Visit) → v.position + 1 ≡ old.position → new.position ≡ v.position → Visited s log v → last_in s log x old.position ≡ None → hits v x ≡ false → last_in s log x new.position ≡ None
miss_is s log x old new v next at h before miss = live_back s log x old new v next at h ∙ ap₂ (λ o t. or_here o t v.position) before miss

-- a step on the same flash
pub same_step : (f s : Flash) (log : Log) (old new : Walk) (v : Visit) → f ≡ s → Stepped f log old (Some v) new → Stepped s log old (Some v) new
same_step f s log old new v e step = subst (λ (t : Flash). Stepped t log old (Some v) new) e step
