-- A log behind which a batch of puts is written: what each sector holds while the batch is open, and once it is closed.
use Rattle.std.proofs.Common.{◌≡◌, ℕ, suc, ◌+◌, ◌-◌, Bool, true, false, cond, ◌&&◌, eqb, List, [], ◌∷◌, ◌++◌, length, Some, None, Option, sym, refl, ap, ◌∙◌, ap₂, append_assoc, append-nil, zero-add, arith, get_or-append-add}
use lib.Seq.{append_snoc}
use Rattle.std.proofs.lemmas.Bool.{cond-true}
use Rattle.ring.specs.Logs.{Entry, no_entry, closes, ends, counts, later, live, shows, holds, is_live}
use Rattle.laid.specs.Sane.{flags_of, Ended}
use Rattle.holding.specs.Puts.{Put, wrote, filled_put, closed_put, filled_puts, closed_puts}
use Rattle.holding.proofs.Growing.{live_quiet, is_live_quiet, shows_grown}

-- the rest of a log that ends a group does so too
pub ended_tail : (d : Entry) (es : List Entry) → Ended (d ∷ es) → Ended es
ended_tail d [] h lt = absurd (omega arith)
ended_tail d (e ∷ es) h lt =
    let same : suc (suc (length es)) - 1 ≡ suc (suc (length es) - 1) = omega arith in
    ap (λ n. ends (flags_of (d ∷ e ∷ es) n)) (sym same) ∙ h (omega arith)

-- entries behind the end of a group do not change whether it counts
pub counts_ended : (d : Entry) (es ys : List Entry) → Ended (d ∷ es) → counts ((d ∷ es) ++ ys) ≡ counts (d ∷ es)
counts_ended d [] ys h = cond-true _ _ _ (h (omega arith)) ∙ sym (cond-true _ _ _ (h (omega arith)))
counts_ended d (e ∷ es) ys h = ap (cond (ends d.flags) (closes d.flags)) (counts_ended e es ys (ended_tail d (e ∷ es) h))

-- a place behind n others, or else one of those
abbrev pub behind : ℕ → Option ℕ → Option ℕ → Option ℕ
behind n (Some j) o = Some (n + j)
behind n None o = o

-- entries behind the end of a group: their live slot, or else that of the log before them
pub live_append : (x : ℕ) (es ys : List Entry) → Ended es → live x (es ++ ys) ≡ behind (length es) (live x ys) (live x es)
live_append x [] ys h = whole (live x ys)
  where
    whole : (o : Option ℕ) → o ≡ behind 0 o None
    whole None = refl
    whole (Some i) = ap Some (sym (zero-add i))
live_append x (d ∷ es) ys h =
    ap₂ (λ o c. later o (cond (eqb d.sector x && c) (Some 0) None)) (live_append x es ys (ended_tail d es h)) (counts_ended d es ys h)
    ∙ onward (live x ys)
  where
    onward : (o : Option ℕ) → later (behind (length es) o (live x es)) (cond (eqb d.sector x && counts (d ∷ es)) (Some 0) None) ≡ behind (length (d ∷ es)) o (live x (d ∷ es))
    onward (Some j) = ap Some (omega arith)
    onward None = refl

-- a page, or else another
abbrev pub over : Option (List ℕ) → Option (List ℕ) → Option (List ℕ)
over (Some p) o = Some p
over None o = o

-- the same of the pages
pub holds_append : (x : ℕ) (es ys : List Entry) → Ended es → holds x (es ++ ys) ≡ over (holds x ys) (holds x es)
holds_append x es ys h = ap (shows (es ++ ys)) (live_append x es ys h) ∙ page (live x ys)
  where
    page : (o : Option ℕ) → shows (es ++ ys) (behind (length es) o (live x es)) ≡ over (shows ys o) (holds x es)
    page (Some j) = ap (λ e. Some e.page) (get_or-append-add es ys j no_entry)
    page None = shows_grown x es ys

-- one entry in front
pub holds_cons : (x : ℕ) (e : Entry) (es : List Entry) → holds x (e ∷ es) ≡ over (holds x es) (cond (eqb e.sector x && counts (e ∷ es)) (Some e.page) None)
holds_cons x e es = page (live x es) (eqb e.sector x && counts (e ∷ es))
  where
    page : (o : Option ℕ) (hit : Bool) → shows (e ∷ es) (later o (cond hit (Some 0) None)) ≡ over (shows es o) (cond hit (Some e.page) None)
    page (Some j) hit = refl
    page None true = refl
    page None false = refl

-- a closed batch counts
pub counts_closed : (ps : List Put) (p : Put) → counts (closed_puts ps p) ≡ true
counts_closed [] p = refl
counts_closed (q ∷ ps) p = counts_closed ps p

-- a closed batch holds what its puts wrote
wrote_closed : (x : ℕ) (old : Option (List ℕ)) (ps : List Put) (p : Put) → over (holds x (closed_puts ps p)) old ≡ wrote x old (ps ++ (p ∷ []))
wrote_closed x old [] p = page (eqb p.sector x)
  where
    page : (b : Bool) → over (shows (closed_puts [] p) (cond (b && true) (Some 0) None)) old ≡ cond b (Some p.page) old
    page true = refl
    page false = refl
wrote_closed x old (q ∷ ps) p =
    ap (λ o. over o old)
    (holds_cons x (filled_put q) (closed_puts ps p)
    ∙ ap (λ c. over (holds x (closed_puts ps p)) (cond (eqb q.sector x && c) (Some q.page) None)) (counts_closed ps p))
    ∙ page (holds x (closed_puts ps p)) (eqb q.sector x)
    ∙ wrote_closed x (cond (eqb q.sector x) (Some q.page) old) ps p
  where
    page : (o : Option (List ℕ)) (b : Bool) → over (over o (cond (b && true) (Some q.page) None)) old ≡ over o (cond b (Some q.page) old)
    page (Some a) b = refl
    page None true = refl
    page None false = refl

-- what a sector holds once a batch is closed
pub holds_closed : (x : ℕ) (cs : List Entry) (ps : List Put) (p : Put) → Ended cs → holds x (cs ++ closed_puts ps p) ≡ wrote x (holds x cs) (ps ++ (p ∷ []))
holds_closed x cs ps p h = holds_append x cs (closed_puts ps p) h ∙ wrote_closed x (holds x cs) ps p

pub holds_closed_last : (x : ℕ) (cs : List Entry) (ps : List Put) (p : Put) → Ended cs → holds x ((cs ++ filled_puts ps) ++ (closed_put p ∷ [])) ≡ wrote x (holds x cs) (ps ++ (p ∷ []))
holds_closed_last x cs ps p h = ap (holds x) (append_assoc cs (filled_puts ps) (closed_put p ∷ [])) ∙ holds_closed x cs ps p h

-- an open batch changes nothing
pub live_open : (x : ℕ) (cs : List Entry) (ps : List Put) → live x (cs ++ filled_puts ps) ≡ live x cs
live_open x cs [] = ap (live x) (append-nil cs)
live_open x cs (p ∷ ps) =
    ap (live x) (sym (append_snoc cs (filled_put p) (filled_puts ps)))
    ∙ live_open x (cs ++ (filled_put p ∷ [])) ps
    ∙ live_quiet x cs (filled_put p) refl

pub is_live_open : (cs : List Entry) (ps : List Put) (i : ℕ) → is_live (cs ++ filled_puts ps) i ≡ is_live cs i
is_live_open cs [] i = ap (λ es. is_live es i) (append-nil cs)
is_live_open cs (p ∷ ps) i =
    ap (λ es. is_live es i) (sym (append_snoc cs (filled_put p) (filled_puts ps)))
    ∙ is_live_open (cs ++ (filled_put p ∷ [])) ps i
    ∙ is_live_quiet cs (filled_put p) i refl

pub holds_open : (x : ℕ) (cs : List Entry) (ps : List Put) → holds x (cs ++ filled_puts ps) ≡ holds x cs
holds_open x cs ps = ap (shows (cs ++ filled_puts ps)) (live_open x cs ps) ∙ shows_grown x cs (filled_puts ps)
