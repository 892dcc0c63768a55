-- The plans that book an erase and that give back the oldest block, whole and cut.
use Rattle.std.proofs.Common.{◌≡◌, ℕ, ◌+◌, ◌%◌, ◌<◌, ◌≤◌, ◌⊎◌, List, [], ◌∷◌, drop, Ok, Err, sym, ap, subst, inl, inr, ⊎_elim, arith}
use Rattle.chip.specs.declared.Fault.{Fault}
use Rattle.chip.specs.Flash.{Flash}
use Rattle.chip.specs.Steps.{Step, erase, Worked, Broke}
use Rattle.chip.specs.Plans as plans
use Rattle.chip.specs.Plans.{Performs}
use Rattle.label.specs.declared.Sizes.{Sizes}
use Rattle.ring.specs.Tally.{tally_bits}
use Rattle.ring.specs.Places.{chip_block, oldest}
use Rattle.ring.specs.Logs.{Entry}
use Rattle.ring.specs.Turns.{Shaped}
use Rattle.laid.specs.Laid.{Laid}
use Rattle.laid.specs.Writing.{clearing, rebooking, freeing}
use Rattle.booking.specs.Freed as freed
use Rattle.booking.specs.Freed.{FreeCut}
use Rattle.booking.proofs.Booking.{begin_oldest, begin_whole, begin_cut, erase_whole, erase_cut, erased_blank, end_whole, end_cut}

-- no step is left to be cut
none_left : {s t : Flash} {f : Fault} → Performs [] s (Err f) t → ⊥
none_left h = elim h [ ]

-- the first step was cut, or a later one
first_cut : {p : Step} {ps : List Step} {s t : Flash} {f : Fault} → Performs (p ∷ ps) s (Err f) t → (Broke p s t) ⊎ ((m : Flash) × Worked p s m × Performs ps m (Err f) t)
first_cut (plans.next {m = m} w rest) = inr (m, w, rest)
first_cut (plans.cut b) = inl b

-- one bit more is within the limits
pub more_shaped : (z : Sizes) (c : ℕ) → Shaped z c → c < tally_bits z.tally → Shaped z (c + 1)
more_shaped z c h lt =
    record {
      ring_least = h.ring_least;
      ring_most = h.ring_most;
      tally_most = h.tally_most;
      cleared_most = omega (arith, h.tally_most);
    }

-- an erase that has begun is done and booked
pub rebook_whole : (s t : Flash) (z : Sizes) (c : ℕ) (es : List Entry) → Shaped z c → c % 2 ≡ 1 → c < tally_bits z.tally → Laid s z c es → Performs (rebooking z c) s (Ok tt) t → Laid t z (c + 1) es
rebook_whole s t z c es shaped odd lt laid (plans.next {m = m} w (plans.next v plans.whole)) =
    end_whole m t z c es shaped odd lt (erase_whole s m z c es shaped odd laid w) (erased_blank s m z c w) v

pub rebook_cut : (s t : Flash) (z : Sizes) (c : ℕ) (es : List Entry) (f : Fault) → Shaped z c → c % 2 ≡ 1 → c < tally_bits z.tally → Laid s z c es → Performs (rebooking z c) s (Err f) t → (Laid t z c es) ⊎ (Laid t z (c + 1) es)
rebook_cut s t z c es f shaped odd lt laid h =
    ⊎_elim
    (λ b. inl (erase_cut s t z c es shaped odd laid b))
    (λ x.
    ⊎_elim
    (λ b. end_cut x.0 t z c es shaped odd lt (erase_whole s x.0 z c es shaped odd laid x.1) (erased_blank s x.0 z c x.1) b)
    (λ y. absurd (none_left y.2))
    (first_cut x.2))
    (first_cut h)

-- behind its first step, giving back the oldest block is to do and book an erase that has begun
rest_is : (z : Sizes) (c : ℕ) → c % 2 ≡ 0 → (erase (chip_block z (oldest z c)) ∷ clearing (c + 1) ∷ []) ≡ rebooking z (c + 1)
rest_is z c even =
    ap (λ b. erase (chip_block z b) ∷ clearing (c + 1) ∷ []) (sym (begin_oldest z c even))

-- two bits more, one by one
two_more : (t : Flash) (z : Sizes) (c : ℕ) (es : List Entry) → Laid t z (c + 1 + 1) es → Laid t z (c + 2) es
two_more t z c es h = let e : c + 1 + 1 ≡ c + 2 = omega arith in subst (λ n. Laid t z n es) e h

-- the oldest block is given back
pub free_whole : (s t : Flash) (z : Sizes) (c : ℕ) (es : List Entry) → Shaped z c → c % 2 ≡ 0 → c + 2 ≤ tally_bits z.tally → Laid s z c es → Performs (freeing z c) s (Ok tt) t → Laid t z (c + 2) (drop 7 es)
free_whole s t z c es shaped even le laid (plans.next {m = m} w rest) =
    two_more t z c (drop 7 es)
    (rebook_whole m t z (c + 1) (drop 7 es) (more_shaped z c shaped (omega arith)) (omega arith) (omega arith)
    (begin_whole s m z c es shaped even (omega arith) laid w)
    (subst (λ ps. Performs ps m (Ok tt) t) (rest_is z c even) rest))

pub free_cut : (s t : Flash) (z : Sizes) (c : ℕ) (es : List Entry) (f : Fault) → Shaped z c → c % 2 ≡ 0 → c + 2 ≤ tally_bits z.tally → Laid s z c es → Performs (freeing z c) s (Err f) t → FreeCut t z c es
free_cut s t z c es f shaped even le laid h =
    ⊎_elim
    (λ b. ⊎_elim freed.before freed.midway (begin_cut s t z c es shaped even (omega arith) laid b))
    (λ x.
    ⊎_elim freed.midway
    (λ l. freed.after (two_more t z c (drop 7 es) l))
    (rebook_cut x.0 t z (c + 1) (drop 7 es) f (more_shaped z c shaped (omega arith)) (omega arith) (omega arith)
    (begin_whole s x.0 z c es shaped even (omega arith) laid x.1)
    (subst (λ ps. Performs ps x.0 (Err f) t) (rest_is z c even) x.2)))
    (first_cut h)
