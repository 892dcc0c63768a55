-- The repairs of a start: an image that kept the rules keeps them, whole or cut, and its sectors hold what they held.
use Rattle.std.proofs.Common.{◌≡◌, ℕ, ◌+◌, ◌-◌, ◌%◌, ◌<◌, ◌≤◌, Bool, true, false, cond, ◌||◌, eqb, ◌⊎◌, List, [], ◌∷◌, ◌++◌, length, get_or, Ok, Err, Result, sym, refl, ap, ◌∙◌, subst, inl, inr, ⊎_elim, arith}
use Rattle.std.proofs.lemmas.Bool.{both_ways, eqb-true, or_cases}
use Rattle.chip.specs.declared.Fault.{Fault}
use Rattle.chip.specs.Flash.{Flash}
use Rattle.chip.specs.Steps.{Step}
use Rattle.chip.specs.Plans as plans
use Rattle.chip.specs.Plans.{Performs}
use Rattle.label.specs.declared.Sizes.{Sizes}
use Rattle.ring.specs.Tally.{tally_bits}
use Rattle.ring.specs.Places.{sector_at, page_at}
use Rattle.ring.specs.Logs.{Entry, no_entry, closes, ends, is_copy, unclosed_copy, holds, is_live, entry_at, log_of}
use Rattle.ring.specs.Rules.{legal, numbered, Covers}
use Rattle.ring.specs.Turns.{Shaped}
use Rattle.ring.proofs.Searching.{least_is, row_is}
use Rattle.laid.specs.Laid.{Laid}
use Rattle.laid.specs.Sane.{last_flags, Ended, source, Copied, Sane, Readable}
use Rattle.laid.specs.Writing.{rebooking, finishing, dropping}
use Rattle.laid.proofs.Carrying.{flags_laid}
use Rattle.holding.proofs.Growing.{holds_quiet, live_numbered}
use Rattle.holding.proofs.Copying.{copy_of, holds_copied}
use Rattle.booking.proofs.Freeing.{more_shaped, rebook_whole, rebook_cut}
use Rattle.slots.specs.Left as left
use Rattle.slots.specs.Left.{AllPast, Overs, entry_of, CopyCut}
use Rattle.slots.proofs.Besides.{others_kept, slot_past, mark_of, finishing_of}
use Rattle.slots.proofs.Copies.{finish_whole, finish_cut}
use Rattle.upkeep.specs.Repairs as repairs
use Rattle.upkeep.specs.Repairs.{Repairs, source_of, last_of}
use Rattle.keeping.proofs.Orders.{length_one, place_before, last_is, ended_by, orderly_less, before_copy, last_number, by_unclosed}
use Rattle.keeping.proofs.Changing.{front_quiet, source_quiet, ended_none, sane_relaid, sane_booked}
use Rattle.keeping.proofs.Copying.{Movable, sane_copied, sane_copying, long, covers_of, overs_of}
use Rattle.keeping.proofs.Stills.{Still, still}
use Rattle.keeping.proofs.Batches.{drop_sane, drop_cut_still}

-- a log that has entries, by the last of them
pub by_last : (P : List Entry → Type 0) → ((ys : List Entry) (e : Entry) → P (ys ++ (e ∷ []))) → (es : List Entry) → 0 < length es → P es
by_last P h [] some = absurd (omega (arith, some))
by_last P h (e ∷ []) some = h [] e
by_last P h (e ∷ d ∷ es) some = by_last (λ fs. P (e ∷ fs)) (λ ys. h (e ∷ ys)) (d ∷ es) (omega arith)

-- a log that ends in an unclosed copy has entries
pub some_unclosed : (es : List Entry) → unclosed_copy (last_flags es) ≡ true → 0 < length es
some_unclosed [] h = absurd (both_ways false refl h)
some_unclosed (e ∷ es) h = omega arith

-- an erase that has begun is booked: there is a bit for that
module _ (s : Flash) (z : Sizes) (c : ℕ) (es : List Entry) (sh : Shaped z c) (odd : c % 2 ≡ 1) (sane : Sane s z c es) where
  bit_left : c < tally_bits z.tally
  bit_left = omega (arith, sane.laid.bits, odd)

  pub rebook_shaped : Shaped z (c + 1)
  rebook_shaped = more_shaped z c sh bit_left

module _ (s t : Flash) (z : Sizes) (c : ℕ) (es : List Entry) (sh : Shaped z c) (odd : c % 2 ≡ 1) (sane : Sane s z c es) where
  booked : Laid t z (c + 1) es → Sane t z (c + 1) es
  booked laid = sane_booked es sane odd (omega (arith, sh.ring_least)) laid

  pub rebook_sane : Performs (rebooking z c) s (Ok tt) t → Sane t z (c + 1) es
  rebook_sane h = booked (rebook_whole s t z c es sh odd (bit_left s z c es sh odd sane) sane.laid h)

  pub rebook_cut_still : {f : Fault} → Performs (rebooking z c) s (Err f) t → Still t z es
  rebook_cut_still {f} h =
      ⊎_elim
      (λ old. still es sh (sane_relaid es sane (ended_none es (sane.ended odd)) old) (λ x. refl))
      (λ new. still es (rebook_shaped s z c es sh odd sane) (booked new) (λ x. refl))
      (rebook_cut s t z c es f sh odd (bit_left s z c es sh odd sane) sane.laid h)

-- an unclosed copy at the end of a log does not change the first live slot
source_before : (ys : List Entry) (e : Entry) → unclosed_copy e.flags ≡ true → source (ys ++ (e ∷ [])) ≡ source ys
source_before ys e unclosed = source_quiet ys e (by_unclosed (λ f. closes f ≡ false) e.flags unclosed refl refl)

-- an unclosed copy, which is the last entry, is finished from its source
module _ (s t : Flash) (z : Sizes) (c : ℕ) (ys : List Entry) (e : Entry) (sh : Shaped z c) (even : c % 2 ≡ 0) (sane : Sane s z c (ys ++ (e ∷ []))) (unclosed : unclosed_copy e.flags ≡ true) (r : Readable s z c (source ys)) where
  one : length (ys ++ (e ∷ [])) ≡ length ys + 1
  one = length_one ys e

  quiet : closes e.flags ≡ false
  quiet = by_unclosed (λ f. closes f ≡ false) e.flags unclosed refl refl

  last_unclosed : unclosed_copy (last_flags (ys ++ (e ∷ []))) ≡ true
  last_unclosed = ap unclosed_copy (last_is ys e) ∙ unclosed

  copied : Copied s z c (ys ++ (e ∷ []))
  copied = sane.copied last_unclosed

  same_source : source (ys ++ (e ∷ [])) ≡ source ys
  same_source = source_before ys e unclosed

  front : source ys < 7
  front = omega (arith, copied.some, same_source)

  movable : Movable z c ys (source ys)
  movable =
      let one_more : ◌≡◌ {A = ℕ} (cond (unclosed_copy (last_flags (ys ++ (e ∷ [])))) 1 0) 1 = ap (λ b. cond b 1 0) last_unclosed in
      record {
        even = even;
        orderly = orderly_less z.sectors ys e sane.orderly;
        claimed = λ p lt is.
            sane.laid.claimed p (omega (arith, one)) (ap (λ (d : Entry). d.flags) (place_before ys e p lt) ∙ is);
        ended = before_copy z.sectors ys e sane.orderly
            (by_unclosed (λ f. is_copy f ≡ true) e.flags unclosed refl refl);
        room = omega (arith, sane.roomy even, one_more, one, front_quiet ys e quiet, sane.laid.room);
        long = omega (arith, copied.late, one);
        front = front;
        alive = (least_is (is_live ys) 7).hit front;
      }

  -- the number and the page of the source, and that the copy shows a 1 wherever they do
  abbrev x : ℕ
  x = sector_at s z c (source ys)

  abbrev page : List ℕ
  page = page_at s z c (source ys)

  over : Overs s z c (length ys) x page
  over =
      overs_of s z c (source ys) r (length ys)
      (subst (λ q. Covers s z c q (source ys)) (omega (arith, one))
      (subst (Covers s z c (length (ys ++ (e ∷ [])) - 1)) same_source copied.covers))

  flags : (e.flags ≡ 191) ⊎ (e.flags ≡ 159)
  flags = by_unclosed (λ f. (f ≡ 191) ⊎ (f ≡ 159)) e.flags unclosed (inl refl) (inr refl)

  -- the source in the log
  inside : source ys < length ys
  inside = omega (arith, movable.long, front)

  is_source : entry_at s z c (source ys) ≡ get_or ys (source ys) no_entry
  is_source = sane.laid.entries (source ys) (omega (arith, inside, one)) ∙ place_before ys e (source ys) inside

  copy_is : entry_of 143 x page ≡ copy_of ys (source ys)
  copy_is = ap (λ (d : Entry). entry_of 143 d.sector d.page) is_source

  low : x < z.sectors
  low =
      subst (λ (d : Entry). d.sector < z.sectors) (sym is_source)
      (live_numbered z.sectors ys (source ys) movable.orderly movable.claimed movable.alive)

  -- what is left: the copy is closed
  closed : Laid t z c (ys ++ (entry_of 143 x page ∷ [])) → Sane t z c (ys ++ (copy_of ys (source ys) ∷ []))
  closed laid = sane_copied t z c ys (source ys) movable (subst (λ d. Laid t z c (ys ++ (d ∷ []))) copy_is laid)

  held : (y : ℕ) → holds y (ys ++ (copy_of ys (source ys) ∷ [])) ≡ holds y (ys ++ (e ∷ []))
  held y = holds_copied ys (source ys) movable.ended movable.alive y ∙ sym (holds_quiet y ys e quiet)

  -- there is none
  without : Laid t z c ys → Sane t z c ys
  without laid = record {
    laid = laid;
    orderly = movable.orderly;
    ended = λ _. movable.ended;
    roomy = λ _. omega (arith, movable.room);
    copied = λ there. absurd (both_ways _ (ended_none ys movable.ended) there);
  }

  finished_sane : Performs (finishing z c (length ys) x page) s (Ok tt) t → Sane t z c (ys ++ (copy_of ys (source ys) ∷ []))
  finished_sane h = closed (finish_whole s t z c ys e x page sh sane.laid flags over (long s z c (source ys) r) h)

  finished_still : {f : Fault} → Performs (finishing z c (length ys) x page) s (Err f) t → Still t z (ys ++ (e ∷ []))
  finished_still h =
      go
      (finish_cut s t z c ys e x page sh sane.laid flags over (long s z c (source ys) r) h z.sectors low
      (λ filled. last_number z.sectors ys e sane.orderly (ap numbered filled)))
    where
      go : CopyCut t z c ys x page z.sectors → Still t z (ys ++ (e ∷ []))
      go (left.none laid) = still ys sh (without laid) (λ y. sym (holds_quiet y ys e quiet))
      go (left.unclosed d is over-now laid number) =
          let kept = others_kept z c (length ys) (source ys) sh h (finishing_of z c (length ys) x page) (omega (arith, one, sane.laid.room)) (omega (arith, inside, one, sane.laid.room)) (λ eq. omega (arith, eq, inside)) in
          still (ys ++ (d ∷ [])) sh
          (sane_copying t z c ys (source ys) movable d is refl number
          (covers_of s z c (source ys) r t (length ys) kept.0 kept.1 over-now)
          laid)
          (λ y. holds_quiet y ys d (⊎_elim (ap closes) (ap closes) is) ∙ sym (holds_quiet y ys e quiet))
      go (left.closed laid) = still (ys ++ (copy_of ys (source ys) ∷ [])) sh (closed laid) held

-- an image with a log as long as es, that ends a group, and whose sectors hold what es says
abbrev pub Mended : Flash → Sizes → ℕ → List Entry → Type 0
Mended t z c es = (fs : List Entry) × Sane t z c fs × (length fs ≡ length es) × Ended fs × ((x : ℕ) → holds x fs ≡ holds x es)

-- what the plan that finishes the last entry of a log leaves, by that log
abbrev Finish : Flash → Sizes → ℕ → Result (Unit {0}) Fault → Flash → (List Entry → Type 0) → List Entry → Type 0
Finish s z c r t P es = Sane s z c es → unclosed_copy (last_flags es) ≡ true → Readable s z c (source es) → Performs (finishing z c (length es - 1) (sector_at s z c (source es)) (page_at s z c (source es))) s r t → P es

-- its plan, by the entries before the last
finishing_before : (s t : Flash) (z : Sizes) (c : ℕ) (ys : List Entry) (e : Entry) (r : Result (Unit {0}) Fault) → unclosed_copy e.flags ≡ true → Performs (finishing z c (length (ys ++ (e ∷ [])) - 1) (sector_at s z c (source (ys ++ (e ∷ [])))) (page_at s z c (source (ys ++ (e ∷ []))))) s r t → Performs (finishing z c (length ys) (sector_at s z c (source ys)) (page_at s z c (source ys))) s r t
finishing_before s t z c ys e r unclosed h =
    let last : length (ys ++ (e ∷ [])) - 1 ≡ length ys = omega (arith, length_one ys e) in
    subst (λ q. Performs (finishing z c q (sector_at s z c (source ys)) (page_at s z c (source ys))) s r t) last
    (subst (λ i. Performs (finishing z c (length (ys ++ (e ∷ [])) - 1) (sector_at s z c i) (page_at s z c i)) s r t) (source_before ys e unclosed) h)

-- a log that ends in an unclosed copy is finished
module _ (s t : Flash) (z : Sizes) (c : ℕ) (es : List Entry) (sh : Shaped z c) (even : c % 2 ≡ 0) (sane : Sane s z c es) (unclosed : unclosed_copy (last_flags es) ≡ true) (readable : Readable s z c (source es)) where
  pub finish_sane : Performs (finishing z c (length es - 1) (sector_at s z c (source es)) (page_at s z c (source es))) s (Ok tt) t → Mended t z c es
  finish_sane h =
      by_last
      (Finish s z c (Ok tt) t (Mended t z c))
      (λ ys e old there r plan.
      let is : unclosed_copy e.flags ≡ true = ap unclosed_copy (sym (last_is ys e)) ∙ there in
      let r0 : Readable s z c (source ys) = subst (Readable s z c) (source_before ys e is) r in (
        ys ++ (copy_of ys (source ys) ∷ []),
        finished_sane s t z c ys e sh even old is r0 (finishing_before s t z c ys e (Ok tt) is plan),
        length_one ys (copy_of ys (source ys)) ∙ sym (length_one ys e),
        ended_by ys (copy_of ys (source ys)) refl,
        held s t z c ys e sh even old is r0,
      ))
      es
      (some_unclosed es unclosed)
      sane
      unclosed
      readable
      h

  pub finish_cut_still : {f : Fault} → Performs (finishing z c (length es - 1) (sector_at s z c (source es)) (page_at s z c (source es))) s (Err f) t → Still t z es
  finish_cut_still {f} h =
      by_last
      (Finish s z c (Err f) t (Still t z))
      (λ ys e old there r plan.
      let is : unclosed_copy e.flags ≡ true = ap unclosed_copy (sym (last_is ys e)) ∙ there in
      finished_still s t z c ys e sh even old is
      (subst (Readable s z c) (source_before ys e is) r)
      (finishing_before s t z c ys e (Err f) is plan))
      es
      (some_unclosed es unclosed)
      sane
      unclosed
      readable
      h

-- legal flags, one by one
pub by_legal : (P : ℕ → Type 0) (f : ℕ) → legal f ≡ true → P 255 → P 127 → P 95 → P 79 → P 119 → P 87 → P 191 → P 159 → P 143 → P f
by_legal P f h a b d e g i j k l =
    try 255 _ a (try 127 _ b (try 95 _ d (try 79 _ e (try 119 _ g (try 87 _ i (try 191 _ j (try 159 _ k (at 143 l)))))))) h
  where
    at : (n : ℕ) → P n → eqb f n ≡ true → P f
    at n p is = subst P (sym (eqb-true f n is)) p

    try : (n : ℕ) (rest : Bool) → P n → (rest ≡ true → P f) → (eqb f n || rest) ≡ true → P f
    try n rest p next is = ⊎_elim (at n p) next (or_cases (eqb f n) rest is)

-- those of a claimed slot that neither ends a group nor is an unclosed copy are of a put
pub open_put : (f : ℕ) → legal f ≡ true → (f ≡ 255 → ⊥) → unclosed_copy f ≡ false → ends f ≡ false → (f ≡ 95) ⊎ (f ≡ 127)
open_put f h =
    by_legal (λ n. (n ≡ 255 → ⊥) → unclosed_copy n ≡ false → ends n ≡ false → (n ≡ 95) ⊎ (n ≡ 127)) f h
    (λ ne u x. absurd (ne refl))
    (λ ne u x. inr refl)
    (λ ne u x. inl refl)
    (λ ne u x. absurd (both_ways true x refl))
    (λ ne u x. absurd (both_ways true x refl))
    (λ ne u x. absurd (both_ways true x refl))
    (λ ne u x. absurd (both_ways true u refl))
    (λ ne u x. absurd (both_ways true u refl))
    (λ ne u x. absurd (both_ways true x refl))

-- what the plan that drops the last entry of a log leaves, by that log
abbrev Drop : Flash → Sizes → ℕ → Result (Unit {0}) Fault → Flash → (List Entry → Type 0) → List Entry → Type 0
Drop s z c r t P es = Sane s z c es → (last_flags es ≡ 95) ⊎ (last_flags es ≡ 127) → Performs (dropping z c (length es - 1)) s r t → P es

-- its plan and its flags, by the entries before the last
dropping_before : (s t : Flash) (z : Sizes) (c : ℕ) (ys : List Entry) (e : Entry) (r : Result (Unit {0}) Fault) → Performs (dropping z c (length (ys ++ (e ∷ [])) - 1)) s r t → Performs (dropping z c (length ys)) s r t
dropping_before s t z c ys e r h =
    let last : length (ys ++ (e ∷ [])) - 1 ≡ length ys = omega (arith, length_one ys e) in
    subst (λ q. Performs (dropping z c q) s r t) last h

flags_before : (ys : List Entry) (e : Entry) → (last_flags (ys ++ (e ∷ [])) ≡ 95) ⊎ (last_flags (ys ++ (e ∷ [])) ≡ 127) → (e.flags ≡ 95) ⊎ (e.flags ≡ 127)
flags_before ys e h = subst (λ f. (f ≡ 95) ⊎ (f ≡ 127)) (last_is ys e) h

-- a log that ends in an open put is dropped
module _ (s t : Flash) (z : Sizes) (c : ℕ) (es : List Entry) (sh : Shaped z c) (even : c % 2 ≡ 0) (sane : Sane s z c es) (some : 0 < length es) (unended : (last_flags es ≡ 95) ⊎ (last_flags es ≡ 127)) where
  pub abandon_sane : Performs (dropping z c (length es - 1)) s (Ok tt) t → Mended t z c es
  abandon_sane h =
      by_last
      (Drop s z c (Ok tt) t (Mended t z c))
      (λ ys e old is plan.
      let d = drop_sane s t z c ys e sh even old (flags_before ys e is) (dropping_before s t z c ys e (Ok tt) plan) in (
        ys ++ (d.0 ∷ []),
        d.1,
        length_one ys d.0 ∙ sym (length_one ys e),
        ended_by ys d.0 d.2,
        d.3,
      ))
      es
      some
      sane
      unended
      h

  pub abandon_cut_still : {f : Fault} → Performs (dropping z c (length es - 1)) s (Err f) t → Still t z es
  abandon_cut_still {f} h =
      by_last
      (Drop s z c (Err f) t (Still t z))
      (λ ys e old is plan.
      drop_cut_still s t z c ys e sh even old (flags_before ys e is) (dropping_before s t z c ys e (Err f) plan))
      es
      some
      sane
      unended
      h

-- what the repairs say of an image, by the log that it carries
module _ (s : Flash) (z : Sizes) (c : ℕ) (es : List Entry) (sane : Sane s z c es) where
  log_is : log_of s z c (length es) ≡ es
  log_is = sym (row_is (entry_at s z c) es (length es) no_entry refl (λ p lt. sym (sane.laid.entries p lt)))

  source_is : source_of s z c (length es) ≡ source es
  source_is = ap source log_is

  last_laid : 0 < length es → last_of s z c (length es) ≡ last_flags es
  last_laid some = flags_laid s z c es sane.laid (length es - 1) (omega (arith, some))

  -- it ends in an unclosed copy, whose source is there
  last_unclosed_of : 0 < length es → unclosed_copy (last_of s z c (length es)) ≡ true → unclosed_copy (last_flags es) ≡ true
  last_unclosed_of some is = ap unclosed_copy (sym (last_laid some)) ∙ is

  never_lost : 0 < length es → unclosed_copy (last_of s z c (length es)) ≡ true → 7 ≤ source_of s z c (length es) → ⊥
  never_lost some is far = omega (arith, (sane.copied (last_unclosed_of some is)).some, source_is, far)

  -- or in a group that does not end
  last_open : 0 < length es → unclosed_copy (last_of s z c (length es)) ≡ false → ends (last_of s z c (length es)) ≡ false → (last_flags es ≡ 95) ⊎ (last_flags es ≡ 127)
  last_open some copy end =
      open_put (last_flags es) (sane.orderly.legal (length es - 1) (omega (arith, some)))
      (sane.laid.claimed (length es - 1) (omega (arith, some)))
      (ap unclosed_copy (sym (last_laid some)) ∙ copy)
      (ap ends (sym (last_laid some)) ∙ end)

  -- the plan that finishes the copy
  module _ (t : Flash) (r : Result (Unit {0}) Fault) where
    plan_is : Performs (finishing z c (length es - 1) (sector_at s z c (source_of s z c (length es))) (page_at s z c (source_of s z c (length es)))) s r t → Performs (finishing z c (length es - 1) (sector_at s z c (source es)) (page_at s z c (source es))) s r t
    plan_is h = subst (λ i. Performs (finishing z c (length es - 1) (sector_at s z c i) (page_at s z c i)) s r t) source_is h

-- what the repairs leave: the log ends a group, and the sectors hold what es says
abbrev pub Repaired : Flash → Sizes → ℕ → List Entry → Type 0
Repaired t z d es = (fs : List Entry) × Shaped z d × Sane t z d fs × (d % 2 ≡ 0) × (length fs ≡ length es) × Ended fs × ((x : ℕ) → holds x fs ≡ holds x es)

-- the repairs, whole and cut
pub repaired : (s t : Flash) (z : Sizes) (c : ℕ) (es : List Entry) {plan : List Step} {d : ℕ} → Shaped z c → Sane s z c es → Repairs s z c (length es) plan d → Performs plan s (Ok tt) t → Repaired t z d es
repaired s t z c es sh sane (repairs.book odd) h = (
  es,
  rebook_shaped s z c es sh odd sane,
  rebook_sane s t z c es sh odd sane h,
  omega (arith, odd),
  refl,
  sane.ended odd,
  λ x. refl,
)
repaired s t z c es sh sane (repairs.nothing even none) plans.whole =
    (es, sh, sane, even, refl, λ some. absurd (omega (arith, none, some)), λ x. refl)
repaired s t z c es sh sane (repairs.whole even some end) plans.whole =
    (es, sh, sane, even, refl, λ _. ap ends (sym (last_laid s z c es sane some)) ∙ end, λ x. refl)
repaired s t z c es sh sane (repairs.finish even some copy near readable) h =
    let f = finish_sane s t z c es sh even sane (last_unclosed_of s z c es sane some copy) (subst (Readable s z c) (source_is s z c es sane) readable) (plan_is s z c es sane t (Ok tt) h) in
    (f.0, sh, f.1, even, f.2, f.3, f.4)
repaired s t z c es sh sane (repairs.lost even some copy far) h = absurd (never_lost s z c es sane some copy far)
repaired s t z c es sh sane (repairs.drop even some copy end) h =
    let f = abandon_sane s t z c es sh even sane some (last_open s z c es sane some copy end) h in
    (f.0, sh, f.1, even, f.2, f.3, f.4)

pub repaired_cut : (s t : Flash) (z : Sizes) (c : ℕ) (es : List Entry) {plan : List Step} {d : ℕ} {f : Fault} → Shaped z c → Sane s z c es → Repairs s z c (length es) plan d → Performs plan s (Err f) t → Still t z es
repaired_cut s t z c es sh sane (repairs.book odd) h = rebook_cut_still s t z c es sh odd sane h
repaired_cut s t z c es sh sane (repairs.nothing even none) h = elim h [ ]
repaired_cut s t z c es sh sane (repairs.whole even some end) h = elim h [ ]
repaired_cut s t z c es {f = f} sh sane (repairs.finish even some copy near readable) h =
    finish_cut_still s t z c es sh even sane (last_unclosed_of s z c es sane some copy) (subst (Readable s z c) (source_is s z c es sane) readable) (plan_is s z c es sane t (Err f) h)
repaired_cut s t z c es sh sane (repairs.lost even some copy far) h = elim h [ ]
repaired_cut s t z c es sh sane (repairs.drop even some copy end) h =
    abandon_cut_still s t z c es sh even sane some (last_open s z c es sane some copy end) h

-- no repair touches block 0
pub past_repairs : (s : Flash) (z : Sizes) (c q : ℕ) {plan : List Step} {d : ℕ} → Repairs s z c q plan d → AllPast plan
past_repairs s z c q (repairs.book odd) = (λ e. omega (arith, e), (λ e. omega (arith, e), tt))
past_repairs s z c q (repairs.nothing even none) = tt
past_repairs s z c q (repairs.whole even some end) = tt
past_repairs s z c q (repairs.finish even some copy near readable) =
    slot_past z c (q - 1)
    (finishing z c (q - 1) (sector_at s z c (source_of s z c q)) (page_at s z c (source_of s z c q)))
    (finishing_of z c (q - 1) (sector_at s z c (source_of s z c q)) (page_at s z c (source_of s z c q)))
past_repairs s z c q (repairs.lost even some copy far) = tt
past_repairs s z c q (repairs.drop even some copy end) = slot_past z c (q - 1) (dropping z c (q - 1)) (mark_of z c (q - 1) 247, tt)
