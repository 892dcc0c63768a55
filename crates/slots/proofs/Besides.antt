-- Programs of one slot leave everything beside it alone.
use Rattle.std.proofs.Common.{◌≡◌, ℕ, ◌+◌, ◌-◌, ◌*◌, ◌/◌, ◌%◌, ◌^◌, ◌<◌, ◌≤◌, ◌⊎◌, List, [], ◌∷◌, length, Result, sym, refl, ap, ◌∙◌, subst, inl, inr, ⊎_elim, arith}
use Rattle.std.proofs.lemmas.Bool.{cases_eq, cases_lt, cases_order}
use Rattle.chip.specs.declared.Fault.{Fault}
use Rattle.chip.specs.Flash.{Flash}
use Rattle.chip.specs.Steps.{Step, program, erase, block, Elsewhere, Worked, Broke}
use Rattle.chip.specs.Plans as plans
use Rattle.chip.specs.Plans.{Performs}
use Rattle.label.specs.declared.Sizes.{Sizes}
use Rattle.ring.specs.Tally.{tally_bit, tally_bits}
use Rattle.ring.specs.Places.{first_block, positions, chip_block, block_at, descriptor_byte, page_byte}
use Rattle.ring.specs.Turns.{Shaped}
use Rattle.ring.proofs.Turning.{comes_once, starts_inside}
use Rattle.laid.specs.Laid.{Spare}
use Rattle.laid.specs.Writing.{mark, number, fill, putting, finishing, copying}
use Rattle.slots.specs.Left as left
use Rattle.slots.specs.Left.{AllPast, Slotted, OfSlot, AllOfSlot, Beside}

-- a finished or a cut step of another block than 0 leaves block 0 alone
front_worked : (p : Step) (s t : Flash) → Worked p s t → (block p ≡ 0 → ⊥) → (o : ℕ) → t.byte 0 o ≡ s.byte 0 o
front_worked (program b at size given) s t w ne o = w.done.elsewhere.others 0 o (λ e. ne (sym e))
front_worked (erase b) s t w ne o = w.done.elsewhere.others 0 o (λ e. ne (sym e))

front_broke : (p : Step) (s t : Flash) → Broke p s t → (block p ≡ 0 → ⊥) → (o : ℕ) → t.byte 0 o ≡ s.byte 0 o
front_broke (program b at size given) s t w ne o = w.torn.elsewhere.others 0 o (λ e. ne (sym e))
front_broke (erase b) s t w ne o = w.torn.elsewhere.others 0 o (λ e. ne (sym e))

-- so does a plan of such steps
pub front_kept : {ps : List Step} {s t : Flash} {r : Result (Unit {0}) Fault} → Performs ps s r t → AllPast ps → (o : ℕ) → t.byte 0 o ≡ s.byte 0 o
front_kept plans.whole past o = refl
front_kept (plans.next {p} {ps} {s} {m} {t} w rest) past o = front_kept rest past.1 o ∙ front_worked p s m w past.0 o
front_kept (plans.cut {p} {ps} {s} {t} b) past o = front_broke p s t b past.0 o

-- what is left alone by a program of a range of the slot
around : (s t : Flash) (z : Sizes) (c p b at size n : ℕ) → b ≡ chip_block z (block_at z c p) → size ≡ n → Slotted (p % 7) at size → Elsewhere s b at n t → Beside s t z c p
around s t z c p b at size n e same (left.in_descriptor from to) h =
    let k : Elsewhere s (chip_block z (block_at z c p)) at n t = subst (λ m. Elsewhere s m at n t) e h in
    record {
      others = λ a o ne. k.others a o ne;
      before = λ o lt. k.before o (omega arith);
      between = λ o le lt. k.after o (omega arith);
      after = λ o le. k.after o (omega arith);
    }
around s t z c p b at size n e same (left.in_page from to) h =
    let k : Elsewhere s (chip_block z (block_at z c p)) at n t = subst (λ m. Elsewhere s m at n t) e h in
    record {
      others = λ a o ne. k.others a o ne;
      before = λ o lt. k.before o (omega arith);
      between = λ o le lt. k.before o (omega arith);
      after = λ o le. k.after o (omega arith);
    }

beside_worked : (q : Step) (s t : Flash) (z : Sizes) (c p : ℕ) → OfSlot z c p q → Worked q s t → Beside s t z c p
beside_worked (program b at size given) s t z c p of w =
    around s t z c p b at size (length given) of.0 w.allowed.within.same of.1 w.done.elsewhere
beside_worked (erase b) s t z c p of w = absurd of

beside_broke : (q : Step) (s t : Flash) (z : Sizes) (c p : ℕ) → OfSlot z c p q → Broke q s t → Beside s t z c p
beside_broke (program b at size given) s t z c p of w =
    around s t z c p b at size (length given) of.0 w.allowed.within.same of.1 w.torn.elsewhere
beside_broke (erase b) s t z c p of w = absurd of

beside_then : (s m t : Flash) (z : Sizes) (c p : ℕ) → Beside s m z c p → Beside m t z c p → Beside s t z c p
beside_then s m t z c p g h = record {
  others = λ b o ne. h.others b o ne ∙ g.others b o ne;
  before = λ o lt. h.before o lt ∙ g.before o lt;
  between = λ o le lt. h.between o le lt ∙ g.between o le lt;
  after = λ o le. h.after o le ∙ g.after o le;
}

-- a plan of programs of one slot, whole or cut
pub beside : {ps : List Step} {s t : Flash} {r : Result (Unit {0}) Fault} (z : Sizes) (c p : ℕ) → Performs ps s r t → AllOfSlot z c p ps → Beside s t z c p
beside z c p plans.whole of = record {
  others = λ b o ne. refl;
  before = λ o lt. refl;
  between = λ o le lt. refl;
  after = λ o le. refl;
}
beside z c p (plans.next {p = q} {s = s} {m = m} {t = t} w rest) of =
    beside_then s m t z c p (beside_worked q s m z c p of.0 w) (beside z c p rest of.1)
beside z c p (plans.cut {p = q} {s = s} {t = t} b) of = beside_broke q s t z c p of.0 b

-- a plan of programs of one slot has no step of block 0
pub slot_past : (z : Sizes) (c p : ℕ) (ps : List Step) → AllOfSlot z c p ps → AllPast ps
slot_past z c p [] of = tt
slot_past z c p (program b at size given ∷ ps) of = (λ e. omega (arith, e, of.0.0), slot_past z c p ps of.1)
slot_past z c p (erase b ∷ ps) of = absurd of.0

-- the plans of one slot
pub mark_of : (z : Sizes) (c p mask : ℕ) → OfSlot z c p (mark z c p mask)
mark_of z c p mask = (refl, left.in_descriptor (omega arith) (omega arith))

number_of : (z : Sizes) (c p x : ℕ) → OfSlot z c p (number z c p x)
number_of z c p x = (refl, left.in_descriptor (omega arith) (omega arith))

fill_of : (z : Sizes) (c p : ℕ) (page : List ℕ) → OfSlot z c p (fill z c p page)
fill_of z c p page = (refl, left.in_page (omega arith) (omega arith))

pub putting_of : (z : Sizes) (c p x : ℕ) (page : List ℕ) → AllOfSlot z c p (putting z c p x page)
putting_of z c p x page = (mark_of z c p 127, (number_of z c p x, (fill_of z c p page, (mark_of z c p 223, tt))))

pub finishing_of : (z : Sizes) (c p x : ℕ) (page : List ℕ) → AllOfSlot z c p (finishing z c p x page)
finishing_of z c p x page = (number_of z c p x, (fill_of z c p page, (mark_of z c p 223, (mark_of z c p 239, tt))))

pub copying_of : (z : Sizes) (c p x : ℕ) (page : List ℕ) → AllOfSlot z c p (copying z c p x page)
copying_of z c p x page = (mark_of z c p 191, finishing_of z c p x page)

-- two positions in one block are in one turn
same_turn : (z : Sizes) (c p q : ℕ) → Shaped z c → p < positions z c → q < positions z c → block_at z c p ≡ block_at z c q → p / 7 ≡ q / 7
same_turn z c p q sh lp lq e =
    let l = sh.ring_least in
    comes_once z.ring (first_block z c) (p / 7) (q / 7) (starts_inside z c sh) (omega arith) (omega arith) e

-- what is beside: the label, the tally, the spare bytes, and the other positions
module _ (s t : Flash) (z : Sizes) (c p : ℕ) (h : Beside s t z c p) where
  pub beside_front : (o : ℕ) → t.byte 0 o ≡ s.byte 0 o
  beside_front o = h.others 0 o (λ e. omega (arith, e))

  pub beside_tally : (i : ℕ) → i < tally_bits z.tally → tally_bit t i ≡ tally_bit s i
  beside_tally i lt = ap (λ v. v / 2 ^ (7 - i % 8) % 2) (h.others (1 + i / 8 / 4096) (i / 8 % 4096) (λ e. omega (arith, e)))

  -- a byte of the block of another position
  beside_at : (q o : ℕ) → (block_at z c q ≡ block_at z c p → (o < 4 * (p % 7)) ⊎ ((4 * (p % 7) + 3 ≤ o) × (o < 512 * (p % 7 + 1))) ⊎ (512 * (p % 7 + 2) ≤ o)) → t.byte (chip_block z (block_at z c q)) o ≡ s.byte (chip_block z (block_at z c q)) o
  beside_at q o out =
      ⊎_elim
      (λ e. subst (λ b. t.byte (chip_block z b) o ≡ s.byte (chip_block z b) o) (sym e)
      (⊎_elim (h.before o) (⊎_elim (λ x. h.between o x.0 x.1) (h.after o)) (out e)))
      (λ ne. h.others (chip_block z (block_at z c q)) o (λ e. ne (omega (arith, e))))
      (cases_eq (block_at z c q) (block_at z c p))

  pub beside_spare : (q o : ℕ) → o < 512 → Spare o → t.byte (chip_block z (block_at z c q)) o ≡ s.byte (chip_block z (block_at z c q)) o
  beside_spare q o lt spare =
      let j : p % 7 < 7 = omega arith in
      beside_at q o
      (λ _. ⊎_elim
      (λ low. inl low)
      (λ up. inr (inl (⊎_elim (λ x. omega (arith, x)) (λ x. omega (arith, x)) spare, omega arith)))
      (cases_lt o (4 * (p % 7))))

  -- the bytes of another position
  module _ (sh : Shaped z c) (inside : p < positions z c) (q : ℕ) (there : q < positions z c) (ne : q ≡ p → ⊥) where
    other_slot : block_at z c q ≡ block_at z c p → (q % 7 < p % 7) ⊎ (p % 7 < q % 7)
    other_slot e =
        let turn : q / 7 ≡ p / 7 = same_turn z c q p sh there inside e in
        ⊎_elim (λ same. absurd (ne (omega arith))) (λ x. x) (cases_order (q % 7) (p % 7))

    pub beside_descriptor : (i : ℕ) → i < 4 → descriptor_byte t z c q i ≡ descriptor_byte s z c q i
    beside_descriptor i lt =
        let j : q % 7 < 7 = omega arith in
        beside_at q (4 * (q % 7) + i)
        (λ e. ⊎_elim (λ low. inl (omega arith)) (λ up. inr (inl (omega arith, omega arith))) (other_slot e))

    pub beside_page : (o : ℕ) → o < 512 → page_byte t z c q o ≡ page_byte s z c q o
    beside_page o lt =
        let j : p % 7 < 7 = omega arith in
        beside_at q (512 * (q % 7 + 1) + o)
        (λ e. ⊎_elim (λ low. inr (inl (omega arith, omega arith))) (λ up. inr (inr (omega arith))) (other_slot e))

-- the bytes of the other positions, as a plan of programs of one slot leaves them
pub others_kept : {ps : List Step} {s t : Flash} {r : Result (Unit {0}) Fault} (z : Sizes) (c p q : ℕ) → Shaped z c → Performs ps s r t → AllOfSlot z c p ps → p < positions z c → q < positions z c → (q ≡ p → ⊥) → ((i : ℕ) → i < 4 → descriptor_byte t z c q i ≡ descriptor_byte s z c q i) × ((o : ℕ) → o < 512 → page_byte t z c q o ≡ page_byte s z c q o)
others_kept {ps} {s} {t} z c p q sh h of inside there ne =
    let b = beside z c p h of in (
      beside_descriptor s t z c p b sh inside q there ne,
      beside_page s t z c p b sh inside q there ne,
    )
