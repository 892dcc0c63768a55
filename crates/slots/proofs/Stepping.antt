-- What each program of a slot, whole or cut, makes of its flags, its number and its page.
use Rattle.std.proofs.Common.{◌≡◌, ℕ, ◌+◌, ◌*◌, ◌/◌, ◌%◌, ◌<◌, ◌≤◌, ◌⊎◌, List, [], ◌∷◌, ◌++◌, length, get_or, Ok, Err, refl, ap, ◌∙◌, subst, inl, inr, ⊎_elim, arith}
use lib.Bits.{bit_and, and_self, and_le_r}
use Rattle.std.proofs.lemmas.Bool.{cases_eq}
use Rattle.chip.specs.declared.Fault.{Fault}
use Rattle.chip.specs.Flash.{Flash}
use Rattle.chip.specs.Steps.{Step, Elsewhere, Between, Worked, Broke}
use Rattle.chip.specs.Plans as plans
use Rattle.chip.specs.Plans.{Performs}
use Rattle.chip.proofs.Performed.{performs_parts}
use Rattle.label.specs.declared.Sizes.{Sizes}
use Rattle.ring.specs.Places.{chip_block, block_at, descriptor_byte, flags_at, sector_at, page_byte}
use Rattle.laid.specs.Laid.{Blank}
use Rattle.laid.specs.Writing.{mark, number, fill, finishing}
use Rattle.slots.specs.Left.{Splits, Overs}
use Rattle.slots.proofs.Splitting.{byte_on_ones, copy_fills, copy_refills, copy_closes}

-- position p has the number x and these bytes in its page
pub record Written (s : Flash) (z : Sizes) (c p x : ℕ) (bytes : List ℕ) : Type 0 where
  pub low : descriptor_byte s z c p 1 ≡ x % 256
  pub high : descriptor_byte s z c p 2 ≡ x / 256
  pub page : (o : ℕ) → o < 512 → page_byte s z c p o ≡ get_or bytes o 0

-- the number and the page of position p are those of s
pub record Unwritten (s t : Flash) (z : Sizes) (c p : ℕ) : Type 0 where
  pub descriptor : (i : ℕ) → 0 < i → i < 4 → descriptor_byte t z c p i ≡ descriptor_byte s z c p i
  pub page : (o : ℕ) → o < 512 → page_byte t z c p o ≡ page_byte s z c p o

pub written_overs : (s : Flash) (z : Sizes) (c p x : ℕ) (bytes : List ℕ) → Written s z c p x bytes → Overs s z c p x bytes
written_overs s z c p x bytes h = record {
  low = ap (λ v. bit_and v (x % 256)) h.low ∙ and_self (x % 256);
  high = ap (λ v. bit_and v (x / 256)) h.high ∙ and_self (x / 256);
  page = λ o lt. ap (λ v. bit_and v (get_or bytes o 0)) (h.page o lt) ∙ and_self (get_or bytes o 0);
}

-- the number x, by its two bytes
number_is : (s : Flash) (z : Sizes) (c p x : ℕ) → descriptor_byte s z c p 1 ≡ x % 256 → descriptor_byte s z c p 2 ≡ x / 256 → sector_at s z c p ≡ x
number_is s z c p x low high = omega (arith, low, high)

-- the number of position p is below every limit that x and what the number was are below
abbrev pub Bounded : Flash → Flash → Sizes → ℕ → ℕ → ℕ → Type 0
Bounded s t z c p x = (limit : ℕ) → x < limit → sector_at s z c p < limit → sector_at t z c p < limit

-- one program of the slot
module _ (s t : Flash) (z : Sizes) (c p : ℕ) where
  abbrev here : ℕ
  here = chip_block z (block_at z c p)

  -- a program of the flags leaves the number and the page
  marked : Elsewhere s here (4 * (p % 7)) 1 t → Unwritten s t z c p
  marked h =
      let j : p % 7 < 7 = omega arith in
      record {
        descriptor = λ i some lt. h.after (4 * (p % 7) + i) (omega arith);
        page = λ o lt. h.after (512 * (p % 7 + 1) + o) (omega arith);
      }

  pub mark_worked : (f mask g : ℕ) → Worked (mark z c p mask) s t → flags_at s z c p ≡ f → bit_and f mask ≡ g → (flags_at t z c p ≡ g) × Unwritten s t z c p
  mark_worked f mask g w e to = (
    w.done.inside 0 (omega arith) ∙ ap (λ v. bit_and v mask) e ∙ to,
    marked w.done.elsewhere,
  )

  pub mark_broke : (f mask g : ℕ) → Broke (mark z c p mask) s t → flags_at s z c p ≡ f → bit_and f mask ≡ g → Splits f g → ((flags_at t z c p ≡ f) ⊎ (flags_at t z c p ≡ g)) × Unwritten s t z c p
  mark_broke f mask g w e to splits =
      let b : Between (bit_and (flags_at s z c p) mask) (flags_at t z c p) (flags_at s z c p) = w.torn.inside 0 (omega arith) in
      let low : Between g (flags_at t z c p) (flags_at s z c p) = subst (λ v. Between v (flags_at t z c p) (flags_at s z c p)) (ap (λ v. bit_and v mask) e ∙ to) b in
      (splits (flags_at t z c p) (subst (λ v. Between g (flags_at t z c p) v) e low), marked w.torn.elsewhere)

  module _ (x : ℕ) (bytes : List ℕ) where
    pub unwritten_overs : Unwritten s t z c p → Overs s z c p x bytes → Overs t z c p x bytes
    unwritten_overs u h = record {
      low = ap (λ v. bit_and v (x % 256)) (u.descriptor 1 (omega arith) (omega arith)) ∙ h.low;
      high = ap (λ v. bit_and v (x / 256)) (u.descriptor 2 (omega arith) (omega arith)) ∙ h.high;
      page = λ o lt. ap (λ v. bit_and v (get_or bytes o 0)) (u.page o lt) ∙ h.page o lt;
    }

    pub unwritten_written : Unwritten s t z c p → Written s z c p x bytes → Written t z c p x bytes
    unwritten_written u h = record {
      low = u.descriptor 1 (omega arith) (omega arith) ∙ h.low;
      high = u.descriptor 2 (omega arith) (omega arith) ∙ h.high;
      page = λ o lt. u.page o lt ∙ h.page o lt;
    }

    -- a program of the number leaves the flags and the page
    unnumbered_flags : Elsewhere s here (4 * (p % 7) + 1) 2 t → flags_at t z c p ≡ flags_at s z c p
    unnumbered_flags h = h.before (4 * (p % 7) + 0) (omega arith)

    unnumbered_page : Elsewhere s here (4 * (p % 7) + 1) 2 t → (o : ℕ) → o < 512 → page_byte t z c p o ≡ page_byte s z c p o
    unnumbered_page h o lt = let j : p % 7 < 7 = omega arith in h.after (512 * (p % 7 + 1) + o) (omega arith)

    pub number_worked : Worked (number z c p x) s t → Overs s z c p x bytes → (flags_at t z c p ≡ flags_at s z c p) × (descriptor_byte t z c p 1 ≡ x % 256) × (descriptor_byte t z c p 2 ≡ x / 256) × Overs t z c p x bytes
    number_worked w h =
        let low : descriptor_byte t z c p 1 ≡ x % 256 = subst (λ o. t.byte here o ≡ bit_and (s.byte here o) (x % 256)) (omega arith) (w.done.inside 0 (omega arith)) ∙ h.low in
        let high : descriptor_byte t z c p 2 ≡ x / 256 = subst (λ o. t.byte here o ≡ bit_and (s.byte here o) (x / 256)) (omega arith) (w.done.inside 1 (omega arith)) ∙ h.high in (
          unnumbered_flags w.done.elsewhere,
          low,
          high,
          record {
            low = ap (λ v. bit_and v (x % 256)) low ∙ and_self (x % 256);
            high = ap (λ v. bit_and v (x / 256)) high ∙ and_self (x / 256);
            page = λ o lt. ap (λ v. bit_and v (get_or bytes o 0)) (unnumbered_page w.done.elsewhere o lt) ∙ h.page o lt;
          },
        )

    pub number_broke : Broke (number z c p x) s t → Overs s z c p x bytes → (flags_at t z c p ≡ flags_at s z c p) × Overs t z c p x bytes × (sector_at t z c p ≤ sector_at s z c p)
    number_broke w h =
        let low : Between (bit_and (descriptor_byte s z c p 1) (x % 256)) (descriptor_byte t z c p 1) (descriptor_byte s z c p 1) = subst (λ o. Between (bit_and (s.byte here o) (x % 256)) (t.byte here o) (s.byte here o)) (omega arith) (w.torn.inside 0 (omega arith)) in
        let high : Between (bit_and (descriptor_byte s z c p 2) (x / 256)) (descriptor_byte t z c p 2) (descriptor_byte s z c p 2) = subst (λ o. Between (bit_and (s.byte here o) (x / 256)) (t.byte here o) (s.byte here o)) (omega arith) (w.torn.inside 1 (omega arith)) in (
          unnumbered_flags w.torn.elsewhere,
          record {
            low = subst (λ v. bit_and (descriptor_byte t z c p 1) v ≡ v) h.low low.over;
            high = subst (λ v. bit_and (descriptor_byte t z c p 2) v ≡ v) h.high high.over;
            page = λ o lt. ap (λ v. bit_and v (get_or bytes o 0)) (unnumbered_page w.torn.elsewhere o lt) ∙ h.page o lt;
          },
          omega (
            arith,
            low.under,
            high.under,
            and_le_r (descriptor_byte t z c p 1) (descriptor_byte s z c p 1),
            and_le_r (descriptor_byte t z c p 2) (descriptor_byte s z c p 2),
          ),
        )

    -- a program of the page leaves the descriptor
    unfilled : Elsewhere s here (512 * (p % 7 + 1)) (length bytes) t → (i : ℕ) → i < 4 → descriptor_byte t z c p i ≡ descriptor_byte s z c p i
    unfilled h i lt = let j : p % 7 < 7 = omega arith in h.before (4 * (p % 7) + i) (omega arith)

    pub fill_worked : Worked (fill z c p bytes) s t → Overs s z c p x bytes → (flags_at t z c p ≡ flags_at s z c p) × (descriptor_byte t z c p 1 ≡ descriptor_byte s z c p 1) × (descriptor_byte t z c p 2 ≡ descriptor_byte s z c p 2) × ((o : ℕ) → o < 512 → page_byte t z c p o ≡ get_or bytes o 0)
    fill_worked w h =
        let same = unfilled w.done.elsewhere in
        let long = w.allowed.within.same in (
          same 0 (omega arith),
          same 1 (omega arith),
          same 2 (omega arith),
          λ o lt. w.done.inside o (omega arith) ∙ h.page o lt,
        )

    pub fill_broke : Broke (fill z c p bytes) s t → Overs s z c p x bytes → (flags_at t z c p ≡ flags_at s z c p) × Overs t z c p x bytes × (sector_at t z c p ≡ sector_at s z c p)
    fill_broke w h =
        let same = unfilled w.torn.elsewhere in
        let long = w.allowed.within.same in (
          same 0 (omega arith),
          record {
            low = ap (λ v. bit_and v (x % 256)) (same 1 (omega arith)) ∙ h.low;
            high = ap (λ v. bit_and v (x / 256)) (same 2 (omega arith)) ∙ h.high;
            page = λ o lt. subst (λ v. bit_and (page_byte t z c p o) v ≡ v) (h.page o lt) (w.torn.inside o (omega arith)).over;
          },
          omega (arith, same 1 (omega arith), same 2 (omega arith)),
        )

-- what comes after the claim of a slot: its number, its page, and the bit that says so
abbrev pub writing : Sizes → ℕ → ℕ → ℕ → List ℕ → List Step
writing z c p x bytes = number z c p x ∷ fill z c p bytes ∷ mark z c p 223 ∷ []

pub writing_whole : {s t : Flash} (z : Sizes) (c p x : ℕ) (bytes : List ℕ) (f g : ℕ) → Performs (writing z c p x bytes) s (Ok tt) t → Overs s z c p x bytes → flags_at s z c p ≡ f → bit_and f 223 ≡ g → (flags_at t z c p ≡ g) × Written t z c p x bytes
writing_whole {s} {t} z c p x bytes f g (plans.next {m = m} w (plans.next {m = n} v (plans.next u plans.whole))) h e to =
    let a = number_worked s m z c p x bytes w h in
    let b = fill_worked m n z c p x bytes v a.3 in
    let d = mark_worked n t z c p f 223 g u (b.0 ∙ a.0 ∙ e) to in (
      d.0,
      unwritten_written n t z c p x bytes d.1 record { low = b.1 ∙ a.1; high = b.2 ∙ a.2; page = b.3 },
    )

pub writing_cut : {s t : Flash} (z : Sizes) (c p x : ℕ) (bytes : List ℕ) (f g : ℕ) {fault : Fault} → Performs (writing z c p x bytes) s (Err fault) t → Overs s z c p x bytes → flags_at s z c p ≡ f → bit_and f 223 ≡ g → Splits f g → ((flags_at t z c p ≡ f) × Overs t z c p x bytes × Bounded s t z c p x) ⊎ ((flags_at t z c p ≡ g) × Written t z c p x bytes)
writing_cut {s} {t} z c p x bytes f g (plans.cut w) h e to splits =
    let a = number_broke s t z c p x bytes w h in
    inl (a.0 ∙ e, a.1, λ limit lt was. omega (arith, a.2, was))
writing_cut {s} {t} z c p x bytes f g (plans.next {m = m} w (plans.cut v)) h e to splits =
    let a = number_worked s m z c p x bytes w h in
    let b = fill_broke m t z c p x bytes v a.3 in
    inl (b.0 ∙ a.0 ∙ e, b.1, λ limit lt was. omega (arith, b.2, number_is m z c p x a.1 a.2, lt))
writing_cut {s} {t} z c p x bytes f g (plans.next {m = m} w (plans.next {m = n} v (plans.cut u))) h e to splits =
    let a = number_worked s m z c p x bytes w h in
    let b = fill_worked m n z c p x bytes v a.3 in
    let d = mark_broke n t z c p f 223 g u (b.0 ∙ a.0 ∙ e) to splits in
    let all = unwritten_written n t z c p x bytes d.1 record { low = b.1 ∙ a.1; high = b.2 ∙ a.2; page = b.3 } in
    ⊎_elim (λ y. inl (y, written_overs t z c p x bytes all, λ limit lt was. omega (arith, number_is t z c p x all.low all.high, lt))) (λ y. inr (y, all)) d.0
writing_cut z c p x bytes f g (plans.next w (plans.next v (plans.next u rest))) h e to splits = elim rest [ ]

-- a plan that was cut, in two parts
pub cut_parts : (ps : List Step) {qs : List Step} {s t : Flash} {f : Fault} → Performs (ps ++ qs) s (Err f) t → Performs ps s (Err f) t ⊎ ((m : Flash) × Performs ps s (Ok tt) m × Performs qs m (Err f) t)
cut_parts [] {qs} {s} h = inr (s, plans.whole, h)
cut_parts (p ∷ ps) (plans.cut b) = inl (plans.cut b)
cut_parts (p ∷ ps) (plans.next w rest) =
    ⊎_elim (λ x. inl (plans.next w x)) (λ x. inr (x.0, plans.next w x.1, x.2)) (cut_parts ps rest)

-- a blank position shows a 1 wherever a number and a page do
pub blank_overs : (s : Flash) (z : Sizes) (c p x : ℕ) (bytes : List ℕ) → x < 65536 → ((o : ℕ) → get_or bytes o 0 < 256) → Blank s z c p → Overs s z c p x bytes
blank_overs s z c p x bytes lt fit h = record {
  low = ap (λ v. bit_and v (x % 256)) (h.descriptor 1 (omega arith)) ∙ byte_on_ones (x % 256) (omega arith);
  high = ap (λ v. bit_and v (x / 256)) (h.descriptor 2 (omega arith)) ∙ byte_on_ones (x / 256) (omega arith);
  page = λ o in_page. ap (λ v. bit_and v (get_or bytes o 0)) (h.page o in_page) ∙ byte_on_ones (get_or bytes o 0) (fit o);
}

-- a position whose flags are still blank is blank
pub unwritten_blank : (s t : Flash) (z : Sizes) (c p : ℕ) → Unwritten s t z c p → Blank s z c p → flags_at t z c p ≡ 255 → Blank t z c p
unwritten_blank s t z c p u h e = record {
  descriptor = λ i lt.
      ⊎_elim
      (λ first. ap (descriptor_byte t z c p) first ∙ e)
      (λ ne. u.descriptor i (omega (arith, ne)) lt ∙ h.descriptor i lt)
      (cases_eq i 0);
  page = λ o lt. u.page o lt ∙ h.page o lt;
}

-- the claim of a blank position by a bit
pub claim_whole : (s t : Flash) (z : Sizes) (c p mask x : ℕ) (bytes : List ℕ) → Worked (mark z c p mask) s t → Blank s z c p → bit_and 255 mask ≡ mask → Overs s z c p x bytes → (flags_at t z c p ≡ mask) × Overs t z c p x bytes
claim_whole s t z c p mask x bytes w h to over =
    let d = mark_worked s t z c p 255 mask mask w (h.descriptor 0 (omega arith)) to in
    (d.0, unwritten_overs s t z c p x bytes d.1 over)

pub claim_cut : (s t : Flash) (z : Sizes) (c p mask x : ℕ) (bytes : List ℕ) → Broke (mark z c p mask) s t → Blank s z c p → bit_and 255 mask ≡ mask → Splits 255 mask → Overs s z c p x bytes → Blank t z c p ⊎ ((flags_at t z c p ≡ mask) × Overs t z c p x bytes)
claim_cut s t z c p mask x bytes w h to splits over =
    let d = mark_broke s t z c p 255 mask mask w (h.descriptor 0 (omega arith)) to splits in
    ⊎_elim
    (λ e. inl (unwritten_blank s t z c p d.1 h e))
    (λ e. inr (e, unwritten_overs s t z c p x bytes d.1 over))
    d.0

-- the rest of a copy that is claimed, or filled already
abbrev pub Copied : ℕ → Type 0
Copied f = (f ≡ 191) ⊎ (f ≡ 159)

pub finishing_whole : {s t : Flash} (z : Sizes) (c p x : ℕ) (bytes : List ℕ) → Performs (finishing z c p x bytes) s (Ok tt) t → Overs s z c p x bytes → Copied (flags_at s z c p) → (flags_at t z c p ≡ 143) × Written t z c p x bytes
finishing_whole {s} {t} z c p x bytes h over flags =
    let y = performs_parts (writing z c p x bytes) h in
    let a : (flags_at y.0 z c p ≡ 159) × Written y.0 z c p x bytes = ⊎_elim (λ e. writing_whole z c p x bytes 191 159 y.1 over e refl) (λ e. writing_whole z c p x bytes 159 159 y.1 over e refl) flags in
    end y.0 y.2 a.0 a.1
  where
    end : (m : Flash) → Performs (mark z c p 239 ∷ []) m (Ok tt) t → flags_at m z c p ≡ 159 → Written m z c p x bytes → (flags_at t z c p ≡ 143) × Written t z c p x bytes
    end m (plans.next w plans.whole) e all =
        let d = mark_worked m t z c p 159 239 143 w e refl in
        (d.0, unwritten_written m t z c p x bytes d.1 all)

-- a copy that is filled and not closed has a number below the limit
abbrev pub FilledBelow : Flash → Sizes → ℕ → ℕ → ℕ → Type 0
FilledBelow s z c p limit = flags_at s z c p ≡ 159 → sector_at s z c p < limit

pub finishing_cut : {s t : Flash} {f : Fault} (z : Sizes) (c p x : ℕ) (bytes : List ℕ) → Performs (finishing z c p x bytes) s (Err f) t → Overs s z c p x bytes → Copied (flags_at s z c p) → (limit : ℕ) → x < limit → FilledBelow s z c p limit → (Copied (flags_at t z c p) × Overs t z c p x bytes × FilledBelow t z c p limit) ⊎ ((flags_at t z c p ≡ 143) × Written t z c p x bytes)
finishing_cut {s} {t} {f} z c p x bytes h over flags limit lt below =
    ⊎_elim
    (λ y. ⊎_elim
    (λ e. ⊎_elim
    (λ u. inl (inl u.0, u.1, λ filled. omega (arith, u.0, filled)))
    (λ u. inl (filled_all u.0 u.1))
    (writing_cut z c p x bytes 191 159 y over e refl copy_fills))
    (λ e. ⊎_elim
    (λ u. inl (inr u.0, u.1, λ filled. u.2 limit lt (below e)))
    (λ u. inl (filled_all u.0 u.1))
    (writing_cut z c p x bytes 159 159 y over e refl copy_refills))
    flags)
    (λ y.
    let a : (flags_at y.0 z c p ≡ 159) × Written y.0 z c p x bytes = ⊎_elim (λ e. writing_whole z c p x bytes 191 159 y.1 over e refl) (λ e. writing_whole z c p x bytes 159 159 y.1 over e refl) flags in
    end y.0 y.2 a.0 a.1)
    (cut_parts (writing z c p x bytes) h)
  where
    filled_all : flags_at t z c p ≡ 159 → Written t z c p x bytes → Copied (flags_at t z c p) × Overs t z c p x bytes × FilledBelow t z c p limit
    filled_all e w = (
      inr e,
      written_overs t z c p x bytes w,
      λ filled. omega (arith, number_is t z c p x w.low w.high, lt),
    )

    end : (m : Flash) {fault : Fault} → Performs (mark z c p 239 ∷ []) m (Err fault) t → flags_at m z c p ≡ 159 → Written m z c p x bytes → (Copied (flags_at t z c p) × Overs t z c p x bytes × FilledBelow t z c p limit) ⊎ ((flags_at t z c p ≡ 143) × Written t z c p x bytes)
    end m (plans.cut w) e all =
        let d = mark_broke m t z c p 159 239 143 w e refl copy_closes in
        let kept = unwritten_written m t z c p x bytes d.1 all in
        ⊎_elim (λ y. inl (filled_all y kept)) (λ y. inr (y, kept)) d.0
    end m (plans.next w rest) e all = elim rest [ ]
