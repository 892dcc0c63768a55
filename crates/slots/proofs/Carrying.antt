-- How an image that carries a log carries one whose last entry is new or altered, when all beside that is as it was.
use Rattle.std.proofs.Common.{◌≡◌, ℕ, ◌+◌, ◌*◌, ◌<◌, ◌≤◌, List, [], ◌∷◌, ◌++◌, length, get_or, sym, refl, ap, ◌∙◌, subst, ⊎_elim, arith}
use Rattle.std.proofs.lemmas.List.{length-append, get_or_append_left, get_or_at}
use Rattle.std.proofs.lemmas.Bool.{cases_eq}
use Rattle.chip.specs.Flash.{Flash}
use Rattle.label.specs.declared.Sizes.{Sizes}
use Rattle.ring.specs.Searches.{row}
use Rattle.ring.specs.Tally.{tally_bit, tally_bits}
use Rattle.ring.specs.Places.{positions, chip_block, block_at, descriptor_byte, page_byte, flags_at}
use Rattle.ring.specs.Logs.{Entry, no_entry, entry_at}
use Rattle.ring.specs.Turns.{Shaped}
use Rattle.ring.proofs.Searching.{row_is, length-row, get_or-row}
use Rattle.laid.specs.Laid.{Blank, Spare, Laid}
use Rattle.slots.specs.Left.{Beside, entry_of, flagged}
use Rattle.slots.proofs.Besides.{beside_tally, beside_spare, beside_descriptor, beside_page}
use Rattle.slots.proofs.Stepping.{Written, Unwritten}

-- an entry by its parts
pub entry_is : (e d : Entry) → e.flags ≡ d.flags → e.sector ≡ d.sector → e.page ≡ d.page → e ≡ d
entry_is e d f x g =
    ap (λ v. entry_of v e.sector e.page) f ∙ ap (λ v. entry_of d.flags v e.page) x ∙ ap (λ v. entry_of d.flags d.sector v) g

-- rows that agree
row_same : (f g : ℕ → ℕ) (n : ℕ) → ((k : ℕ) → k < n → f k ≡ g k) → row f n ≡ row g n
row_same f g n h = row_is g (row f n) n 0 (length-row f n) (λ k lt. get_or-row f n k 0 lt ∙ h k lt)

-- two positions with the same bytes have the same entry
pub entry_same : (s t : Flash) (z : Sizes) (c p : ℕ) → ((i : ℕ) → i < 4 → descriptor_byte t z c p i ≡ descriptor_byte s z c p i) → ((o : ℕ) → o < 512 → page_byte t z c p o ≡ page_byte s z c p o) → entry_at t z c p ≡ entry_at s z c p
entry_same s t z c p d g =
    entry_is (entry_at t z c p) (entry_at s z c p) (d 0 (omega arith))
    (ap (λ v. v + 256 * descriptor_byte t z c p 2) (d 1 (omega arith)) ∙ ap (λ v. descriptor_byte s z c p 1 + 256 * v) (d 2 (omega arith)))
    (row_same (page_byte t z c p) (page_byte s z c p) 512 g)

-- the entry of a position that has a number and a page
pub entry_written : (t : Flash) (z : Sizes) (c p f x : ℕ) (bytes : List ℕ) → length bytes ≡ 512 → flags_at t z c p ≡ f → Written t z c p x bytes → entry_at t z c p ≡ entry_of f x bytes
entry_written t z c p f x bytes long e w =
    let low = w.low in
    let high = w.high in
    entry_is (entry_at t z c p) (entry_of f x bytes) e (omega arith)
    (sym (row_is (page_byte t z c p) bytes 512 0 long (λ k lt. sym (w.page k lt))))

-- an image that carries a log, but for the position behind it
pub record Behind (s : Flash) (z : Sizes) (c : ℕ) (es : List Entry) : Type 0 where
  pub cleared : (i : ℕ) → i < c → tally_bit s i ≡ 0
  pub uncleared : (i : ℕ) → c ≤ i → i < tally_bits z.tally → tally_bit s i ≡ 1
  pub bits : c ≤ tally_bits z.tally
  pub room : length es < positions z c
  pub entries : (p : ℕ) → p < length es → entry_at s z c p ≡ get_or es p no_entry
  pub claimed : (p : ℕ) → p < length es → (get_or es p no_entry).flags ≡ 255 → ⊥
  pub blank : (p : ℕ) → length es < p → p < positions z c → Blank s z c p
  pub spare : (p o : ℕ) → p < positions z c → o < 512 → Spare o → s.byte (chip_block z (block_at z c p)) o ≡ 255

module _ (s : Flash) (z : Sizes) (c : ℕ) (es : List Entry) where
  pub behind_all : Laid s z c es → length es < positions z c → Behind s z c es
  behind_all h lt = record {
    cleared = h.cleared;
    uncleared = h.uncleared;
    bits = h.bits;
    room = lt;
    entries = h.entries;
    claimed = h.claimed;
    blank = λ p le. h.blank p (omega arith);
    spare = h.spare;
  }

  -- one entry more
  more : (e : Entry) → length (es ++ (e ∷ [])) ≡ length es + 1
  more e = length-append es (e ∷ [])

  earlier : (e : Entry) (p : ℕ) → p < length es → get_or (es ++ (e ∷ [])) p no_entry ≡ get_or es p no_entry
  earlier e p lt = get_or_append_left es (e ∷ []) no_entry p lt

  last : (e : Entry) → get_or (es ++ (e ∷ [])) (length es) no_entry ≡ e
  last e = get_or_at es e [] no_entry (length es) refl

  pub behind_last : (e : Entry) → Laid s z c (es ++ (e ∷ [])) → Behind s z c es
  behind_last e h =
      let long = more e in
      record {
        cleared = h.cleared;
        uncleared = h.uncleared;
        bits = h.bits;
        room = omega (arith, long, h.room);
        entries = λ p lt. h.entries p (omega arith) ∙ earlier e p lt;
        claimed = λ p lt full. h.claimed p (omega arith) (ap (λ d. d.flags) (earlier e p lt) ∙ full);
        blank = λ p le. h.blank p (omega arith);
        spare = h.spare;
      }

  -- the last entry is that of its position
  pub last_is : (e : Entry) → Laid s z c (es ++ (e ∷ [])) → entry_at s z c (length es) ≡ e
  last_is e h =
      h.entries (length es) (omega (arith, more e)) ∙ last e

  pub last_claimed : (e : Entry) → Laid s z c (es ++ (e ∷ [])) → e.flags ≡ 255 → ⊥
  last_claimed e h full = h.claimed (length es) (omega (arith, more e)) (ap (λ (d : Entry). d.flags) (last e) ∙ full)

  -- the position behind is claimed, or blank
  pub with_one : (e : Entry) → Behind s z c es → entry_at s z c (length es) ≡ e → (e.flags ≡ 255 → ⊥) → Laid s z c (es ++ (e ∷ []))
  with_one e h is ne =
      let long = more e in
      record {
        cleared = h.cleared;
        uncleared = h.uncleared;
        bits = h.bits;
        room = omega (arith, long, h.room);
        entries = λ p lt.
            ⊎_elim
            (λ same. ap (entry_at s z c) same ∙ is ∙ sym (ap (λ q. get_or (es ++ (e ∷ [])) q no_entry) same ∙ last e))
            (λ other. let low : p < length es = omega (arith, other) in h.entries p low ∙ sym (earlier e p low))
            (cases_eq p (length es));
        claimed = λ p lt full.
            ⊎_elim
            (λ same. ne (ap (λ d. d.flags) (sym (ap (λ q. get_or (es ++ (e ∷ [])) q no_entry) same ∙ last e)) ∙ full))
            (λ other. let low : p < length es = omega (arith, other) in h.claimed p low (ap (λ d. d.flags) (sym (earlier e p low)) ∙ full))
            (cases_eq p (length es));
        blank = λ p le. h.blank p (omega arith);
        spare = h.spare;
      }

  pub with_none : Behind s z c es → Blank s z c (length es) → Laid s z c es
  with_none h empty = record {
    cleared = h.cleared;
    uncleared = h.uncleared;
    bits = h.bits;
    room = omega (arith, h.room);
    entries = h.entries;
    claimed = h.claimed;
    blank = λ p le lt. ⊎_elim (λ same. subst (λ q. Blank s z c q) (sym same) empty) (λ other. h.blank p (omega (arith, other)) lt) (cases_eq p (length es));
    spare = h.spare;
  }

-- all but the position behind the log is as it was
pub behind_kept : (s t : Flash) (z : Sizes) (c : ℕ) (es : List Entry) → Shaped z c → Beside s t z c (length es) → Behind s z c es → Behind t z c es
behind_kept s t z c es sh b h =
    let same = beside_tally s t z c (length es) b in
    let descriptor = beside_descriptor s t z c (length es) b sh h.room in
    let page = beside_page s t z c (length es) b sh h.room in
    record {
      cleared = λ i lt. same i (omega (arith, h.bits)) ∙ h.cleared i lt;
      uncleared = λ i le lt. same i lt ∙ h.uncleared i le lt;
      bits = h.bits;
      room = h.room;
      entries = λ p lt.
          let there : p < positions z c = omega (arith, h.room) in
          let other : p ≡ length es → ⊥ = λ e. omega (arith, e) in
          entry_same s t z c p (descriptor p there other) (page p there other) ∙ h.entries p lt;
      claimed = h.claimed;
      blank = λ p up lt.
          let other : p ≡ length es → ⊥ = λ e. omega (arith, e) in
          let was = h.blank p up lt in
          record {
            descriptor = λ i fits. descriptor p lt other i fits ∙ was.descriptor i fits;
            page = λ o fits. page p lt other o fits ∙ was.page o fits;
          };
      spare = λ p o lt fits sp. beside_spare s t z c (length es) b p o fits sp ∙ h.spare p o lt fits sp;
    }

-- a position whose flags alone have changed
pub entry_flagged : (s t : Flash) (z : Sizes) (c p : ℕ) (e : Entry) (g : ℕ) → Unwritten s t z c p → entry_at s z c p ≡ e → flags_at t z c p ≡ g → entry_at t z c p ≡ flagged e g
entry_flagged s t z c p e g u is to =
    let d : (i : ℕ) → 0 < i → i < 4 → descriptor_byte t z c p i ≡ descriptor_byte s z c p i = u.descriptor in
    entry_is (entry_at t z c p) (flagged e g) to
    (ap (λ v. v + 256 * descriptor_byte t z c p 2) (d 1 (omega arith) (omega arith)) ∙ ap (λ v. descriptor_byte s z c p 1 + 256 * v) (d 2 (omega arith) (omega arith)) ∙ ap (λ (x : Entry). x.sector) is)
    (row_same (page_byte t z c p) (page_byte s z c p) 512 u.page ∙ ap (λ (x : Entry). x.page) is)

module _ (s t : Flash) (z : Sizes) (c : ℕ) (es : List Entry) (sh : Shaped z c) (b : Beside s t z c (length es)) where
  -- one entry more, or none
  pub append : (e : Entry) → Laid s z c es → length es < positions z c → entry_at t z c (length es) ≡ e → (e.flags ≡ 255 → ⊥) → Laid t z c (es ++ (e ∷ []))
  append e h lt = with_one t z c es e (behind_kept s t z c es sh b (behind_all s z c es h lt))

  pub unappended : Laid s z c es → length es < positions z c → Blank t z c (length es) → Laid t z c es
  unappended h lt = with_none t z c es (behind_kept s t z c es sh b (behind_all s z c es h lt))

  -- another last entry
  pub alter : (e d : Entry) → Laid s z c (es ++ (e ∷ [])) → entry_at t z c (length es) ≡ d → (d.flags ≡ 255 → ⊥) → Laid t z c (es ++ (d ∷ []))
  alter e d h = with_one t z c es d (behind_kept s t z c es sh b (behind_last s z c es e h))
