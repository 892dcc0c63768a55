-- Copies of live slots: an image that kept the rules keeps them, and its sectors hold what they held.
use Rattle.std.proofs.Common.{◌≡◌, ℕ, zero, suc, ◌+◌, ◌-◌, ◌/◌, ◌%◌, ◌<◌, ◌≤◌, true, false, cond, ◌⊎◌, List, [], ◌∷◌, ◌++◌, length, get_or, sym, refl, ap, ◌∙◌, subst, ⊎_elim, arith}
use lib.Bits.{bit_and}
use Rattle.std.proofs.lemmas.List.{get_or_past}
use Rattle.std.proofs.lemmas.Bool.{both_ways, cases_lt, cond-true}
use Rattle.chip.specs.Flash.{Flash}
use Rattle.label.specs.declared.Sizes.{Sizes}
use Rattle.ring.specs.Places.{positions, descriptor_byte, sector_at, page_byte, page_at}
use Rattle.ring.specs.Logs.{Entry, no_entry, closes, unclosed_copy, is_live}
use Rattle.ring.specs.Rules.{legal, unfilled, numbered, Covers}
use Rattle.ring.proofs.Searching.{length-row, get_or-row}
use Rattle.laid.specs.Laid.{Laid}
use Rattle.laid.specs.Sane.{last_flags, Ended, front_live, source, Orderly, Sane, Readable}
use Rattle.holding.proofs.Growing.{live_numbered}
use Rattle.holding.proofs.Copying.{copy_of, front_copied}
use Rattle.slots.specs.Left.{Overs}
use Rattle.keeping.proofs.Orders.{length_one, last_is, orderly_more, ended_filled}
use Rattle.keeping.proofs.Changing.{front_quiet, source_quiet}

-- a log that ends a group, with room for a copy of the live slot i of its front
pub record Movable (z : Sizes) (c : ℕ) (ys : List Entry) (i : ℕ) : Type 0 where
  pub even : c % 2 ≡ 0
  pub orderly : Orderly z.sectors ys
  pub claimed : (p : ℕ) → p < length ys → (get_or ys p no_entry).flags ≡ 255 → ⊥
  pub ended : Ended ys
  pub room : front_live ys ≤ positions z c - length ys
  pub long : 7 ≤ length ys
  pub front : i < 7
  pub alive : is_live ys i ≡ true

module _ (t : Flash) (z : Sizes) (c : ℕ) (ys : List Entry) (i : ℕ) (h : Movable z c ys i) where
  before : 0 < length ys → unfilled (last_flags ys) ≡ false
  before some = ended_filled (last_flags ys) (h.ended some)

  number_below : (get_or ys i no_entry).sector < z.sectors
  number_below = live_numbered z.sectors ys i h.orderly h.claimed h.alive

  -- the copy is closed
  pub sane_copied : Laid t z c (ys ++ (copy_of ys i ∷ [])) → Sane t z c (ys ++ (copy_of ys i ∷ []))
  sane_copied laid =
      let e = copy_of ys i in
      record {
        laid = laid;
        orderly = orderly_more z.sectors ys e h.orderly
            record { legal = refl; filled = before; copies = λ _. h.ended; numbers = λ _. number_below };
        ended = λ odd. absurd (omega (arith, odd, h.even));
        roomy = λ _. omega (arith, front_copied ys i h.ended h.alive h.front h.long, h.room, length_one ys e);
        copied = λ there. absurd (both_ways _ (ap unclosed_copy (last_is ys e)) there);
      }

  -- the copy is not closed
  module _ (e : Entry) (flags : (e.flags ≡ 191) ⊎ (e.flags ≡ 159)) where
    by_flags : (P : ℕ → Type 0) → P 191 → P 159 → P e.flags
    by_flags P a b = ⊎_elim (λ x. subst P (sym x) a) (λ x. subst P (sym x) b) flags

    pub quiet : closes e.flags ≡ false
    quiet = by_flags (λ f. closes f ≡ false) refl refl

    below : (e.flags ≡ 159 → e.sector < z.sectors) → numbered e.flags ≡ true → e.sector < z.sectors
    below h9 there =
        ⊎_elim
        (λ x. absurd (both_ways (numbered e.flags) (ap numbered x) there))
        h9
        flags

    pub sane_copying : source ys ≡ i → (e.flags ≡ 159 → e.sector < z.sectors) → Covers t z c (length ys) i → Laid t z c (ys ++ (e ∷ [])) → Sane t z c (ys ++ (e ∷ []))
    sane_copying first number covers laid =
        let one = length_one ys e in
        let src : source (ys ++ (e ∷ [])) ≡ i = source_quiet ys e quiet ∙ first in
        let cond-is : ◌≡◌ {A = ℕ} (cond (unclosed_copy (last_flags (ys ++ (e ∷ [])))) 1 0) 1 = cond-true _ _ _ (ap unclosed_copy (last_is ys e) ∙ by_flags (λ f. unclosed_copy f ≡ true) refl refl) in
        let last : length (ys ++ (e ∷ [])) - 1 ≡ length ys = omega (arith, one) in
        record {
          laid = laid;
          orderly = orderly_more z.sectors ys e h.orderly
              record {
                legal = by_flags (λ f. legal f ≡ true) refl refl;
                filled = before;
                copies = λ _. h.ended;
                numbers = below number;
              };
          ended = λ odd. absurd (omega (arith, odd, h.even));
          roomy = λ _. omega (arith, front_quiet ys e quiet, h.room, one, cond-is);
          copied = λ _. record {
            late = omega (arith, one, h.long);
            some = omega (arith, src, h.front);
            covers = subst (λ p. Covers t z c p (source (ys ++ (e ∷ [])))) (sym last) (subst (Covers t z c (length ys)) (sym src) covers);
          };
        }

-- the number and the page of a position, as they are read
module _ (s : Flash) (z : Sizes) (c i : ℕ) (r : Readable s z c i) where
  pub low : sector_at s z c i % 256 ≡ descriptor_byte s z c i 1
  low = omega (arith, r.number 0 (omega arith), r.number 1 (omega arith))

  pub high : sector_at s z c i / 256 ≡ descriptor_byte s z c i 2
  high = omega (arith, r.number 0 (omega arith), r.number 1 (omega arith))

  pub small : sector_at s z c i < 65536
  small = omega (arith, r.number 0 (omega arith), r.number 1 (omega arith))

  pub long : length (page_at s z c i) ≡ 512
  long = length-row (page_byte s z c i) 512

  pub there : (o : ℕ) → o < 512 → get_or (page_at s z c i) o 0 ≡ page_byte s z c i o
  there o lt = get_or-row (page_byte s z c i) 512 o 0 lt

  pub fit : (o : ℕ) → get_or (page_at s z c i) o 0 < 256
  fit o =
      ⊎_elim
      (λ lt. omega (arith, there o lt, r.page o lt))
      (λ le. omega (arith, get_or_past (page_at s z c i) o 0 (omega (arith, long))))
      (cases_lt o 512)

  -- an image in which position p is over the number and page of position i of s, and i is as it was, covers i
  pub covers_of : (t : Flash) (p : ℕ) → ((k : ℕ) → k < 4 → descriptor_byte t z c i k ≡ descriptor_byte s z c i k) → ((o : ℕ) → o < 512 → page_byte t z c i o ≡ page_byte s z c i o) → Overs t z c p (sector_at s z c i) (page_at s z c i) → Covers t z c p i
  covers_of t p descriptor page over = record {
    number = λ k lt. number k lt;
    page = λ o lt.
        let is : page_byte t z c i o ≡ get_or (page_at s z c i) o 0 = page o lt ∙ sym (there o lt) in
        ap (bit_and (page_byte t z c p o)) is ∙ over.page o lt ∙ sym is;
  }
    where
      number : (k : ℕ) → k < 2 → bit_and (descriptor_byte t z c p (k + 1)) (descriptor_byte t z c i (k + 1)) ≡ descriptor_byte t z c i (k + 1)
      number zero lt =
          let is : descriptor_byte t z c i 1 ≡ sector_at s z c i % 256 = descriptor 1 (omega arith) ∙ sym low in
          ap (bit_and (descriptor_byte t z c p 1)) is ∙ over.low ∙ sym is
      number (suc zero) lt =
          let is : descriptor_byte t z c i 2 ≡ sector_at s z c i / 256 = descriptor 2 (omega arith) ∙ sym high in
          ap (bit_and (descriptor_byte t z c p 2)) is ∙ over.high ∙ sym is
      number (suc (suc k)) lt = absurd (omega arith)

  pub overs_of : (p : ℕ) → Covers s z c p i → Overs s z c p (sector_at s z c i) (page_at s z c i)
  overs_of p covers = record {
    low = ap (bit_and (descriptor_byte s z c p 1)) low ∙ covers.number 0 (omega arith) ∙ sym low;
    high = ap (bit_and (descriptor_byte s z c p 2)) high ∙ covers.number 1 (omega arith) ∙ sym high;
    page = λ o lt. ap (bit_and (page_byte s z c p o)) (there o lt) ∙ covers.page o lt ∙ sym (there o lt);
  }
