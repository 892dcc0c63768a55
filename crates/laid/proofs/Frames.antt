-- What an image carries is told by the bytes of its tally and its ring; and an erased ring carries the empty log.
use Rattle.std.proofs.Common.{◌≡◌, ℕ, zero, suc, ◌+◌, ◌-◌, ◌*◌, ◌/◌, ◌%◌, ◌^◌, ◌<◌, ◌≤◌, List, [], length, sym, refl, ap, ◌∙◌, ap₂, mod-lt, arith}
use lib.Bits.{bit_and}
use Rattle.std.proofs.lemmas.Bool.{both_ways}
use Rattle.chip.specs.Flash.{Flash}
use Rattle.label.specs.declared.Sizes.{Sizes}
use Rattle.ring.specs.Searches.{row}
use Rattle.ring.specs.Tally.{tally_bit, tally_bits}
use Rattle.ring.specs.Places.{positions, block_at, chip_block, descriptor_byte, flags_at, sector_at, page_byte, page_at}
use Rattle.ring.specs.Logs.{Entry, entry_at}
use Rattle.ring.specs.Rules.{Covers}
use Rattle.ring.proofs.Searching.{length-row, get_or-row, row_is}
use Rattle.laid.specs.Laid.{Laid, Blank}
use Rattle.laid.specs.Sane.{Sane, Copied, source}
use Rattle.laid.proofs.Keeping.{front_empty}

-- the block of a position is one of the ring
pub block_inside : (z : Sizes) (c p : ℕ) → p < positions z c → chip_block z (block_at z c p) < 1 + z.tally + z.ring
block_inside z c p lt =
    let below : block_at z c p < z.ring = mod-lt _ (omega arith) in
    omega arith

-- rows of the same numbers
pub row_same : {A : Type 0} (f g : ℕ → A) (n : ℕ) (d : A) → ((i : ℕ) → i < n → f i ≡ g i) → row f n ≡ row g n
row_same f g n d h = row_is g (row f n) n d (length-row f n) (λ k lt. get_or-row f n k d lt ∙ h k lt)

-- bytes that are the same in the tally and the ring
abbrev pub SameRing : Flash → Flash → Sizes → Type 0
SameRing s t z = (b o : ℕ) → 0 < b → b < 1 + z.tally + z.ring → o < 4096 → t.byte b o ≡ s.byte b o

-- an entry of these parts
abbrev entry : ℕ → ℕ → List ℕ → Entry
entry f x l = record { flags = f; sector = x; page = l }

module _ (s t : Flash) (z : Sizes) (same : SameRing s t z) where
  -- so the bits of the tally are the same, and the bytes and the entry of each position
  bit_same : (i : ℕ) → i < tally_bits z.tally → tally_bit t i ≡ tally_bit s i
  bit_same i lt = ap (λ x. x / 2 ^ (7 - i % 8) % 2) (same (1 + i / 8 / 4096) (i / 8 % 4096) (omega arith) (omega arith) (omega arith))

  pub descriptor_same : (c p i : ℕ) → p < positions z c → i < 4 → descriptor_byte t z c p i ≡ descriptor_byte s z c p i
  descriptor_same c p i inside lt = same (chip_block z (block_at z c p)) (4 * (p % 7) + i) (omega arith) (block_inside z c p inside) (omega arith)

  pub page_same : (c p o : ℕ) → p < positions z c → o < 512 → page_byte t z c p o ≡ page_byte s z c p o
  page_same c p o inside lt = same (chip_block z (block_at z c p)) (512 * (p % 7 + 1) + o) (omega arith) (block_inside z c p inside) (omega arith)

  pub entry_same : (c p : ℕ) → p < positions z c → entry_at t z c p ≡ entry_at s z c p
  entry_same c p inside =
      let flags : flags_at t z c p ≡ flags_at s z c p = descriptor_same c p 0 inside (omega arith) in
      let sector : sector_at t z c p ≡ sector_at s z c p =
      ap₂ (λ a b. a + 256 * b) (descriptor_same c p 1 inside (omega arith)) (descriptor_same c p 2 inside (omega arith)) in
      let page : page_at t z c p ≡ page_at s z c p = row_same (page_byte t z c p) (page_byte s z c p) 512 0 (λ o. page_same c p o inside) in
      ap (λ (f : ℕ). entry f (sector_at t z c p) (page_at t z c p)) flags
      ∙ ap (λ (x : ℕ). entry (flags_at s z c p) x (page_at t z c p)) sector
      ∙ ap (λ (l : List ℕ). entry (flags_at s z c p) (sector_at s z c p) l) page

  -- and so what is said of them
  blank_same : (c p : ℕ) → p < positions z c → Blank s z c p → Blank t z c p
  blank_same c p inside b = record {
    descriptor = λ i lt. descriptor_same c p i inside lt ∙ b.descriptor i lt;
    page = λ o lt. page_same c p o inside lt ∙ b.page o lt;
  }

  pub covers_same : (c q p : ℕ) → q < positions z c → p < positions z c → Covers s z c q p → Covers t z c q p
  covers_same c q p lq lp h = record {
    number = λ i lt.
        ap₂ bit_and (descriptor_same c q (i + 1) lq (omega arith)) (descriptor_same c p (i + 1) lp (omega arith))
        ∙ h.number i lt
        ∙ sym (descriptor_same c p (i + 1) lp (omega arith));
    page = λ o lt. ap₂ bit_and (page_same c q o lq lt) (page_same c p o lp lt) ∙ h.page o lt ∙ sym (page_same c p o lp lt);
  }

  -- an image with the same bytes in its tally and its ring carries the same log
  pub laid_kept : (c : ℕ) (es : List Entry) → Laid s z c es → Laid t z c es
  laid_kept c es h = record {
    cleared = λ i lt. bit_same i (omega (arith, h.bits)) ∙ h.cleared i lt;
    uncleared = λ i le lt. bit_same i lt ∙ h.uncleared i le lt;
    bits = h.bits;
    room = h.room;
    entries = λ p lt. entry_same c p (omega (arith, h.room)) ∙ h.entries p lt;
    claimed = h.claimed;
    blank = λ p le lt. blank_same c p lt (h.blank p le lt);
    spare = λ p o lt lo spare.
        same (chip_block z (block_at z c p)) o (omega arith) (block_inside z c p lt) (omega arith) ∙ h.spare p o lt lo spare;
  }

  -- and is sane with it
  pub sane_kept : (c : ℕ) (es : List Entry) → Sane s z c es → Sane t z c es
  sane_kept c es h = record {
    laid = laid_kept c es h.laid;
    orderly = h.orderly;
    ended = h.ended;
    roomy = h.roomy;
    copied = λ is.
        let x : Copied s z c es = h.copied is in
        record {
          late = x.late;
          some = x.some;
          covers = covers_same c (length es - 1) (source es) (omega (arith, x.late, h.laid.room)) (omega (arith, x.late, x.some, h.laid.room)) x.covers;
        };
  }

-- an image with the same bytes
pub laid_same : (s t : Flash) (z : Sizes) (c : ℕ) (es : List Entry) → ((b o : ℕ) → t.byte b o ≡ s.byte b o) → Sane s z c es → Sane t z c es
laid_same s t z c es same h = sane_kept s t z (λ b o _ _ _. same b o) c es h

-- every bit of a byte FF hex is 1
pub ones_bit : (k : ℕ) → k ≤ 7 → 255 / 2 ^ k % 2 ≡ 1
ones_bit zero le = refl
ones_bit (suc zero) le = refl
ones_bit (suc (suc zero)) le = refl
ones_bit (suc (suc (suc zero))) le = refl
ones_bit (suc (suc (suc (suc zero)))) le = refl
ones_bit (suc (suc (suc (suc (suc zero))))) le = refl
ones_bit (suc (suc (suc (suc (suc (suc zero)))))) le = refl
ones_bit (suc (suc (suc (suc (suc (suc (suc zero))))))) le = refl
ones_bit (suc (suc (suc (suc (suc (suc (suc (suc n)))))))) le = absurd (omega arith)

-- an erased tally and ring carry the empty log
pub sane_empty : (s : Flash) (z : Sizes) → ((b o : ℕ) → 0 < b → b < 1 + z.tally + z.ring → o < 4096 → s.byte b o ≡ 255) → Sane s z 0 []
sane_empty s z all = record {
  laid = record {
    cleared = λ i lt. absurd (omega arith);
    uncleared = λ i le lt.
        ap (λ x. x / 2 ^ (7 - i % 8) % 2) (all (1 + i / 8 / 4096) (i / 8 % 4096) (omega arith) (omega arith) (omega arith))
        ∙ ones_bit (7 - i % 8) (omega arith);
    bits = omega arith;
    room = omega arith;
    entries = λ p lt. absurd (omega arith);
    claimed = λ p lt is. omega arith;
    blank = λ p le lt. record {
      descriptor = λ i li. all (chip_block z (block_at z 0 p)) (4 * (p % 7) + i) (omega arith) (block_inside z 0 p lt) (omega arith);
      page = λ o lo. all (chip_block z (block_at z 0 p)) (512 * (p % 7 + 1) + o) (omega arith) (block_inside z 0 p lt) (omega arith);
    };
    spare = λ p o lt lo spare. all (chip_block z (block_at z 0 p)) o (omega arith) (block_inside z 0 p lt) (omega arith);
  };
  orderly = record {
    legal = λ p lt. absurd (omega arith);
    filled = λ p lt. absurd (omega arith);
    copies = λ p some lt. absurd (omega arith);
    numbers = λ p lt. absurd (omega arith);
  };
  ended = λ odd some. absurd (omega arith);
  roomy = λ even. omega (arith, front_empty);
  copied = λ is. absurd (both_ways _ refl is);
}
