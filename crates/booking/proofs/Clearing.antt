-- What clearing one bit of the tally leaves, finished or cut.
use Rattle.std.proofs.Common.{◌≡◌, ℕ, ◌+◌, ◌-◌, ◌/◌, ◌%◌, ◌^◌, ◌<◌, ◌≤◌, ◌⊎◌, sym, ap, ◌∙◌, subst, inl, inr, ⊎_elim, arith}
use lib.Bits.{bit_and}
use Rattle.std.proofs.lemmas.Bool.{cases_eq, cases_lt}
use Rattle.chip.specs.Flash.{Flash}
use Rattle.chip.specs.Steps.{Elsewhere, Between, Worked, Broke}
use Rattle.label.specs.declared.Sizes.{Sizes}
use Rattle.ring.specs.Tally.{tally_byte, tally_bit, tally_bits}
use Rattle.ring.specs.Places.{chip_block}
use Rattle.laid.specs.Writing.{clearing}
use Rattle.booking.proofs.Masks.{bit, mask_here, mask_other, torn_other}

-- the block and the offset of the byte of a bit, and the bit's place in it
abbrev pub bit_block : ℕ → ℕ
bit_block i = 1 + i / 8 / 4096

abbrev pub bit_offset : ℕ → ℕ
bit_offset i = i / 8 % 4096

abbrev pub bit_mask : ℕ → ℕ
bit_mask i = 255 - 2 ^ (7 - i % 8)

-- t is s but for the bit c of the tally
pub record Changed (s t : Flash) (c : ℕ) : Type 0 where
  pub bits : (i : ℕ) → (i ≡ c → ⊥) → tally_bit t i ≡ tally_bit s i
  pub blocks : (b o : ℕ) → (b ≡ bit_block c → ⊥) → t.byte b o ≡ s.byte b o

-- a byte outside of the range of one is the same
apart : (s t : Flash) (b at o : ℕ) → Elsewhere s b at 1 t → (o ≡ at → ⊥) → t.byte b o ≡ s.byte b o
apart s t b at o h ne =
    ⊎_elim (λ lt. h.before o lt) (λ le. h.after o (omega (arith, ne))) (cases_lt o at)

-- so is a byte of the tally that does not have the bit c
other_byte : (s t : Flash) (c j : ℕ) → Elsewhere s (bit_block c) (bit_offset c) 1 t → (j ≡ c / 8 → ⊥) → tally_byte t j ≡ tally_byte s j
other_byte s t c j h ne =
    ⊎_elim
    (λ e.
    let off : j % 4096 ≡ bit_offset c → ⊥ = λ q. ne (omega arith) in
    subst (λ b. t.byte b (j % 4096) ≡ s.byte b (j % 4096)) (sym e) (apart s t (bit_block c) (bit_offset c) (j % 4096) h off))
    (λ far. h.others (1 + j / 4096) (j % 4096) far)
    (cases_eq (1 + j / 4096) (bit_block c))

-- a change of the byte of the bit c that keeps its other bits
changed : (s t : Flash) (c : ℕ) → Elsewhere s (bit_block c) (bit_offset c) 1 t → ((k : ℕ) → k < 8 → (k ≡ 7 - c % 8 → ⊥) → bit (tally_byte t (c / 8)) k ≡ bit (tally_byte s (c / 8)) k) → Changed s t c
changed s t c h same =
    record {
      bits = λ i ne.
          ⊎_elim
          (λ e.
          let off : 7 - i % 8 ≡ 7 - c % 8 → ⊥ = λ q. ne (omega arith) in
          subst (λ j. bit (tally_byte t j) (7 - i % 8) ≡ bit (tally_byte s j) (7 - i % 8)) (sym e) (same (7 - i % 8) (omega arith) off))
          (λ far. ap (λ x. bit x (7 - i % 8)) (other_byte s t c (i / 8) h far))
          (cases_eq (i / 8) (c / 8));
      blocks = λ b o ne. h.others b o ne;
    }

-- the byte of the bit c, finished and cut
done_byte : (s t : Flash) (c : ℕ) → Worked (clearing c) s t → tally_byte t (c / 8) ≡ bit_and (tally_byte s (c / 8)) (bit_mask c)
done_byte s t c w =
    let e : bit_offset c + 0 ≡ bit_offset c = omega arith in
    subst (λ o. t.byte (bit_block c) o ≡ bit_and (s.byte (bit_block c) o) (bit_mask c)) e (w.done.inside 0 (omega arith))

torn_byte : (s t : Flash) (c : ℕ) → Broke (clearing c) s t → Between (bit_and (tally_byte s (c / 8)) (bit_mask c)) (tally_byte t (c / 8)) (tally_byte s (c / 8))
torn_byte s t c w =
    let e : bit_offset c + 0 ≡ bit_offset c = omega arith in
    subst (λ o. Between (bit_and (s.byte (bit_block c) o) (bit_mask c)) (t.byte (bit_block c) o) (s.byte (bit_block c) o)) e (w.torn.inside 0 (omega arith))

-- clearing the bit c changes nothing else, and finished it clears it
pub whole_changed : (s t : Flash) (c : ℕ) → Worked (clearing c) s t → Changed s t c
whole_changed s t c w =
    changed s t c w.done.elsewhere
    (λ k lt ne. ap (λ x. bit x k) (done_byte s t c w) ∙ mask_other (tally_byte s (c / 8)) (7 - c % 8) k (omega arith) lt ne)

pub cut_changed : (s t : Flash) (c : ℕ) → Broke (clearing c) s t → Changed s t c
cut_changed s t c w =
    changed s t c w.torn.elsewhere
    (λ k lt ne. torn_other (tally_byte s (c / 8)) (tally_byte t (c / 8)) (7 - c % 8) k (omega arith) lt ne (torn_byte s t c w))

pub cleared_bit : (s t : Flash) (c : ℕ) → Worked (clearing c) s t → tally_bit t c ≡ 0
cleared_bit s t c w = ap (λ x. bit x (7 - c % 8)) (done_byte s t c w) ∙ mask_here (tally_byte s (c / 8)) (7 - c % 8) (omega arith)

-- a bit is 0 or 1
pub either_bit : (s : Flash) (i : ℕ) → (tally_bit s i ≡ 0) ⊎ (tally_bit s i ≡ 1)
either_bit s i = ⊎_elim inl (λ ne. inr (omega (arith, ne))) (cases_eq (tally_bit s i) 0)

-- the byte of a bit lies in a block of the tally
pub bit_inside : (k i : ℕ) → i < tally_bits k → bit_block i ≤ k
bit_inside k i lt = omega arith

-- so no byte of the ring changes
pub ring_same : (s t : Flash) (z : Sizes) (c b o : ℕ) → c < tally_bits z.tally → Changed s t c → t.byte (chip_block z b) o ≡ s.byte (chip_block z b) o
ring_same s t z c b o lt h = h.blocks (chip_block z b) o (λ e. absurd (omega (arith, bit_inside z.tally c lt)))
