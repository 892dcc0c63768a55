-- A log that is carried over: from an image with c cleared bits to one with d, whose positions are those from k on.
use Rattle.std.proofs.Common.{◌≡◌, ℕ, ◌+◌, ◌-◌, ◌*◌, ◌%◌, ◌<◌, ◌≤◌, List, length, get_or, drop, sym, ap, ◌∙◌, ap₂, ⊎_elim, arith, length-drop, get_or-drop}
use Rattle.std.proofs.lemmas.Bool.{cases_lt}
use Rattle.chip.specs.Flash.{Flash}
use Rattle.label.specs.declared.Sizes.{Sizes}
use Rattle.ring.specs.Searches.{row}
use Rattle.ring.specs.Tally.{tally_bit, tally_bits}
use Rattle.ring.specs.Places.{chip_block, block_at, positions, descriptor_byte, page_byte, flags_at, sector_at, page_at}
use Rattle.ring.specs.Logs.{Entry, no_entry, entry_at}
use Rattle.ring.proofs.Searching.{length-row, get_or-row, row_is}
use Rattle.laid.specs.Laid.{Laid, Blank}

-- rows that agree place by place
row_same : (f g : ℕ → ℕ) (n : ℕ) → ((i : ℕ) → i < n → f i ≡ g i) → row f n ≡ row g n
row_same f g n h = row_is g (row f n) n 0 (length-row f n) (λ i lt. get_or-row f n i 0 lt ∙ h i lt)

-- the byte o of the ring block of a position
abbrev pub byte_at : Flash → Sizes → ℕ → ℕ → ℕ → ℕ
byte_at s z c p o = s.byte (chip_block z (block_at z c p)) o

-- exactly the first c bits of the tally are cleared
pub record Counted (s : Flash) (z : Sizes) (c : ℕ) : Type 0 where
  pub cleared : (i : ℕ) → i < c → tally_bit s i ≡ 0
  pub uncleared : (i : ℕ) → c ≤ i → i < tally_bits z.tally → tally_bit s i ≡ 1
  pub bits : c ≤ tally_bits z.tally

-- the position p of t has the bytes that the position p + k of s had, and is blank where s had none
pub record Shifted (s t : Flash) (z : Sizes) (c d k : ℕ) : Type 0 where
  pub turns : k % 7 ≡ 0
  pub few : positions z c ≤ positions z d + k
  pub same : (p o : ℕ) → p < positions z d → p + k < positions z c → byte_at t z d p o ≡ byte_at s z c (p + k) o
  pub fresh : (p o : ℕ) → p < positions z d → positions z c ≤ p + k → o < 4096 → byte_at t z d p o ≡ 255

-- what the same bytes make of the parts of a position
pub same_descriptor : (s t : Flash) (z : Sizes) (c d k p i : ℕ) → Shifted s t z c d k → p < positions z d → p + k < positions z c → descriptor_byte t z d p i ≡ descriptor_byte s z c (p + k) i
same_descriptor s t z c d k p i h lt old =
    let e : p % 7 ≡ (p + k) % 7 = omega (arith, h.turns) in
    h.same p (4 * (p % 7) + i) lt old ∙ ap (λ n. byte_at s z c (p + k) (4 * n + i)) e

pub same_page : (s t : Flash) (z : Sizes) (c d k p o : ℕ) → Shifted s t z c d k → p < positions z d → p + k < positions z c → page_byte t z d p o ≡ page_byte s z c (p + k) o
same_page s t z c d k p o h lt old =
    let e : p % 7 ≡ (p + k) % 7 = omega (arith, h.turns) in
    h.same p (512 * (p % 7 + 1) + o) lt old ∙ ap (λ n. byte_at s z c (p + k) (512 * (n + 1) + o)) e

pub same_entry : (s t : Flash) (z : Sizes) (c d k p : ℕ) → Shifted s t z c d k → p < positions z d → p + k < positions z c → entry_at t z d p ≡ entry_at s z c (p + k)
same_entry s t z c d k p h lt old =
    let make : ℕ → ℕ → List ℕ → Entry = λ f x page. record { flags = f; sector = x; page = page } in
    let byte : (i : ℕ) → descriptor_byte t z d p i ≡ descriptor_byte s z c (p + k) i = λ i. same_descriptor s t z c d k p i h lt old in
    let number : sector_at t z d p ≡ sector_at s z c (p + k) = ap₂ (λ a b. a + 256 * b) (byte 1) (byte 2) in
    let page : page_at t z d p ≡ page_at s z c (p + k) = row_same (page_byte t z d p) (page_byte s z c (p + k)) 512 (λ o _. same_page s t z c d k p o h lt old) in
    ap (λ f. make f (sector_at t z d p) (page_at t z d p)) (byte 0)
    ∙ ap₂ (make (flags_at s z c (p + k))) number page

-- the log without its first k entries is carried over
pub carried : (s t : Flash) (z : Sizes) (c d k : ℕ) (es : List Entry) → Laid s z c es → Counted t z d → Shifted s t z c d k → Laid t z d (drop k es)
carried s t z c d k es laid counted h =
    let long : length (drop k es) ≡ length es - k = length-drop k es in
    let place : (p : ℕ) → get_or (drop k es) p no_entry ≡ get_or es (p + k) no_entry = λ p.
    let e : k + p ≡ p + k = omega arith in
    get_or-drop k es p no_entry ∙ ap (λ n. get_or es n no_entry) e
    in
    let room : length es ≤ positions z c = laid.room in
    let few : positions z c ≤ positions z d + k = h.few in
    record {
      cleared = counted.cleared;
      uncleared = counted.uncleared;
      bits = counted.bits;
      room = omega arith;
      entries = λ p lt.
          same_entry s t z c d k p h (omega arith) (omega arith) ∙ laid.entries (p + k) (omega arith) ∙ sym (place p);
      claimed = λ p lt e. laid.claimed (p + k) (omega arith) (ap (λ (x : Entry). x.flags) (sym (place p)) ∙ e);
      blank = λ p ge lt.
          ⊎_elim
          (λ old.
          let was : Blank s z c (p + k) = laid.blank (p + k) (omega arith) old in
          record {
            descriptor = λ i li. same_descriptor s t z c d k p i h lt old ∙ was.descriptor i li;
            page = λ o lo. same_page s t z c d k p o h lt old ∙ was.page o lo;
          })
          (λ new.
          record {
            descriptor = λ i li. h.fresh p (4 * (p % 7) + i) lt new (omega arith);
            page = λ o lo. h.fresh p (512 * (p % 7 + 1) + o) lt new (omega arith);
          })
          (cases_lt (p + k) (positions z c));
      spare = λ p o lt lo at.
          ⊎_elim
          (λ old. h.same p o lt old ∙ laid.spare (p + k) o old lo at)
          (λ new. h.fresh p o lt new (omega arith))
          (cases_lt (p + k) (positions z c));
    }
