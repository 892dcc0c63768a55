-- What the bits that book an erase, and the erase between them, make of an image that carries a log.
use Rattle.std.proofs.Common.{◌≡◌, ℕ, ◌+◌, ◌-◌, ◌*◌, ◌/◌, ◌%◌, ◌^◌, ◌<◌, ◌≤◌, ◌⊎◌, List, drop, sym, ap, ◌∙◌, subst, inl, inr, ⊎_elim, arith}
use native.Mathlib.Nat.{mod-add-mod, add-mod_right}
use Rattle.std.proofs.lemmas.Bool.{cases_eq}
use Rattle.chip.specs.Flash.{Flash}
use Rattle.chip.specs.Steps.{Elsewhere, erase, Worked, Broke}
use Rattle.label.specs.declared.Sizes.{Sizes}
use Rattle.ring.specs.Tally.{booked, tally_bit, tally_bits}
use Rattle.ring.specs.Places.{chip_block, oldest, first_block, block_at, positions}
use Rattle.ring.specs.Logs.{Entry}
use Rattle.ring.specs.Turns.{Shaped}
use Rattle.ring.proofs.Turning.{comes_late}
use Rattle.laid.specs.Laid.{Laid}
use Rattle.laid.specs.Writing.{clearing}
use Rattle.booking.proofs.Clearing.{Changed, whole_changed, cut_changed, cleared_bit, either_bit, bit_inside, ring_same}
use Rattle.booking.proofs.Carrying.{byte_at, Counted, Shifted, carried}

-- the ring block of a position, counted from the first erase on
pub block_is : (z : Sizes) (c p : ℕ) → block_at z c p ≡ (booked c + c % 2 + p / 7) % z.ring
block_is z c p = mod-add-mod (booked c + c % 2) z.ring (p / 7)

-- a bit that begins an erase takes the first seven positions away
pub begin_block : (z : Sizes) (c p : ℕ) → c % 2 ≡ 0 → block_at z (c + 1) p ≡ block_at z c (p + 7)
begin_block z c p even =
    let e : booked (c + 1) + (c + 1) % 2 + p / 7 ≡ booked c + c % 2 + (p + 7) / 7 = omega arith in
    block_is z (c + 1) p ∙ ap (λ n. n % z.ring) e ∙ sym (block_is z c (p + 7))

-- one that ends it moves none
pub end_block : (z : Sizes) (c p : ℕ) → c % 2 ≡ 1 → block_at z (c + 1) p ≡ block_at z c p
end_block z c p odd =
    let e : booked (c + 1) + (c + 1) % 2 + p / 7 ≡ booked c + c % 2 + p / 7 = omega arith in
    block_is z (c + 1) p ∙ ap (λ n. n % z.ring) e ∙ sym (block_is z c p)

-- the block in which the log starts, and how many positions it has
pub begin_first : (z : Sizes) (c : ℕ) → c % 2 ≡ 0 → first_block z (c + 1) ≡ (first_block z c + 1) % z.ring
begin_first z c even =
    let e : booked (c + 1) + (c + 1) % 2 ≡ booked c + c % 2 + 1 = omega arith in
    ap (λ n. n % z.ring) e ∙ sym (mod-add-mod (booked c + c % 2) z.ring 1)

pub end_first : (z : Sizes) (c : ℕ) → c % 2 ≡ 1 → first_block z (c + 1) ≡ first_block z c
end_first z c odd = let e : booked (c + 1) + (c + 1) % 2 ≡ booked c + c % 2 = omega arith in ap (λ n. n % z.ring) e

pub even_positions : (z : Sizes) (c : ℕ) → c % 2 ≡ 0 → positions z c ≡ 7 * z.ring
even_positions z c even = omega arith

pub odd_positions : (z : Sizes) (c : ℕ) → c % 2 ≡ 1 → positions z c ≡ 7 * (z.ring - 1)
odd_positions z c odd = omega arith

-- a bit that begins an erase leaves the block to be erased the oldest
pub begin_oldest : (z : Sizes) (c : ℕ) → c % 2 ≡ 0 → oldest z (c + 1) ≡ oldest z c
begin_oldest z c even = let e : booked (c + 1) ≡ booked c = omega arith in ap (λ n. n % z.ring) e

-- the block that is being erased comes at the turn behind the last
pub last_turn : (z : Sizes) (c : ℕ) → Shaped z c → c % 2 ≡ 1 → (first_block z c + (z.ring - 1)) % z.ring ≡ oldest z c
last_turn z c h odd =
    let e : booked c + c % 2 + (z.ring - 1) ≡ booked c + z.ring = omega (arith, h.ring_least) in
    mod-add-mod (booked c + c % 2) z.ring (z.ring - 1) ∙ ap (λ n. n % z.ring) e ∙ add-mod_right (booked c) z.ring

-- the seven positions that the bit which ends an erase gives lie in it
pub last_block : (z : Sizes) (c p : ℕ) → Shaped z c → c % 2 ≡ 1 → 7 * (z.ring - 1) ≤ p → p < 7 * z.ring → block_at z c p ≡ oldest z c
last_block z c p h odd ge lt =
    let last : p / 7 ≡ z.ring - 1 = omega (arith, h.ring_least) in
    ap (λ n. (first_block z c + n) % z.ring) last ∙ last_turn z c h odd

-- one bit more is cleared
one_more : (s t : Flash) (z : Sizes) (c : ℕ) (es : List Entry) → c < tally_bits z.tally → Laid s z c es → Changed s t c → tally_bit t c ≡ 0 → Counted t z (c + 1)
one_more s t z c es lt laid h here =
    record {
      cleared = λ i li.
          ⊎_elim
          (λ e. subst (λ j. tally_bit t j ≡ 0) (sym e) here)
          (λ ne. h.bits i ne ∙ laid.cleared i (omega (arith, ne)))
          (cases_eq i c);
      uncleared = λ i ge li. h.bits i (λ e. absurd (omega arith)) ∙ laid.uncleared i (omega arith) li;
      bits = omega arith;
    }

-- or it is not
no_more : (s t : Flash) (z : Sizes) (c : ℕ) (es : List Entry) → Laid s z c es → Changed s t c → tally_bit t c ≡ 1 → Counted t z c
no_more s t z c es laid h here =
    record {
      cleared = λ i li. h.bits i (λ e. absurd (omega arith)) ∙ laid.cleared i li;
      uncleared = λ i ge li.
          ⊎_elim
          (λ e. subst (λ j. tally_bit t j ≡ 1) (sym e) here)
          (λ ne. h.bits i ne ∙ laid.uncleared i ge li)
          (cases_eq i c);
      bits = laid.bits;
    }

-- an image with the same bits and the same bytes at all positions carries the same log
stays : (s t : Flash) (z : Sizes) (c : ℕ) (es : List Entry) → Laid s z c es → Counted t z c → ((p o : ℕ) → p < positions z c → byte_at t z c p o ≡ byte_at s z c p o) → Laid t z c es
stays s t z c es laid counted same =
    carried s t z c c 0 es laid counted record {
      turns = omega arith;
      few = omega arith;
      same = λ p o lt _. let e : p ≡ p + 0 = omega arith in same p o lt ∙ ap (λ q. byte_at s z c q o) e;
      fresh = λ p o lt ge _. absurd (omega arith);
    }

-- a clear that was cut before its bit was cleared
unbooked : (s t : Flash) (z : Sizes) (c : ℕ) (es : List Entry) → c < tally_bits z.tally → Laid s z c es → Changed s t c → tally_bit t c ≡ 1 → Laid t z c es
unbooked s t z c es lt laid h here =
    stays s t z c es laid (no_more s t z c es laid h here) (λ p o _. ring_same s t z c (block_at z c p) o lt h)

-- an erase begins: the positions from the eighth on are there still
pub begin_shifted : (s t : Flash) (z : Sizes) (c : ℕ) → c % 2 ≡ 0 → c < tally_bits z.tally → Changed s t c → Shifted s t z c (c + 1) 7
begin_shifted s t z c even lt h =
    record {
      turns = omega arith;
      few = omega arith;
      same = λ p o _ _.
          ap (λ b. t.byte (chip_block z b) o) (begin_block z c p even) ∙ ring_same s t z c (block_at z c (p + 7)) o lt h;
      fresh = λ p o new old _. absurd (omega arith);
    }

-- so the log loses the entries of its first block
begun_laid : (s t : Flash) (z : Sizes) (c : ℕ) (es : List Entry) → c % 2 ≡ 0 → c < tally_bits z.tally → Laid s z c es → Changed s t c → tally_bit t c ≡ 0 → Laid t z (c + 1) (drop 7 es)
begun_laid s t z c es even lt laid h here =
    carried s t z c (c + 1) 7 es laid (one_more s t z c es lt laid h here) (begin_shifted s t z c even lt h)

pub begin_whole : (s t : Flash) (z : Sizes) (c : ℕ) (es : List Entry) → Shaped z c → c % 2 ≡ 0 → c < tally_bits z.tally → Laid s z c es → Worked (clearing c) s t → Laid t z (c + 1) (drop 7 es)
begin_whole s t z c es shaped even lt laid w =
    begun_laid s t z c es even lt laid (whole_changed s t c w) (cleared_bit s t c w)

pub begin_cut : (s t : Flash) (z : Sizes) (c : ℕ) (es : List Entry) → Shaped z c → c % 2 ≡ 0 → c < tally_bits z.tally → Laid s z c es → Broke (clearing c) s t → (Laid t z c es) ⊎ (Laid t z (c + 1) (drop 7 es))
begin_cut s t z c es shaped even lt laid w =
    let h = cut_changed s t c w in
    ⊎_elim
    (λ here. inr (begun_laid s t z c es even lt laid h here))
    (λ here. inl (unbooked s t z c es lt laid h here))
    (either_bit t c)

-- the oldest block has no position while it is being erased, and no bit of the tally
outside : (s t : Flash) (z : Sizes) (c : ℕ) (es : List Entry) → Shaped z c → c % 2 ≡ 1 → Laid s z c es → Elsewhere s (chip_block z (oldest z c)) 0 4096 t → Laid t z c es
outside s t z c es shaped odd laid h =
    let late : (p : ℕ) → p < positions z c → block_at z c p ≡ oldest z c → ⊥ = comes_late z c (oldest z c) (z.ring - 1) shaped (omega (arith, shaped.ring_least)) (last_turn z c shaped odd) (omega arith) in
    let bits : (i : ℕ) → i < tally_bits z.tally → tally_bit t i ≡ tally_bit s i = λ i li.
    ap (λ x. x / 2 ^ (7 - i % 8) % 2)
    (h.others (1 + i / 8 / 4096) (i / 8 % 4096) (λ e. absurd (omega (arith, bit_inside z.tally i li))))
    in
    stays s t z c es laid
    record {
      cleared = λ i li. bits i (omega (arith, laid.bits)) ∙ laid.cleared i li;
      uncleared = λ i ge li. bits i li ∙ laid.uncleared i ge li;
      bits = laid.bits;
    }
    (λ p o lt. h.others (chip_block z (block_at z c p)) o (λ e. late p lt (omega arith)))

-- so an erase that has begun keeps the log, finished or cut
pub erase_whole : (s t : Flash) (z : Sizes) (c : ℕ) (es : List Entry) → Shaped z c → c % 2 ≡ 1 → Laid s z c es → Worked (erase (chip_block z (oldest z c))) s t → Laid t z c es
erase_whole s t z c es shaped odd laid w = outside s t z c es shaped odd laid w.done.elsewhere

pub erase_cut : (s t : Flash) (z : Sizes) (c : ℕ) (es : List Entry) → Shaped z c → c % 2 ≡ 1 → Laid s z c es → Broke (erase (chip_block z (oldest z c))) s t → Laid t z c es
erase_cut s t z c es shaped odd laid w = outside s t z c es shaped odd laid w.torn.elsewhere

pub erase_keeps : (s t : Flash) (z : Sizes) (c : ℕ) (es : List Entry) → Shaped z c → c % 2 ≡ 1 → Laid s z c es → (Worked (erase (chip_block z (oldest z c))) s t) ⊎ (Broke (erase (chip_block z (oldest z c))) s t) → Laid t z c es
erase_keeps s t z c es shaped odd laid w =
    ⊎_elim (erase_whole s t z c es shaped odd laid) (erase_cut s t z c es shaped odd laid) w

-- finished, it leaves the block blank
abbrev pub Bare : Flash → Sizes → ℕ → Type 0
Bare s z c = (o : ℕ) → o < 4096 → s.byte (chip_block z (oldest z c)) o ≡ 255

pub erased_blank : (s t : Flash) (z : Sizes) (c : ℕ) → Worked (erase (chip_block z (oldest z c))) s t → Bare t z c
erased_blank s t z c w = w.done.inside

-- the erase of a blank block is booked: its positions come behind the others
pub end_shifted : (s t : Flash) (z : Sizes) (c : ℕ) → Shaped z c → c % 2 ≡ 1 → c < tally_bits z.tally → Bare s z c → Changed s t c → Shifted s t z c (c + 1) 0
end_shifted s t z c shaped odd lt bare h =
    record {
      turns = omega arith;
      few = omega arith;
      same = λ p o _ _.
          let e : p ≡ p + 0 = omega arith in
          ap (λ b. t.byte (chip_block z b) o) (end_block z c p odd) ∙ ring_same s t z c (block_at z c p) o lt h ∙ ap (λ q. byte_at s z c q o) e;
      fresh = λ p o new old lo.
          let there : block_at z (c + 1) p ≡ oldest z c = end_block z c p odd ∙ last_block z c p shaped odd (omega arith) (omega arith) in
          ap (λ b. t.byte (chip_block z b) o) there ∙ ring_same s t z c (oldest z c) o lt h ∙ bare o lo;
    }

-- so the log has more room
ended_laid : (s t : Flash) (z : Sizes) (c : ℕ) (es : List Entry) → Shaped z c → c % 2 ≡ 1 → c < tally_bits z.tally → Laid s z c es → Bare s z c → Changed s t c → tally_bit t c ≡ 0 → Laid t z (c + 1) es
ended_laid s t z c es shaped odd lt laid bare h here =
    carried s t z c (c + 1) 0 es laid (one_more s t z c es lt laid h here) (end_shifted s t z c shaped odd lt bare h)

pub end_whole : (s t : Flash) (z : Sizes) (c : ℕ) (es : List Entry) → Shaped z c → c % 2 ≡ 1 → c < tally_bits z.tally → Laid s z c es → Bare s z c → Worked (clearing c) s t → Laid t z (c + 1) es
end_whole s t z c es shaped odd lt laid bare w =
    ended_laid s t z c es shaped odd lt laid bare (whole_changed s t c w) (cleared_bit s t c w)

pub end_cut : (s t : Flash) (z : Sizes) (c : ℕ) (es : List Entry) → Shaped z c → c % 2 ≡ 1 → c < tally_bits z.tally → Laid s z c es → Bare s z c → Broke (clearing c) s t → (Laid t z c es) ⊎ (Laid t z (c + 1) es)
end_cut s t z c es shaped odd lt laid bare w =
    let h = cut_changed s t c w in
    ⊎_elim
    (λ here. inr (ended_laid s t z c es shaped odd lt laid bare h here))
    (λ here. inl (unbooked s t z c es lt laid h here))
    (either_bit t c)
