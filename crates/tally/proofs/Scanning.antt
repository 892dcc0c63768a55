-- One byte more of a tally, and what is known at its end.
use Rattle.std.proofs.Common.{◌≡◌, ℕ, ◌+◌, ◌-◌, ◌*◌, ◌/◌, ◌%◌, ◌^◌, ◌<◌, ◌≤◌, ◌⊎◌, sym, ap, ◌∙◌, ⊎_elim, arith}
use Rattle.std.proofs.lemmas.Bool.{cases_lt, lt-ltb, le-ltb, eq-eqb, ne_eqb, cond-true, cond-false}
use Rattle.chip.specs.Flash.{Flash}
use Rattle.ring.specs.Tally.{tally_byte, tally_bit, tally_bits, cleared}
use Rattle.ring.specs.Rules.{Disordered}
use Rattle.ring.proofs.Searching.{least_unique}
use Rattle.tally.specs.Counts.{bit_of, Front, Jumbled, Scanned, Out, Told}

-- a bit of the tally is a bit of its byte
bit_in : (s : Flash) (n v i : ℕ) → tally_byte s n ≡ v → i / 8 ≡ n → tally_bit s i ≡ bit_of v (i % 8)
bit_in s n v i is at = ap (λ j. tally_byte s j / 2 ^ (7 - i % 8) % 2) at ∙ ap (λ x. x / 2 ^ (7 - i % 8) % 2) is

bit_at : (s : Flash) (n v r : ℕ) → tally_byte s n ≡ v → r < 8 → tally_bit s (8 * n + r) ≡ bit_of v r
bit_at s n v r is lt =
    let same : (8 * n + r) % 8 ≡ r = omega arith in
    bit_in s n v (8 * n + r) is (omega arith) ∙ ap (bit_of v) same

module _ (s : Flash) (n c : ℕ) (h : Scanned s n c) where
  -- no byte so far is out of order
  pub none_out : (k q : ℕ) → q < n → Disordered s k q → ⊥
  none_out k q lt d =
      let late : c ≤ d.earlier =
      ⊎_elim (λ less. absurd (omega (arith, h.front d.earlier less, d.uncleared))) (λ le. le) (cases_lt d.earlier c) in
      omega (arith, h.rest d.bit (omega (arith, d.before)) (omega (arith, d.byte)), d.cleared)

  module _ (v : ℕ) (is : tally_byte s n ≡ v) where
    -- a byte in order, before which all is cleared, or which has nothing cleared
    pub scanned_more : (z : ℕ) → Front v z → (z ≡ 0) ⊎ (c ≡ 8 * n) → Scanned s (n + 1) (c + z)
    scanned_more z f joins = record {
      most = omega (arith, h.most, f.most);
      front = λ i lt.
          ⊎_elim (λ old. h.front i old)
          (λ le.
          let e : c ≡ 8 * n = ⊎_elim (λ none. absurd (omega (arith, none))) (λ all. all) joins in
          bit_in s n v i is (omega (arith, f.most)) ∙ f.bits (i % 8) (omega arith)
          ∙ cond-true _ 0 1 (lt-ltb (i % 8) z (omega (arith, f.most))))
          (cases_lt i c);
      rest = λ i le lt.
          ⊎_elim (λ old. h.rest i (omega arith) old)
          (λ new.
          bit_in s n v i is (omega arith) ∙ f.bits (i % 8) (omega arith)
          ∙ cond-false _ 0 1 (le-ltb (i % 8) z (⊎_elim (λ none. omega (arith, none)) (λ all. omega (arith, all)) joins)))
          (cases_lt i (8 * n));
    }

    module _ (k : ℕ) (inside : n < 4096 * k) where
      -- a byte with a cleared bit behind an uncleared one of its own
      pub out_jumbled : Jumbled v → Out s k n
      out_jumbled j = record {
        here = record {
          bit = 8 * n + j.bit;
          inside = omega (arith, j.inside);
          byte = omega (arith, j.inside);
          cleared = bit_at s n v j.bit is j.inside ∙ j.cleared;
          earlier = 8 * n + j.earlier;
          before = omega (arith, j.before);
          uncleared = bit_at s n v j.earlier is (omega (arith, j.inside, j.before)) ∙ j.uncleared;
        };
        lower = none_out k;
      }

      -- a byte with a cleared bit, behind a byte with an uncleared one
      pub out_late : (z : ℕ) → Front v z → 0 < z → c < 8 * n → Out s k n
      out_late z f some less = record {
        here = record {
          bit = 8 * n + 0;
          inside = omega arith;
          byte = omega arith;
          cleared = bit_at s n v 0 is (omega arith) ∙ f.bits 0 (omega arith) ∙ cond-true _ 0 1 (lt-ltb 0 z some);
          earlier = c;
          before = omega arith;
          uncleared = h.rest c (omega arith) less;
        };
        lower = none_out k;
      }

-- the search for an uncleared bit ends where the cleared ones do
cleared_is : (s : Flash) (k c : ℕ) → Scanned s (4096 * k) c → cleared s k ≡ c
cleared_is s k c h =
    least_unique _ (tally_bits k) c
    record {
      bound = omega (arith, h.most);
      before = λ i lt. ne_eqb _ 1 (λ e. omega (arith, e, h.front i lt));
      hit = λ lt. eq-eqb _ 1 (h.rest c (omega arith) (omega arith));
    }

-- what the bytes of the whole tally tell
pub told : (s : Flash) (k c : ℕ) → Scanned s (4096 * k) c → Told s k c
told s k c h = record {
  whole = sym (cleared_is s k c h);
  most = omega (arith, h.most);
  ordered = λ j d. none_out s (4096 * k) c h k j (omega (arith, d.byte, d.inside)) d;
}
