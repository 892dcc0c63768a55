-- A page of ones with some bytes placed in it, stored over a page of a row: what it does to the row is what those bytes
-- do, since a byte keeps all its ones under FF.
use Rattle.std.proofs.Common.{◌≡◌, ℕ, ◌+◌, ◌-◌, ◌<◌, ◌≤◌, List, length, get_or, take, replicate, sym, ap, ◌∙◌, subst, ⊎_elim, arith, length-take-le, get_or-take}
use lib.Bits.{bit_and, bit_or, or_zero_r, and_mask}
use Rattle.std.proofs.lemmas.List.{get_or-replicate}
use Rattle.std.proofs.lemmas.Bool.{cases_lt}
use Rattle.rows.specs.Rows.{Bytes, Placed, Masked}

-- a byte under FF
under_ones : (x : ℕ) → x < 256 → bit_and x 255 ≡ x
under_ones x h = omega (arith, and_mask x 8)

module _ (old new buffer given : List ℕ) (base offset : ℕ) (bytes : Bytes old) (placed : Placed (replicate 512 255) offset given buffer) (fits : offset + length given ≤ 512) (m : Masked old base 512 buffer 0 new) where
  stored : (j : ℕ) → j < 512 → get_or new (base + j) 0 ≡ bit_and (get_or old (base + j) 0) (get_or buffer j 0)
  stored j h = m.inside j h ∙ ap (bit_and (get_or old (base + j) 0)) (or_zero_r (get_or buffer j 0))

  kept : (j : ℕ) → j < 512 → get_or buffer j 0 ≡ get_or (replicate 512 255) j 0 → get_or new (base + j) 0 ≡ get_or old (base + j) 0
  kept j h e =
      stored j h ∙ ap (bit_and (get_or old (base + j) 0)) (e ∙ get_or-replicate 512 j 255 0 h)
      ∙ under_ones (get_or old (base + j) 0) (bytes (base + j))

  pub through : Masked old (base + offset) (length given) given 0 new
  through = record {
    outside = record {
      long = m.outside.long;
      before = λ i lt.
          ⊎_elim
          (λ less. m.outside.before i less)
          (λ ge.
          let e : base + (i - base) ≡ i = omega arith in
          let P : ℕ → Type 0 = λ k. get_or new k 0 ≡ get_or old k 0 in
          subst P e (kept (i - base) (omega arith) (placed.outside.before (i - base) (omega arith))))
          (cases_lt i base);
      after = λ i ge.
          ⊎_elim
          (λ less.
          let e : base + (i - base) ≡ i = omega arith in
          let P : ℕ → Type 0 = λ k. get_or new k 0 ≡ get_or old k 0 in
          subst P e (kept (i - base) (omega arith) (placed.outside.after (i - base) (omega arith))))
          (λ past. m.outside.after i past)
          (cases_lt i (base + 512));
    };
    inside = λ k h.
        let e : base + (offset + k) ≡ base + offset + k = omega arith in
        let byte : get_or buffer (offset + k) 0 ≡ get_or given k 0 = placed.inside k h in
        let P : ℕ → Type 0 = λ i. get_or new i 0 ≡ bit_and (get_or old i 0) (bit_or (get_or given k 0) 0) in
        subst P e (stored (offset + k) (omega arith) ∙ ap (bit_and (get_or old (base + (offset + k)) 0)) (byte ∙ sym (or_zero_r (get_or given k 0))));
  }

-- the first n bytes given, and all of them, do the same to n bytes
pub first : (old new given : List ℕ) (base n : ℕ) → n ≤ length given → Masked old base (length (take n given)) (take n given) 0 new → Masked old base n given 0 new
first old new given base n less m =
    let m' = rw (length-take-le n given less) at m in
    record {
      outside = m'.outside;
      inside = λ k h. m'.inside k h ∙ ap (λ x. bit_and (get_or old (base + k) 0) (bit_or x 0)) (get_or-take n given k 0 h);
    }
