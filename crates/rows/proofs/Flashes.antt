-- What a write to a row of bytes is to the flash of that row.
use Rattle.std.proofs.Common.{◌≡◌, ℕ, ◌+◌, ◌*◌, ◌/◌, ◌<◌, ◌≤◌, min, Bool, true, false, List, length, get_or, sym, refl, ap, ◌∙◌, ⊎_elim, add-zero, arith, le-ltb, lt-ltb}
use lib.Bits.{bit_and, bit_or, or_zero_r, and_comm, and_self}
use Rattle.std.proofs.lemmas.Bool.{cases_lt}
use Rattle.chip.specs.Ranges.{Paged}
use Rattle.chip.specs.Steps.{Elsewhere, Between, finished, Programmed, TornProgram, Worked, Broke, program, erase}
use Rattle.rows.specs.Rows.{place, count_of, flash_of, Bytes, Outside, Masked, Filled}
use Rattle.rows.proofs.Ones.{under, over}

pub place_at : (row : List ℕ) (b o : ℕ) → o < 4096 → place row b o ≡ get_or row (b * 4096 + o) 0
place_at row b o h = rw (lt-ltb o 4096 h)

place_same : (old new : List ℕ) (b o : ℕ) → (o < 4096 → get_or new (b * 4096 + o) 0 ≡ get_or old (b * 4096 + o) 0) → place new b o ≡ place old b o
place_same old new b o e =
    ⊎_elim (λ h. place_at new b o h ∙ e h ∙ sym (place_at old b o h)) (λ h. rw (le-ltb o 4096 h)) (cases_lt o 4096)

-- a range less than asked for changes no more than the whole
wider : (old : List ℕ) (base n m : ℕ) (new : List ℕ) → n ≤ m → Outside old base n new → Outside old base m new
wider old base n m new le o = record {
  long = o.long;
  before = o.before;
  after = λ i ge. o.after i (omega arith);
}

module _ (old new : List ℕ) (on on' : Bool) (name b at : ℕ) where
  elsewhere : (size : ℕ) → at + size ≤ 4096 → Outside old (b * 4096 + at) size new → Elsewhere (flash_of old on name) b at size (flash_of new on' name)
  elsewhere size ends o = record {
    frame = record { blocks = ap (λ n. min 65535 (n / 4096)) o.long; home = λ _. refl };
    others = λ c p ne.
        place_same old new c p (λ h.
        ⊎_elim (λ lt. o.before (c * 4096 + p) (omega (arith, lt, h))) (λ ge. o.after (c * 4096 + p) (omega (arith, ge, h, ne))) (cases_lt c b));
    before = λ p lt. place_same old new b p (λ h. o.before (b * 4096 + p) (omega (arith, lt)));
    after = λ p ge. place_same old new b p (λ h. o.after (b * 4096 + p) (omega (arith, ge)));
  }

  module _ (given : List ℕ) (n mask : ℕ) (ends : at + length given ≤ 4096) (less : n ≤ length given) (m : Masked old (b * 4096 + at) n given mask new) where
    masked_place : (k : ℕ) → k < n → place new b (at + k) ≡ bit_and (place old b (at + k)) (bit_or (get_or given k 0) mask)
    masked_place k h =
        let lt : at + k < 4096 = omega arith in
        let joined : b * 4096 + (at + k) ≡ b * 4096 + at + k = omega arith in
        let at_new = place_at new b (at + k) lt ∙ ap (λ i. get_or new i 0) joined in
        let at_old = place_at old b (at + k) lt ∙ ap (λ i. get_or old i 0) joined in
        at_new ∙ m.inside k h ∙ ap (λ y. bit_and y (bit_or (get_or given k 0) mask)) (sym at_old)

    kept_place : (k : ℕ) → n ≤ k → place new b (at + k) ≡ place old b (at + k)
    kept_place k ge = place_same old new b (at + k) (λ h. m.outside.after (b * 4096 + (at + k)) (omega (arith, ge)))

    torn_byte : (k : ℕ) → Between (finished (flash_of old on name) b at given k) (place new b (at + k)) (place old b (at + k))
    torn_byte k =
        let a = place old b (at + k) in
        let g = get_or given k 0 in
        ⊎_elim
        (λ lt. record {
          over = rw (masked_place k lt) (over a g mask);
          under = rw (masked_place k lt) (under a (bit_or g mask));
        })
        (λ ge. record {
          over = rw (kept_place k ge) (and_comm a (bit_and a g) ∙ under a g);
          under = rw (kept_place k ge) (and_self a);
        })
        (cases_lt k n)

    pub torn_is : TornProgram (flash_of old on name) b at given (flash_of new on' name)
    torn_is = record {
      elsewhere = elsewhere (length given) ends (wider old _ n (length given) new less m.outside);
      inside = λ k h. torn_byte k;
    }

  pub programmed_is : (given : List ℕ) → at + length given ≤ 4096 → Masked old (b * 4096 + at) (length given) given 0 new → Programmed (flash_of old on name) b at given (flash_of new on' name)
  programmed_is given ends m = record {
    elsewhere = elsewhere (length given) ends m.outside;
    inside = λ k h.
        masked_place given (length given) 0 ends (omega arith) m k h
        ∙ ap (bit_and (place old b (at + k))) (or_zero_r (get_or given k 0));
  }

module _ (old new : List ℕ) (on on' : Bool) (name b n x : ℕ) (less : n ≤ 4096) (f : Filled old (b * 4096) n x new) where
  flooded : Elsewhere (flash_of old on name) b 0 4096 (flash_of new on' name)
  flooded =
      elsewhere old new on on' name b 0 4096 (omega arith)
      (rw add-zero (wider old (b * 4096) n 4096 new less f.outside))

  filled_place : (o : ℕ) → o < n → place new b o ≡ x
  filled_place o h = place_at new b o (omega arith) ∙ f.inside o h

  torn_place : x < 256 → Bytes old → (o : ℕ) → o < 4096 → place new b o < 256
  torn_place small bytes o h =
      ⊎_elim
      (λ lt. rw (filled_place o lt) small)
      (λ ge. rw (place_at new b o h, f.outside.after (b * 4096 + o) (omega (arith, ge))) (bytes (b * 4096 + o)))
      (cases_lt o n)

-- a program that was finished
pub worked_program : (old new : List ℕ) (on : Bool) (name b at size : ℕ) (given : List ℕ) → Paged (count_of old) b at size (length given) → on ≡ true → Masked old (b * 4096 + at) (length given) given 0 new → Worked (program b at size given) (flash_of old on name) (flash_of new on name)
worked_program old new on name b at size given p o m = record {
  allowed = p;
  was = o;
  on = o;
  done = programmed_is old new on on name b at given p.within.ends m;
}

-- a program that was cut: it reached the first n bytes of its range, and spared the ones of the mask
pub broke_program : (old new : List ℕ) (on : Bool) (name b at size : ℕ) (given : List ℕ) (n mask : ℕ) → Paged (count_of old) b at size (length given) → on ≡ true → n ≤ length given → Masked old (b * 4096 + at) n given mask new → Broke (program b at size given) (flash_of old on name) (flash_of new false name)
broke_program old new on name b at size given n mask p o less m = record {
  allowed = p;
  was = o;
  off = refl;
  torn = torn_is old new on false name b at given n mask p.within.ends less m;
}

-- an erase that was finished
pub worked_erase : (old new : List ℕ) (on : Bool) (name b : ℕ) → b < count_of old → on ≡ true → Filled old (b * 4096) 4096 255 new → Worked (erase b) (flash_of old on name) (flash_of new on name)
worked_erase old new on name b there o f = record {
  allowed = there;
  was = o;
  on = o;
  done = record {
    elsewhere = flooded old new on on name b 4096 255 (omega arith) f;
    inside = filled_place old new on on name b 4096 255 (omega arith) f;
  };
}

-- an erase that was cut: it filled the first n bytes of the block with x
pub broke_erase : (old new : List ℕ) (on : Bool) (name b n x : ℕ) → b < count_of old → on ≡ true → n ≤ 4096 → x < 256 → Bytes old → Filled old (b * 4096) n x new → Broke (erase b) (flash_of old on name) (flash_of new false name)
broke_erase old new on name b n x there o less small bytes f = record {
  allowed = there;
  was = o;
  off = refl;
  torn = record {
    elsewhere = flooded old new on false name b n x less f;
    inside = torn_place old new on false name b n x less f small bytes;
  };
}
