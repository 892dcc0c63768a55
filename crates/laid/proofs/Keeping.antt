-- An image that keeps the rules is sane, with the log that is read from it.
use Rattle.std.proofs.Common.{◌≡◌, ℕ, zero, suc, ◌+◌, ◌-◌, ◌/◌, ◌%◌, ◌<◌, ◌≤◌, Bool, true, false, cond, eqb, List, [], ◌∷◌, length, get_or, sym, refl, ap, ◌∙◌, subst, inl, inr, ⊎_elim, arith}
use Rattle.std.proofs.lemmas.Bool.{cases_lt, cases_eq, eq-eqb, ne_eqb, eqb-true, eqb-false, both_ways}
use Rattle.chip.specs.Flash.{Flash}
use Rattle.label.specs.declared.Sizes.{Sizes}
use Rattle.ring.specs.Searches.{count, Least}
use Rattle.ring.specs.Tally.{tally_bit, tally_bits, cleared}
use Rattle.ring.specs.Places.{positions, block_at, slot_at, flags_at, sector_at}
use Rattle.ring.specs.Logs.{Entry, no_entry, ends, is_copy, unclosed_copy, is_live, claimed, unclaimed, entry_at, log}
use Rattle.ring.specs.Rules as rules
use Rattle.ring.specs.Rules.{At, Lawful, Illegal, Unclean, Misplaced, Beyond, Unended, Crowded, Astray, Copying, legal, unfilled, numbered}
use Rattle.ring.specs.Turns.{Shaped}
use Rattle.ring.proofs.Searching.{least_is, length-row, get_or-row}
use Rattle.laid.specs.Laid.{Laid, Blank}
use Rattle.laid.specs.Sane.{Sane, Orderly, Copied, Ended, flags_of, last_flags, front_live, source}

-- two numbers that cannot differ are the same
pub stable : (a b : ℕ) → ((a ≡ b → ⊥) → ⊥) → a ≡ b
stable a b h = ⊎_elim (λ e. e) (λ ne. absurd (h ne)) (cases_eq a b)

-- a test that cannot fail holds, and one that cannot hold fails
not_untrue : (b : Bool) → (b ≡ false → ⊥) → b ≡ true
not_untrue true h = refl
not_untrue false h = absurd (h refl)

not_held : (b : Bool) → (b ≡ true → ⊥) → b ≡ false
not_held true h = absurd (h refl)
not_held false h = refl

-- a test that holds nowhere counts nothing
none_counted : (n : ℕ) (f : ℕ → Bool) → ((i : ℕ) → f i ≡ false) → count f n ≡ 0
unfolding count
none_counted zero f h = refl
none_counted (suc n) f h = ap (λ b. count f n + cond b 1 0) (h n) ∙ omega (arith, none_counted n f h)

-- no slot of an empty log is live
pub front_empty : front_live [] ≡ 0
front_empty = none_counted 7 (is_live []) (λ i. refl)

-- a log of no entries
empty_of : (es : List Entry) → length es ≡ 0 → es ≡ []
empty_of [] e = refl
empty_of (x ∷ es) e = absurd (omega arith)

module _ (s : Flash) (z : Sizes) (c : ℕ) where
  -- the log that is read from an image, place by place
  pub log_long : length (log s z c) ≡ claimed s z c
  log_long = length-row (entry_at s z c) (claimed s z c)

  pub log_at : (p : ℕ) → p < length (log s z c) → get_or (log s z c) p no_entry ≡ entry_at s z c p
  log_at p lt = get_or-row (entry_at s z c) (claimed s z c) p no_entry (omega (arith, log_long))

  pub log_flags : (p : ℕ) → p < length (log s z c) → flags_of (log s z c) p ≡ flags_at s z c p
  log_flags p lt = ap (λ e. e.flags) (log_at p lt)

  log_room : length (log s z c) ≤ positions z c
  log_room = omega (arith, log_long, (least_is (λ p. eqb (flags_at s z c p) 255) (positions z c)).bound)

  module _ (e : c ≡ cleared s z.tally) (h : Lawful s z c) where
    -- a rule about positions is kept at each
    at : (P : ℕ → Type 0) → ((n : ℕ) → At z c (slot_at z c) P n → ⊥) → (p : ℕ) → p < positions z c → P p → ⊥
    at P none p lt x = none (slot_at z c p) (p, lt, refl, x)

    -- the bits of the tally
    bits_are : Least (λ i. eqb (tally_bit s i) 1) (tally_bits z.tally) c
    bits_are = subst (Least (λ i. eqb (tally_bit s i) 1) (tally_bits z.tally)) (sym e) (least_is (λ i. eqb (tally_bit s i) 1) (tally_bits z.tally))

    rest_uncleared : (i : ℕ) → c ≤ i → i < tally_bits z.tally → tally_bit s i ≡ 1
    rest_uncleared i le lt =
        let first : tally_bit s c ≡ 1 = eqb-true _ 1 (bits_are.hit (omega arith)) in
        stable (tally_bit s i) 1
        (λ ne.
        let low : tally_bit s i ≡ 0 = omega (arith, ne) in
        let behind : c < i = ⊎_elim (λ same. absurd (ne (ap (tally_bit s) (sym same) ∙ first))) (λ other. omega (arith, other)) (cases_eq c i) in
        h 1 (omega arith) (i / 8)
        (rules.tally record { bit = i; inside = lt; byte = refl; cleared = low; earlier = c; before = behind; uncleared = first }))

    -- the positions behind the log
    all_blank : (p : ℕ) → length (log s z c) ≤ p → p < positions z c → Blank s z c p
    all_blank p le lt =
        let wrong : Unclean s z c p → ⊥ = at (Unclean s z c) (λ n x. h 4 (omega arith) n (rules.blank x)) p lt in
        let behind : claimed s z c ≤ p = omega (arith, log_long) in
        record {
          descriptor = λ i li. stable _ 255 (λ ne. wrong record { behind = behind; marked = inl (i, li, ne) });
          page = λ o lo. stable _ 255 (λ ne. wrong record { behind = behind; marked = inr (o, lo, ne) });
        }

    -- the log is what the image carries
    all_laid : Laid s z c (log s z c)
    all_laid = record {
      cleared = λ i lt. omega (arith, eqb-false _ 1 (bits_are.before i lt));
      uncleared = rest_uncleared;
      bits = bits_are.bound;
      room = log_room;
      entries = λ p lt. sym (log_at p lt);
      claimed = λ p lt is.
          eqb-false _ 255 ((least_is (λ p. eqb (flags_at s z c p) 255) (positions z c)).before p (omega (arith, log_long)))
          (sym (log_flags p lt) ∙ is);
      blank = all_blank;
      spare = λ p o lt lo spare.
          stable _ 255
          (λ ne. h 2 (omega arith) (block_at z c p)
          (rules.directory (p, lt, refl, record { offset = o; inside = lo; spare = spare; marked = ne })));
    }

    -- what the rules say of the entries
    all_orderly : Orderly z.sectors (log s z c)
    all_orderly = record {
      legal = λ p lt.
          ap legal (log_flags p lt)
          ∙ not_untrue (legal (flags_at s z c p))
          (at (Illegal s z c) (λ n x. h 3 (omega arith) n (rules.flags x)) p (omega (arith, log_room)));
      filled = λ p lt.
          ap unfilled (log_flags p (omega arith))
          ∙ not_held (unfilled (flags_at s z c p))
          (λ is. well_placed p (omega (arith, log_room)) (rules.unfinished (omega (arith, log_long)) is));
      copies = λ p some lt is.
          ap ends (log_flags (p - 1) (omega arith))
          ∙ not_untrue (ends (flags_at s z c (p - 1)))
          (λ inside. well_placed p (omega (arith, log_room))
          (rules.inside_group some (omega (arith, log_long)) (ap is_copy (sym (log_flags p lt)) ∙ is) inside));
      numbers = λ p lt is.
          let same : (get_or (log s z c) p no_entry).sector ≡ sector_at s z c p = ap (λ e. e.sector) (log_at p lt) in
          ⊎_elim (λ less. omega arith)
          (λ large. absurd (at (Beyond s z c) (λ n x. h 6 (omega arith) n (rules.sector x)) p (omega (arith, log_room))
          record { numbered = ap numbered (sym (log_flags p lt)) ∙ is; large = large }))
          (cases_lt (sector_at s z c p) z.sectors);
    }
      where
        well_placed : (p : ℕ) → p < positions z c → Misplaced s z c p → ⊥
        well_placed = at (Misplaced s z c) (λ n x. h 5 (omega arith) n (rules.order x))

    -- the last entry
    all_ended : c % 2 ≡ 1 → Ended (log s z c)
    all_ended odd some =
        ap ends (log_flags (length (log s z c) - 1) (omega arith))
        ∙ not_untrue (ends (flags_at s z c (length (log s z c) - 1)))
        (λ inside. at (Unended s z c) (λ n x. h 7 (omega arith) n (rules.group x)) (length (log s z c) - 1) (omega (arith, log_room))
        record { begun = eq-eqb _ 1 odd; last = omega (arith, log_long); inside = inside })

    all_roomy : c % 2 ≡ 0 → front_live (log s z c) ≤ positions z c - length (log s z c) + cond (unclosed_copy (last_flags (log s z c))) 1 0
    all_roomy even =
        ⊎_elim
        (λ none. omega (arith, ap front_live (empty_of (log s z c) none), front_empty))
        (λ some.
        let same : cond {A = ℕ} (unclosed_copy (last_flags (log s z c))) 1 0 ≡ cond (unclosed_copy (flags_at s z c (length (log s z c) - 1))) 1 0 =
        ap (λ f. cond {A = ℕ} (unclosed_copy f) 1 0) (log_flags (length (log s z c) - 1) (omega (arith, some))) in
        ⊎_elim
        (λ few. absurd (at (Crowded s z c) (λ n x. h 8 (omega arith) n (rules.room x)) (length (log s z c) - 1) (omega (arith, log_room, some))
        record { idle = ne_eqb _ 1 (λ odd. omega (arith, odd)); last = omega (arith, log_long, some); few = few }))
        (λ le. omega (arith, le, same, log_long))
        (cases_lt (unclaimed s z c + cond (unclosed_copy (flags_at s z c (length (log s z c) - 1))) 1 0) (front_live (log s z c))))
        (cases_eq (length (log s z c)) 0)

    all_copied : unclosed_copy (last_flags (log s z c)) ≡ true → Copied s z c (log s z c)
    all_copied is =
        let some : length (log s z c) ≡ 0 → ⊥ = λ none. both_ways _ (ap (λ es. unclosed_copy (last_flags es)) (empty_of (log s z c) none)) is in
        let right : (Copying s z c (length (log s z c) - 1) → ⊥) → ⊥ =
        λ wrong. at (Astray s z c) (λ n x. h 9 (omega arith) n (rules.copy x)) (length (log s z c) - 1) (omega (arith, log_room, some))
        record { last = omega (arith, log_long, some); copy = ap unclosed_copy (sym (log_flags (length (log s z c) - 1) (omega (arith, some)))) ∙ is; wrong = wrong } in
        record {
          late = ⊎_elim (λ lt. lt) (λ le. absurd (right (λ x. omega (arith, x.late)))) (cases_lt 7 (length (log s z c)));
          some = ⊎_elim (λ lt. lt) (λ le. absurd (right (λ x. omega (arith, x.source)))) (cases_lt (source (log s z c)) 7);
          covers = record {
            number = λ i lt. stable _ _ (λ ne. right (λ x. ne (x.covers.number i lt)));
            page = λ o lt. stable _ _ (λ ne. right (λ x. ne (x.covers.page o lt)));
          };
        }

    -- all of it
    all_sane : Sane s z c (log s z c)
    all_sane = record { laid = all_laid; orderly = all_orderly; ended = all_ended; roomy = all_roomy; copied = all_copied }

-- an image that keeps the rules is sane
pub sane_of : (s : Flash) (z : Sizes) (c : ℕ) → Shaped z c → c ≡ cleared s z.tally → Lawful s z c → Sane s z c (log s z c)
sane_of s z c shaped e h = all_sane s z c e h
