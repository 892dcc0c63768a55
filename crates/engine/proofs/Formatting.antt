-- What a format leaves on a chip.
use Rattle.std.proofs.Common.{◌≡◌, ℕ, zero, suc, ◌<◌, ◌≤◌, List, [], ◌∷◌, length, get_or, Ok, Err, Result, sym, refl, ap, ◌∙◌, subst, inr, ⊎_elim, zero-add, arith}
use lib.Bits.{bit_and, and_comm, and_mask}
use Rattle.std.proofs.lemmas.Bool.{cases_eq}
use Rattle.chip.specs.declared.Fault.{Fault}
use Rattle.chip.specs.Flash.{Flash, awake}
use Rattle.chip.specs.Steps.{program, erase}
use Rattle.chip.specs.Plans as plans
use Rattle.chip.specs.Plans.{Tries, Performs, AllAllowed}
use Rattle.chip.proofs.Performed.{performed, all_both, performs_parts, performed_frame, only_cut}
use Rattle.label.specs.Written.{label_bytes}
use Rattle.engine.specs.Refusals.{numbers, converted}
use Rattle.engine.specs.Formats.{erasing, formatting, Formatted, sizes_on, Takes, Admitted, Accepts, Formats}

-- a byte programmed into an erased one
byte_on_ones : (v : ℕ) → v < 256 → bit_and 255 v ≡ v
byte_on_ones v lt = and_comm 255 v ∙ omega (arith, and_mask v 8)

-- every erase is of a block that is there
erasing_allowed : (n : ℕ) (s : Flash) → n ≤ s.blocks → AllAllowed (erasing n) s
unfolding erasing
erasing_allowed zero s le = tt
erasing_allowed (suc n) s le = all_both (erasing n) (erase n ∷ []) s (erasing_allowed n s (omega arith)) (omega arith, tt)

-- the blocks that were erased are blank
blank_below : (n : ℕ) {s t : Flash} → Performs (erasing n) s (Ok tt) t → (b o : ℕ) → b < n → o < 4096 → t.byte b o ≡ 255
unfolding erasing
blank_below zero h b o lt in_block = absurd (omega arith)
blank_below (suc n) {s} {t} h b o lt in_block =
    let x = performs_parts (erasing n) h in
    last x.0 (blank_below n x.1) x.2
  where
    last : (m : Flash) → ((c q : ℕ) → c < n → q < 4096 → m.byte c q ≡ 255) → Performs (erase n ∷ []) m (Ok tt) t → t.byte b o ≡ 255
    last m below (plans.next w plans.whole) =
        ⊎_elim
        (λ e. ap (λ c. t.byte c o) e ∙ w.done.inside o in_block)
        (λ ne. w.done.elsewhere.others b o ne ∙ below b o (omega (arith, ne)) in_block)
        (cases_eq b n)

-- a format asks for nothing that the chip refuses
performs_format : (s : Flash) {t : Flash} {r : Result (Unit {0}) Fault} (label : List ℕ) → 0 < s.blocks → 0 < length label → length label ≤ 58 → Tries (formatting s.blocks label) (awake s) r t → Performs (formatting s.blocks label) (awake s) r t
performs_format s label some front short h =
    performed
    (all_both (erasing s.blocks) (program 0 0 (length label) label ∷ []) (awake s) (erasing_allowed s.blocks (awake s) (omega arith))
    (record { within = record { there = some; same = refl; some = front; ends = omega arith }; page = omega arith }, tt))
    refl h

-- the image of a format that was performed whole
formatted : (s : Flash) {t : Flash} (label : List ℕ) → 0 < s.blocks → ((i : ℕ) → get_or label i 0 < 256) → length label ≤ 58 → Performs (formatting s.blocks label) (awake s) (Ok tt) t → Formatted label s t
formatted s {t} label some bytes short h =
    let x = performs_parts (erasing s.blocks) h in
    last x.0 (blank_below s.blocks x.1) x.2
  where
    last : (m : Flash) → ((b o : ℕ) → b < s.blocks → o < 4096 → m.byte b o ≡ 255) → Performs (program 0 0 (length label) label ∷ []) m (Ok tt) t → Formatted label s t
    last m blank (plans.next w plans.whole) = record {
      frame = record { blocks = (performed_frame h).blocks; home = (performed_frame h).home };
      on = w.on;
      front = λ o lt.
          ap (t.byte 0) (sym (zero-add o)) ∙ w.done.inside o lt
          ∙ ap (λ v. bit_and v (get_or label o 0)) (ap (m.byte 0) (zero-add o) ∙ blank 0 o some (omega arith))
          ∙ byte_on_ones (get_or label o 0) (bytes o);
      behind = λ o le lt. w.done.elsewhere.after o (omega arith) ∙ blank 0 o some lt;
      others = λ b o up lt in_block. w.done.elsewhere.others b o (λ e. omega (arith, e)) ∙ blank b o lt in_block;
    }

-- a format whose steps were tried is accepted or cut
module _ (blocks sectors tally : ℕ) (name buffer label : List ℕ) (s a t : Flash) (count : blocks ≡ s.blocks) (admitted : Admitted blocks sectors tally name buffer) (slice : label ≡ buffer) (woken : a ≡ awake s) where
  takes : Takes s.blocks sectors tally name
  takes = subst (λ n. Takes n sectors tally name) count admitted.takes

  bytes : label ≡ label_bytes (sizes_on s.blocks sectors tally) name
  bytes = slice ∙ admitted.bytes ∙ ap (λ n. label_bytes (sizes_on n sectors tally) name) count

  some : 0 < length label
  some = rw slice admitted.some

  short : length label ≤ 58
  short = rw slice admitted.most

  there : 0 < s.blocks
  there = omega (arith, takes.sized.whole)

  tried : (r : Result (Unit {0}) Fault) → Tries (formatting a.blocks label) a r t → Performs (formatting s.blocks label) (awake s) r t
  tried r h =
      performs_format s label there some short (subst (λ (x : Flash). Tries (formatting x.blocks label) x r t) woken h)

  pub accepted : ((i : ℕ) → get_or label i 0 < 256) → Tries (formatting a.blocks label) a (Ok tt) t → Accepts sectors tally name s t
  accepted fit h =
      let p = tried (Ok tt) h in
      record {
        takes = takes;
        performs = subst (λ (x : List ℕ). Performs (formatting s.blocks x) (awake s) (Ok tt) t) bytes p;
        image = subst (λ (x : List ℕ). Formatted x s t) bytes (formatted s label there fit short p);
      }

  pub refused : (f : Fault) → Tries (formatting a.blocks label) a (Err f) t → Formats sectors tally name s (Err (converted f)) t
  refused f h =
      let p = tried (Err f) h in
      let x = only_cut p in
      let P : Fault → Type 0 = λ g. Performs (formatting s.blocks (label_bytes (sizes_on s.blocks sectors tally) name)) (awake s) (Err g) t in
      inr (
        x.0,
        ap (λ (g : Fault). numbers (converted g)) x.1,
        record {
          takes = takes;
          performs = subst P x.1 (subst (λ (l : List ℕ). Performs (formatting s.blocks l) (awake s) (Err f) t) bytes p);
        },
      )
