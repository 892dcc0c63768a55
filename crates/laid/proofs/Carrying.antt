-- An image that is sane with a log: that log is read from it, and it keeps the rules.
use Rattle.std.proofs.Common.{◌≡◌, ℕ, suc, ◌-◌, ◌%◌, ◌<◌, ◌≤◌, cond, List, length, get_or, sym, ap, ◌∙◌, subst, ⊎_elim, arith}
use Rattle.std.proofs.lemmas.Bool.{cases_lt, eq-eqb, ne_eqb, eqb-true, eqb-false, both_ways}
use Rattle.chip.specs.Flash.{Flash}
use Rattle.label.specs.declared.Sizes.{Sizes}
use Rattle.ring.specs.Tally.{tally_bits, cleared}
use Rattle.ring.specs.Places.{positions, flags_at, sector_at}
use Rattle.ring.specs.Logs.{Entry, no_entry, ends, is_copy, unclosed_copy, claimed, entry_at, log}
use Rattle.ring.specs.Rules as rules
use Rattle.ring.specs.Rules.{Lawful, Disordered, Scribbled, Illegal, Unclean, Misplaced, Beyond, Unended, Crowded, Astray, Covers, legal, unfilled, numbered}
use Rattle.ring.specs.Turns.{Shaped}
use Rattle.ring.proofs.Searching.{least_unique, row_is}
use Rattle.laid.specs.Laid.{Laid, Blank}
use Rattle.laid.specs.Sane.{Sane, Copied, flags_of, last_flags, front_live, source}

-- what is read from an image agrees with a log, and it keeps the rules
pub record Agrees (s : Flash) (z : Sizes) (c : ℕ) (es : List Entry) : Type 0 where
  pub cleared : cleared s z.tally ≡ c
  pub claimed : claimed s z c ≡ length es
  pub log : log s z c ≡ es
  pub lawful : Lawful s z c

module _ (s : Flash) (z : Sizes) (c : ℕ) (es : List Entry) (h : Laid s z c es) where
  -- the flags of a position in the log, and behind it
  pub flags_laid : (p : ℕ) → p < length es → flags_at s z c p ≡ flags_of es p
  flags_laid p lt = ap (λ e. e.flags) (h.entries p lt)

  pub sector_laid : (p : ℕ) → p < length es → sector_at s z c p ≡ (get_or es p no_entry).sector
  sector_laid p lt = ap (λ e. e.sector) (h.entries p lt)

  pub flags_blank : (p : ℕ) → length es ≤ p → p < positions z c → flags_at s z c p ≡ 255
  flags_blank p le lt = (h.blank p le lt).descriptor 0 (omega arith)

  -- the cleared bits, the claimed slots and the log that are read
  pub cleared_laid : cleared s z.tally ≡ c
  cleared_laid =
      least_unique _ (tally_bits z.tally) c
      record {
        bound = h.bits;
        before = λ i lt. ne_eqb _ 1 (λ e. omega (arith, e, h.cleared i lt));
        hit = λ lt. eq-eqb _ 1 (h.uncleared c (omega arith) lt);
      }

  pub claimed_laid : claimed s z c ≡ length es
  claimed_laid =
      least_unique _ (positions z c) (length es)
      record {
        bound = h.room;
        before = λ p lt. ne_eqb _ 255 (λ e. h.claimed p lt (sym (flags_laid p lt) ∙ e));
        hit = λ lt. eq-eqb _ 255 (flags_blank (length es) (omega arith) lt);
      }

  pub log_laid : log s z c ≡ es
  log_laid =
      sym (row_is (entry_at s z c) es (claimed s z c) no_entry (sym claimed_laid)
      (λ p lt. sym (h.entries p (omega (arith, claimed_laid)))))

  -- rules 1, 2 and 4
  in_order : (n : ℕ) → Disordered s z.tally n → ⊥
  in_order n d =
      ⊎_elim
      (λ less. omega (arith, h.cleared d.earlier less, d.uncleared))
      (λ le. omega (arith, h.uncleared d.bit (omega (arith, d.before)) d.inside, d.cleared))
      (cases_lt d.earlier c)

  unscribbled : (p : ℕ) → p < positions z c → Scribbled s z c p → ⊥
  unscribbled p lt x = x.marked (h.spare p x.offset lt x.inside x.spare)

  clean : (p : ℕ) → p < positions z c → Unclean s z c p → ⊥
  clean p lt x =
      let b : Blank s z c p = h.blank p (omega (arith, claimed_laid, x.behind)) lt in
      ⊎_elim (λ m. m.2 (b.descriptor m.0 m.1)) (λ m. m.2 (b.page m.0 m.1)) x.marked

-- an image that is sane keeps the rules
module _ (s : Flash) (z : Sizes) (c : ℕ) (es : List Entry) (h : Sane s z c es) where
  -- rules 3, 5 and 6
  lawful_flags : (p : ℕ) → p < positions z c → Illegal s z c p → ⊥
  lawful_flags p lt x =
      both_ways _ x
      (⊎_elim
      (λ inside. ap legal (flags_laid s z c es h.laid p inside) ∙ h.orderly.legal p inside)
      (λ behind. ap legal (flags_blank s z c es h.laid p behind lt))
      (cases_lt p (length es)))

  placed : (p : ℕ) → Misplaced s z c p → ⊥
  placed p (rules.unfinished before is) =
      let inside : suc p < length es = omega (arith, claimed_laid s z c es h.laid) in
      both_ways _ (ap unfilled (flags_laid s z c es h.laid p (omega arith)) ∙ h.orderly.filled p inside) is
  placed p (rules.inside_group some before is inner) =
      let inside : p < length es = omega (arith, claimed_laid s z c es h.laid) in
      both_ways _ inner
      (ap ends (flags_laid s z c es h.laid (p - 1) (omega arith))
      ∙ h.orderly.copies p some inside (ap is_copy (sym (flags_laid s z c es h.laid p inside)) ∙ is))

  within : (p : ℕ) → p < positions z c → Beyond s z c p → ⊥
  within p lt x =
      ⊎_elim
      (λ inside.
      omega (
        arith,
        h.orderly.numbers p inside (ap numbered (sym (flags_laid s z c es h.laid p inside)) ∙ x.numbered),
        sector_laid s z c es h.laid p inside,
        x.large,
      ))
      (λ behind. both_ways _ (ap numbered (flags_blank s z c es h.laid p behind lt)) x.numbered)
      (cases_lt p (length es))

  -- the last claimed position is that of the last entry
  last_laid : (p : ℕ) → suc p ≡ claimed s z c → p ≡ length es - 1
  last_laid p last = omega (arith, claimed_laid s z c es h.laid)

  flags_last : (p : ℕ) → suc p ≡ claimed s z c → flags_at s z c p ≡ last_flags es
  flags_last p last =
      flags_laid s z c es h.laid p (omega (arith, claimed_laid s z c es h.laid))
      ∙ ap (flags_of es) (last_laid p last)

  -- rules 7 to 9
  finished : (p : ℕ) → Unended s z c p → ⊥
  finished p x =
      both_ways _ x.inside
      (ap ends (flags_last p x.last)
      ∙ h.ended (eqb-true _ 1 x.begun) (omega (arith, claimed_laid s z c es h.laid, x.last)))

  uncrowded : (p : ℕ) → Crowded s z c p → ⊥
  uncrowded p x =
      let even : c % 2 ≡ 0 = omega (arith, eqb-false _ 1 x.idle) in
      omega (
        arith,
        h.roomy even,
        x.few,
        ap front_live (log_laid s z c es h.laid),
        claimed_laid s z c es h.laid,
        ap (λ f. cond {A = ℕ} (unclosed_copy f) 1 0) (flags_last p x.last),
      )

  straight : (p : ℕ) → Astray s z c p → ⊥
  straight p x =
      let is : Copied s z c es = h.copied (ap unclosed_copy (sym (flags_last p x.last)) ∙ x.copy) in
      let same : source es ≡ source (log s z c) = ap source (sym (log_laid s z c es h.laid)) in
      let covers : Covers s z c p (source (log s z c)) =
      subst (λ q. Covers s z c q (source (log s z c))) (sym (last_laid p x.last)) (subst (Covers s z c (length es - 1)) same is.covers) in
      x.wrong record {
        late = omega (arith, is.late, last_laid p x.last);
        source = omega (arith, is.some, same);
        covers = covers;
      }

  -- all of them
  all_lawful : Lawful s z c
  all_lawful rule most place (rules.tally x) = in_order s z c es h.laid place x
  all_lawful rule most place (rules.directory x) = unscribbled s z c es h.laid x.0 x.1 x.3
  all_lawful rule most place (rules.flags x) = lawful_flags x.0 x.1 x.3
  all_lawful rule most place (rules.blank x) = clean s z c es h.laid x.0 x.1 x.3
  all_lawful rule most place (rules.order x) = placed x.0 x.3
  all_lawful rule most place (rules.sector x) = within x.0 x.1 x.3
  all_lawful rule most place (rules.group x) = finished x.0 x.3
  all_lawful rule most place (rules.room x) = uncrowded x.0 x.3
  all_lawful rule most place (rules.copy x) = straight x.0 x.3

-- an image that is sane with a log shows that log, and keeps the rules
pub sane_lawful : (s : Flash) (z : Sizes) (c : ℕ) (es : List Entry) → Shaped z c → Sane s z c es → Agrees s z c es
sane_lawful s z c es shaped h = record {
  cleared = cleared_laid s z c es h.laid;
  claimed = claimed_laid s z c es h.laid;
  log = log_laid s z c es h.laid;
  lawful = all_lawful s z c es h;
}
