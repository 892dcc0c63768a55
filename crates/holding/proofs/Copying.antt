-- A log behind which a copy of a live slot is written: each sector holds what it held, and the copy is live in place of
-- the slot.
use Rattle.std.proofs.Common.{◌≡◌, ℕ, ◌+◌, ◌<◌, ◌≤◌, Bool, true, false, cond, ◌&&◌, eqb, List, [], ◌∷◌, ◌++◌, length, get_or, Some, None, sym, refl, ap, ◌∙◌, subst, ⊎_elim, add-zero, arith}
use lib.Seq.{get_or-append_seam}
use Rattle.std.proofs.lemmas.List.{get_or_append_left}
use Rattle.std.proofs.lemmas.Bool.{cases_eq, eq-eqb, ne_eqb}
use Rattle.ring.specs.Logs.{Entry, no_entry, live, shows, holds, points, is_live}
use Rattle.laid.specs.Sane.{Ended, front_live}
use Rattle.holding.proofs.Growing.{is_live_is, is_live_inside, shows_grown}
use Rattle.holding.proofs.Closing.{behind, live_append}
use Rattle.holding.proofs.Fitting.{count_less}

-- a closed copy (8F hex) of the entry at a place
abbrev pub copy_of : List Entry → ℕ → Entry
copy_of es i = record { flags = 143; sector = (get_or es i no_entry).sector; page = (get_or es i no_entry).page }

module _ (es : List Entry) (i : ℕ) (ended : Ended es) (alive : is_live es i ≡ true) where
  -- the sector of the copy, and the log with the copy
  abbrev own : ℕ
  own = (get_or es i no_entry).sector

  abbrev copied : List Entry
  copied = es ++ (copy_of es i ∷ [])

  -- the live slots, by whether a sector is that of the copy
  live_hit : (x : ℕ) (b : Bool) → eqb own x ≡ b → live x copied ≡ behind (length es) (cond (b && true) (Some 0) None) (live x es)
  live_hit x b h =
      live_append x es (copy_of es i ∷ []) ended
      ∙ ap (λ c. behind (length es) (cond (c && true) (Some 0) None) (live x es)) h

  -- the copy is the live slot of its sector, and the live slots of others are as they were
  pub live_own : live own copied ≡ Some (length es)
  live_own = live_hit own true (eq-eqb own own refl) ∙ ap Some (add-zero (length es))

  pub live_other : (x : ℕ) → (own ≡ x → ⊥) → live x copied ≡ live x es
  live_other x ne = live_hit x false (ne_eqb own x ne)

  holds_own : holds own copied ≡ holds own es
  holds_own =
      ap (shows copied) live_own
      ∙ ap (λ e. Some e.page) (get_or-append_seam es (copy_of es i) [] no_entry)
      ∙ ap (shows es) (sym (is_live_is es i alive))

  -- each sector holds what it held
  pub holds_copied : (x : ℕ) → holds x (es ++ (copy_of es i ∷ [])) ≡ holds x es
  holds_copied x =
      ⊎_elim (λ e. subst (λ y. holds y copied ≡ holds y es) e holds_own)
      (λ ne. ap (shows copied) (live_other x ne) ∙ shows_grown x es (copy_of es i ∷ []))
      (cases_eq own x)

  -- whether an earlier slot is live, by its sector
  is_live_before : (j : ℕ) → j < length es → is_live copied j ≡ points (live (get_or es j no_entry).sector copied) j
  is_live_before j lt = ap (λ e. points (live e.sector copied) j) (get_or_append_left es (copy_of es i ∷ []) no_entry j lt)

  -- no earlier slot is live for the sector of the copy
  not_last : (j x : ℕ) → j < length es → own ≡ x → points (live x copied) j ≡ false
  not_last j x lt e = ap (λ y. points (live y copied) j) (sym e) ∙ ap (λ o. points o j) live_own ∙ ne_eqb (length es) j (λ k. omega arith)

  -- the slot is live no more, the other slots are as they were, and the copy is live
  pub old_not_live : is_live (es ++ (copy_of es i ∷ [])) i ≡ false
  old_not_live = let lt = is_live_inside es i alive in is_live_before i lt ∙ not_last i own lt refl

  pub others_live : (j : ℕ) → j < length es → (j ≡ i → ⊥) → is_live (es ++ (copy_of es i ∷ [])) j ≡ is_live es j
  others_live j lt ne =
      is_live_before j lt
      ∙ ⊎_elim
      (λ e. not_last j (get_or es j no_entry).sector lt e
      ∙ sym (ap (λ x. points (live x es) j) (sym e) ∙ ap (λ o. points o j) (is_live_is es i alive) ∙ ne_eqb i j (λ k. ne (sym k))))
      (λ other. ap (λ o. points o j) (live_other (get_or es j no_entry).sector other))
      (cases_eq own (get_or es j no_entry).sector)

  pub copy_live : is_live (es ++ (copy_of es i ∷ [])) (length es) ≡ true
  copy_live =
      ap (λ e. points (live e.sector copied) (length es)) (get_or-append_seam es (copy_of es i) [] no_entry)
      ∙ ap (λ o. points o (length es)) live_own
      ∙ eq-eqb (length es) (length es) refl

  -- so one less of the first seven is live
  pub front_copied : i < 7 → 7 ≤ length es → front_live (es ++ (copy_of es i ∷ [])) + 1 ≡ front_live es
  front_copied lt long = count_less (is_live copied) (is_live es) 7 i lt old_not_live alive (λ j less. others_live j (omega arith))
