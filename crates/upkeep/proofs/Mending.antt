-- What a repair does, case by case.
use Rattle.std.proofs.Common.{◌≡◌, ℕ, ◌-◌, ◌%◌, ◌<◌, ◌≤◌, Bool, true, false, List, [], get_or, Ok, Result, sym, ap, ◌∙◌, subst, arith}
use Rattle.chip.specs.declared.Fault.{Fault}
use Rattle.chip.specs.Flash.{Flash}
use Rattle.chip.specs.Plans as plans
use Rattle.chip.specs.Plans.{Performs}
use Rattle.ring.specs.Searches.{least}
use Rattle.ring.specs.Places.{sector_at, page_at}
use Rattle.ring.specs.Logs.{ends, unclosed_copy}
use Rattle.ring.proofs.Searching.{least_is, least_same}
use Rattle.lookup.specs.Answers.{LiveFrontAmong}
use Rattle.laid.specs.Sane.{Readable}
use Rattle.laid.specs.Writing.{finishing, dropping}
use Rattle.ring.specs.declared.layout.Log.{Log}
use Rattle.upkeep.specs.Repairs as repairs
use Rattle.upkeep.specs.Repairs.{source_of, last_of, Mended}

module _ (s : Flash) (log : Log) (idle : log.layout.cleared % 2 ≡ 0) where
  -- nothing is claimed
  pub mended_nothing : log.claimed ≡ 0 → Mended s log (Ok tt) s
  mended_nothing none = ([], repairs.nothing idle none, plans.whole)

  -- `flags` are those of the last claimed slot
  module _ (some : 0 < log.claimed) (flags : ℕ) (read : flags ≡ last_of s log.layout.sizes log.layout.cleared log.claimed) where
    -- the last group ends
    pub mended_whole : (end : Bool) → end ≡ ends flags → end ≡ true → Mended s log (Ok tt) s
    mended_whole end is on = ([], repairs.whole idle some (ap ends (sym read) ∙ sym is ∙ on), plans.whole)

    -- it does not, and is dropped
    pub mended_drop : {r : Result (Unit {0}) Fault} {t : Flash} (copy end : Bool) → copy ≡ unclosed_copy flags → copy ≡ false → end ≡ ends flags → end ≡ false → Performs (dropping log.layout.sizes log.layout.cleared (log.claimed - 1)) s r t → Mended s log r t
    mended_drop copy end is_copy no_copy is-end no_end h = (_, repairs.drop idle some (ap unclosed_copy (sym read) ∙ sym is_copy ∙ no_copy) (ap ends (sym read) ∙ sym is-end ∙ no_end), h)

  -- the last claimed slot is an unclosed copy, and `source` is the first live position
  module _ (some : 0 < log.claimed) (copy : unclosed_copy (last_of s log.layout.sizes log.layout.cleared log.claimed) ≡ true) (front : List Bool) (live : LiveFrontAmong s log.layout.sizes log.layout.cleared log.claimed front) (source : ℕ) (first : source ≡ least (λ j. get_or front j false) 7) where
    source_is : source ≡ source_of s log.layout.sizes log.layout.cleared log.claimed
    source_is = first ∙ least_same _ _ 7 live

    -- there is none
    pub mended_lost : source ≡ 7 → Mended s log (Ok tt) s
    mended_lost none = ([], repairs.lost idle some copy (omega (arith, source_is, none)), plans.whole)

    -- the copy is finished from it
    pub mended_finish : {r : Result (Unit {0}) Fault} {t : Flash} (x : ℕ) (page : List ℕ) → (source ≡ 7 → ⊥) → Readable s log.layout.sizes log.layout.cleared source → x ≡ sector_at s log.layout.sizes log.layout.cleared source → page ≡ page_at s log.layout.sizes log.layout.cleared source → Performs (finishing log.layout.sizes log.layout.cleared (log.claimed - 1) x page) s r t → Mended s log r t
    mended_finish {r} {t} x page there readable number bytes h =
        let z = log.layout.sizes in
        let c = log.layout.cleared in
        let p = log.claimed - 1 in
        let bound : source ≤ 7 = subst (λ (i : ℕ). i ≤ 7) (sym first) (least_is (λ j. get_or front j false) 7).bound in
        let from : Performs (finishing z c p (sector_at s z c source) (page_at s z c source)) s r t = rw (number, bytes) at h in (
          _,
          repairs.finish idle some copy (omega (arith, source_is, bound, there)) (subst (Readable s z c) source_is readable),
          subst (λ (i : ℕ). Performs (finishing z c p (sector_at s z c i) (page_at s z c i)) s r t) source_is from,
        )
