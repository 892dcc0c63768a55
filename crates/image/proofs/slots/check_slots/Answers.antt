-- The three rules, one after the other.
use Rattle.std.proofs.Common.{Some, None, refl, ◌∙◌, subst, arith}
use Rattle.chip.specs.Flash.{Flash}
use Rattle.ring.specs.Searches.{First}
use Rattle.ring.specs.Places.{slot_at}
use Rattle.ring.specs.Rules.{At, Misplaced, Beyond}
use Rattle.ring.specs.Rules as rules
use Rattle.image.proofs.Breaches.{of_blank, of_order, of_sector}
use Rattle.image.proofs.Joining.{kept_first, kept_join, lowest_first, lowest_later, lowest_wider}
use Rattle.image.proofs.slots.check_slots.Goals as goal

pub returns-in-Some : goal.returns-in-Some
returns-in-Some g c = record {
  checked = lowest_wider 4 4 6 (omega arith) (lowest_first _ 4 _ (of_blank _ _ _) rules.blank c.in-Some.ensures.first);
  keeps = c.unclean_slot.ensures.keeps;
}

pub returns-in-Some-misplaced_slot : goal.returns-in-Some-misplaced_slot
returns-in-Some-misplaced_slot g c =
    let s = g.C.Chip.flash c.args.chip.now in
    let z = c.args.log.layout.sizes in
    let n = c.args.log.layout.cleared in
    let kept = c.unclean_slot.ensures.keeps in
    let blank = kept_first _ 4 (of_blank s z n) c.in_default.ensures.first in
    let first = subst (λ (x : Flash). First (At z n (slot_at z n) (Misplaced x z n)) (Some c.in-Some-misplaced_slot.slot.0)) kept c.in-Some-misplaced_slot.ensures.first in
    record {
      checked = lowest_wider 4 5 6 (omega arith) (lowest_later 4 4 5 5 refl (omega arith) blank (lowest_first _ 5 _ (of_order s z n) rules.order first));
      keeps = c.misplaced_slot.ensures.keeps ∙ kept;
    }

pub returns-in-Some-beyond_slot : goal.returns-in-Some-beyond_slot
returns-in-Some-beyond_slot g c =
    let s = g.C.Chip.flash c.args.chip.now in
    let z = c.args.log.layout.sizes in
    let n = c.args.log.layout.cleared in
    let kept = c.unclean_slot.ensures.keeps in
    let blank = kept_first _ 4 (of_blank s z n) c.in_default.ensures.first in
    let order = kept_first _ 5 (of_order s z n) (subst (λ (x : Flash). First (At z n (slot_at z n) (Misplaced x z n)) None) kept c.in_default-misplaced_slot.ensures.first) in
    let still = c.misplaced_slot.ensures.keeps ∙ kept in
    let first = subst (λ (x : Flash). First (At z n (slot_at z n) (Beyond x z n)) (Some c.in-Some-beyond_slot.slot.0)) still c.in-Some-beyond_slot.ensures.first in
    record {
      checked = lowest_later 4 5 6 6 refl (omega arith) (kept_join 4 4 5 5 refl blank order) (lowest_first _ 6 _ (of_sector s z n) rules.sector first);
      keeps = c.beyond_slot.ensures.keeps ∙ still;
    }

pub returns : goal.returns
returns g c =
    let s = g.C.Chip.flash c.args.chip.now in
    let z = c.args.log.layout.sizes in
    let n = c.args.log.layout.cleared in
    let kept = c.unclean_slot.ensures.keeps in
    let blank = kept_first _ 4 (of_blank s z n) c.in_default.ensures.first in
    let order = kept_first _ 5 (of_order s z n) (subst (λ (x : Flash). First (At z n (slot_at z n) (Misplaced x z n)) None) kept c.in_default-misplaced_slot.ensures.first) in
    let still = c.misplaced_slot.ensures.keeps ∙ kept in
    let none = subst (λ (x : Flash). First (At z n (slot_at z n) (Beyond x z n)) None) still c.in_default-beyond_slot.ensures.first in
    record {
      checked = kept_join 4 5 6 6 refl (kept_join 4 4 5 5 refl blank order) (kept_first _ 6 (of_sector s z n) none);
      keeps = c.beyond_slot.ensures.keeps ∙ still;
    }
