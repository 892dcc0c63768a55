-- The two rules, one after the other.
use Rattle.std.proofs.Common.{Some, None, refl, ◌∙◌, subst, arith}
use Rattle.chip.specs.Flash.{Flash}
use Rattle.ring.specs.Searches.{First}
use Rattle.ring.specs.Places.{slot_at}
use Rattle.ring.specs.Rules.{At, Illegal}
use Rattle.ring.specs.Rules as rules
use Rattle.image.proofs.Breaches.{of_directory, of_flags}
use Rattle.image.proofs.Joining.{kept_first, kept_join, lowest_first, lowest_later, lowest_wider}
use Rattle.image.proofs.slots.check_bytes.Goals as goal

pub returns-in-Some : goal.returns-in-Some
returns-in-Some g c = record {
  checked = lowest_wider 2 2 3 (omega arith) (lowest_first _ 2 _ (of_directory _ _ _) rules.directory c.in-Some.ensures.first);
  keeps = c.scribbled_block.ensures.keeps;
}

pub returns-in-Some-illegal_slot : goal.returns-in-Some-illegal_slot
returns-in-Some-illegal_slot g c =
    let s = g.C.Chip.flash c.args.chip.now in
    let z = c.args.layout.sizes in
    let n = c.args.layout.cleared in
    let kept = c.scribbled_block.ensures.keeps in
    let first = subst (λ (x : Flash). First (At z n (slot_at z n) (Illegal x z n)) (Some c.in-Some-illegal_slot.slot.0)) kept c.in-Some-illegal_slot.ensures.first in
    record {
      checked = lowest_later 2 2 3 3 refl (omega arith) (kept_first _ 2 (of_directory s z n) c.in_default.ensures.first) (lowest_first _ 3 _ (of_flags s z n) rules.flags first);
      keeps = c.illegal_slot.ensures.keeps ∙ kept;
    }

pub returns : goal.returns
returns g c =
    let s = g.C.Chip.flash c.args.chip.now in
    let z = c.args.layout.sizes in
    let n = c.args.layout.cleared in
    let kept = c.scribbled_block.ensures.keeps in
    let none = subst (λ (x : Flash). First (At z n (slot_at z n) (Illegal x z n)) None) kept c.in_default-illegal_slot.ensures.first in
    record {
      checked = kept_join 2 2 3 3 refl (kept_first _ 2 (of_directory s z n) c.in_default.ensures.first) (kept_first _ 3 (of_flags s z n) none);
      keeps = c.illegal_slot.ensures.keeps ∙ kept;
    }
