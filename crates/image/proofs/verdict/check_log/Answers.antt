-- The rules from the second on, one check after the other, each on the chip as it was.
use Rattle.std.proofs.Common.{◌≡◌, sym, refl, ◌∙◌, subst, arith}
use Rattle.std.proofs.lemmas.Result.{err_from_is_err_and}
use Rattle.chip.specs.Flash.{Flash}
use Rattle.ring.specs.Logs.{claimed}
use Rattle.ring.specs.Turns.{Ready}
use Rattle.lookup.specs.Answers.{LiveFront}
use Rattle.image.specs.Checks.{KeptFrom, Lowest}
use Rattle.image.proofs.Joining.{kept_join, lowest_later, lowest_wider}
use Rattle.lookup.proofs.Backward.{claimed_most}
use Rattle.image.proofs.verdict.check_log.Goals as goal

pub live_front-front-requires-clause-inside : goal.live_front-front-requires-clause-inside
live_front-front-requires-clause-inside g c =
    let z = c.args.layout.sizes in
    let n = c.args.layout.cleared in
    let count = subst (λ (x : Flash). c.claimed_slots.result ≡ claimed x z n) c.check_bytes.ensures.keeps c.claimed_slots.ensures.count in
    omega (arith, count, claimed_most (g.C.Chip.flash c.args.chip.now) z n)

pub check_last-requires : goal.check_last-requires
check_last-requires g c =
    let s = g.C.Chip.flash c.args.chip.now in
    let z = c.args.layout.sizes in
    let n = c.args.layout.cleared in
    let one = c.check_bytes.ensures.keeps in
    let two = c.claimed_slots.ensures.keeps ∙ one in
    let three = c.check_slots.ensures.keeps ∙ two in
    let four = c.live_front-front.ensures.keeps ∙ three in
    let count = subst (λ (x : Flash). c.claimed_slots.result ≡ claimed x z n) one c.claimed_slots.ensures.count in
    record {
      ready = subst (λ (x : Flash). Ready x z n) (sym four) c.requires;
      claimed = subst (λ (x : Flash). c.claimed_slots.result ≡ claimed x z n) (sym four) count;
      inside = omega (arith, count, claimed_most s z n);
      front = subst (λ (x : Flash). LiveFront x z n c.live_front-front.result) (three ∙ sym four) (c.live_front-front.ensures.live (subst (λ (x : Flash). c.claimed_slots.result ≡ claimed x z n) (sym three) count));
    }

pub returns-in_err-check_bytes : goal.returns-in_err-check_bytes
returns-in_err-check_bytes g c =
    let out = err_from_is_err_and c.from_residual.result c.from_residual.ensures.1 in
    record {
      checked = rw (out.1, out.2) (lowest_wider 2 3 9 (omega arith) c.in_err-check_bytes.ensures.checked);
      counted = rw out.1 tt;
      keeps = c.check_bytes.ensures.keeps;
    }

pub returns-in_err-check_slots : goal.returns-in_err-check_slots
returns-in_err-check_slots g c =
    let s = g.C.Chip.flash c.args.chip.now in
    let z = c.args.layout.sizes in
    let n = c.args.layout.cleared in
    let one = c.check_bytes.ensures.keeps in
    let two = c.claimed_slots.ensures.keeps ∙ one in
    let bytes = c.in_ok-check_bytes.ensures.checked in
    let low = subst (λ (x : Flash). Lowest x z n 4 6 c.in_err-check_slots.field-0.0) two c.in_err-check_slots.ensures.checked in
    let out = err_from_is_err_and c.from_residual-in_err-check_slots.result c.from_residual-in_err-check_slots.ensures.1 in
    record {
      checked = rw (out.1, out.2) (lowest_wider 2 6 9 (omega arith) (lowest_later 2 3 4 6 refl (omega arith) bytes low));
      counted = rw out.1 tt;
      keeps = c.check_slots.ensures.keeps ∙ two;
    }

pub returns-in_err-check_last : goal.returns-in_err-check_last
returns-in_err-check_last g c =
    let s = g.C.Chip.flash c.args.chip.now in
    let z = c.args.layout.sizes in
    let n = c.args.layout.cleared in
    let one = c.check_bytes.ensures.keeps in
    let two = c.claimed_slots.ensures.keeps ∙ one in
    let three = c.check_slots.ensures.keeps ∙ two in
    let four = c.live_front-front.ensures.keeps ∙ three in
    let bytes = c.in_ok-check_bytes.ensures.checked in
    let slots = subst (λ (x : Flash). KeptFrom x z n 4 6) two c.in_ok-check_slots.ensures.checked in
    let low = subst (λ (x : Flash). Lowest x z n 7 9 c.in_err-check_last.field-0.0) four c.in_err-check_last.ensures.checked in
    let out = err_from_is_err_and c.from_residual-in_err-check_last.result c.from_residual-in_err-check_last.ensures.1 in
    record {
      checked = rw (out.1, out.2) (lowest_later 2 6 7 9 refl (omega arith) (kept_join 2 3 4 6 refl bytes slots) low);
      counted = rw out.1 tt;
      keeps = c.check_last.ensures.keeps ∙ four;
    }

pub returns : goal.returns
returns g c =
    let s = g.C.Chip.flash c.args.chip.now in
    let z = c.args.layout.sizes in
    let n = c.args.layout.cleared in
    let one = c.check_bytes.ensures.keeps in
    let two = c.claimed_slots.ensures.keeps ∙ one in
    let three = c.check_slots.ensures.keeps ∙ two in
    let four = c.live_front-front.ensures.keeps ∙ three in
    let bytes = c.in_ok-check_bytes.ensures.checked in
    let slots = subst (λ (x : Flash). KeptFrom x z n 4 6) two c.in_ok-check_slots.ensures.checked in
    let rest = subst (λ (x : Flash). KeptFrom x z n 7 9) four c.in_ok-check_last.ensures.checked in
    record {
      checked = kept_join 2 6 7 9 refl (kept_join 2 3 4 6 refl bytes slots) rest;
      counted = (refl, subst (λ (x : Flash). c.claimed_slots.result ≡ claimed x z n) one c.claimed_slots.ensures.count);
      keeps = c.check_last.ensures.keeps ∙ four;
    }
