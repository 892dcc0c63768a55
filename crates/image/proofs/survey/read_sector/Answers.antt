-- The page of the live slot is read as a whole.
use Rattle.std.proofs.Common.{◌≡◌, ℕ, ◌+◌, ◌*◌, ◌/◌, ◌%◌, ◌<◌, length, get_or, subst, arith, rules}
use Rattle.chip.specs.Flash.{Flash}
use Rattle.ring.specs.Places.{chip_block}
use Rattle.image.proofs.Showing.{slot_inside, page_held}
use Rattle.image.proofs.survey.read_sector.Goals as goal

pub returns-in-Some-clause-shown : goal.returns-in-Some-clause-shown
returns-in-Some-clause-shown g c =
    let s = g.C.Chip.flash c.args.chip.now in
    let log = c.args.log in
    let z = log.layout.sizes in
    let n = log.layout.cleared in
    let found = c.in-Some.ensures.among in
    let one = c.find_sector.ensures.keeps in
    let t = c.in-Some.slot.0 in
    let long : length c.read_slot.new.into ≡ 512 = search rules in
    let inside : t < 7 * z.ring = omega (arith, found.2, slot_inside z n found.0 c.requires.0.ready.shaped.ring_least) in
    let bytes = subst (λ (f : Flash). (k : ℕ) → k < length c.args.into.now → get_or c.read_slot.new.into k 0 ≡ f.byte (chip_block z (t / 7)) (512 * (t % 7 + 1) + k)) one
    (c.read_slot.ensures.bytes inside (omega (arith, c.requires.1)) (omega (arith, c.requires.1))) in
    page_held s z n log.claimed c.args.sector.0 found.0 t c.read_slot.new.into found.1 found.2 long (λ k lt. bytes k (omega (arith, c.requires.1)))
