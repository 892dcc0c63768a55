-- The first bit was answered by an error, or cleared before the rest; the erase that has begun is of the same block.
use Rattle.std.proofs.Common.{◌≡◌, ℕ, ◌+◌, ◌%◌, [], ◌∷◌, subst, arith}
use Rattle.chip.specs.Steps.{erase}
use Rattle.chip.specs.Plans as plans
use Rattle.chip.specs.Plans.{Performs}
use Rattle.chip.proofs.Performed.{stops, performed}
use Rattle.ring.specs.Places.{chip_block}
use Rattle.ring.specs.Tally.{booked}
use Rattle.laid.specs.Writing.{clearing}
use Rattle.writes.proofs.Allowing.{a_freeing}
use Rattle.writes.proofs.erase.free_oldest.Goals as goal

pub returns-in_err-clear_bit : goal.returns-in_err-clear_bit
returns-in_err-clear_bit g c =
    performed (a_freeing c.requires.0 c.requires.1.1) c.requires.0.power
    (stops _ c.in_err-clear_bit.ensures c.from_residual.ensures.1)

pub returns : goal.returns
returns g c =
    let flash = g.C.Chip.flash in
    let z = c.args.layout.sizes in
    let n = c.args.layout.cleared in
    let m = flash c.clear_bit.new.chip in
    let same : booked (n + 1) ≡ booked n = omega (arith, c.requires.1.0) in
    let P : ℕ → Type 0 = λ k. Performs (erase (chip_block z (k % z.ring)) ∷ clearing (n + 1) ∷ []) m c.rebook.result (flash c.rebook.new.chip) in
    plans.next {m = m} c.in_ok-clear_bit.ensures (subst P same c.rebook.ensures)
