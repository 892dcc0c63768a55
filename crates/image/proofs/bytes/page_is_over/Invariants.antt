-- The chunks so far are over, and the chip is as it was.
use Rattle.std.proofs.Common.{◌≡◌, ◌+◌, ◌*◌}
use Rattle.image.specs.Bytes.{Over}
use Rattle.image.proofs.bytes.page_is_over.Given as goal

abbrev pub invariant-loop-i : goal.invariant-loop-i
invariant-loop-i g l =
    let flash = g.C.Chip.flash in
    (flash l.chip ≡ flash l.initial.chip)
    × Over (λ k. (flash l.initial.chip).byte l.upper.0 (l.up + k)) (λ k. (flash l.initial.chip).byte l.lower.0 (l.low + k)) (64 * l.i)
