-- The flags of the last claimed slot say what is to be done.
use Rattle.std.proofs.Common.{◌≡◌, ◌-◌, arith}
use Rattle.upkeep.proofs.Mending.{mended_nothing, mended_whole, mended_drop}
use Rattle.upkeep.proofs.repairs.mend_last.Goals as goal

pub returns-in_default : goal.returns-in_default
returns-in_default g c = mended_nothing _ c.args.log c.requires.1 c.in_default.ensures

pub returns-then-ends_group : goal.returns-then-ends_group
returns-then-ends_group g c =
    let s = g.C.Chip.flash c.args.chip.now in
    let at : c.in-Some.last.0 ≡ c.args.log.claimed - 1 = omega (arith, c.in-Some.ensures) in
    rw c.read_flags-flags.ensures.keeps
    (mended_whole s c.args.log c.requires.1 (omega (arith, c.in-Some.ensures)) _ (rw at at c.read_flags-flags.ensures.flags) _ c.ends_group.ensures c.if-ends_group.true)

pub returns : goal.returns
returns g c =
    let s = g.C.Chip.flash c.args.chip.now in
    let at : c.in-Some.last.0 ≡ c.args.log.claimed - 1 = omega (arith, c.in-Some.ensures) in
    mended_drop s c.args.log c.requires.1 (omega (arith, c.in-Some.ensures)) _ (rw at at c.read_flags-flags.ensures.flags) _ _ c.is_unclosed_copy.ensures c.if-is_unclosed_copy.false c.ends_group.ensures c.if-ends_group.false (rw (c.read_flags-flags.ensures.keeps, at) at c.drop_slot.ensures)
