-- The copies, then the erase.
use Rattle.std.proofs.Common.{refl, arith}
use Rattle.std.proofs.lemmas.Result.{err_from_is_err_and}
use Rattle.upkeep.specs.Reclaims as reclaims
use Rattle.upkeep.proofs.Moving.{moves_few, moves_ready, reclaims_stands}
use Rattle.upkeep.proofs.reclaims.reclaim.Goals as goal

pub free_oldest-requires : goal.free_oldest-requires
free_oldest-requires g c =
    (moves_ready c.in_ok-copies.ensures c.requires.stands.ready, (c.requires.idle, omega (arith, c.requires.idle, c.requires.bits)))

pub returns-in_err-free_oldest : goal.returns-in_err-free_oldest
returns-in_err-free_oldest g c =
    let flash = g.C.Chip.flash in
    let out = err_from_is_err_and c.from_residual-in_err-free_oldest.result c.from_residual-in_err-free_oldest.ensures.1 in
    rw (out.1, out.2) record { reclaims = reclaims.free_cut {m = flash c.move_live.new.chip} {t = flash c.free_oldest.new.chip} c.in_ok-copies.ensures c.in_err-free_oldest.ensures; stands = tt }

pub overflow_add-log : goal.overflow_add-log
overflow_add-log g c = omega (arith, c.requires.stands.inside, c.requires.stands.ready.shaped.ring_most, moves_few c.in_ok-copies.ensures)

pub returns : goal.returns
returns g c =
    let flash = g.C.Chip.flash in
    let h = reclaims.done {m = flash c.move_live.new.chip} {t = flash c.free_oldest.new.chip} c.in_ok-copies.ensures c.in_ok-free_oldest.ensures in
    record { reclaims = (_, h, record { sizes = refl; cleared = refl; claimed = c.saturating_sub.ensures }); stands = reclaims_stands c.args.log _ c.requires.stands c.requires.idle c.requires.bits h record { sizes = refl; cleared = refl; claimed = c.saturating_sub.ensures } }
