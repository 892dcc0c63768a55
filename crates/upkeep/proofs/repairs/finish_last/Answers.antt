-- There is no source; or the copy is finished from it, with what was read.
use Rattle.std.proofs.Common.{◌≡◌, ◌-◌, sym, refl, arith}
use Rattle.image.proofs.Sevens.{least_none, least_some}
use Rattle.upkeep.proofs.Mending.{mended_lost, mended_finish}
use Rattle.upkeep.proofs.repairs.finish_last.Goals as goal

pub returns-in_default : goal.returns-in_default
returns-in_default g c =
    let s = g.C.Chip.flash c.args.chip.now in
    let h = c.in_default.ensures in
    rw c.live_front.ensures.keeps
    (mended_lost s c.args.log c.requires.idle (omega (arith, c.requires.last)) c.requires.copy _ c.live_front.ensures.among 7 (sym (least_none _ h)) refl)

pub returns : goal.returns
returns g c =
    let s = g.C.Chip.flash c.args.chip.now in
    let h = c.in-Some.ensures in
    let kept = c.live_front.ensures.keeps in
    let read = c.read_entry.ensures in
    let at : c.args.last.0 ≡ c.args.log.claimed - 1 = omega (arith, c.requires.last) in
    mended_finish s c.args.log c.requires.idle (omega (arith, c.requires.last)) c.requires.copy _ c.live_front.ensures.among c.in-Some.source.0 (sym (least_some _ c.in-Some.source h)) _ _ (λ e. omega (arith, h.0, e)) (rw kept at read.readable) (rw kept at read.number) (rw kept at read.page) (rw (read.keeps, kept, at) at c.finish_copy.ensures)
