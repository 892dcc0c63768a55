use Rattle.std.proofs.lemmas.Result.{err_from_is_err_and}
use Rattle.engine.proofs.Formatting.{accepted, refused}
use Rattle.engine.proofs.Engine.format.Goals as goal

pub returns-in_err-write-clause-formats : goal.returns-in_err-write-clause-formats
returns-in_err-write-clause-formats g c =
    let s = g.C.Chip.flash c.args.self.now.chip in
    let t = g.C.Chip.flash c.write.new.chip in
    let slice = c.as_slice.ensures in
    let f = c.in_err-write.field-0.0 in
    let out = err_from_is_err_and c.from_residual.result c.from_residual.ensures.1 in
    rw (out.1, out.2)
    (refused _ _ _ _ _ _ s _ t c.blocks-2.ensures c.in-Some.ensures slice.bytes c.power_on.ensures f c.in_err-write.ensures.tries)

pub returns-clause-formats : goal.returns-clause-formats
returns-clause-formats g c =
    let s = g.C.Chip.flash c.args.self.now.chip in
    let t = g.C.Chip.flash c.write.new.chip in
    let slice = c.as_slice.ensures in
    let done = c.in_ok-write.ensures in
    accepted _ _ _ _ _ _ s _ t c.blocks-2.ensures c.in-Some.ensures slice.bytes c.power_on.ensures done.bytes done.tries
