-- A program that was cut, and one that was finished.
use Rattle.std.proofs.Common.{◌≡◌, true, length, refl, inr, arith, rules}
use Rattle.chip.specs.Ranges.{Paged}
use Rattle.rows.specs.Rows.{count_of}
use Rattle.rows.proofs.Flashes.{worked_program, broke_program}
use Rattle.bench_chip.proofs.BenchChip.program.Goals as goal

pub returns-then-begin-clause-answers : goal.returns-then-begin-clause-answers
returns-then-begin-clause-answers c =
    let self = c.args.self.now in
    let span = c.args.span in
    let given = c.args.given.now in
    let begun = c.if-begin.ensures.began in
    let paged : Paged (count_of self.image.now) span.block.0 span.at span.len (length given) = search rules in
    let on : self.on ≡ true = search rules in
    let masked = rw (c.begin.ensures.image, c.place_of-base.ensures, begun.plan) at c.clear_bits.ensures in
    rw (c.lost.ensures, begun.on, begun.name) (inr (inr (refl, broke_program self.image.now c.clear_bits.new.row self.on self.name span.block.0 span.at span.len given (length given) self.plan.mask paged on (omega arith) masked)))

pub returns-clause-answers : goal.returns-clause-answers
returns-clause-answers c =
    let self = c.args.self.now in
    let span = c.args.span in
    let given = c.args.given.now in
    let begun = c.if-begin.ensures.began in
    let paged : Paged (count_of self.image.now) span.block.0 span.at span.len (length given) = search rules in
    let on : self.on ≡ true = search rules in
    let masked = rw (c.begin.ensures.image, c.place_of-base.ensures) at c.clear_bits-2.ensures in
    rw (begun.on, begun.name) (worked_program self.image.now c.clear_bits-2.new.row self.on self.name span.block.0 span.at span.len given paged on masked)
