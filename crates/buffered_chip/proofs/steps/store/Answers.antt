-- A program that was cut, and one that was finished.
use Rattle.std.proofs.Common.{◌≡◌, ◌+◌, ◌*◌, min, true, false, eqb, length, refl, inr, arith, rules}
use Rattle.chip.specs.Ranges.{Paged}
use Rattle.rows.specs.Rows.{count_of}
use Rattle.rows.proofs.Flashes.{worked_program, broke_program}
use Rattle.buffered_chip.proofs.Through.{first}
use Rattle.buffered_chip.proofs.steps.store.Goals as goal

pub returns-then-status-eq1-clause-answers : goal.returns-then-status-eq1-clause-answers
returns-then-status-eq1-clause-answers c =
    let status = c.args.status in
    let span = c.args.span in
    let image = c.args.image.now in
    let given = c.args.given.now in
    let new = c.burn.new.image in
    let n = min status.plan.done (length given) in
    let now : eqb status.plan.step 1 ≡ true = search rules in
    let reach : c.reach-reach.result ≡ n = rw now at c.reach-reach.ensures in
    let paged : Paged (count_of image) span.block.0 span.at span.len (length given) = search rules in
    let on : status.on ≡ true = search rules in
    let masked = first image new given (span.block.0 * 4096 + span.at) n (omega arith) (rw reach at c.burn.ensures) in
    rw c.lost.ensures (inr (inr (refl, broke_program image new status.on status.name span.block.0 span.at span.len given n 0 paged on (omega arith) masked)))

pub returns-clause-answers : goal.returns-clause-answers
returns-clause-answers c =
    let status = c.args.status in
    let span = c.args.span in
    let image = c.args.image.now in
    let given = c.args.given.now in
    let new = c.burn.new.image in
    let later : eqb status.plan.step 1 ≡ false = search rules in
    let reach : c.reach-reach.result ≡ length given = rw later at c.reach-reach.ensures in
    let paged : Paged (count_of image) span.block.0 span.at span.len (length given) = search rules in
    let on : status.on ≡ true = search rules in
    let masked = first image new given (span.block.0 * 4096 + span.at) (length given) (omega arith) (rw reach at c.burn.ensures) in
    worked_program image new status.on status.name span.block.0 span.at span.len given paged on masked
