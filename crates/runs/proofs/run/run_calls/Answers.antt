-- A run is the format, and then one call after another.
use Rattle.std.proofs.Common.{◌≡◌, ◌+◌, ◌<◌, List, length, drop, sym, refl, ap, ◌∙◌, arith, length-set, rules}
use Rattle.std.proofs.lemmas.List.{take_more_set, take_more, get_or-take, drop-set-lt, drop-drop}
use Rattle.engine.specs.Formats.{sizes_on}
use Rattle.runs.specs.declared.run.Call.TheVariants as call
use Rattle.runs.specs.Ledger.{Answer}
use Rattle.runs.proofs.Chaining.{running_none, running_more}
use Rattle.runs.proofs.Formatted.{format_inv}
use Rattle.runs.proofs.Serving.{next}
use Rattle.runs.proofs.run.run_calls.Goals as goal

pub loop-k-init : goal.loop-k-init
loop-k-init g c = (refl, refl, refl, λ z inv. running_none inv)

pub loop-k-preserved : goal.loop-k-preserved
loop-k-preserved g c =
    let k = c.loop-k.k in
    let xs = c.loop-k.answers in
    let ys = c.args.answers.now in
    let inv = c.loop-k.invariant in
    let a = c.serve-answer.result in
    let there : k < length xs = search rules in
    let asked : k < length c.args.calls.now = search rules in
    let early : k < c.min-count.result = search rules in
    let same = get_or-take c.min-count.result c.args.calls.now k call.Start early in
    let calls = rw (inv.0, same) at c.serve-answer.ensures.calls in (
      c.serve-answer.ensures.same ∙ inv.0,
      length-set xs k a ∙ inv.1,
      drop-set-lt (k + 1) xs k a (omega arith) ∙ sym (drop-drop 1 k xs) ∙ ap (λ (l : List Answer). drop 1 l) inv.2 ∙ drop-drop 1 k ys,
      λ z was.
          let run = inv.3 z was in
          rw (take_more_set xs k a there, take_more c.args.calls.now k call.Start asked) (running_more run calls (next run.inv calls)),
    )

pub returns-clause-law : goal.returns-clause-law
returns-clause-law g c =
    let accepts = c.in_ok-format.ensures.formats in
    let forgets = c.in_ok-format.ensures.forgets in
    let s = g.C.Chip.flash c.args.engine.now.chip in
    let f = g.C.Chip.flash c.format.new.self.chip in
    let inv = c.loop-k.invariant in
    let all : c.loop-k.k ≡ c.min-count.result = search rules in
    let blank-inv = format_inv c.args.sectors c.args.tally c.args.name.now s f c.args.engine.now.memory accepts in
    let z = sizes_on s.blocks c.args.sectors c.args.tally in
    let run = (inv.3 z (rw forgets blank-inv)).ran in
    (f, accepts, rw (all, forgets) at run)
