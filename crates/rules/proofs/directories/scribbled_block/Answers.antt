-- The first block of the log with strays; a block that has none is passed, as is the one without a turn.
use Rattle.std.proofs.Common.{sym, ap, ◌∙◌}
use Rattle.rules.proofs.Scribbling.{scribbled_first, scribbled_not, scribbled_skip}
use Rattle.rules.proofs.directories.scribbled_block.Goals as goal
use Rattle.rules.proofs.directories.scribbled_block.Goals.{else-is_some-via-then-is_some+else-is_scribbled, else-is_some-via-else-is_some}

pub returns-then-is_scribbled : goal.returns-then-is_scribbled
returns-then-is_scribbled g c =
    let same = c.loop-b.invariant.0 in
    let found = c.if-is_scribbled.ensures in
    record {
      first = scribbled_first _ _ c.loop-b.b _ c.turn_of.result same c.turn_of.ensures (sym c.is_some.ensures ∙ c.if-is_some.true) c.chip_block.ensures found.tells c.loop-b.invariant.1;
      keeps = found.keeps ∙ same;
    }

pub loop-b-preserved : goal.loop-b-preserved
loop-b-preserved g c =
    let same = c.loop-b.invariant.0 in
    elim c.else-is_some.branch [
      | else-is_some-via-then-is_some+else-is_scribbled w ↦
          let clean = w.if-is_scribbled.ensures in
          (ap g.C.Chip.flash w.chip-is ∙ clean.keeps ∙ same, scribbled_not _ _ c.loop-b.b _ same w.chip_block.ensures clean.tells c.loop-b.invariant.1)
      | else-is_some-via-else-is_some w ↦
          (ap g.C.Chip.flash w.chip-is ∙ same, scribbled_skip _ _ c.loop-b.b c.turn_of.result c.turn_of.ensures (sym c.is_some.ensures ∙ w.if-is_some.false) c.loop-b.invariant.1)
    ]
