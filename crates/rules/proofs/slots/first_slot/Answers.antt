-- The first slot is in the first block that has one; a block that has none is passed, as is the one without a turn.
use Rattle.std.proofs.Common.{ap, ◌∙◌}
use Rattle.rules.proofs.Going.{first_slot, clear_turn, clear_skip}
use Rattle.rules.proofs.slots.first_slot.Goals as goal
use Rattle.rules.proofs.slots.first_slot.Goals.{in-Some+in_default-first_at_turn, in_default}

pub returns-in-Some-first_at_turn : goal.returns-in-Some-first_at_turn
returns-in-Some-first_at_turn g c =
    let z = c.args.layout.sizes in
    let k = c.args.layout.cleared in
    let found = c.in-Some-first_at_turn.ensures in
    record {
      first = first_slot z k _ c.loop-b.b c.in-Some.turn c.in-Some-first_at_turn.j c.requires.ready.shaped c.in-Some.ensures found.first c.loop-b.invariant.1;
      keeps = found.keeps ∙ c.loop-b.invariant.0;
    }

pub loop-b-preserved : goal.loop-b-preserved
loop-b-preserved g c =
    let z = c.args.layout.sizes in
    let k = c.args.layout.cleared in
    let same = c.loop-b.invariant.0 in
    elim c.match-turn_of.branch [
      | in-Some+in_default-first_at_turn w ↦
          let none = w.in_default-first_at_turn.ensures in (
            ap g.C.Chip.flash w.chip-is ∙ none.keeps ∙ same,
            clear_turn z k _ c.loop-b.b w.in-Some.turn c.requires.ready.shaped w.in-Some.ensures none.first c.loop-b.invariant.1,
          )
      | in_default w ↦ (ap g.C.Chip.flash w.chip-is ∙ same, clear_skip z k _ c.loop-b.b w.in_default.ensures c.loop-b.invariant.1)
    ]
