-- The slots of a turn, all claimed, are behind others that are; or the first that is not ends the count.
use Rattle.std.proofs.Common.{◌≡◌, ◌*◌, ◌∙◌, subst, arith}
use Rattle.ring.specs.Places.{positions}
use Rattle.rules.proofs.Reading.{shows_as}
use Rattle.rules.proofs.Claiming.{AllClaimed, claimed_more, claimed_some, claimed_all}
use Rattle.rules.proofs.claimed.claimed_slots.Goals as goal

pub returns-in-Some : goal.returns-in-Some
returns-in-Some g c =
    let read = c.read_turn-slots.ensures in
    let same = c.loop-turn.invariant.0 in
    record {
      count = claimed_some _ _ _ c.loop-turn.turn _ c.in-Some.j (shows_as same read.shows) c.loop-turn.invariant.1 c.in-Some.ensures;
      keeps = read.keeps ∙ same;
    }

pub loop-turn-preserved : goal.loop-turn-preserved
loop-turn-preserved g c =
    let read = c.read_turn-slots.ensures in
    let same = c.loop-turn.invariant.0 in
    (read.keeps ∙ same, claimed_more _ _ _ c.loop-turn.turn _ (shows_as same read.shows) c.loop-turn.invariant.1 c.in_default.ensures)

pub returns : goal.returns
returns g c =
    let s = g.C.Chip.flash c.args.chip.now in
    let z = c.args.layout.sizes in
    let k = c.args.layout.cleared in
    let end : 7 * c.loop-turn.turn ≡ positions z k = omega (arith, c.turns-turn-end.ensures) in
    let all : 7 * c.turns.result ≡ positions z k = omega (arith, c.turns.ensures) in
    record {
      count = all ∙ claimed_all s z k (subst (AllClaimed s z k) end c.loop-turn.invariant.1);
      keeps = c.loop-turn.invariant.0;
    }
