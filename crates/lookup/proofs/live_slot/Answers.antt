-- The first hit from the back is the live slot; a slot that is no hit changes nothing.
use Rattle.std.proofs.Common.{sym, Some, refl, ◌∙◌}
use Rattle.lookup.specs.Answers.{FoundAmong}
use Rattle.lookup.proofs.Backward.{last_none, hit_is, miss_is, same_step}
use Rattle.lookup.proofs.Claimed.{claimed_found}
use Rattle.lookup.proofs.live_slot.Goals as goal

pub loop-visit-init : goal.loop-visit-init
loop-visit-init g c =
    let s = g.C.Chip.flash c.args.chip.now in
    let z = c.args.log.layout.sizes in
    record {
      same = refl;
      walks = c.from_newest-walk.ensures.walks s c.requires.inside;
      none = last_none s z c.args.log.layout.cleared c.args.log.claimed c.args.sector.0 _ c.from_newest-walk.ensures.place;
    }

pub returns-then-hits : goal.returns-then-hits
returns-then-hits g c =
    let s = g.C.Chip.flash c.args.chip.now in
    let z = c.args.log.layout.sizes in
    let v = c.in-Some.visit in
    let inv = c.loop-visit.invariant in
    let step = same_step _ s c.args.log c.loop-visit.walk c.back.new.self v inv.same c.in-Some.ensures.steps in
    let found : FoundAmong s z c.args.log.layout.cleared c.args.log.claimed c.args.sector.0 (Some c.slot.result) =
    (v.position, hit_is s c.args.log c.args.sector.0 c.loop-visit.walk c.back.new.self v step.0 step.1 step.2 inv.none (sym c.hits.ensures ∙ c.if-hits.true), c.slot.ensures) in
    record {
      among = found;
      found = λ e. claimed_found s z c.args.log.layout.cleared c.args.log.claimed c.args.sector.0 (Some c.slot.result) e found;
      keeps = c.in-Some.ensures.keeps ∙ inv.same;
    }

pub loop-visit-preserved : goal.loop-visit-preserved
loop-visit-preserved g c =
    let s = g.C.Chip.flash c.args.chip.now in
    let v = c.in-Some.visit in
    let inv = c.loop-visit.invariant in
    let step = same_step _ s c.args.log c.loop-visit.walk c.back.new.self v inv.same c.in-Some.ensures.steps in
    record {
      same = c.in-Some.ensures.keeps ∙ inv.same;
      walks = step.3;
      none = miss_is s c.args.log c.args.sector.0 c.loop-visit.walk c.back.new.self v step.0 step.1 step.2 inv.none (sym c.hits.ensures ∙ c.if-hits.false);
    }
