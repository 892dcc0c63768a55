-- Each slot is noted where it is the last for a position; behind the first slot that says which positions are live.
use Rattle.std.proofs.Common.{refl, ◌∙◌, subst}
use Rattle.lookup.specs.Answers.{LiveFrontAmong}
use Rattle.lookup.proofs.Backward.{same_step}
use Rattle.lookup.proofs.Fronting.{Latest, latest_none, noted_back, front_is}
use Rattle.lookup.proofs.live_front.Goals as goal

pub loop-visit-init : goal.loop-visit-init
loop-visit-init g c =
    let s = g.C.Chip.flash c.directory_of-descriptors.new.chip in
    record {
      same = refl;
      walks = c.from_newest-walk.ensures.walks s c.requires.inside;
      latest = latest_none s c.args.log c.directory_of-descriptors.result _ _ c.from_newest-walk.ensures.place c.before-front.ensures;
    }

pub loop-visit-preserved : goal.loop-visit-preserved
loop-visit-preserved g c =
    let s = g.C.Chip.flash c.directory_of-descriptors.new.chip in
    let v = c.in-Some.visit in
    let inv = c.loop-visit.invariant in
    let step = same_step _ s c.args.log c.loop-visit.walk c.back.new.self v inv.same c.in-Some.ensures.steps in
    record {
      same = c.in-Some.ensures.keeps ∙ inv.same;
      walks = step.3;
      latest = noted_back s c.args.log _ c.loop-visit.front.places c.note.new.self.places c.loop-visit.walk c.back.new.self v step.0 step.1 step.2 c.note.ensures inv.latest;
    }

pub returns : goal.returns
returns g c =
    let s = g.C.Chip.flash c.args.chip.now in
    let log = c.args.log in
    let front = c.directory_of-descriptors.result in
    let walked = c.loop-visit.walk.position in
    let inv = c.loop-visit.invariant in
    let latest = subst (λ f. Latest f log c.before-front.result.places walked c.loop-visit.front.places) c.directory_of-descriptors.ensures.keeps inv.latest in
    let live : LiveFrontAmong s log.layout.sizes log.layout.cleared log.claimed c.own_places.result =
    front_is s log walked front c.before-front.result.places c.loop-visit.front.places c.own_places.result c.in_default.ensures.steps c.directory_of-descriptors.ensures.describes c.before-front.ensures latest c.own_places.ensures in
    record {
      among = live;
      live = λ e. subst (λ m. LiveFrontAmong s log.layout.sizes log.layout.cleared m c.own_places.result) e live;
      keeps = c.in_default.ensures.keeps ∙ inv.same ∙ c.directory_of-descriptors.ensures.keeps;
    }
