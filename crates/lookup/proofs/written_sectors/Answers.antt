-- Each slot that counts marks its sector; behind the first slot those are the written ones.
use Rattle.std.proofs.Common.{◌≡◌, is_some, sym, refl, ap, ◌∙◌}
use Rattle.lookup.specs.Answers.{written_among}
use Rattle.lookup.proofs.Backward.{last_none, same_step}
use Rattle.lookup.proofs.Counting.{marked_back, written_is}
use Rattle.lookup.proofs.written_sectors.Goals as goal

pub loop-visit-init : goal.loop-visit-init
loop-visit-init g c =
    let s = g.C.Chip.flash c.args.chip.now in
    let z = c.args.log.layout.sizes in
    record {
      same = refl;
      walks = c.from_newest-walk.ensures.walks s c.requires.inside;
      marked = λ x lt. c.none-written.ensures x ∙ sym (ap is_some (last_none s z c.args.log.layout.cleared c.args.log.claimed x _ c.from_newest-walk.ensures.place));
    }

pub loop-visit-preserved : goal.loop-visit-preserved
loop-visit-preserved g c =
    let s = g.C.Chip.flash c.args.chip.now in
    let v = c.in-Some.visit in
    let inv = c.loop-visit.invariant in
    let step = same_step _ s c.args.log c.loop-visit.walk c.back.new.self v inv.same c.in-Some.ensures.steps in
    record {
      same = c.in-Some.ensures.keeps ∙ inv.same;
      walks = step.3;
      marked = marked_back s c.args.log c.loop-visit.written.words c.note.new.self.words c.loop-visit.walk c.back.new.self v step.0 step.1 step.2 c.note.ensures inv.marked;
    }

pub returns : goal.returns
returns g c =
    let s = g.C.Chip.flash c.args.chip.now in
    let log = c.args.log in
    let written : c.count_below.result ≡ written_among s log.layout.sizes log.layout.cleared log.claimed =
    c.count_below.ensures ∙ written_is s log c.loop-visit.walk.position c.loop-visit.written.words c.in_default.ensures.steps c.loop-visit.invariant.marked in
    record {
      among = written;
      count = λ e. written ∙ ap (written_among s log.layout.sizes log.layout.cleared) e;
      keeps = c.in_default.ensures.keeps ∙ c.loop-visit.invariant.same;
    }
