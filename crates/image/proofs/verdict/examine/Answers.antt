-- The label, the tally, then the log, each read from the chip as it was.
use Rattle.std.proofs.Common.{◌≡◌, Ok, sym, refl, ap, ◌∙◌, subst, arith, rules}
use Rattle.std.proofs.lemmas.Result.{err_from_is_err_and}
use Rattle.chip.specs.Flash.{Flash}
use Rattle.label.specs.declared.Sizes.{Sizes}
use Rattle.ring.specs.Tally.{cleared}
use Rattle.ring.specs.Logs as logs
use Rattle.ring.specs.Turns.{Ready}
use Rattle.ring.specs.declared.layout.Log.{Log}
use Rattle.image.specs.Fronts.{LabelledBy}
use Rattle.image.specs.Checks.{KeptFrom, Lowest}
use Rattle.image.specs.Examined.{Laid, Sound}
use Rattle.image.proofs.Joining.{kept_join, lowest_later, lowest_wider}
use Rattle.image.proofs.Examining.{ready_by, faulty, unsound, sound, stands}
use Rattle.image.proofs.verdict.examine.Goals as goal

pub returns-in_err-sizes : goal.returns-in_err-sizes
returns-in_err-sizes g c =
    let s = g.C.Chip.flash c.args.chip.now in
    let out = err_from_is_err_and c.from_residual.result c.from_residual.ensures.1 in
    record {
      examined = rw (out.1, out.2) (faulty s _ (search rules) c.in_err-sizes.ensures.carries);
      stands = rw out.1 tt;
      keeps = c.read_sizes.ensures.keeps;
    }

pub returns-in_err-layout : goal.returns-in_err-layout
returns-in_err-layout g c =
    let s = g.C.Chip.flash c.args.chip.now in
    let z = c.in_ok-sizes.sizes in
    let one = c.read_sizes.ensures.keeps in
    let x = c.in_err-layout.field-0.0 in
    let low = subst (λ (m : Flash). Lowest m z (cleared m z.tally) 1 1 x) one c.in_err-layout.ensures.laid in
    let out = err_from_is_err_and c.from_residual-in_err-layout.result c.from_residual-in_err-layout.ensures.1 in
    record {
      examined = rw (out.1, out.2) (unsound s z x (search rules) c.in_ok-sizes.ensures.carries (lowest_wider 1 1 9 (omega arith) low));
      stands = rw out.1 tt;
      keeps = c.read_layout.ensures.keeps ∙ one;
    }

pub check_log-requires : goal.check_log-requires
check_log-requires g c =
    let s = g.C.Chip.flash c.args.chip.now in
    let z = c.in_ok-sizes.sizes in
    let l = c.in_ok-layout.layout in
    let one = c.read_sizes.ensures.keeps in
    let two = c.read_layout.ensures.keeps ∙ one in
    let laid = subst (λ (m : Flash). Laid m z (Ok l)) one c.in_ok-layout.ensures.laid in
    let same = laid.0 in
    let label = subst (λ (y : Sizes). LabelledBy s y) (sym same) c.in_ok-sizes.ensures.carries in
    let bits : l.cleared ≡ cleared s l.sizes.tally = laid.1 ∙ ap (λ (y : Sizes). cleared s y.tally) (sym same) in
    subst (λ (m : Flash). Ready m l.sizes l.cleared) (sym two) (ready_by s l.sizes l.cleared (search rules) label bits)

pub returns-in_err-log : goal.returns-in_err-log
returns-in_err-log g c =
    let s = g.C.Chip.flash c.args.chip.now in
    let z = c.in_ok-sizes.sizes in
    let l = c.in_ok-layout.layout in
    let one = c.read_sizes.ensures.keeps in
    let two = c.read_layout.ensures.keeps ∙ one in
    let laid = subst (λ (m : Flash). Laid m z (Ok l)) one c.in_ok-layout.ensures.laid in
    let x = c.in_err-log.field-0.0 in
    let here = subst (λ (m : Flash). Lowest m l.sizes l.cleared 2 9 x) two c.in_err-log.ensures.checked in
    let low = subst (λ n. Lowest s z n 2 9 x) laid.1 (subst (λ (y : Sizes). Lowest s y l.cleared 2 9 x) laid.0 here) in
    let out = err_from_is_err_and c.from_residual-in_err-log.result c.from_residual-in_err-log.ensures.1 in
    record {
      examined = rw (out.1, out.2) (unsound s z x (search rules) c.in_ok-sizes.ensures.carries (lowest_later 1 1 2 9 refl (omega arith) laid.2 low));
      stands = rw out.1 tt;
      keeps = c.check_log.ensures.keeps ∙ two;
    }

pub returns : goal.returns
returns g c =
    let s = g.C.Chip.flash c.args.chip.now in
    let z = c.in_ok-sizes.sizes in
    let l = c.in_ok-layout.layout in
    let one = c.read_sizes.ensures.keeps in
    let two = c.read_layout.ensures.keeps ∙ one in
    let log : Log = c.in_ok-log.log in
    let laid = subst (λ (m : Flash). Laid m z (Ok l)) one c.in_ok-layout.ensures.laid in
    let same = laid.0 in
    let label = subst (λ (y : Sizes). LabelledBy s y) (sym same) c.in_ok-sizes.ensures.carries in
    let bits : l.cleared ≡ cleared s l.sizes.tally = laid.1 ∙ ap (λ (y : Sizes). cleared s y.tally) (sym same) in
    let first = subst (λ (y : Sizes). KeptFrom s y l.cleared 1 1) (sym same) (subst (λ n. KeptFrom s z n 1 1) (sym laid.1) laid.2) in
    let rest = subst (λ (m : Flash). KeptFrom m l.sizes l.cleared 2 9) two c.in_ok-log.ensures.checked in
    let slots = subst (λ (m : Flash). log.claimed ≡ logs.claimed m l.sizes l.cleared) two c.in_ok-log.ensures.counted.1 in
    let there : Log = record { layout = l; claimed = log.claimed } in
    let whole : Sound s there = sound s there (search rules) label bits slots (kept_join 1 1 2 9 refl first rest) in
    let as_read : there ≡ log = ap (λ y. record { layout = y; claimed = log.claimed }) (sym c.in_ok-log.ensures.counted.0) in
    let sound_log = subst (Sound s) as_read whole in
    record {
      examined = sound_log;
      stands = stands s log sound_log;
      keeps = c.check_log.ensures.keeps ∙ two;
    }
