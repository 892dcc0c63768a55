-- One page more is counted in, and at the end the count is told.
use Rattle.std.proofs.Common.{◌≡◌, ◌+◌, ◌*◌, length, ◌∙◌, subst, arith, rules}
use Rattle.std.proofs.lemmas.Result.{err_from_is_err_and}
use Rattle.tally.specs.Counts.{Scanned, Holds}
use Rattle.tally.proofs.Scanning.{told}
use Rattle.tally.proofs.read_tally.Goals as goal

pub add_page-requires : goal.add_page-requires
add_page-requires g c =
    let long : length c.read_page-bytes.result ≡ 512 = search rules in
    (omega (arith, c.loop-page.invariant.0.most), omega arith)

pub loop-page-preserved : goal.loop-page-preserved
loop-page-preserved g c =
    let s = g.C.Chip.flash c.args.chip.now in
    let bytes = c.read_page-bytes.result in
    let at = 512 * c.loop-page.page in
    let long : length bytes ≡ 512 = search rules in
    let holds = subst (λ t. Holds t at bytes) c.loop-page.invariant.1 c.read_page-bytes.ensures.bytes in
    let joined : at + length bytes ≡ 512 * (c.loop-page.page + 1) = omega arith in
    let advanced = c.in_ok-cleared.ensures s c.args.blocks c.loop-page.invariant.0 holds (omega arith) in
    (subst (λ n. Scanned s n c.in_ok-cleared.cleared) joined advanced, c.read_page-bytes.ensures.keeps ∙ c.loop-page.invariant.1)

pub returns-in_err-cleared : goal.returns-in_err-cleared
returns-in_err-cleared g c =
    let s = g.C.Chip.flash c.args.chip.now in
    let bytes = c.read_page-bytes.result in
    let at = 512 * c.loop-page.page in
    let long : length bytes ≡ 512 = search rules in
    let holds = subst (λ t. Holds t at bytes) c.loop-page.invariant.1 c.read_page-bytes.ensures.bytes in
    let out = err_from_is_err_and c.from_residual.result c.from_residual.ensures.1 in
    record {
      answers = rw (out.1, out.2) (c.in_err-cleared.ensures s c.args.blocks c.loop-page.invariant.0 holds (omega arith));
      keeps = c.read_page-bytes.ensures.keeps ∙ c.loop-page.invariant.1;
    }

pub returns : goal.returns
returns g c =
    let s = g.C.Chip.flash c.args.chip.now in
    let all : 512 * c.loop-page.page ≡ 4096 * c.args.blocks = omega arith in
    record {
      answers = told _ _ _ (subst (λ n. Scanned s n c.loop-page.cleared) all c.loop-page.invariant.0);
      keeps = c.loop-page.invariant.1;
    }
