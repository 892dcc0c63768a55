-- The label's verdict on the page is one on the chip.
use Rattle.std.proofs.Common.{ap, ◌∙◌}
use Rattle.std.proofs.lemmas.Result.{err_from_is_err_and}
use Rattle.chip.specs.Flash.{Flash}
use Rattle.image.proofs.Fronting.{good_there, faulty_there}
use Rattle.image.proofs.front.read_sizes.Goals as goal

pub returns-in_err-label : goal.returns-in_err-label
returns-in_err-label g c =
    let s = g.C.Chip.flash c.args.chip.now in
    let page = c.first_page-page.ensures in
    let out = err_from_is_err_and c.from_residual.result c.from_residual.ensures.1 in
    record {
      carries = rw (out.1, out.2) (faulty_there s c.first_page-page.result c.blocks-count.result _ (c.blocks-count.ensures ∙ ap (λ (x : Flash). x.blocks) page.keeps) page.page c.requires c.in_err-label.ensures);
      keeps = page.keeps;
    }

pub returns : goal.returns
returns g c =
    let s = g.C.Chip.flash c.args.chip.now in
    let page = c.first_page-page.ensures in
    record {
      carries = good_there s c.first_page-page.result c.blocks-count.result _ (c.blocks-count.ensures ∙ ap (λ (x : Flash). x.blocks) page.keeps) page.page c.requires c.in_ok-label.ensures;
      keeps = page.keeps;
    }
