-- The number and the page are compared, and nothing else.
use Rattle.std.proofs.Common.{◌+◌, ◌*◌, ◌%◌, refl, subst}
use Rattle.chip.specs.Flash.{Flash}
use Rattle.chip.specs.Ranges.{Tells}
use Rattle.image.proofs.Chunks.{Above}
use Rattle.image.proofs.Covering.{tells_same, tells_part, covering, number_of, page_of}
use Rattle.image.proofs.copy.covers.Goals as goal

pub returns-then-range_is_over-clause-tells : goal.returns-then-range_is_over-clause-tells
returns-then-range_is_over-clause-tells g c =
    let s = g.C.Chip.flash c.args.chip.now in
    let z = c.args.layout.sizes in
    let n = c.args.layout.cleared in
    let u = c.block-above.result.0 in
    let l = c.block-below.result.0 in
    let a = c.descriptor-up.result in
    let b = c.descriptor-low.result in
    let top = c.page.result in
    let bottom = c.page-then-range_is_over.result in
    let page = subst (λ (x : Flash). Tells c.page_is_over.result (Above x u l top bottom 512)) c.range_is_over.ensures.keeps c.page_is_over.ensures.tells in
    tells_same c.page_is_over.result
    (covering s z n c.args.upper.0 c.args.lower.0 u l a b top bottom c.block-above.ensures c.block-below.ensures c.descriptor-up.ensures c.descriptor-low.ensures c.page.ensures c.page-then-range_is_over.ensures c.if-range_is_over.ensures.tells)
    (page_of s z n c.args.upper.0 c.args.lower.0 u l a b top bottom c.block-above.ensures c.block-below.ensures c.descriptor-up.ensures c.descriptor-low.ensures c.page.ensures c.page-then-range_is_over.ensures)
    page

pub returns-else-range_is_over-clause-tells : goal.returns-else-range_is_over-clause-tells
returns-else-range_is_over-clause-tells g c =
    let z = c.args.layout.sizes in
    let n = c.args.layout.cleared in
    let q = c.args.upper.0 in
    let p = c.args.lower.0 in
    tells_part c.range_is_over.result c.if-range_is_over.false
    (number_of (g.C.Chip.flash c.args.chip.now) z n q p c.block-above.result.0 c.block-below.result.0 c.descriptor-up.result c.descriptor-low.result (512 * (q % 7 + 1)) (512 * (p % 7 + 1)) c.block-above.ensures c.block-below.ensures c.descriptor-up.ensures c.descriptor-low.ensures refl refl)
    c.range_is_over.ensures.tells
