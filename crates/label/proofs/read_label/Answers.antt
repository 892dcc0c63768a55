-- Which fault it is; the fields state no other sizes than those that were found.
use Rattle.std.proofs.Common.{◌≡◌, ℕ, List, subst, arith, rules}
use Rattle.std.proofs.lemmas.Result.{err_from_is_err_and}
use Rattle.label.specs.declared.Sizes.{Sizes}
use Rattle.label.specs.declared.found.Found.{Found}
use Rattle.label.specs.Fields.{Before}
use Rattle.label.specs.Labels.{Sized, States, Blank, Stray, field, stray, sizes}
use Rattle.label.specs.Found.{Says, Holds}
use Rattle.label.proofs.Notes.{only}
use Rattle.label.proofs.Steps.{past}
use Rattle.label.proofs.read_label.Goals as goal

-- what the fields state is what was found
found : (page : List ℕ) (n : ℕ) (f : Found) (x : Sizes) → Before page n → Says page n f → States page n x → Holds f x
found page n f x b s h = (
  only page n 1 1 f.format b (omega arith) s.format h.format,
  only page n 2 x.ring f.ring b (omega arith) s.ring h.ring,
  only page n 3 x.sectors f.sectors b (omega arith) s.sectors h.sectors,
  only page n 4 x.tally f.tally b (omega arith) s.tally h.tally,
)

-- the same sizes found are as good
alike : (blocks : ℕ) (f : Found) (x y : Sizes) → Holds f x → Holds f y → Sized blocks x → Sized blocks y
alike blocks f x y hx hy s =
    let r : x.ring ≡ y.ring = let p = hx.1 in let q = hy.1 in cc in
    let l : x.sectors ≡ y.sectors = let p = hx.2 in let q = hy.2 in cc in
    let k : x.tally ≡ y.tally = let p = hx.3 in let q = hy.3 in cc in
    record {
      tally_some = omega arith;
      tally_most = omega arith;
      ring_least = omega arith;
      ring_most = omega arith;
      sectors_some = omega arith;
      sectors_most = omega arith;
      whole = omega arith;
    }

pub returns-in_err-found : goal.returns-in_err-found
returns-in_err-found c =
    let b = c.in_err-found.ensures in
    let p = err_from_is_err_and c.from_residual.result c.from_residual.ensures.1 in
    rw (p.1, p.2) (field b.count (omega arith) b.before b.illegal b.place)

pub returns-in-Some : goal.returns-in-Some
returns-in-Some c =
    let page = c.args.page.now in
    let g = c.in_ok-found.ensures in
    let e = past page g.count _ g.ends g.end in
    stray g.count (omega arith) g.ends (subst (λ from. Stray page from c.in-Some.at) e c.in-Some.ensures)

pub returns-in_err-sizes : goal.returns-in_err-sizes
returns-in_err-sizes c =
    let page = c.args.page.now in
    let g = c.in_ok-found.ensures in
    let e = past page g.count _ g.ends g.end in
    let p = err_from_is_err_and c.from_residual-in_err-sizes.result c.from_residual-in_err-sizes.ensures.1 in
    let none : (x : Sizes) → Holds c.in_ok-found.field-0.found x → ⊥ = search rules in
    let at : c.in_err-sizes.field-0.0.at ≡ c.in_ok-found.field-0.end = search rules in
    rw (p.1, p.2, at)
    (sizes g.count (omega arith) g.ends (subst (Blank page) e c.in_default.ensures)
    (λ x h s. none x (found page g.count _ x g.ends.before g.says h))
    g.end)

pub returns-then-not-fits : goal.returns-then-not-fits
returns-then-not-fits c =
    let page = c.args.page.now in
    let g = c.in_ok-found.ensures in
    let e = past page g.count _ g.ends g.end in
    let holds : Holds c.in_ok-found.field-0.found c.in_ok-sizes.sizes = search rules in
    sizes g.count (omega arith) g.ends (subst (Blank page) e c.in_default.ensures)
    (λ x h s. c.if-not-fits.ensures (alike _ c.in_ok-found.field-0.found x _ (found page g.count _ x g.ends.before g.says h) holds s))
    g.end
