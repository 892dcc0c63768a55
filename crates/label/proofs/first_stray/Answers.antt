-- What is found in the rest of a page, as it stands in the page.
use Rattle.std.proofs.Common.{◌≡◌, ℕ, ◌+◌, ◌-◌, ◌<◌, ◌≤◌, List, length, get_or, drop, sym, ap, ◌∙◌, arith, length-drop, rules}
use Rattle.std.proofs.lemmas.List.{get_or-drop, take_rest}
use Rattle.label.specs.Labels.{Blank, Stray}
use Rattle.label.proofs.first_stray.Goals as goal

-- a byte of the rest is one of the page
behind : (page : List ℕ) (from o : ℕ) → from ≤ o → get_or (drop from page) (o - from) 0 ≡ get_or page o 0
behind page from o le = let i : from + (o - from) ≡ o = omega arith in get_or-drop from page (o - from) 0 ∙ ap (λ k. get_or page k 0) i

blank : (page : List ℕ) (from : ℕ) → ((k : ℕ) → k < length (drop from page) → get_or (drop from page) k 0 ≡ 255) → Blank page from
blank page from h = λ o le lt. sym (behind page from o le) ∙ h (o - from) (omega (arith, length-drop from page))

found : (page : List ℕ) (from k : ℕ) → k < length (drop from page) → ((j : ℕ) → j < k → get_or (drop from page) j 0 ≡ 255) → (get_or (drop from page) k 0 ≡ 255 → ⊥) → Stray page from (from + k)
found page from k lt before here =
    let there = get_or-drop from page k 0 in
    record {
      behind = omega arith;
      inside = omega (arith, length-drop from page);
      first = λ o le less. sym (behind page from o le) ∙ before (o - from) (omega arith);
      marked = λ e. here (there ∙ e);
    }

pub returns-in_err-skipped : goal.returns-in_err-skipped
returns-in_err-skipped c =
    let rest : c.in_ok-get.field-0.now ≡ drop c.args.from c.args.page.now = search (rules, take_rest) in
    let all : (k : ℕ) → k < length c.in_ok-get.field-0.now → get_or c.in_ok-get.field-0.now k 0 ≡ 255 = search rules in
    rw c.from_residual-in_err-skipped.ensures (blank c.args.page.now c.args.from (rw rest at all))

pub returns : goal.returns
returns c =
    let rest : c.in_ok-get.field-0.now ≡ drop c.args.from c.args.page.now = search (rules, take_rest) in
    let k = c.in_ok-skipped.skipped in
    let lt : k < length c.in_ok-get.field-0.now = search rules in
    let before : (j : ℕ) → j < k → get_or c.in_ok-get.field-0.now j 0 ≡ 255 = search rules in
    let here : get_or c.in_ok-get.field-0.now k 0 ≡ 255 → ⊥ = search rules in
    found c.args.page.now c.args.from k (rw rest at lt) (rw rest at before) (rw rest at here)
