-- A number that grows beyond its type is too large as a whole, since more digits write no smaller one.
use Rattle.std.proofs.Common.{ℕ, ◌+◌, ◌≤◌, List, [], ◌∷◌, take, drop, fold, ap, arith, take-append-drop}
use Rattle.std.proofs.lemmas.List.Sums.{fold_more, fold-append}
use Rattle.script.specs.Script.{value, digit_on}
use Rattle.script.proofs.number.Goals as goal

grows : (a : ℕ) (s : List ℕ) → a ≤ fold digit_on a s
grows a [] = omega arith
grows a (b ∷ s) = omega (arith, grows (digit_on a b) s)

front_le : (i : ℕ) (s : List ℕ) → value (take i s) ≤ value s
front_le i s = omega (arith, grows (value (take i s)) (drop i s), fold-append digit_on 0 (take i s) (drop i s), ap value (take-append-drop i s))

pub returns-in_err-checked_mul : goal.returns-in_err-checked_mul
returns-in_err-checked_mul c =
    let s = c.args.s.now in
    let more = fold_more digit_on 0 s c.loop-b.b-index 0 c.loop-b-test.true in
    let le = front_le (c.loop-b.b-index + 1) s in
    rw c.from_residual.ensures (λ h. omega (arith, h.2, c.loop-b.invariant.0, c.in_err-checked_mul.ensures))

pub returns-in_err-n : goal.returns-in_err-n
returns-in_err-n c =
    let s = c.args.s.now in
    let more = fold_more digit_on 0 s c.loop-b.b-index 0 c.loop-b-test.true in
    let le = front_le (c.loop-b.b-index + 1) s in
    rw c.from_residual-in_err-n.ensures (λ h. omega (arith, h.2, c.loop-b.invariant.0, c.from.ensures, c.in_ok-checked_mul.ensures, c.in_err-n.ensures))
