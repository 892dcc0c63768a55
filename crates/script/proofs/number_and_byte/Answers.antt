-- Where a part is missing, no two numbers are there.
use Rattle.std.proofs.Common.{◌≡◌, ◌∷◌, rules}
use Rattle.script.proofs.Lines.{none_cut, sides}
use Rattle.script.proofs.number_and_byte.Goals as goal

pub returns-in_err-x : goal.returns-in_err-x
returns-in_err-x c =
    let e : c.args.s.now ≡ 32 ∷ c.in_ok-strip_prefix.field-0.now = search rules in
    rw c.from_residual-in_err-x.ensures (none_cut _ _ e c.in_err-x.ensures)

pub returns-in_err-number : goal.returns-in_err-number
returns-in_err-number c =
    let e : c.args.s.now ≡ 32 ∷ c.in_ok-strip_prefix.field-0.now = search rules in
    let p = c.in_ok-x.ensures in
    rw c.from_residual-in_err-number.ensures (λ a b t. c.in_err-number.ensures (sides _ _ _ _ e p.0 p.1 a b t).0)

pub returns-in_err-small_number : goal.returns-in_err-small_number
returns-in_err-small_number c =
    let e : c.args.s.now ≡ 32 ∷ c.in_ok-strip_prefix.field-0.now = search rules in
    let p = c.in_ok-x.ensures in
    rw c.from_residual-in_err-small_number.ensures (λ a b t. c.in_err-small_number.ensures (sides _ _ _ _ e p.0 p.1 a b t).1)
