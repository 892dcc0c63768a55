-- The mask of a bit has a 1 in every place but its own.
use Rattle.std.proofs.Common.{ℕ, ◌+◌, ◌-◌, ◌/◌, ◌%◌, [], ◌∷◌, subst, arith}
use Rattle.chip.specs.Steps.{program, Answers}
use Rattle.writes.proofs.Masks.{moved_down}
use Rattle.writes.proofs.step.clear_bit.Goals as goal

pub returns : goal.returns
returns g c =
    let flash = g.C.Chip.flash in
    let i = c.args.bit in
    let P : ℕ → Type 0 = λ m. Answers (program (1 + i / 8 / 4096) (i / 8 % 4096) 1 ((255 - m) ∷ [])) (flash c.args.chip.now) c.program.result (flash c.program.new.self) in
    subst P (moved_down (i % 8) (omega arith)) c.program.ensures
