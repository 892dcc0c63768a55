use Rattle.std.proofs.Common.{◌≡◌, length, take, drop}
use Rattle.label.specs.declared.Sizes.{Sizes}
use Rattle.runs.specs.Ledger.{blank}
use Rattle.runs.proofs.Standing.{Inv}
use Rattle.runs.proofs.Chaining.{Running}
use Rattle.runs.proofs.run.run_calls.Given as goal

-- the calls that were made so far are a run, from what the format left
abbrev pub invariant-loop-k : goal.invariant-loop-k
invariant-loop-k g l =
    let flash = g.C.Chip.flash in
    (length l.buffer ≡ length l.initial.buffer)
    × (length l.answers ≡ length l.initial.answers)
    × (drop l.k l.answers ≡ drop l.k l.initial.answers)
    × ((z : Sizes) → Inv z (flash l.initial.engine.chip) l.initial.engine.memory blank → Running (length l.initial.buffer) z (flash l.initial.engine.chip) l.initial.engine.memory (take l.k l.calls) (take l.k l.answers) (flash l.engine.chip) l.engine.memory)
