use Rattle.std.proofs.Common.{◌≡◌, ℕ, ◌<◌, ◌≤◌, get_or, take}
use Rattle.script.specs.Script.{value}
use Rattle.script.proofs.number.Given as goal

abbrev pub invariant-loop-b : goal.invariant-loop-b
invariant-loop-b l = (l.n ≡ value (take l.b-index l.s)) × ((k : ℕ) → k < l.b-index → (48 ≤ get_or l.s k 0) × (get_or l.s k 0 ≤ 57)) × (l.n < 65536)
