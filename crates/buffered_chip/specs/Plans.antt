-- A plan: which step is cut and how far that comes, what is left of the plan after a call, and which bytes there are then.
use Rattle.std.specs.Prelude.{◌≡◌, ℕ, ◌+◌, ◌-◌, ◌*◌, min, Bool, true, false, cond, List, length, Ok, Err, Result, ◌==◌}
use Rattle.chip.specs.declared.Fault.{Fault}
use Rattle.chip.specs.declared.Fault.TheVariants.{Range, NoPower, Cut}
use Rattle.rows.specs.Rows.{Masked, Filled}
use Rattle.buffered_chip.specs.declared.Plan.{Plan}

-- how many of n bytes the next step finishes
abbrev pub reached : Plan → ℕ → ℕ
reached p n = cond (p.step == 1) (min p.done n) n

-- the plan once another step is begun; one whose step was cut is spent
abbrev pub next : Plan → Plan
next p = record { step = p.step - 1; done = p.done }

-- the plan after a call, by its answer: a step that is refused does not count
abbrev pub counted : Result (Unit {0}) Fault → Plan → Plan
counted (Ok _) p = next p
counted (Err (Cut _)) p = next p
counted (Err Range) p = p
counted (Err NoPower) p = p

-- the power after a call, by its answer
abbrev pub powered : Result (Unit {0}) Fault → Bool → Bool
powered (Ok _) on = on
powered (Err (Cut _)) on = false
powered (Err Range) on = on
powered (Err NoPower) on = on

-- the bytes after a program, by its answer: one that is cut finished the first bytes of its range
abbrev pub Stored : ℕ → ℕ → List ℕ → Plan → List ℕ → Result (Unit {0}) Fault → List ℕ → Type 0
Stored b at given p old (Ok _) new = ((p.step == 1) ≡ false) × Masked old (b * 4096 + at) (length given) given 0 new
Stored b at given p old (Err (Cut _)) new = ((p.step == 1) ≡ true) × Masked old (b * 4096 + at) (min p.done (length given)) given 0 new
Stored b at given p old (Err Range) new = new ≡ old
Stored b at given p old (Err NoPower) new = new ≡ old

-- the bytes after an erase, by its answer: one that is cut filled the first bytes of the block
abbrev pub Wiped : ℕ → Plan → List ℕ → Result (Unit {0}) Fault → List ℕ → Type 0
Wiped b p old (Ok _) new = ((p.step == 1) ≡ false) × Filled old (b * 4096) 4096 255 new
Wiped b p old (Err (Cut _)) new = ((p.step == 1) ≡ true) × Filled old (b * 4096) (min p.done 4096) 255 new
Wiped b p old (Err Range) new = new ≡ old
Wiped b p old (Err NoPower) new = new ≡ old
