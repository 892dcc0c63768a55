-- What a bench chip does beyond what any chip does: which step it cuts, what is left of its plan, and which bytes its
-- image then has.
use Rattle.std.specs.Prelude.{◌≡◌, ℕ, ◌+◌, ◌-◌, ◌*◌, Bool, true, false, cond, List, length, Ok, Err, Result, nat_eq}
use Rattle.chip.specs.declared.Fault.{Fault}
use Rattle.chip.specs.declared.Fault.TheVariants.{Range, NoPower, Cut}
use Rattle.chip.specs.Flash.{Flash}
use Rattle.rows.specs.Rows.{flash_of, Masked, Filled}
use Rattle.bench_chip.specs.declared.Plan.{Plan}
use Rattle.bench_chip.specs.declared.Bench.{Bench}

-- the flash that the chip is
abbrev pub shown : Bench → Flash
shown c = flash_of c.image.now c.on c.name

-- the plan once another step is begun; one whose step was cut is spent
abbrev pub next : Plan → Plan
next p = record { step = p.step - 1; mask = p.mask }

-- a call that begins no step keeps the bytes, the name and the plan
pub record Idle (s t : Bench) : Type 0 where
  pub image : t.image.now ≡ s.image.now
  pub name : t.name ≡ s.name
  pub plan : t.plan ≡ s.plan

-- a step that is begun, by whether it is cut: what it leaves beside the bytes
pub record Began (s : Bench) (cut : Bool) (t : Bench) : Type 0 where
  pub told : nat_eq s.plan.step 1 ≡ cut
  pub name : t.name ≡ s.name
  pub on : t.on ≡ cond cut false s.on
  pub plan : t.plan ≡ next s.plan

-- a program, by its answer: one that is cut spares the ones of the mask
abbrev pub Programs : ℕ → ℕ → List ℕ → Bench → Result (Unit {0}) Fault → Bench → Type 0
Programs b at given s (Ok _) t = Began s false t × Masked s.image.now (b * 4096 + at) (length given) given 0 t.image.now
Programs b at given s (Err (Cut _)) t = Began s true t × Masked s.image.now (b * 4096 + at) (length given) given s.plan.mask t.image.now
Programs b at given s (Err Range) t = Idle s t
Programs b at given s (Err NoPower) t = Idle s t

-- an erase, by its answer: one that is cut leaves the mask in every byte of the block
abbrev pub Erases : ℕ → Bench → Result (Unit {0}) Fault → Bench → Type 0
Erases b s (Ok _) t = Began s false t × Filled s.image.now (b * 4096) 4096 255 t.image.now
Erases b s (Err (Cut _)) t = Began s true t × Filled s.image.now (b * 4096) 4096 s.plan.mask t.image.now
Erases b s (Err Range) t = Idle s t
Erases b s (Err NoPower) t = Idle s t
