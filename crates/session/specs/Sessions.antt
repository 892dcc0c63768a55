-- What a bench session makes of a line.
use Rattle.std.specs.Prelude.{◌≡◌, ℕ, List, [], Some, None, Option, Result}
use Rattle.chip.specs.Flash.{Flash}
use Rattle.bench_chip.specs.declared.Plan as bench
use Rattle.script.specs.declared.Line.{Line}
use Rattle.script.specs.declared.Line.TheVariants.{Plan, Format}
use Rattle.script.specs.Script.{Says}
use Rattle.engine.specs.declared.refusal.Refusal.{Refusal}
use Rattle.engine.specs.Formats.{Formats}
use Rattle.session.specs.declared.reply.Reply.{Reply}
use Rattle.session.specs.declared.reply.Reply.TheVariants.{Served, Unknown}

-- the plan that a line gives
abbrev pub Planned : List ℕ → Option bench.Plan → Type 0
Planned text None = (step mask : ℕ) → Says text (Plan step mask) → ⊥
Planned text (Some p) = Says text (Plan p.step p.mask)

-- the reply to a call that has no result but that it was served
abbrev pub reply : ℕ → Result (Unit {0}) Refusal → Reply
reply letter answer = Served letter answer

-- a format was carried out, with one tally block and no name, and the reply is its answer
pub record Formatting (sectors : ℕ) (s : Flash) (r : Reply) (t : Flash) : Type 0 where
  pub answer : Result (Unit {0}) Refusal
  pub formats : Formats sectors 1 [] s answer t
  pub says : r ≡ reply 102 answer

-- what is made of a line: a plan comes too late, and a format is carried out
abbrev pub Does : Line → Flash → Reply → Flash → Type 0
Does (Plan step mask) s r t = (r ≡ Unknown) × (t ≡ s)
Does (Format sectors) s r t = Formatting sectors s r t

-- the answer to a line: what it says is done; a line that says nothing changes nothing
pub data Serves (text : List ℕ) (s : Flash) (r : Reply) (t : Flash) : Type 0 where
  served : (x : Line) → Says text x → Does x s r t → Serves text s r t
  unknown : ((x : Line) → Says text x → ⊥) → r ≡ Unknown → t ≡ s → Serves text s r t
