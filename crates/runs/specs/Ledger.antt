-- The ledger: a small machine that is fed with calls and their answers, and says what every sector holds. It knows no
-- image. A close that was cut counts for all of its batch or for nothing; which of the two is a choice, made once.
use Rattle.std.specs.Prelude.{ℕ, Bool, false, cond, ◌||◌, List, [], ◌∷◌, ◌++◌, Some, None, Ok, Err, Option, Result, ◌==◌}
use Rattle.holding.specs.Puts.{Put, wrote}
use Rattle.engine.specs.declared.refusal.Refusal.{Refusal}
use Rattle.engine.specs.Refusals.{row}
use Rattle.runs.specs.declared.run.Call.{Call}
use Rattle.runs.specs.declared.run.Call.TheVariants as call
use Rattle.runs.specs.declared.run.Reply.{Reply}
use Rattle.runs.specs.declared.run.Reply.TheVariants as reply

-- what a call answered: a reply, or a refusal
abbrev pub Answer : Type 0
Answer = Result Reply Refusal

-- every sector's page, or none; and the puts of the open batch, in order
pub record Ledger : Type 0 where
  pub sectors : ℕ → Option (List ℕ)
  pub batch : Option (List Put)

-- after a format: all unwritten, and no batch
abbrev pub blank : Ledger
blank = record { sectors = λ _. None; batch = None }

abbrev pub puts_of : Option (List Put) → List Put
puts_of None = []
puts_of (Some ps) = ps

-- a batch begins; a put joins it; it ends for nothing; it ends, and its puts are written in order
abbrev pub began : Ledger → Ledger
began l = record { sectors = l.sectors; batch = Some [] }

abbrev pub joined : Ledger → Put → Ledger
joined l p = record { sectors = l.sectors; batch = Some (puts_of l.batch ++ (p ∷ [])) }

abbrev pub over : Ledger → Ledger
over l = record { sectors = l.sectors; batch = None }

abbrev pub written : Ledger → Ledger
written l = record { sectors = λ x. wrote x (l.sectors x) (puts_of l.batch); batch = None }

-- whether power failed in a call that was refused so
abbrev pub is_cut : Refusal → Bool
is_cut e = row e == 13

abbrev after_open : Ledger → Answer → Ledger
after_open l (Ok reply.Done) = l
after_open l (Ok (reply.Opened k)) = began l
after_open l (Ok (reply.Shown found page)) = l
after_open l (Ok (reply.Figures f)) = l
after_open l (Err e) = l

abbrev after_put : Ledger → Put → Answer → Ledger
after_put l p (Ok reply.Done) = joined l p
after_put l p (Ok (reply.Opened k)) = l
after_put l p (Ok (reply.Shown found page)) = l
after_put l p (Ok (reply.Figures f)) = l
after_put l p (Err e) = cond (is_cut e) (over l) l

abbrev after_close : Bool → Ledger → Answer → Ledger
after_close all l (Ok reply.Done) = written l
after_close all l (Ok (reply.Opened k)) = l
after_close all l (Ok (reply.Shown found page)) = l
after_close all l (Ok (reply.Figures f)) = l
after_close all l (Err e) = cond (is_cut e) (cond all (written l) (over l)) l

abbrev after_drop : Ledger → Answer → Ledger
after_drop l (Ok reply.Done) = over l
after_drop l (Ok (reply.Opened k)) = l
after_drop l (Ok (reply.Shown found page)) = l
after_drop l (Ok (reply.Figures f)) = l
after_drop l (Err e) = cond (is_cut e) (over l) l

-- the ledger after a call and its answer; `all` is the choice for a close that was cut
abbrev pub enter : Bool → Ledger → Call → Answer → Ledger
enter all l call.Start a = over l
enter all l (call.Open n) a = after_open l a
enter all l (call.Put n x page) a = after_put l record { sector = x.0; page = page.now } a
enter all l (call.Close n) a = after_close all l a
enter all l (call.Drop n) a = after_drop l a
enter all l (call.Read x len) a = l
enter all l call.Report a = l

-- whether some puts have one to the sector x
abbrev pub puts_to : ℕ → List Put → Bool
puts_to x [] = false
puts_to x (p ∷ ps) = p.sector == x || puts_to x ps
