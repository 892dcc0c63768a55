-- Chains of turns, and runs, with one more turn at the end.
use Rattle.std.proofs.Common.{◌≡◌, ℕ, List, [], ◌∷◌, ◌++◌, sym, refl, ap, ◌∙◌, subst}
use mathlib.Core.List.{map-append}
use Rattle.chip.specs.Flash.{Flash}
use Rattle.label.specs.declared.Sizes.{Sizes}
use Rattle.engine.specs.declared.memory.Memory.{Memory}
use Rattle.runs.specs.declared.run.Call.{Call}
use Rattle.runs.specs.Ledger.{Ledger, blank, enter, Answer}
use Rattle.runs.specs.Runs.{Calls}
use Rattle.runs.specs.Law.{Turn, Link, Chain, none, more, call_of, answer_of, Ran}
use Rattle.runs.proofs.Common.{serves_of}
use Rattle.runs.proofs.Standing.{Inv, Next}
use Rattle.runs.proofs.Recalling.{recalled}

-- the ledger at the end of some turns, from the one before the first
abbrev pub last_ledger : Ledger → List Turn → Ledger
last_ledger l [] = l
last_ledger l (t ∷ ts) = last_ledger t.ledger ts

-- with one more turn it is that turn's
pub last_more : (l : Ledger) (turns : List Turn) (turn : Turn) → last_ledger l (turns ++ (turn ∷ [])) ≡ turn.ledger
last_more l [] turn = refl
last_more l (t ∷ ts) turn = last_more t.ledger ts turn

-- a chain goes on with a turn that follows its end
pub chain_more : {room : ℕ} {z : Sizes} {s t : Flash} {m w : Memory} {l : Ledger} {turns : List Turn} → Chain room z s m l turns t w → (turn : Turn) → Link room z t w (last_ledger l turns) turn → Chain room z s m l (turns ++ (turn ∷ [])) turn.flash turn.memory
chain_more none turn link = more link none
chain_more (more first rest) turn link = more first (chain_more rest turn link)

-- a run, and the invariant at its end
pub record Running (room : ℕ) (z : Sizes) (s : Flash) (m : Memory) (calls : List Call) (answers : List Answer) (t : Flash) (w : Memory) : Type 0 where
  pub ran : Ran room z s m calls answers t w
  pub inv : Inv z t w (last_ledger blank ran.turns)

-- before the first call
pub running_none : {room : ℕ} {z : Sizes} {s : Flash} {m : Memory} → Inv z s m blank → Running room z s m [] [] s m
running_none {room} {z} {s} {m} inv =
    let chain : Chain room z s m blank [] s m = none in
    record {
      ran = record { turns = []; called = refl; answered = refl; chain = chain; recalls = recalled chain };
      inv = inv;
    }

-- one call more
pub running_more : {room : ℕ} {z : Sizes} {s t u : Flash} {m w v : Memory} {calls : List Call} {answers : List Answer} {call : Call} {answer : Answer} (run : Running room z s m calls answers t w) → Calls room t w call answer u v → Next z t w (last_ledger blank run.ran.turns) call answer u v → Running room z s m (calls ++ (call ∷ [])) (answers ++ (answer ∷ [])) u v
running_more {room} {z} {s} {t} {u} {m} {w} {v} {calls} {answers} {call} {answer} run does next =
    let ran : Ran room z s m calls answers t w = run.ran in
    let turns : List Turn = ran.turns in
    let before : Ledger = last_ledger blank turns in
    let turn : Turn = record { call = call; answer = answer; flash = u; memory = v; ledger = enter next.choice before call answer; choice = next.choice } in
    let link : Link room z t w before turn = record { serves = λ st e. serves_of run.inv e; does = does; enters = refl; meets = next.meets; promised = next.promised } in
    let chain : Chain room z s m blank (turns ++ (turn ∷ [])) u v = chain_more ran.chain turn link in
    record {
      ran = record {
        turns = turns ++ (turn ∷ []);
        called = map-append call_of turns (turn ∷ []) ∙ ap (λ (l : List Call). l ++ (call ∷ [])) ran.called;
        answered = map-append answer_of turns (turn ∷ []) ∙ ap (λ (l : List Answer). l ++ (answer ∷ [])) ran.answered;
        chain = chain;
        recalls = recalled chain;
      };
      inv = subst (Inv z u v) (sym (last_more blank turns turn)) next.inv;
    }
