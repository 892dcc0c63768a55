-- What a read showed of a sector is what it holds after a later start, if no turn between them overwrote it.
use Rattle.std.proofs.Common.{◌≡◌, ℕ, ◌<◌, Bool, true, false, cond, ◌||◌, eqb, List, [], ◌∷◌, ◌++◌, Some, Ok, Err, Option, sym, refl, ap, ◌∙◌, subst}
use Rattle.std.proofs.lemmas.Bool.{eqb-true}
use Rattle.chip.specs.Flash.{Flash}
use Rattle.label.specs.declared.Sizes.{Sizes}
use Rattle.ring.specs.declared.Sector.{Sector}
use Rattle.holding.specs.Puts.{Put, wrote}
use Rattle.engine.specs.declared.memory.Memory.{Memory}
use Rattle.engine.specs.Refusals.{row}
use Rattle.runs.specs.declared.run.Call.{Call}
use Rattle.runs.specs.declared.run.Call.TheVariants as call
use Rattle.runs.specs.declared.run.Reply.TheVariants as reply
use Rattle.runs.specs.Ledger.{Ledger, puts_of, over, written, is_cut, enter, puts_to, Answer}
use Rattle.runs.specs.Law.{Turn, holding, Agrees, Meets, Chain, more, Overwrites, Spared, Recalls}

-- puts to other sectors leave what a sector holds
pub wrote_still : (x : ℕ) (old : Option (List ℕ)) (ps : List Put) → (puts_to x ps ≡ true → ⊥) → wrote x old ps ≡ old
wrote_still x old [] h = refl
wrote_still x old (p ∷ ps) h = step (eqb p.sector x) h (wrote_still x old ps)
  where
    step : (b : Bool) → ((b || puts_to x ps) ≡ true → ⊥) → ((puts_to x ps ≡ true → ⊥) → wrote x old ps ≡ old) → wrote x (cond b (Some p.page) old) ps ≡ old
    step true h rest = absurd (h refl)
    step false h rest = rest h

-- a batch that ends for nothing changes no sector
over_still : (b : Bool) (l : Ledger) (x : ℕ) → (cond b (over l) l).sectors x ≡ l.sectors x
over_still true l x = refl
over_still false l x = refl

-- a close that is cut changes no sector without a put
cut_still : (b all : Bool) (l : Ledger) (x : ℕ) → (b ≡ true → puts_to x (puts_of l.batch) ≡ true → ⊥) → (cond b (cond all (written l) (over l)) l).sectors x ≡ l.sectors x
cut_still true true l x h = wrote_still x (l.sectors x) (puts_of l.batch) (h refl)
cut_still true false l x h = refl
cut_still false all l x h = refl

-- a turn that does not overwrite a sector leaves what the ledger says of it
pub enter_still : (all : Bool) (l : Ledger) (x : ℕ) (c : Call) (a : Answer) → (Overwrites l x c a → ⊥) → (enter all l c a).sectors x ≡ l.sectors x
enter_still all l x call.Start a h = refl
enter_still all l x (call.Open n) (Ok reply.Done) h = refl
enter_still all l x (call.Open n) (Ok (reply.Opened k)) h = refl
enter_still all l x (call.Open n) (Ok (reply.Shown found page)) h = refl
enter_still all l x (call.Open n) (Ok (reply.Figures f)) h = refl
enter_still all l x (call.Open n) (Err e) h = refl
enter_still all l x (call.Put n y page) (Ok reply.Done) h = refl
enter_still all l x (call.Put n y page) (Ok (reply.Opened k)) h = refl
enter_still all l x (call.Put n y page) (Ok (reply.Shown found shown)) h = refl
enter_still all l x (call.Put n y page) (Ok (reply.Figures f)) h = refl
enter_still all l x (call.Put n y page) (Err e) h = over_still (is_cut e) l x
enter_still all l x (call.Close n) (Ok reply.Done) h = wrote_still x (l.sectors x) (puts_of l.batch) h
enter_still all l x (call.Close n) (Ok (reply.Opened k)) h = refl
enter_still all l x (call.Close n) (Ok (reply.Shown found page)) h = refl
enter_still all l x (call.Close n) (Ok (reply.Figures f)) h = refl
enter_still all l x (call.Close n) (Err e) h = cut_still (is_cut e) all l x (λ cut to. h (eqb-true (row e) 13 cut, to))
enter_still all l x (call.Drop n) (Ok reply.Done) h = refl
enter_still all l x (call.Drop n) (Ok (reply.Opened k)) h = refl
enter_still all l x (call.Drop n) (Ok (reply.Shown found page)) h = refl
enter_still all l x (call.Drop n) (Ok (reply.Figures f)) h = refl
enter_still all l x (call.Drop n) (Err e) h = over_still (is_cut e) l x
enter_still all l x (call.Read y len) a h = refl
enter_still all l x call.Report a h = refl

module _ {room : ℕ} {z : Sizes} (starts : Turn) (after : List Turn) (x : Sector) (found : Bool) (page : List ℕ) (is-start : starts.call ≡ call.Start) (is-done : starts.answer ≡ Ok reply.Done) where
  -- from what the ledger says of a sector to what it holds after the start
  from_ledger : {s t : Flash} {m w : Memory} {l : Ledger} (between : List Turn) → Spared x.0 l between → x.0 < z.sectors → Agrees found page (l.sectors x.0) → Chain room z s m l (between ++ (starts ∷ after)) t w → Agrees found page (holding z starts.flash x.0)
  from_ledger {s} {t} {m} {w} {l} [] spared inside agrees (more link rest) =
      let meets : Meets z starts.ledger starts.flash call.Start (Ok reply.Done) =
      subst (Meets z starts.ledger starts.flash call.Start) is-done
      (subst (λ (c : Call). Meets z starts.ledger starts.flash c starts.answer) is-start link.meets) in
      let enters : starts.ledger ≡ over l = link.enters ∙ ap (λ (c : Call). enter starts.choice l c starts.answer) is-start in
      subst (Agrees found page) (sym (meets x.0 inside ∙ ap (λ (k : Ledger). k.sectors x.0) enters)) agrees
  from_ledger {s} {t} {m} {w} {l} (turn ∷ turns) spared inside agrees (more link rest) =
      let still : turn.ledger.sectors x.0 ≡ l.sectors x.0 =
      ap (λ (k : Ledger). k.sectors x.0) link.enters
      ∙ enter_still turn.choice l x.0 turn.call turn.answer spared.0 in
      from_ledger turns spared.1 inside (subst (Agrees found page) (sym still) agrees) rest

  -- from the read, which showed what the ledger says
  from_read : {s t : Flash} {m w : Memory} {l : Ledger} (shows : Turn) (len : ℕ) (before between : List Turn) → shows.call ≡ call.Read x len → shows.answer ≡ Ok (reply.Shown found page) → Spared x.0 shows.ledger between → Chain room z s m l (before ++ (shows ∷ (between ++ (starts ∷ after)))) t w → Agrees found page (holding z starts.flash x.0)
  from_read shows len [] between is_read is-shown spared (more link rest) =
      let meets : Meets z shows.ledger shows.flash (call.Read x len) (Ok (reply.Shown found page)) =
      subst (Meets z shows.ledger shows.flash (call.Read x len)) is-shown
      (subst (λ (c : Call). Meets z shows.ledger shows.flash c shows.answer) is_read link.meets) in
      from_ledger between spared meets.0 meets.1 rest
  from_read shows len (turn ∷ turns) between is_read is-shown spared (more link rest) =
      from_read shows len turns between is_read is-shown spared rest

-- a chain recalls what its reads showed
pub recalled : {room : ℕ} {z : Sizes} {s t : Flash} {m w : Memory} {l : Ledger} {turns : List Turn} → Chain room z s m l turns t w → Recalls z turns
recalled {room} {z} {s} {t} {m} {w} {l} chain before between after shows starts x len found page parts is_read is-shown is-start is-done spared =
    from_read starts after x found page is-start is-done shows len before between is_read is-shown spared
    (subst (λ (ts : List Turn). Chain room z s m l ts t w) parts chain)
