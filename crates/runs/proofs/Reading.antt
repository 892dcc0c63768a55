-- A read and a report leave the volume and the ledger, and a read shows what the ledger says.
use Rattle.std.proofs.Common.{◌≡◌, ℕ, ◌<◌, Bool, true, false, List, ◌++◌, Result, sym, ap, ◌∙◌, subst}
use Rattle.chip.specs.Flash.{Flash}
use Rattle.label.specs.declared.Sizes.{Sizes}
use Rattle.ring.specs.declared.Sector.{Sector}
use Rattle.ring.specs.Logs.{Entry, holds, log_of}
use Rattle.image.specs.Surveys.{Shown}
use Rattle.laid.proofs.Carrying.{claimed_laid, log_laid}
use Rattle.holding.specs.Puts.{filled_puts}
use Rattle.holding.proofs.Closing.{holds_open}
use Rattle.engine.specs.declared.memory.Memory.{Memory}
use Rattle.engine.specs.declared.memory.Started.{Started}
use Rattle.engine.specs.declared.refusal.Refusal.{Refusal}
use Rattle.engine.specs.declared.sector.Report.{Report}
use Rattle.engine.specs.Memories.{sizes_of, cleared_of, claimed_of}
use Rattle.engine.specs.Calls as calls
use Rattle.engine.specs.Calls.{Reads, Reports}
use Rattle.runs.specs.declared.run.Call.TheVariants as call
use Rattle.runs.specs.Ledger.{Ledger}
use Rattle.runs.specs.Runs.{shown, told}
use Rattle.runs.specs.Law.{Agrees}
use Rattle.runs.proofs.Standing.{Stands, Inv, Next}
use Rattle.runs.proofs.Common.{kept_of}

-- the log that a started volume reads is that of its entries
pub log_stands : {z : Sizes} {s : Flash} {st : Started} {l : Ledger} (h : Stands z s st l) → log_of s (sizes_of st) (cleared_of st) (claimed_of st) ≡ h.ended_entries ++ filled_puts h.puts
log_stands {z} {s} {st} {l} h =
    let es : List Entry = h.ended_entries ++ filled_puts h.puts in
    ap (λ (y : Sizes). log_of s y (cleared_of st) (claimed_of st)) h.sizes
    ∙ ap (log_of s z (cleared_of st)) (h.count ∙ sym (claimed_laid s z (cleared_of st) es h.sane.laid))
    ∙ log_laid s z (cleared_of st) es h.sane.laid

-- so that every sector holds what the ledger says
pub holds_stands : {z : Sizes} {s : Flash} {st : Started} {l : Ledger} → Stands z s st l → (x : ℕ) → holds x (log_of s (sizes_of st) (cleared_of st) (claimed_of st)) ≡ l.sectors x
holds_stands h x = ap (holds x) (log_stands h) ∙ holds_open x h.ended_entries h.puts ∙ h.same x

-- and what is shown of a sector agrees with the ledger
pub shown_agrees : {z : Sizes} {s : Flash} {st : Started} {l : Ledger} → Stands z s st l → (x : ℕ) (found : Bool) (page : List ℕ) → Shown s st.log x found page → Agrees found page (l.sectors x)
shown_agrees h x true page is = sym (holds_stands h x) ∙ is
shown_agrees h x false page is = (sym (holds_stands h x) ∙ is.0, is.1)

-- a read
pub next_read : {z : Sizes} {s : Flash} {m : Memory} {l : Ledger} {x : Sector} {len : ℕ} {old new : List ℕ} {r : Result Bool Refusal} → Inv z s m l → Reads x.0 s m old r new → Next z s m l (call.Read x len) (shown r new) s m
next_read inv (calls.stopped e stopped) = record { choice = false; inv = inv; meets = tt; promised = tt }
next_read inv (calls.no_page e serves short) = record { choice = false; inv = inv; meets = tt; promised = tt }
next_read inv (calls.sector e serves whole large) = record { choice = false; inv = inv; meets = tt; promised = tt }
next_read {z} {s} {m} {l} {x} inv (calls.done {st} {found} {new} serves whole inside is) =
    let h : Stands z s st l = kept_of inv serves.started in
    record {
      choice = false;
      inv = inv;
      meets = (subst (λ (y : Sizes). x.0 < y.sectors) h.sizes inside, shown_agrees h x.0 found new is);
      promised = tt;
    }

-- a report
pub next_report : {z : Sizes} {s : Flash} {m : Memory} {l : Ledger} {r : Result Report Refusal} → Inv z s m l → Reports s m r → Next z s m l call.Report (told r) s m
next_report inv h = record { choice = false; inv = inv; meets = tt; promised = tt }
