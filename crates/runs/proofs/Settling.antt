-- What a call leaves: the invariant of a chip that is told by the log it carries, and what that chip shows.
use Rattle.std.proofs.Common.{◌≡◌, ℕ, ◌-◌, ◌%◌, true, List, [], ◌∷◌, ◌++◌, length, get_or, Some, None, Option, sym, ap, ◌∙◌, subst, append-nil}
use Rattle.chip.specs.Flash.{Flash}
use Rattle.label.specs.declared.Sizes.{Sizes}
use Rattle.label.proofs.Verdicts.{good_sizes}
use Rattle.ring.specs.Places.{positions}
use Rattle.ring.specs.Logs as logs
use Rattle.ring.specs.Logs.{Entry, holds}
use Rattle.ring.specs.Turns.{Shaped}
use Rattle.image.specs.Fronts.{front_page, LabelledBy}
use Rattle.laid.specs.Sane.{Ended, Sane}
use Rattle.laid.proofs.Carrying.{Agrees, sane_lawful}
use Rattle.holding.specs.Puts.{filled_puts}
use Rattle.keeping.proofs.Stills.{Still}
use Rattle.engine.specs.declared.memory.Batch.{Batch}
use Rattle.engine.specs.declared.memory.Memory.{Memory}
use Rattle.ring.specs.declared.layout.Log.{Log}
use Rattle.engine.specs.Memories.{At, halted}
use Rattle.runs.specs.Ledger.{Ledger}
use Rattle.runs.specs.Law.{cleared_on, holding, unclaimed}
use Rattle.runs.proofs.Standing.{Batched, Inv}
use Rattle.runs.proofs.Common.{label_kept, sized_kept}

-- the first number of a refusal
pub first_is : {ns : List ℕ} {k : ℕ} {ks : List ℕ} → ns ≡ k ∷ ks → get_or ns 0 0 ≡ k
first_is is = ap (λ (ns : List ℕ). get_or ns 0 0) is

-- a chip has the sizes of one label
pub sizes_same : (s : Flash) (y z : Sizes) → LabelledBy s y → LabelledBy s z → y ≡ z
sizes_same s y z a b = sym a.same ∙ good_sizes (front_page s) s.blocks a.label b.label a.good b.good ∙ b.same

-- what is read from a chip that carries a log
module _ (t : Flash) (z : Sizes) (c : ℕ) (es : List Entry) (shaped : Shaped z c) (sane : Sane t z c es) where
  reads : Agrees t z c es
  reads = sane_lawful t z c es shaped sane

  pub cleared_is : cleared_on z t ≡ c
  cleared_is = reads.cleared

  pub unclaimed_is : unclaimed z t ≡ positions z c - length es
  unclaimed_is = ap (λ (d : ℕ). logs.unclaimed t z d) cleared_is ∙ ap (λ (q : ℕ). positions z c - q) reads.claimed

  pub holding_is : (x : ℕ) → holding z t x ≡ holds x es
  holding_is x = ap (λ (d : ℕ). holds x (logs.log t z d)) cleared_is ∙ ap (λ (l : List Entry). holds x l) reads.log

-- nothing behind a log
pub behind_nothing : (es : List Entry) → es ≡ es ++ filled_puts []
behind_nothing es = sym (append-nil es)

-- from a chip s to a chip t with the same label, and from a ledger l to a ledger k
module _ {z : Sizes} {s t : Flash} {m : Memory} {l k : Ledger} (inv : Inv z s m l) (blocks : t.blocks ≡ s.blocks) (bytes : (o : ℕ) → t.byte 0 o ≡ s.byte 0 o) where
  -- the volume is not started any more
  pub inv_halted : {es : List Entry} → Still t z es → ((x : ℕ) → holds x es ≡ k.sectors x) → k.batch ≡ None → Inv z t (halted m) k
  inv_halted h says over = record {
    labelled = label_kept s t blocks bytes inv.labelled;
    sized = sized_kept s t blocks inv.sized;
    carries = record {
      cleared = h.cleared;
      entries = h.entries;
      shaped = h.shaped;
      sane = h.sane;
      holds = λ x. h.same x ∙ says x;
    };
    kept = over;
  }

  -- it is started, and no put is in its batch, should it have one
  pub inv_started : {y : Sizes} {d u n : ℕ} {b : Option Batch} {log : Log} (fs : List Entry) → t.on ≡ true → y ≡ z → Shaped z d → Sane t z d fs → d % 2 ≡ 0 → Ended fs → u ≡ length fs → ((x : ℕ) → holds x fs ≡ k.sectors x) → Batched b k.batch [] (positions z d - u) → At log y d u → Inv z t (record { tickets = n; started = Some record { log = log; batch = b } }) k
  inv_started {d = d} fs on sizes shaped sane even ended count says batched here = record {
    labelled = label_kept s t blocks bytes inv.labelled;
    sized = sized_kept s t blocks inv.sized;
    carries = record { cleared = d; entries = fs; shaped = shaped; sane = sane; holds = says };
    kept = record {
      power = on;
      sizes = here.sizes ∙ sizes;
      shaped = rw here.cleared shaped;
      even = rw here.cleared even;
      ended_entries = fs;
      puts = [];
      ended = ended;
      sane = rw here.cleared (subst (Sane t z d) (behind_nothing fs) sane);
      count = here.claimed ∙ count ∙ ap (λ (l : List Entry). length l) (behind_nothing fs);
      same = says;
      batched = rw (here.cleared, here.claimed) batched;
    };
  }
