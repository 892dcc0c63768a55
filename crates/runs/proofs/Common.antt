-- What the invariant gives for every call.
use mathlib.Core.Path.{◌≡◌, sym, subst, ◌∙◌}
use mathlib.Core.List.{List, ◌++◌}
use Prim.Native.Nat.{ℕ, ◌*◌, ◌≤◌}
use native.Mathlib.Omega.{arith}
use Rattle.std.specs.declared.option.Option.{Option}
use Rattle.std.specs.declared.option.Option.TheVariants.{Some}
use Rattle.chip.specs.Flash.{Flash}
use Rattle.label.specs.declared.Sizes.{Sizes}
use Rattle.label.specs.Labels.{Sized, Good}
use Rattle.image.specs.Fronts.{front_page, LabelledBy}
use Rattle.laid.proofs.Frames.{row_same}
use Rattle.holding.specs.Puts.{filled_puts}
use Rattle.holding.proofs.Closing.{holds_open}
use Rattle.keeping.specs.Carries.{Carries}
use Rattle.engine.specs.declared.memory.Started.{Started}
use Rattle.engine.specs.declared.memory.Memory.{Memory}
use Rattle.engine.specs.Memories.{Fits, Serves, cleared_of, claimed_of}
use Rattle.runs.specs.Ledger.{Ledger}
use Rattle.runs.proofs.Standing.{Stands, Kept, Inv}

-- a volume that is started stands
pub kept_of : {z : Sizes} {s : Flash} {m : Memory} {l : Ledger} {st : Started} → Inv z s m l → m.started ≡ Some st → Stands z s st l
kept_of {z} {s} {m} {l} inv e = subst (λ (o : Option Started). Kept z s o l) e inv.kept

-- and carries what the ledger says
pub carries_of : {z : Sizes} {s : Flash} {st : Started} {l : Ledger} → Stands z s st l → Carries s z l.sectors
carries_of {z} {s} {st} {l} h = record {
  cleared = cleared_of st;
  entries = h.ended_entries ++ filled_puts h.puts;
  shaped = h.shaped;
  sane = h.sane;
  holds = λ x. holds_open x h.ended_entries h.puts ∙ h.same x;
}

-- its log fits the chip, so that it serves
pub fits_of : {z : Sizes} {s : Flash} {st : Started} {l : Ledger} → Sized s.blocks z → Stands z s st l → Fits s st.log
fits_of {z} {s} {st} {l} sized h = record {
  power = h.power;
  sized = subst (Sized s.blocks) (sym h.sizes) sized;
  bits = subst (λ (y : Sizes). cleared_of st ≤ 32768 * y.tally) (sym h.sizes) h.sane.laid.bits;
  even = h.even;
  inside = subst (λ (y : Sizes). claimed_of st ≤ 7 * y.ring) (sym h.sizes) (omega (arith, h.count, h.sane.laid.room, h.even));
}

pub serves_of : {z : Sizes} {s : Flash} {m : Memory} {l : Ledger} {st : Started} → Inv z s m l → m.started ≡ Some st → Serves s m st
serves_of inv e = record { started = e; fits = fits_of inv.sized (kept_of inv e) }

-- a chip whose block 0 has the same bytes has the same label
pub label_kept : {z : Sizes} (s t : Flash) → t.blocks ≡ s.blocks → ((o : ℕ) → t.byte 0 o ≡ s.byte 0 o) → LabelledBy s z → LabelledBy t z
label_kept {z} s t blocks bytes h =
    let page : front_page s ≡ front_page t = row_same (s.byte 0) (t.byte 0) 512 0 (λ o lt. sym (bytes o)) in
    record {
      label = h.label;
      good = subst (λ (n : ℕ). Good (front_page t) n h.label) (sym blocks) (subst (λ (p : List ℕ). Good p s.blocks h.label) page h.good);
      same = h.same;
    }

pub sized_kept : {z : Sizes} (s t : Flash) → t.blocks ≡ s.blocks → Sized s.blocks z → Sized t.blocks z
sized_kept {z} s t blocks h = subst (λ (n : ℕ). Sized n z) (sym blocks) h
