-- A start of a volume that keeps the invariant: it is accepted unless power fails in it, and then every sector holds what
-- the ledger says.
use Rattle.std.proofs.Common.{◌≡◌, ℕ, ◌≤◌, false, List, length, Ok, Err, Result, sym, refl, ap, ◌∙◌, subst, arith}
use Rattle.chip.specs.declared.Fault.{Fault}
use Rattle.chip.specs.Flash.{Flash, awake}
use Rattle.chip.specs.Steps.{Step}
use Rattle.chip.specs.Plans.{Performs}
use Rattle.chip.proofs.Performed.{performed_frame, performs_on}
use Rattle.label.specs.declared.Sizes.{Sizes}
use Rattle.label.proofs.Verdicts.{good_not_faulty}
use Rattle.ring.specs.Tally.{cleared}
use Rattle.ring.specs.Logs as logs
use Rattle.ring.specs.Logs.{Entry, holds}
use Rattle.ring.specs.Rules as rules
use Rattle.ring.specs.Rules.{Breach, Broken}
use Rattle.ring.specs.declared.layout.Log.{Log}
use Rattle.image.specs.Fronts.{front_page, LabelledBy}
use Rattle.image.specs.Examined.{Sound, Unsound}
use Rattle.laid.specs.Sane.{Sane}
use Rattle.laid.proofs.Frames.{laid_same}
use Rattle.laid.proofs.Carrying.{Agrees, sane_lawful}
use Rattle.slots.proofs.Besides.{front_kept}
use Rattle.upkeep.specs.Repairs.{Repairs}
use Rattle.keeping.proofs.Stills.{Still}
use Rattle.keeping.proofs.Repairing.{Repaired, repaired, repaired_cut, past_repairs}
use Rattle.engine.specs.declared.memory.Memory.{Memory}
use Rattle.engine.specs.declared.refusal.Refusal.{Refusal}
use Rattle.engine.specs.Refusals.{row}
use Rattle.engine.specs.Memories.{At, halted, idle}
use Rattle.engine.specs.Calls as calls
use Rattle.engine.specs.Calls.{Starts}
use Rattle.runs.specs.declared.run.Call.TheVariants as call
use Rattle.runs.specs.declared.run.Reply.TheVariants as reply
use Rattle.runs.specs.Ledger.{Ledger}
use Rattle.runs.specs.Runs.{said}
use Rattle.runs.proofs.Standing.{Inv, Next}
use Rattle.runs.proofs.Settling.{first_is, sizes_same, holding_is, inv_halted, inv_started}

-- a rule that is broken is one of nine
pub nine_rules : {s : Flash} {z : Sizes} {c rule place : ℕ} → Breach s z c rule place → rule ≤ 9
nine_rules (rules.tally x) = omega arith
nine_rules (rules.directory x) = omega arith
nine_rules (rules.flags x) = omega arith
nine_rules (rules.blank x) = omega arith
nine_rules (rules.order x) = omega arith
nine_rules (rules.sector x) = omega arith
nine_rules (rules.group x) = omega arith
nine_rules (rules.room x) = omega arith
nine_rules (rules.copy x) = omega arith

-- the repairs of an image, said with other names for its sizes and numbers
repairs_at : {s : Flash} {plan : List Step} {d : ℕ} (y z : Sizes) (b c p q : ℕ) → y ≡ z → b ≡ c → p ≡ q → Repairs s y b p plan d → Repairs s z c q plan d
repairs_at {s} {plan} {d} y z b c p q sizes bits count h =
    subst (λ (n : ℕ). Repairs s z c n plan d) count
    (subst (λ (n : ℕ). Repairs s z n p plan d) bits (subst (λ (x : Sizes). Repairs s x b p plan d) sizes h))

module _ {z : Sizes} {s : Flash} {m : Memory} {l : Ledger} (inv : Inv z s m l) where
  -- the image that is examined carries what the ledger says
  abbrev bits : ℕ
  bits = inv.carries.cleared

  abbrev entries : List Entry
  entries = inv.carries.entries

  sane : Sane (awake s) z bits entries
  sane = laid_same s (awake s) z bits entries (λ b o. refl) inv.carries.sane

  reads : Agrees (awake s) z bits entries
  reads = sane_lawful (awake s) z bits entries inv.carries.shaped sane

  labelled : LabelledBy (awake s) z
  labelled = record { label = inv.labelled.label; good = inv.labelled.good; same = inv.labelled.same }

  -- so no rule is broken
  kept : (rule place : ℕ) → Unsound (awake s) rule place → ⊥
  kept rule place h =
      let same : h.sizes ≡ z = sizes_same (awake s) h.sizes z h.labelled labelled in
      let one : Broken (awake s) z (cleared (awake s) z.tally) rule place =
      subst (λ (y : Sizes). Broken (awake s) y (cleared (awake s) y.tally) rule place) same h.broken in
      let two : Broken (awake s) z bits rule place = subst (λ (c : ℕ). Broken (awake s) z c rule place) reads.cleared one in
      reads.lawful rule (nine_rules two.breach) place two.breach

  -- and what is repaired is the log that it carries
  module _ {log : Log} (sound : Sound (awake s) log) where
    sizes_are : log.layout.sizes ≡ z
    sizes_are = sizes_same (awake s) log.layout.sizes z sound.labelled labelled

    cleared_are : log.layout.cleared ≡ bits
    cleared_are = sound.cleared ∙ ap (λ (y : Sizes). cleared (awake s) y.tally) sizes_are ∙ reads.cleared

    claimed_are : log.claimed ≡ length entries
    claimed_are =
        sound.claimed
        ∙ ap (λ (y : Sizes). logs.claimed (awake s) y log.layout.cleared) sizes_are
        ∙ ap (λ (c : ℕ). logs.claimed (awake s) z c) cleared_are
        ∙ reads.claimed

    module _ {plan : List Step} {c : ℕ} (repairs : Repairs (awake s) log.layout.sizes log.layout.cleared log.claimed plan c) where
      about : Repairs (awake s) z bits (length entries) plan c
      about = repairs_at log.layout.sizes z log.layout.cleared bits log.claimed (length entries) sizes_are cleared_are claimed_are repairs

      front : {t : Flash} {r : Result (Unit {0}) Fault} → Performs plan (awake s) r t → (o : ℕ) → t.byte 0 o ≡ s.byte 0 o
      front h = front_kept h (past_repairs (awake s) z bits (length entries) about)

      started : {t : Flash} {new : Log} → Performs plan (awake s) (Ok tt) t → At new log.layout.sizes c log.claimed → Next z s m l call.Start (Ok reply.Done) t (idle m new)
      started {t} h here =
          let x : Repaired t z c entries = repaired (awake s) t z bits entries inv.carries.shaped sane about h in
          let says : (n : ℕ) → holds n x.0 ≡ l.sectors n = λ n. x.6 n ∙ inv.carries.holds n in
          record {
            choice = false;
            inv =
                inv_started inv (performed_frame h).blocks (front h) x.0 (performs_on h refl) sizes_are x.1 x.2 x.3 x.5
                (claimed_are ∙ sym x.4) says (refl, refl) here;
            meets = λ n lt. holding_is t z c x.0 x.1 x.2 n ∙ says n;
            promised = tt;
          }

      cut : {t : Flash} {e : Refusal} {f : Fault} → row e ≡ 13 → Performs plan (awake s) (Err f) t → Next z s m l call.Start (Err e) t (halted m)
      cut {t} thirteen h =
          let x : Still t z entries = repaired_cut (awake s) t z bits entries inv.carries.shaped sane about h in
          record {
            choice = false;
            inv = inv_halted inv (performed_frame h).blocks (front h) x inv.carries.holds refl;
            meets = thirteen;
            promised = tt;
          }

-- what a start comes to
pub next_start : {z : Sizes} {s t : Flash} {m w : Memory} {l : Ledger} {r : Result (Unit {0}) Refusal} → Inv z s m l → Starts s m r t w → Next z s m l call.Start (said r) t w
next_start {z} {s} inv (calls.label {e} {at} is faulty) =
    absurd (good_not_faulty (front_page s) s.blocks at inv.labelled.label inv.labelled.good faulty)
next_start inv (calls.rule {e} {rule} {place} is unsound) = absurd (kept inv rule place unsound)
next_start inv (calls.done sound standing repairs h here) = started inv sound repairs h here
next_start inv (calls.cut is sound standing repairs h) = cut inv sound repairs (first_is is) h
