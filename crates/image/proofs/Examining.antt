-- From the parts of an examination to its answer.
use Rattle.std.proofs.Common.{◌≡◌, ℕ, ◌≤◌, true, Err, refl, subst, inl, inr, arith}
use Rattle.chip.specs.Flash.{Flash}
use Rattle.label.specs.declared.Sizes.{Sizes}
use Rattle.label.specs.declared.LabelFault.{LabelFault}
use Rattle.label.specs.Labels.{Sized, Faulty}
use Rattle.ring.specs.Tally.{cleared, tally_bits}
use Rattle.ring.specs.Logs as logs
use Rattle.ring.specs.Turns.{Ready}
use Rattle.ring.specs.Rules as rules
use Rattle.ring.specs.Rules.{Breach, Lawful}
use Rattle.ring.proofs.Searching.{least_is}
use Rattle.image.specs.declared.flaw.Broken.{Broken}
use Rattle.ring.specs.declared.layout.Log.{Log}
use Rattle.image.specs.Flaws.{label_flaw, rule_flaw}
use Rattle.image.specs.Fronts.{front_page, LabelledBy}
use Rattle.image.specs.Checks.{KeptFrom, Lowest}
use Rattle.image.specs.Examined.{Sound, Examined}
use Rattle.image.specs.Surveys.{Standing}
use Rattle.lookup.proofs.Backward.{claimed_most}

pub sized_by : (s : Flash) (z : Sizes) → LabelledBy s z → Sized s.blocks z
sized_by s z h = subst (Sized s.blocks) h.same h.good.sized

-- a chip with a good label is ready to be read
pub ready_by : (s : Flash) (z : Sizes) (c : ℕ) → s.on ≡ true → LabelledBy s z → c ≡ cleared s z.tally → Ready s z c
ready_by s z c on h e =
    let fit = sized_by s z h in
    let most : cleared s z.tally ≤ tally_bits z.tally = (least_is _ _).bound in
    record {
      power = on;
      whole = fit.whole;
      shaped = record { ring_least = fit.ring_least; ring_most = fit.ring_most; tally_most = fit.tally_most; cleared_most = omega (arith, most, fit.tally_most) };
    }

module _ (s : Flash) (z : Sizes) (c : ℕ) where
  -- rules count from 1 on
  from_one : (rule place : ℕ) → Breach s z c rule place → 1 ≤ rule
  from_one rule place (rules.tally x) = omega arith
  from_one rule place (rules.directory x) = omega arith
  from_one rule place (rules.flags x) = omega arith
  from_one rule place (rules.blank x) = omega arith
  from_one rule place (rules.order x) = omega arith
  from_one rule place (rules.sector x) = omega arith
  from_one rule place (rules.group x) = omega arith
  from_one rule place (rules.room x) = omega arith
  from_one rule place (rules.copy x) = omega arith

  lawful_from : KeptFrom s z c 1 9 → Lawful s z c
  lawful_from h rule le place b = h rule (from_one rule place b) le place b

  broken_from : (x : Broken) → Lowest s z c 1 9 x → rules.Broken s z c x.rule x.place
  broken_from x h = record { breach = h.breach; lowest = h.lowest; before = λ r lt place b. h.before r (from_one r place b) lt place b }

pub faulty : (s : Flash) (f : LabelFault) → s.on ≡ true → Faulty (front_page s) s.blocks f.at → Examined s (Err (label_flaw f))
faulty s f on h = inr (inl (f.at, refl, on, h))

pub unsound : (s : Flash) (z : Sizes) (x : Broken) → s.on ≡ true → LabelledBy s z → Lowest s z (cleared s z.tally) 1 9 x → Examined s (Err (rule_flaw x))
unsound s z x on label h = inr (inr (x.rule, x.place, refl, record { power = on; sizes = z; labelled = label; broken = broken_from s z _ x h }))

pub sound : (s : Flash) (log : Log) → s.on ≡ true → LabelledBy s log.layout.sizes → log.layout.cleared ≡ cleared s log.layout.sizes.tally → log.claimed ≡ logs.claimed s log.layout.sizes log.layout.cleared → KeptFrom s log.layout.sizes log.layout.cleared 1 9 → Sound s log
sound s log on label bits slots kept = record { power = on; labelled = label; cleared = bits; claimed = slots; lawful = lawful_from s _ _ kept }

-- a sound image stands
pub stands : (s : Flash) (log : Log) → Sound s log → Standing s log
stands s log h =
    let fit = sized_by s log.layout.sizes h.labelled in
    let most : cleared s log.layout.sizes.tally ≤ tally_bits log.layout.sizes.tally = (least_is _ _).bound in
    record {
      ready = ready_by s log.layout.sizes log.layout.cleared h.power h.labelled h.cleared;
      claimed = h.claimed;
      inside = omega (arith, h.claimed, claimed_most s log.layout.sizes log.layout.cleared);
      bits = omega (arith, most, h.cleared);
      sectors = omega (arith, fit.sectors_most, fit.ring_most);
    }
