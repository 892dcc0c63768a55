-- The examples, one by one.
use mathlib.Core.Path.{◌≡◌, refl, ap, ◌∙◌}
use mathlib.Core.Bool.{false}
use Prim.Native.Nat.{ℕ, zero, suc, ◌-◌, ◌/◌, ◌%◌, ◌<◌}
use native.Mathlib.Omega.{arith}
use lib.Bits.{bit_and}
use lib.Dec.{eqb}
use Rattle.ring.specs.Tally.{tally_bit, cleared, booked, begun}
use Rattle.ring.specs.Places.{flags_at}
use Rattle.ring.specs.Logs.{closes, ends, is_copy}
use Rattle.ring.specs.Rules.{inside_group}
use Rattle.ring.proofs.Searching.{least_unique}
use Rattle.samples.specs.Samples.{Tallying}
use Rattle.samples.proofs.samples_stand.Goals as goal

tallies : Tallying
tallies s k some first others =
    let c : cleared s k ≡ 3 = least_unique _ _ 3 record {
      bound = omega arith;
      before = below;
      hit = λ lt. ap (λ v. eqb (v / 16 % 2) 1) first;
    } in
    (ap booked c, ap begun c)
  where
    below : (i : ℕ) → i < 3 → eqb (tally_bit s i) 1 ≡ false
    below zero lt = ap (λ v. eqb (v / 128 % 2) 1) first
    below (suc zero) lt = ap (λ v. eqb (v / 64 % 2) 1) first
    below (suc (suc zero)) lt = ap (λ v. eqb (v / 32 % 2) 1) first
    below (suc (suc (suc i))) lt = absurd (omega arith)

pub returns : goal.returns
returns c = record {
  programming = λ s t b at old done. done.inside 0 (omega arith) ∙ ap (λ v. bit_and v 250) old;
  described = λ s z c p bytes. (ap closes (bytes 0 (omega arith)), omega (arith, bytes 1 (omega arith), bytes 2 (omega arith)));
  tallying = tallies;
  limits = record {
    six = record { tally_some = omega arith; tally_most = omega arith; ring_least = omega arith; ring_most = omega arith; sectors_some = omega arith; sectors_most = omega arith; whole = refl };
    six_more = λ h. omega (arith, h.sectors_most);
    five = record { tally_some = omega arith; tally_most = omega arith; ring_least = omega arith; ring_most = omega arith; sectors_some = omega arith; sectors_most = omega arith; whole = refl };
    five_more = λ h. omega (arith, h.sectors_most);
  };
  labelling = refl;
  grouping = record {
    closed = (refl, refl);
    dropped = (refl, refl);
    copied = λ s z c p put copy lt. let e : suc p - 1 ≡ p = omega arith in inside_group (omega arith) lt (ap is_copy copy) (ap ends (ap (flags_at s z c) e ∙ put));
  };
}
