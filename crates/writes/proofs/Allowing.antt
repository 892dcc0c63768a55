-- The steps by which a volume writes are ones that the chip has.
use Rattle.std.proofs.Common.{◌≡◌, ℕ, ◌+◌, ◌*◌, ◌%◌, ◌<◌, ◌≤◌, List, [], ◌∷◌, length, Ok, Err, Result, refl, mod-lt, arith}
use Rattle.chip.specs.declared.Fault.{Fault}
use Rattle.chip.specs.Flash.{Flash}
use Rattle.chip.specs.Steps.{Step, Allowed, Answers}
use Rattle.chip.specs.Plans as plans
use Rattle.chip.specs.Plans.{Tries, AllAllowed}
use Rattle.label.specs.declared.Sizes.{Sizes}
use Rattle.ring.specs.Places.{chip_block}
use Rattle.ring.specs.Turns.{Ready}
use Rattle.laid.specs.Writing.{mark, number, fill, putting, finishing, copying, clearing, freeing, rebooking}

-- the last step of a plan, as it was answered
pub ends : {p : Step} {s t : Flash} (r : Result (Unit {0}) Fault) → Answers p s r t → Tries (p ∷ []) s r t
ends (Ok u) h = plans.next h plans.whole
ends (Err f) h = plans.stop h

module _ {s : Flash} {z : Sizes} {c : ℕ} (ready : Ready s z c) where
  -- a block of the ring is one of the chip
  in_ring : (b : ℕ) → chip_block z (b % z.ring) < s.blocks
  in_ring b = let lt : b % z.ring < z.ring = mod-lt b (omega (arith, ready.shaped.ring_least)) in omega (arith, ready.whole)

  -- single steps
  mark_allowed : (p mask : ℕ) → Allowed (mark z c p mask) s
  mark_allowed p mask = record {
    within = record { there = in_ring _; same = refl; some = omega arith; ends = omega arith };
    page = omega arith;
  }

  number_allowed : (p x : ℕ) → Allowed (number z c p x) s
  number_allowed p x = record {
    within = record { there = in_ring _; same = refl; some = omega arith; ends = omega arith };
    page = omega arith;
  }

  fill_allowed : (p : ℕ) (page : List ℕ) → length page ≡ 512 → Allowed (fill z c p page) s
  fill_allowed p page long = record {
    within = record { there = in_ring _; same = omega arith; some = omega arith; ends = omega arith };
    page = omega arith;
  }

  clearing_allowed : (i : ℕ) → i < 32768 * z.tally → Allowed (clearing i) s
  clearing_allowed i lt = record {
    within = record { there = omega (arith, ready.whole); same = refl; some = omega arith; ends = omega arith };
    page = omega arith;
  }

  -- plans
  pub one_mark : (p mask : ℕ) → AllAllowed (mark z c p mask ∷ []) s
  one_mark p mask = (mark_allowed p mask, tt)

  pub a_put : (p x : ℕ) (page : List ℕ) → length page ≡ 512 → AllAllowed (putting z c p x page) s
  a_put p x page long = (mark_allowed p 127, (number_allowed p x, (fill_allowed p page long, one_mark p 223)))

  pub a_finish : (p x : ℕ) (page : List ℕ) → length page ≡ 512 → AllAllowed (finishing z c p x page) s
  a_finish p x page long = (number_allowed p x, (fill_allowed p page long, (mark_allowed p 223, one_mark p 239)))

  pub a_copy : (p x : ℕ) (page : List ℕ) → length page ≡ 512 → AllAllowed (copying z c p x page) s
  a_copy p x page long = (mark_allowed p 191, a_finish p x page long)

  pub a_freeing : c + 2 ≤ 32768 * z.tally → AllAllowed (freeing z c) s
  a_freeing room = (clearing_allowed c (omega arith), (in_ring _, (clearing_allowed (c + 1) (omega arith), tt)))

  pub a_rebooking : c < 32768 * z.tally → AllAllowed (rebooking z c) s
  a_rebooking room = (in_ring _, (clearing_allowed c room, tt))
