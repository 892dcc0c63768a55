-- Reclaims one after another: what comes of them from here on comes of them from the start.
use Rattle.std.proofs.Common.{◌≡◌, ℕ, ◌-◌, ◌*◌, ◌%◌, ◌<◌, ◌≤◌, Ok, Err, Result, refl, ap, ◌∙◌, subst, arith}
use Rattle.chip.specs.declared.Fault.{Fault}
use Rattle.chip.specs.Flash.{Flash}
use Rattle.label.specs.declared.Sizes.{Sizes}
use Rattle.ring.specs.Places.{positions}
use Rattle.ring.specs.declared.layout.Log.{Log}
use Rattle.image.specs.Surveys.{Bounded}
use Rattle.upkeep.specs.declared.room.Room.TheVariants.{Made, Spent}
use Rattle.upkeep.specs.Numbers.{At}
use Rattle.upkeep.specs.Reclaims as reclaims
use Rattle.upkeep.specs.Reclaims.{Room, Rooms, Reclaims}
use Rattle.upkeep.specs.Reclaimed.{Reclaimed}
use Rattle.upkeep.specs.Roomy.{RoomMade}

-- from the log and the image s, where n slots are wanted, reclaims have led to the image m and the log `now`
pub record Goes (n : ℕ) (s : Flash) (log : Log) (m : Flash) (now : Log) : Type 0 where
  pub onward : (r : Result Room Fault) (t : Flash) → Rooms n log.layout.sizes m now.layout.cleared now.claimed r t → Rooms n log.layout.sizes s log.layout.cleared log.claimed r t
  pub stands : Bounded m now
  pub idle : now.layout.cleared % 2 ≡ 0
  pub sizes : now.layout.sizes ≡ log.layout.sizes

-- none yet
pub goes_none : (n : ℕ) (s : Flash) (log : Log) → Bounded s log → log.layout.cleared % 2 ≡ 0 → Goes n s log s log
goes_none n s log stands idle = record { onward = λ r t h. h; stands = stands; idle = idle; sizes = refl }

module _ (n : ℕ) (s : Flash) (log : Log) (m : Flash) (now : Log) (goes : Goes n s log m now) where
  same_log : At now log.layout.sizes now.layout.cleared now.claimed
  same_log = record { sizes = goes.sizes; cleared = refl; claimed = refl }

  ring_is : positions now.layout.sizes now.layout.cleared ≡ positions log.layout.sizes now.layout.cleared
  ring_is = ap (λ (z : Sizes). positions z now.layout.cleared) goes.sizes

  tally_is : now.layout.sizes.tally ≡ log.layout.sizes.tally
  tally_is = ap (λ (z : Sizes). z.tally) goes.sizes

  -- there is room
  pub goes_made : n ≤ positions now.layout.sizes now.layout.cleared - now.claimed → RoomMade s log n (Ok (Made now)) m
  goes_made room = (_, _, goes.onward _ _ (reclaims.enough (omega (arith, ring_is, room))), same_log)

  module _ (few : positions now.layout.sizes now.layout.cleared - now.claimed < n) where
    too_few : positions log.layout.sizes now.layout.cleared - now.claimed < n
    too_few = omega (arith, ring_is, few)

    -- there are no bits for one more
    pub goes_spent : 32768 * now.layout.sizes.tally ≤ now.layout.cleared → RoomMade s log n (Ok (Spent now)) m
    goes_spent spent = (_, _, goes.onward _ _ (reclaims.no_bits too_few (omega (arith, tally_is, spent))), same_log)

    module _ (bits : now.layout.cleared < 32768 * now.layout.sizes.tally) where
      -- one more was cut
      pub goes_cut : {f : Fault} (t : Flash) → Reclaimed m now (Err f) t → RoomMade s log n (Err f) t
      goes_cut {f} t h =
          let there = subst (λ (z : Sizes). Reclaims m z now.layout.cleared now.claimed (Err f) t) goes.sizes h in
          goes.onward _ _ (reclaims.cut too_few (omega (arith, tally_is, bits)) there)

      -- one more was done
      pub goes_round : (t : Flash) (new : Log) → Reclaimed m now (Ok new) t → Bounded t new → Goes n s log t new
      goes_round t new h stands =
          let there = subst (λ (z : Sizes). Reclaims m z now.layout.cleared now.claimed (Ok h.0) t) goes.sizes h.1 in
          record {
            onward = λ r u rest. goes.onward r u (reclaims.round too_few (omega (arith, tally_is, bits)) there (rw (h.2.cleared, h.2.claimed) at rest));
            stands = stands;
            idle = omega (arith, h.2.cleared, goes.idle);
            sizes = h.2.sizes ∙ goes.sizes;
          }
