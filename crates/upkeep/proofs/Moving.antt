-- What the copies of a reclaim keep.
use Rattle.std.proofs.Common.{◌≡◌, ℕ, ◌+◌, ◌*◌, ◌%◌, ◌<◌, ◌≤◌, Bool, false, List, get_or, Ok, sym, ◌∙◌, ap, arith}
use Rattle.chip.specs.Flash.{Flash}
use Rattle.chip.specs.Steps.{Step}
use Rattle.chip.specs.Plans.{Performs}
use Rattle.chip.proofs.Performed.{performed_frame, performs_on}
use Rattle.label.specs.declared.Sizes.{Sizes}
use Rattle.ring.specs.Logs.{is_live, log_of}
use Rattle.ring.specs.Turns.{Ready}
use Rattle.lookup.specs.Answers.{LiveFrontAmong}
use Rattle.ring.specs.declared.layout.Log.{Log}
use Rattle.image.specs.Surveys.{Bounded}
use Rattle.upkeep.specs.Numbers.{At}
use Rattle.upkeep.specs.Reclaims as reclaims
use Rattle.upkeep.specs.Reclaims.{Moves, Reclaims}

-- a position is live, or not, as the front says
pub front_is : (s : Flash) (log : Log) (front : List Bool) → LiveFrontAmong s log.layout.sizes log.layout.cleared log.claimed front → (i : ℕ) → i < 7 → (b : Bool) → get_or front i false ≡ b → is_live (log_of s log.layout.sizes log.layout.cleared log.claimed) i ≡ b
front_is s log front live i lt b is = sym (live i lt) ∙ is

-- a plan that was performed whole leaves the chip ready
pub performs_ready : {ps : List Step} {s t : Flash} {z : Sizes} {c : ℕ} → Performs ps s (Ok tt) t → Ready s z c → Ready t z c
performs_ready h ready = record {
  power = performs_on h ready.power;
  whole = ready.whole ∙ sym (performed_frame h).blocks;
  shaped = ready.shaped;
}

module _ {s : Flash} {z : Sizes} {c q : ℕ} where
  -- there is at most one copy for each position
  pub moves_few : {i k : ℕ} {m : Flash} → Moves s z c q i k m → k ≤ i
  moves_few reclaims.none = omega arith
  moves_few (reclaims.skip h lt dead) = omega (arith, moves_few h)
  moves_few (reclaims.copy h lt live copied) = omega (arith, moves_few h)

  -- the chip stays ready
  pub moves_ready : {i k : ℕ} {m : Flash} → Moves s z c q i k m → Ready s z c → Ready m z c
  moves_ready reclaims.none ready = ready
  moves_ready (reclaims.skip h lt dead) ready = moves_ready h ready
  moves_ready (reclaims.copy h lt live copied) ready = performs_ready copied.1 (moves_ready h ready)

  -- after a reclaim too, and there are at most as many claimed slots as before
  pub reclaims_ready : {u : ℕ} {t : Flash} → Reclaims s z c q (Ok u) t → Ready s z c → Ready t z c
  reclaims_ready (reclaims.done moved freed) ready = performs_ready freed (moves_ready moved ready)

  pub reclaims_fewer : {u : ℕ} {t : Flash} → Reclaims s z c q (Ok u) t → u ≤ q
  reclaims_fewer (reclaims.done moved freed) = omega (arith, moves_few moved)

-- a log stands after a reclaim
pub reclaims_stands : {s t : Flash} {u : ℕ} (log new : Log) → Bounded s log → log.layout.cleared % 2 ≡ 0 → log.layout.cleared < 32768 * log.layout.sizes.tally → Reclaims s log.layout.sizes log.layout.cleared log.claimed (Ok u) t → At new log.layout.sizes (log.layout.cleared + 2) u → Bounded t new
reclaims_stands log new stands idle room h here =
    let ready = reclaims_ready h stands.ready in
    let tally = ap (λ (z : Sizes). z.tally) here.sizes in
    let ring = ap (λ (z : Sizes). z.ring) here.sizes in
    record {
      ready = record { power = ready.power; whole = omega (arith, tally, ring, ready.whole); shaped = new.layout.shaped };
      inside = omega (arith, here.cleared, here.claimed, ring, idle, reclaims_fewer h, stands.inside);
      bits = omega (arith, here.cleared, tally, idle, room);
      sectors = omega (arith, ap (λ (z : Sizes). z.sectors) here.sizes, stands.sectors);
    }
