-- Where a log stands after a repair.
use Rattle.std.proofs.Common.{◌≡◌, ℕ, ◌+◌, ◌%◌, List, Ok, ap, arith}
use Rattle.chip.specs.Flash.{Flash}
use Rattle.chip.specs.Steps.{Step}
use Rattle.label.specs.declared.Sizes.{Sizes}
use Rattle.ring.specs.declared.layout.Log.{Log}
use Rattle.image.specs.Surveys.{Bounded}
use Rattle.upkeep.specs.Repairs as repairs
use Rattle.upkeep.specs.Repairs.{Repairs, Repaired}
use Rattle.upkeep.proofs.Moving.{performs_ready}

-- the cleared bits after a repair: as many as before, or one more, and even
even_after : {s : Flash} {z : Sizes} {c q : ℕ} {plan : List Step} {d : ℕ} → Repairs s z c q plan d → (c + c % 2 ≡ d) × (d % 2 ≡ 0)
even_after (repairs.book odd) = (omega (arith, odd), omega (arith, odd))
even_after (repairs.nothing even none) = (omega (arith, even), even)
even_after (repairs.whole even some end) = (omega (arith, even), even)
even_after (repairs.finish even some copy there readable) = (omega (arith, even), even)
even_after (repairs.lost even some copy none) = (omega (arith, even), even)
even_after (repairs.drop even some other open-group) = (omega (arith, even), even)

-- the log after a repair stands, and no erase has begun
pub repaired_stands : {s t : Flash} (log new : Log) → Bounded s log → Repaired s log (Ok new) t → Bounded t new × (new.layout.cleared % 2 ≡ 0)
repaired_stands {s} {t} log new stands h =
    let d = h.1 in
    let after = even_after h.2 in
    let ready = performs_ready h.3 stands.ready in
    let here = h.4 in
    let tally = ap (λ (z : Sizes). z.tally) here.sizes in
    let ring = ap (λ (z : Sizes). z.ring) here.sizes in
    let there : Bounded t new =
    record {
      ready = record { power = ready.power; whole = omega (arith, tally, ring, ready.whole); shaped = new.layout.shaped };
      inside = omega (arith, here.cleared, here.claimed, ring, after.1, stands.inside);
      bits = omega (arith, here.cleared, tally, after.0, stands.bits);
      sectors = omega (arith, ap (λ (z : Sizes). z.sectors) here.sizes, stands.sectors);
    } in
    (there, omega (arith, here.cleared, after.1))
