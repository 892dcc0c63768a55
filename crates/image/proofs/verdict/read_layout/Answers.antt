-- The tally's bits make the layout, and its first disorder is the breach of the first rule.
use Rattle.std.proofs.Common.{refl}
use Rattle.ring.specs.Rules as rules
use Rattle.image.proofs.Breaches.{of_tally}
use Rattle.image.proofs.Joining.{kept_first, lowest_first}
use Rattle.image.proofs.verdict.read_layout.Goals as goal

pub returns-in-Ok : goal.returns-in-Ok
returns-in-Ok g c =
    let told = c.in-Ok.ensures.answers in
    record { laid = (refl, told.whole, kept_first _ 1 (of_tally _ _ _) told.ordered); keeps = c.in-Ok.ensures.keeps }

pub returns-in-Err : goal.returns-in-Err
returns-in-Err g c =
    let out = c.in-Err.ensures.answers in
    record { laid = lowest_first _ 1 _ (of_tally _ _ _) rules.tally (out.here, out.lower); keeps = c.in-Err.ensures.keeps }
