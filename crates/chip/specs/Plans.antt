-- A plan is a list of steps that is asked of a chip one after another, until one is refused.
use Rattle.std.specs.Prelude.{List, [], ◌∷◌, Ok, Err, Result}
use Rattle.chip.specs.declared.Fault.{Fault}
use Rattle.chip.specs.declared.Fault.TheVariants.{Cut}
use Rattle.chip.specs.Flash.{Flash}
use Rattle.chip.specs.Steps.{Step, block, Allowed, Worked, Broke, Answers}

-- tried: every step was finished, or the first that was not was answered by an error
pub data Tries : List Step → Flash → Result (Unit {0}) Fault → Flash → Type 0 where
  whole : {s : Flash} → Tries [] s (Ok tt) s
  next : {p : Step} {ps : List Step} {s m t : Flash} {r : Result (Unit {0}) Fault} → Worked p s m → Tries ps m r t → Tries (p ∷ ps) s r t
  stop : {p : Step} {ps : List Step} {s t : Flash} {f : Fault} → Answers p s (Err f) t → Tries (p ∷ ps) s (Err f) t

-- performed: every step was finished, or the first that was not was cut
pub data Performs : List Step → Flash → Result (Unit {0}) Fault → Flash → Type 0 where
  whole : {s : Flash} → Performs [] s (Ok tt) s
  next : {p : Step} {ps : List Step} {s m t : Flash} {r : Result (Unit {0}) Fault} → Worked p s m → Performs ps m r t → Performs (p ∷ ps) s r t
  cut : {p : Step} {ps : List Step} {s t : Flash} → Broke p s t → Performs (p ∷ ps) s (Err (Cut (s.home (block p)))) t

-- every step of the plan is one that the chip does not refuse while it has power
abbrev pub AllAllowed : List Step → Flash → Type 0
AllAllowed [] s = Unit {0}
AllAllowed (p ∷ ps) s = Allowed p s × AllAllowed ps s
