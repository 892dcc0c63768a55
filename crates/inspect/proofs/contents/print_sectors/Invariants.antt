-- Nothing that is read changes the chip, so the log stands on it as before.
use Rattle.image.specs.Surveys.{Standing}
use Rattle.inspect.proofs.contents.print_sectors.Given as goal

abbrev pub invariant-loop-x : goal.invariant-loop-x
invariant-loop-x g l = Standing (g.C.Chip.flash l.chip) l.log
