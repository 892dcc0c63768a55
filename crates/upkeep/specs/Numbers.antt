-- The numbers of a log.
use Rattle.std.specs.Prelude.{◌≡◌, ℕ}
use Rattle.label.specs.declared.Sizes.{Sizes}
use Rattle.ring.specs.declared.layout.Log.{Log}

-- the log is one on a volume of the sizes z, with c cleared bits of the tally and q claimed slots
pub record At (log : Log) (z : Sizes) (c q : ℕ) : Type 0 where
  pub sizes : log.layout.sizes ≡ z
  pub cleared : log.layout.cleared ≡ c
  pub claimed : log.claimed ≡ q
