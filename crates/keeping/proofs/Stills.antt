-- An image that keeps the rules, and whose sectors hold what a log says.
use Rattle.std.proofs.Common.{◌≡◌, ℕ, List}
use Rattle.chip.specs.Flash.{Flash}
use Rattle.label.specs.declared.Sizes.{Sizes}
use Rattle.ring.specs.Turns.{Shaped}
use Rattle.ring.specs.Logs.{Entry, holds}
use Rattle.laid.specs.Sane.{Sane}

-- t keeps the rules, and its sectors hold what es says
pub record Still (t : Flash) (z : Sizes) (es : List Entry) : Type 0 where
  pub cleared : ℕ
  pub entries : List Entry
  pub shaped : Shaped z cleared
  pub sane : Sane t z cleared entries
  pub same : (x : ℕ) → holds x entries ≡ holds x es

pub still : {t : Flash} {z : Sizes} {c : ℕ} {es : List Entry} (fs : List Entry) → Shaped z c → Sane t z c fs → ((x : ℕ) → holds x fs ≡ holds x es) → Still t z es
still {c = c} fs shaped sane same = record { cleared = c; entries = fs; shaped = shaped; sane = sane; same = same }
