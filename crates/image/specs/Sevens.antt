-- The first of the seven positions in front.
use Rattle.std.specs.Prelude.{◌≡◌, ℕ, ◌<◌, Bool, true, false, Some, None, Option}
use Rattle.ring.specs.declared.Position.{Position}

-- the first of seven at which a test holds, if there is one
abbrev pub FirstOf : (ℕ → Bool) → Option Position → Type 0
FirstOf f None = (k : ℕ) → k < 7 → f k ≡ false
FirstOf f (Some p) = (p.0 < 7) × (f p.0 ≡ true) × ((k : ℕ) → k < p.0 → f k ≡ false)
