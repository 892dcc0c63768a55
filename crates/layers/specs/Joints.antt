-- The flash that a joint shows: the blocks of one chip, then those of another, up to 65,535.
use Rattle.std.specs.Prelude.{◌≡◌, ℕ, ◌+◌, ◌-◌, ◌<◌, min, Bool, true, false, cond, ◌&&◌, Ok, Err, Result, nat_lt}
use Rattle.chip.specs.declared.Fault.{Fault}
use Rattle.chip.specs.declared.Fault.TheVariants.{Range, NoPower, Cut}
use Rattle.chip.specs.Flash.{Flash}
use Rattle.layers.specs.declared.joint.Half.{Half}
use Rattle.layers.specs.declared.joint.Half.TheVariants.{Front, Back}

abbrev pub joined : Flash → Flash → Flash
joined s t = record {
  blocks = min 65535 (s.blocks + t.blocks);
  byte = λ b o. cond (nat_lt b s.blocks) (s.byte b o) (t.byte (b - s.blocks) o);
  on = s.on && t.on;
  home = λ b. cond (nat_lt b s.blocks) (s.home b) (t.home (b - s.blocks));
}

-- where a block of the joint lies, of whose blocks the first n are in front
abbrev pub Found : ℕ → ℕ → Half → Type 0
Found n b (Front c) = (b < n) × (c.0 ≡ b)
Found n b (Back c) = n + c.0 ≡ b

-- where a call reaches a block, or why it is refused: a range outside comes first, then power
abbrev pub Reached : Bool → ℕ → ℕ → Bool → Result Half Fault → Type 0
Reached on n b within (Ok h) = (within ≡ true) × (on ≡ true) × Found n b h
Reached on n b within (Err Range) = within ≡ false
Reached on n b within (Err NoPower) = (within ≡ true) × (on ≡ false)
Reached on n b within (Err (Cut h)) = ⊥
