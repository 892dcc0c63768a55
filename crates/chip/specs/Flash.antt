-- What a chip is at one moment: how many blocks it has, the byte at each offset of each, whether it has power, and
-- the home of each block. The bytes are a function of block and offset, so that a layer which shows a part of another
-- chip is a composition, and what a step leaves alone is said byte by byte.
use Rattle.std.specs.Prelude.{ℕ, Bool, true, cond, nat_lt}
use Rattle.chip.specs.declared.Home.{Home}

pub record Flash : Type 0 where
  pub blocks : ℕ
  pub byte : ℕ → ℕ → ℕ
  pub on : Bool
  pub home : ℕ → Home

-- the home of a block that is not there
abbrev pub nowhere : Home
nowhere = record { name = 0; block = 0 }

-- the home of a block, as a chip tells it
abbrev pub home_at : Flash → ℕ → Home
home_at s b = cond (nat_lt b s.blocks) (s.home b) nowhere

-- the same chip, with power
abbrev pub awake : Flash → Flash
awake s = record { blocks = s.blocks; byte = s.byte; on = true; home = s.home }
