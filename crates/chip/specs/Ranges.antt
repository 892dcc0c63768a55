-- Which ranges there are on a chip of n blocks: `size` bytes of the block b from the byte `at` on, asked for with a
-- buffer of `len` bytes.
use Rattle.std.specs.Prelude.{◌≡◌, ℕ, ◌+◌, ◌%◌, ◌<◌, ◌≤◌, Bool, true, false, Ok, Err, Result}
use Rattle.chip.specs.declared.Fault.{Fault}
use Rattle.chip.specs.declared.Fault.TheVariants.{Range, NoPower, Cut}

pub record Within (n b at size len : ℕ) : Type 0 where
  pub there : b < n
  pub same : size ≡ len
  pub some : 0 < len
  pub ends : at + len ≤ 4096

-- the same, and in one page
pub record Paged (n b at size len : ℕ) : Type 0 where
  pub within : Within n b at size len
  pub page : at % 512 + len ≤ 512

-- a test that decides P
abbrev pub Tells : Bool → Type 0 → Type 0
Tells true P = P
Tells false P = P → ⊥

-- what the test before a call answers: whether what it asks for is there comes first, then whether the chip is on
abbrev pub Admitted : Bool → Bool → Result (Unit {0}) Fault → Type 0
Admitted there on (Ok _) = (there ≡ true) × (on ≡ true)
Admitted there on (Err Range) = there ≡ false
Admitted there on (Err NoPower) = (there ≡ true) × (on ≡ false)
Admitted there on (Err (Cut h)) = ⊥
