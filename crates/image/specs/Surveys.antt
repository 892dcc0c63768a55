-- The numbers of a sound image.
use Rattle.std.specs.Prelude.{◌≡◌, ℕ, ◌-◌, ◌*◌, ◌≤◌, Bool, true, false, List, replicate, Some, None}
use Rattle.chip.specs.Flash.{Flash}
use Rattle.ring.specs.Tally as tally
use Rattle.ring.specs.Places.{positions}
use Rattle.ring.specs.Logs as logs
use Rattle.ring.specs.Logs.{holds, log_of}
use Rattle.ring.specs.Turns.{Ready}
use Rattle.lookup.specs.Answers as lookups
use Rattle.ring.specs.declared.layout.Log.{Log}
use Rattle.image.specs.declared.survey.Survey.{Survey}

-- a log stands on a chip as an examination found it
pub record Standing (s : Flash) (log : Log) : Type 0 where
  pub ready : Ready s log.layout.sizes log.layout.cleared
  pub claimed : log.claimed ≡ logs.claimed s log.layout.sizes log.layout.cleared
  pub inside : log.claimed ≤ positions log.layout.sizes log.layout.cleared
  pub bits : log.layout.cleared ≤ 32768 * log.layout.sizes.tally
  pub sectors : log.layout.sizes.sectors ≤ 28644

pub record Surveyed (s : Flash) (log : Log) (r : Survey) : Type 0 where
  pub booked : r.booked ≡ tally.booked log.layout.cleared
  pub begun : r.begun ≡ tally.begun log.layout.cleared
  pub left : r.left ≡ 16384 * log.layout.sizes.tally - tally.booked log.layout.cleared
  pub unclaimed : r.unclaimed ≡ logs.unclaimed s log.layout.sizes log.layout.cleared
  pub written : r.written ≡ lookups.written s log.layout.sizes log.layout.cleared

-- a log whose numbers are within the limits of a chip, whatever the chip has claimed
pub record Bounded (s : Flash) (log : Log) : Type 0 where
  pub ready : Ready s log.layout.sizes log.layout.cleared
  pub inside : log.claimed ≤ positions log.layout.sizes log.layout.cleared
  pub bits : log.layout.cleared ≤ 32768 * log.layout.sizes.tally
  pub sectors : log.layout.sizes.sectors ≤ 28644

-- the numbers of its first slots, as many as it holds for claimed
pub record SurveyedAmong (s : Flash) (log : Log) (r : Survey) : Type 0 where
  pub booked : r.booked ≡ tally.booked log.layout.cleared
  pub begun : r.begun ≡ tally.begun log.layout.cleared
  pub left : r.left ≡ 16384 * log.layout.sizes.tally - tally.booked log.layout.cleared
  pub unclaimed : r.unclaimed ≡ positions log.layout.sizes log.layout.cleared - log.claimed
  pub written : r.written ≡ lookups.written_among s log.layout.sizes log.layout.cleared log.claimed

-- what a sector holds in them: its page; or it holds none, and a page of FF hex stands for it
abbrev pub Shown : Flash → Log → ℕ → Bool → List ℕ → Type 0
Shown s log x true page = holds x (log_of s log.layout.sizes log.layout.cleared log.claimed) ≡ Some page
Shown s log x false page = (holds x (log_of s log.layout.sizes log.layout.cleared log.claimed) ≡ None) × (page ≡ replicate 512 255)
