-- Repairs: what a start does to an image that keeps the rules. z are the sizes of the volume, c the cleared bits of its
-- tally, and q its claimed slots.
use Rattle.std.specs.Prelude.{◌≡◌, ℕ, ◌+◌, ◌-◌, ◌%◌, ◌<◌, ◌≤◌, true, false, List, [], Ok, Err, Result}
use Rattle.chip.specs.declared.Fault.{Fault}
use Rattle.chip.specs.Flash.{Flash}
use Rattle.chip.specs.Steps.{Step}
use Rattle.chip.specs.Plans.{Performs}
use Rattle.label.specs.declared.Sizes.{Sizes}
use Rattle.ring.specs.Searches.{least}
use Rattle.ring.specs.Places.{flags_at, sector_at, page_at}
use Rattle.ring.specs.Logs.{ends, unclosed_copy, is_live, log_of}
use Rattle.laid.specs.Writing.{rebooking, finishing, dropping}
use Rattle.laid.specs.Sane.{Readable}
use Rattle.ring.specs.declared.layout.Log.{Log}
use Rattle.upkeep.specs.Numbers.{At}

-- the first position that is live, of the first seven
abbrev pub source_of : Flash → Sizes → ℕ → ℕ → ℕ
source_of s z c q = least (is_live (log_of s z c q)) 7

-- the flags of the last claimed slot
abbrev pub last_of : Flash → Sizes → ℕ → ℕ → ℕ
last_of s z c q = flags_at s z c (q - 1)

-- the steps that repair s, and the cleared bits after them: an erase that has begun is finished; an unclosed copy is
-- finished from its source; or else a group that does not end is dropped
pub data Repairs (s : Flash) (z : Sizes) (c q : ℕ) : List Step → ℕ → Type 0 where
  book : c % 2 ≡ 1 → Repairs s z c q (rebooking z c) (c + 1)
  nothing : c % 2 ≡ 0 → q ≡ 0 → Repairs s z c q [] c
  whole : c % 2 ≡ 0 → 0 < q → ends (last_of s z c q) ≡ true → Repairs s z c q [] c
  finish : c % 2 ≡ 0 → 0 < q → unclosed_copy (last_of s z c q) ≡ true → source_of s z c q < 7 → Readable s z c (source_of s z c q) → Repairs s z c q (finishing z c (q - 1) (sector_at s z c (source_of s z c q)) (page_at s z c (source_of s z c q))) c
  lost : c % 2 ≡ 0 → 0 < q → unclosed_copy (last_of s z c q) ≡ true → 7 ≤ source_of s z c q → Repairs s z c q [] c
  drop : c % 2 ≡ 0 → 0 < q → unclosed_copy (last_of s z c q) ≡ false → ends (last_of s z c q) ≡ false → Repairs s z c q (dropping z c (q - 1)) c

-- a repair that finds no erase begun: the plan was performed, and the cleared bits are as they were
abbrev pub Mended : Flash → Log → Result (Unit {0}) Fault → Flash → Type 0
Mended s log r t =
    (plan : List Step) × Repairs s log.layout.sizes log.layout.cleared log.claimed plan log.layout.cleared × Performs plan s r t

-- what a repair answers: the log after it, or the fault that has cut it
abbrev pub Repaired : Flash → Log → Result Log Fault → Flash → Type 0
Repaired s log (Ok new) t =
    (plan : List Step) × (d : ℕ) × Repairs s log.layout.sizes log.layout.cleared log.claimed plan d × Performs plan s (Ok tt) t × At new log.layout.sizes d log.claimed
Repaired s log (Err f) t =
    (plan : List Step) × (d : ℕ) × Repairs s log.layout.sizes log.layout.cleared log.claimed plan d × Performs plan s (Err f) t
