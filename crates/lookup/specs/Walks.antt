-- A walk over the first slots of an image, as many as a log holds for claimed, from the back: where it stands, and what
-- one step of it finds.
use Rattle.std.specs.Prelude.{◌≡◌, ℕ, ◌+◌, ◌%◌, ◌<◌, ◌≤◌, Bool, cond, ◌&&◌, List, drop, Some, None, Option, ◌==◌, ◌≢◌}
use Rattle.chip.specs.Flash.{Flash}
use Rattle.ring.specs.declared.directory.Descriptor.{Descriptor}
use Rattle.ring.specs.declared.layout.Log.{Log}
use Rattle.ring.specs.Places.{positions, chip_block, block_at, sector_at}
use Rattle.ring.specs.Directories.{Describes}
use Rattle.ring.specs.Logs.{Entry, counts, log_of}
use Rattle.lookup.specs.declared.walk.Walk.{Walk}
use Rattle.lookup.specs.declared.walk.Visit.{Visit}

-- the slots that a log holds for claimed
abbrev pub slots_of : Flash → Log → List Entry
slots_of s log = log_of s log.layout.sizes log.layout.cleared log.claimed

-- a walk stands in the log, knows whether the group there counts, and holds the directory that it is in the midst of
pub record Walking (s : Flash) (log : Log) (w : Walk) : Type 0 where
  pub bound : log.claimed ≤ positions log.layout.sizes log.layout.cleared
  pub inside : w.position ≤ log.claimed
  pub group : w.counting ≡ counts (drop w.position (slots_of s log))
  pub has : (w.position ≢ log.claimed) → (w.position % 7 ≢ 0) → (ds : List Descriptor) × (w.held ≡ Some ds)
  pub held : (ds : List Descriptor) → w.held ≡ Some ds → (w.position % 7 ≢ 0) → Describes s (chip_block log.layout.sizes (block_at log.layout.sizes log.layout.cleared w.position)) ds

-- a slot of the log, with its sector number and whether it counts
pub record Visited (s : Flash) (log : Log) (v : Visit) : Type 0 where
  pub inside : v.position < log.claimed
  pub number : v.sector.0 ≡ sector_at s log.layout.sizes log.layout.cleared v.position
  pub group : v.counts ≡ counts (drop v.position (slots_of s log))

-- one step visits the slot before, until there is none
abbrev pub Stepped : Flash → Log → Walk → Option Visit → Walk → Type 0
Stepped s log old None new = old.position ≡ 0
Stepped s log old (Some v) new = (v.position + 1 ≡ old.position) × (new.position ≡ v.position) × Visited s log v × Walking s log new

-- whether a slot counts and has the number of the sector x
abbrev pub hits : Visit → ℕ → Bool
hits v x = v.sector.0 == x && v.counts

-- what was found, or else what is found here
abbrev pub or_here : Option ℕ → Bool → ℕ → Option ℕ
or_here None hit p = cond hit (Some p) None
or_here (Some i) hit p = Some i
