-- The first seven positions of the log: for each, the last slot behind a walk that counts and has the sector of that
-- position.
use Rattle.std.specs.Prelude.{◌≡◌, ℕ, ◌<◌, Bool, false, List, get_or, None, slice_index_or}
use Rattle.ring.specs.Directories.{none}
use Rattle.ring.specs.Logs.{points}
use Rattle.ring.specs.declared.directory.Descriptor.{Descriptor}
use Rattle.lookup.specs.declared.front.Place.{Place}
use Rattle.lookup.specs.declared.walk.Visit.{Visit}
use Rattle.lookup.specs.Walks.{hits, or_here}

-- no position
abbrev pub nowhere : Place
nowhere = record { sector = record { 0 = 0 }; latest = None }

abbrev pub place_at : List Place → ℕ → Place
place_at ps j = get_or ps j nowhere

-- the sector of a position, by its descriptor
abbrev pub sector_of : List Descriptor → ℕ → ℕ
sector_of ds j = (get_or ds j none).sector.0

-- the seven positions of a directory, with nothing found
abbrev pub Told : List Descriptor → List Place → Type 0
Told ds ps = (j : ℕ) → j < 7 → ((place_at ps j).sector.0 ≡ sector_of ds j) × ((place_at ps j).latest ≡ None)

-- one slot more is noted
abbrev pub Noted : List Place → Visit → List Place → Type 0
Noted old v new = (j : ℕ) → j < 7 → ((place_at new j).sector ≡ (place_at old j).sector) × ((place_at new j).latest ≡ or_here (place_at old j).latest (hits v (place_at old j).sector.0) v.position)

-- the positions that were found themselves
abbrev pub Own : List Place → List Bool → Type 0
Own ps r = (j : ℕ) → j < 7 → slice_index_or r j false ≡ points (place_at ps j).latest j
