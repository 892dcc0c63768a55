-- What was noted for the first seven positions says which of them are live.
use Rattle.std.proofs.Common.{◌≡◌, ℕ, suc, ◌+◌, ◌*◌, ◌%◌, ◌<◌, ◌≤◌, Bool, true, false, cond, ◌&&◌, eqb, List, [], ◌∷◌, length, get_or, Some, None, Option, sym, refl, ap, ◌∙◌, ap₂, ⊎_elim, arith}
use Rattle.std.proofs.lemmas.Bool.{cases_lt, ne_eqb}
use Rattle.chip.specs.Flash.{Flash}
use Rattle.label.specs.declared.Sizes.{Sizes}
use Rattle.ring.specs.declared.directory.Descriptor.{Descriptor}
use Rattle.ring.specs.Directories.{Describes}
use Rattle.ring.specs.Places.{chip_block, block_at, sector_at, first_block}
use Rattle.ring.specs.Logs.{Entry, no_entry, counts, later, live, points, is_live, entry_at, log_of}
use Rattle.ring.proofs.Searching.{length-row, get_or-row}
use Rattle.lookup.specs.declared.walk.Walk.{Walk}
use Rattle.lookup.specs.declared.walk.Visit.{Visit}
use Rattle.lookup.specs.declared.front.Place.{Place}
use Rattle.ring.specs.declared.layout.Log.{Log}
use Rattle.lookup.specs.Walks.{Visited, hits, or_here}
use Rattle.lookup.specs.Fronts.{place_at, sector_of, Told, Noted, Own}
use Rattle.lookup.specs.Answers.{LiveFrontAmong}
use Rattle.lookup.proofs.Backward.{last_in, last_none, live_back, last_all}

-- for each of seven positions, the last slot from p on that counts for its sector; `base` are the seven before any was noted
pub record Latest (s : Flash) (log : Log) (base : List Place) (p : ℕ) (ps : List Place) : Type 0 where
  pub sector : (j : ℕ) → j < 7 → (place_at ps j).sector ≡ (place_at base j).sector
  pub last : (j : ℕ) → j < 7 → (place_at ps j).latest ≡ last_in s log (place_at base j).sector.0 p

pub latest_none : (s : Flash) (log : Log) (ds : List Descriptor) (p : ℕ) (ps : List Place) → p ≡ log.claimed → Told ds ps → Latest s log ps p ps
latest_none s log ds p ps e told = record {
  sector = λ j lt. refl;
  last = λ j lt. (told j lt).1 ∙ sym (last_none s log.layout.sizes log.layout.cleared log.claimed (place_at ps j).sector.0 p e);
}

pub noted_back : (s : Flash) (log : Log) (base old new : List Place) (w u : Walk) (v : Visit) → v.position + 1 ≡ w.position → u.position ≡ v.position → Visited s log v → Noted old v new → Latest s log base w.position old → Latest s log base u.position new
noted_back s log base old new w u v next at h noted before = record {
  sector = λ j lt. (noted j lt).0 ∙ before.sector j lt;
  last = λ j lt.
      (noted j lt).1
      ∙ ap₂ (λ o x. or_here o (hits v x) v.position) (before.last j lt) (ap (λ x. x.0) (before.sector j lt))
      ∙ sym (live_back s log (place_at base j).sector.0 w u v next at h);
}

-- a live slot is in the log
pub live_inside : (x : ℕ) (es : List Entry) (i : ℕ) → live x es ≡ Some i → i < length es
live_inside x [] i h = absurd (grind arith)
live_inside x (e ∷ es) i h = inside (live x es) (live_inside x es) (eqb e.sector x && counts (e ∷ es)) h
  where
    inside : (o : Option ℕ) → ((k : ℕ) → o ≡ Some k → k < length es) → (hit : Bool) → later o (cond hit (Some 0) None) ≡ Some i → i < length (e ∷ es)
    inside (Some k) before hit g = let lt = before k refl in let same : suc k ≡ i = cc in omega arith
    inside None before true g = let same : ◌≡◌ {A = ℕ} 0 i = cc in omega arith
    inside None before false g = absurd (grind arith)

-- so no position behind the log is live
none_behind : (x : ℕ) (es : List Entry) (j : ℕ) → length es ≤ j → points (live x es) j ≡ false
none_behind x es j le = behind (live x es) refl
  where
    behind : (o : Option ℕ) → live x es ≡ o → points o j ≡ false
    behind None is = refl
    behind (Some i) is = ne_eqb i j (λ e. omega (arith, live_inside x es i is))

-- the directory of the first block has the sectors of the first seven positions
sector_in_front : (s : Flash) (z : Sizes) (c j : ℕ) (ds : List Descriptor) → j < 7 → Describes s (chip_block z (block_at z c 0)) ds → sector_of ds j ≡ sector_at s z c j
sector_in_front s z c j ds lt h =
    let same : block_at z c 0 ≡ block_at z c j = ap (λ t. (first_block z c + t) % z.ring) (omega arith) in
    let own : j ≡ j % 7 = omega arith in
    h.sector j lt
    ∙ ap (λ b. s.byte (chip_block z b) (4 * j + 1) + 256 * s.byte (chip_block z b) (4 * j + 2)) same
    ∙ ap (λ i. s.byte (chip_block z (block_at z c j)) (4 * i + 1) + 256 * s.byte (chip_block z (block_at z c j)) (4 * i + 2)) own

live_in_front : (s : Flash) (z : Sizes) (c m j : ℕ) (ds : List Descriptor) → j < 7 → Describes s (chip_block z (block_at z c 0)) ds → points (live (sector_of ds j) (log_of s z c m)) j ≡ is_live (log_of s z c m) j
live_in_front s z c m j ds lt h =
    let long = length-row (entry_at s z c) m in
    ⊎_elim
    (λ inside. ap (λ x. points (live x (log_of s z c m)) j)
    (sector_in_front s z c j ds lt h ∙ sym (ap (λ e. e.sector) (get_or-row (entry_at s z c) m j no_entry inside))))
    (λ behind. none_behind (sector_of ds j) (log_of s z c m) j (omega (arith, long))
    ∙ sym (none_behind (get_or (log_of s z c m) j no_entry).sector (log_of s z c m) j (omega (arith, long))))
    (cases_lt j m)

pub front_is : (s : Flash) (log : Log) (p : ℕ) (ds : List Descriptor) (base ps : List Place) (r : List Bool) → p ≡ 0 → Describes s (chip_block log.layout.sizes (block_at log.layout.sizes log.layout.cleared 0)) ds → Told ds base → Latest s log base p ps → Own ps r → LiveFrontAmong s log.layout.sizes log.layout.cleared log.claimed r
front_is s log p ds base ps r end h told latest own j lt =
    own j lt
    ∙ ap (λ o. points o j) (latest.last j lt ∙ ap (λ x. last_in s log x p) (told j lt).0 ∙ last_all s log.layout.sizes log.layout.cleared log.claimed (sector_of ds j) p end)
    ∙ live_in_front s log.layout.sizes log.layout.cleared log.claimed j ds lt h
