-- The puts of a batch: what a sector holds once they are written, and the entries that they are in a log.
use Rattle.std.specs.Prelude.{ℕ, cond, List, [], ◌∷◌, ◌++◌, map, Some, Option, ◌==◌}
use Rattle.ring.specs.Logs.{Entry}

-- a page that was put to a sector
pub record Put : Type 0 where
  pub sector : ℕ
  pub page : List ℕ

-- what the sector x holds after some puts, one after another
abbrev pub wrote : ℕ → Option (List ℕ) → List Put → Option (List ℕ)
wrote x old [] = old
wrote x old (p ∷ ps) = wrote x (cond (p.sector == x) (Some p.page) old) ps

-- a put in a log: filled (5F hex), and as the last of a batch that is closed (4F hex)
abbrev pub filled_put : Put → Entry
filled_put p = record { flags = 95; sector = p.sector; page = p.page }

abbrev pub closed_put : Put → Entry
closed_put p = record { flags = 79; sector = p.sector; page = p.page }

-- the puts of a batch that is open
abbrev pub filled_puts : List Put → List Entry
filled_puts ps = map filled_put ps

-- those of a batch that is closed, the last of them apart
abbrev pub closed_puts : List Put → Put → List Entry
closed_puts ps p = filled_puts ps ++ (closed_put p ∷ [])
