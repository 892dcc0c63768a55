-- What the calls of a buffered chip leave of it.
use Rattle.std.specs.Prelude.{◌≡◌, Result}
use Rattle.chip.specs.declared.Fault.{Fault}
use Rattle.chip.specs.Flash.{Flash}
use Rattle.rows.specs.Rows.{flash_of}
use Rattle.buffered_chip.specs.declared.Buffered.{Buffered}
use Rattle.buffered_chip.specs.Plans.{counted, powered}

-- the flash that the chip is
abbrev pub shown : Buffered → Flash
shown c = flash_of c.image.now c.status.on c.status.name

-- a call that begins no step keeps the bytes, the page buffer, the name and the plan
pub record Idle (s t : Buffered) : Type 0 where
  pub page : t.page ≡ s.page
  pub image : t.image.now ≡ s.image.now
  pub name : t.status.name ≡ s.status.name
  pub plan : t.status.plan ≡ s.status.plan

-- what a program or an erase leaves beside the bytes, by its answer
pub record Settled (s : Buffered) (r : Result (Unit {0}) Fault) (t : Buffered) : Type 0 where
  pub name : t.status.name ≡ s.status.name
  pub on : t.status.on ≡ powered r s.status.on
  pub plan : t.status.plan ≡ counted r s.status.plan
