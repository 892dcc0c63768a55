-- What was found in the fields so far, and how one more field adds to it.
use Rattle.std.specs.Prelude.{◌≡◌, ℕ, List, Some, None, Ok, Err, Option, Result, ◌≢◌}
use Rattle.label.specs.declared.Sizes.{Sizes}
use Rattle.label.specs.declared.LabelFault.{LabelFault}
use Rattle.label.specs.declared.Ended.{Ended}
use Rattle.label.specs.declared.field.Field.{Field}
use Rattle.label.specs.declared.field.Field.TheVariants.{Format, Ring, Sectors, Tally, Name, Skipped, End}
use Rattle.label.specs.declared.found.Found.{Found}
use Rattle.label.specs.Fields.{place, Legal, Before, Ends, Noted, Number, Bytes}

-- before the first field
abbrev pub Nothing : Found → Type 0
Nothing f = (f.format ≡ None) × (f.ring ≡ None) × (f.sectors ≡ None) × (f.tally ≡ None) × (f.name ≡ None)

-- a value goes where none was; a second one is a fault
abbrev pub Kept : {V U : Type 0} → Option V → V → ℕ → Result U LabelFault → Option V → Type 0
Kept old v at (Ok u) new = (old ≡ None) × (new ≡ Some v)
Kept old v at (Err fault) new = (old ≢ None) × (fault.at ≡ at)

-- how a field at a byte is taken
abbrev pub Taken : Found → Field → ℕ → Result (Unit {0}) LabelFault → Found → Type 0
Taken old (Format v) at r new = Kept old.format v at r new.format × (new.ring ≡ old.ring) × (new.sectors ≡ old.sectors) × (new.tally ≡ old.tally) × (new.name ≡ old.name)
Taken old (Ring v) at r new = Kept old.ring v at r new.ring × (new.format ≡ old.format) × (new.sectors ≡ old.sectors) × (new.tally ≡ old.tally) × (new.name ≡ old.name)
Taken old (Sectors v) at r new = Kept old.sectors v at r new.sectors × (new.format ≡ old.format) × (new.ring ≡ old.ring) × (new.tally ≡ old.tally) × (new.name ≡ old.name)
Taken old (Tally v) at r new = Kept old.tally v at r new.tally × (new.format ≡ old.format) × (new.ring ≡ old.ring) × (new.sectors ≡ old.sectors) × (new.name ≡ old.name)
Taken old (Name s) at r new = Kept old.name s at r new.name × (new.format ≡ old.format) × (new.ring ≡ old.ring) × (new.sectors ≡ old.sectors) × (new.tally ≡ old.tally)
Taken old (Skipped s) at (Ok u) new = new ≡ old
Taken old (Skipped s) at (Err fault) new = ⊥
Taken old End at (Ok u) new = new ≡ old
Taken old End at (Err fault) new = ⊥

-- the sizes that were found, with the format 1
abbrev pub Holds : Found → Sizes → Type 0
Holds f x = (f.format ≡ Some 1) × (f.ring ≡ Some x.ring) × (f.sectors ≡ Some x.sectors) × (f.tally ≡ Some x.tally)

-- those sizes, or that there are none
abbrev pub Stated : Found → Option Sizes → Type 0
Stated f None = (x : Sizes) → Holds f x → ⊥
Stated f (Some x) = Holds f x

-- what was found in the first n fields
pub record Says (page : List ℕ) (n : ℕ) (f : Found) : Type 0 where
  pub format : Noted page n 1 (Number page) f.format
  pub ring : Noted page n 2 (Number page) f.ring
  pub sectors : Noted page n 3 (Number page) f.sectors
  pub tally : Noted page n 4 (Number page) f.tally
  pub name : Noted page n 5 (Bytes page) f.name

-- the fields up to the end, with the byte of the end and what they say
pub record Reached (page : List ℕ) (all : Ended) : Type 0 where
  pub count : ℕ
  pub ends : Ends page count
  pub says : Says page count all.found
  pub end : all.end ≡ place page count

-- the byte of the first field that is not in order
pub record Broken (page : List ℕ) (at : ℕ) : Type 0 where
  pub count : ℕ
  pub before : Before page count
  pub illegal : Legal page count → ⊥
  pub place : at ≡ place page count

-- what the reader of all fields answers
abbrev pub Gathered : List ℕ → Result Ended LabelFault → Type 0
Gathered page (Ok all) = Reached page all
Gathered page (Err fault) = Broken page fault.at
