-- The invariant after an accepted format.
use Rattle.std.proofs.Common.{◌≡◌, ℕ, List, [], ◌∷◌, length, Some, None, Option, sym, refl, ◌∙◌, ⊎_elim, arith, Bor}
use Rattle.std.proofs.lemmas.List.{get_or_past, get_or_default}
use Rattle.std.proofs.lemmas.Bool.{cases_lt}
use Rattle.chip.specs.Flash.{Flash}
use Rattle.label.specs.declared.Sizes.{Sizes}
use Rattle.label.specs.declared.Label.{Label}
use Rattle.label.specs.Labels.{Sized, Good}
use Rattle.label.specs.Written.{label_bytes, Fresh, Named}
use Rattle.label.proofs.Reread.{reread}
use Rattle.ring.proofs.Searching.{length-row, get_or-row}
use Rattle.image.specs.Fronts.{front_page}
use Rattle.laid.proofs.Frames.{sane_empty}
use Rattle.engine.specs.declared.memory.Memory.{Memory}
use Rattle.engine.specs.Memories.{halted}
use Rattle.engine.specs.Formats as formats
use Rattle.engine.specs.Formats.{sizes_on, Accepts}
use Rattle.runs.specs.Ledger.{blank}
use Rattle.runs.proofs.Standing.{Inv}
use Rattle.runs.proofs.Common.{sized_kept}

-- the first page of a formatted chip holds its label and nothing else
fresh_front : (z : Sizes) (name : List ℕ) (s t : Flash) → formats.Formatted (label_bytes z name) s t → Fresh (front_page t) z name
fresh_front z name s t image = record {
  whole = length-row (t.byte 0) 512;
  bytes =
      λ o lt. get_or-row (t.byte 0) 512 o 0 lt
      ∙ ⊎_elim
      (λ below. image.front o below ∙ get_or_default (label_bytes z name) o 0 255 below)
      (λ above. image.behind o above (omega arith) ∙ sym (get_or_past (label_bytes z name) o 255 above))
      (cases_lt o (length (label_bytes z name)));
}

-- a name as a label has it
abbrev part : List ℕ → Option (Bor (List ℕ))
part [] = None
part (x ∷ xs) = Some (record { ref_ptr = (0, 0); now = x ∷ xs })

named_part : (name : List ℕ) → Named name (part name)
named_part [] = refl
named_part (x ∷ xs) = (omega arith, refl)

-- an accepted format leaves a volume that is not started and holds nothing
pub format_inv : (sectors tally : ℕ) (name : List ℕ) (s t : Flash) (m : Memory) → Accepts sectors tally name s t → Inv (sizes_on s.blocks sectors tally) t (halted m) blank
format_inv sectors tally name s t m done =
    let z : Sizes = sizes_on s.blocks sectors tally in
    let sized : Sized s.blocks z = done.takes.sized in
    let same : t.blocks ≡ s.blocks = done.image.frame.blocks in
    let kept : Sized t.blocks z = sized_kept s t same sized in
    let label : Label = record { sizes = z; name = part name } in
    let good : Good (front_page t) t.blocks label =
    reread (front_page t) name t.blocks label done.takes.short kept (fresh_front z name s t done.image) (named_part name) in
    record {
      labelled = record { label = label; good = good; same = refl };
      sized = kept;
      carries = record {
        cleared = 0;
        entries = [];
        shaped = record { ring_least = sized.ring_least; ring_most = sized.ring_most; tally_most = sized.tally_most; cleared_most = omega arith };
        sane = sane_empty t z (λ b o some lt inside. done.image.others b o some (omega (arith, sized.whole)) inside);
        holds = λ x. refl;
      };
      kept = refl;
    }
