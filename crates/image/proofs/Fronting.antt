-- What is read of a chip's first page is said of the chip.
use Rattle.std.proofs.Common.{◌≡◌, ℕ, ◌<◌, true, List, refl, subst, ⊎_elim, arith}
use Rattle.std.proofs.lemmas.Bool.{cases_eq}
use Rattle.chip.specs.Flash.{Flash}
use Rattle.label.specs.declared.Label.{Label}
use Rattle.label.specs.Labels as labels
use Rattle.label.specs.Labels.{Good, Faulty}
use Rattle.label.specs.Pages.{Fronts}
use Rattle.ring.proofs.Searching.{row_is}
use Rattle.image.specs.Fronts.{front_page, LabelledBy}

front_is : (s : Flash) (page : List ℕ) → Fronts s page → s.on ≡ true → 0 < s.blocks → page ≡ front_page s
front_is s page f on some = row_is (s.byte 0) page 512 0 f.whole (f.served some on)

pub good_there : (s : Flash) (page : List ℕ) (n : ℕ) (l : Label) → n ≡ s.blocks → Fronts s page → s.on ≡ true → Good page n l → LabelledBy s l.sizes
good_there s page n l e f on good =
    let here = subst (λ (x : List ℕ). Good x n l) (front_is s page f on (omega (arith, good.sized.whole))) good in
    record { label = l; good = subst (λ b. Good (front_page s) b l) e here; same = refl }

-- without blocks the page does not matter
faulty_empty : (page other : List ℕ) (n at : ℕ) → n ≡ 0 → Faulty page n at → Faulty other n at
faulty_empty page other n at none (labels.no_blocks b z) = labels.no_blocks b z
faulty_empty page other n at none (labels.field k some before not_legal e) = absurd (omega arith)
faulty_empty page other n at none (labels.stray k some stops stray) = absurd (omega arith)
faulty_empty page other n at none (labels.sizes k some stops blank not-sized e) = absurd (omega arith)

pub faulty_there : (s : Flash) (page : List ℕ) (n at : ℕ) → n ≡ s.blocks → Fronts s page → s.on ≡ true → Faulty page n at → Faulty (front_page s) s.blocks at
faulty_there s page n at e f on h =
    subst (λ b. Faulty (front_page s) b at) e
    (⊎_elim
    (λ none. faulty_empty page (front_page s) n at none h)
    (λ some. subst (λ (x : List ℕ). Faulty x n at) (front_is s page f on (omega (arith, some))) h)
    (cases_eq n 0))
