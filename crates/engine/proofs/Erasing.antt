-- The erases of a format, one block after another.
use Rattle.std.proofs.Common.{ℕ, zero, suc, ◌+◌, ◌<◌, [], ◌∷◌, ◌++◌, Ok, Err, subst, ⊎_elim, add-one, arith}
use Rattle.std.proofs.lemmas.Bool.{cases_eq}
use Rattle.chip.specs.declared.Fault.{Fault}
use Rattle.chip.specs.Flash.{Flash}
use Rattle.chip.specs.Steps.{erase, Worked, Answers}
use Rattle.chip.specs.Plans as plans
use Rattle.chip.specs.Plans.{Tries}
use Rattle.chip.proofs.Performed.{tries_then, tries_less}
use Rattle.engine.specs.Formats.{erasing}

-- nothing is erased yet
pub erase_none : (s : Flash) → Tries (erasing 0) s (Ok tt) s
unfolding erasing
erase_none s = plans.whole

-- one block more is erased
pub erase_more : {n : ℕ} {s m t : Flash} → Tries (erasing n) s (Ok tt) m → Worked (erase n) m t → Tries (erasing (n + 1)) s (Ok tt) t
unfolding erasing
erase_more {n} h w = rw add-one (tries_then h (plans.next w plans.whole))

-- the erase of a block is refused, with n blocks to be erased
pub erase_stops : (b n : ℕ) {s m t : Flash} {f : Fault} → b < n → Tries (erasing b) s (Ok tt) m → Answers (erase b) m (Err f) t → Tries (erasing n) s (Err f) t
unfolding erasing
erase_stops b zero lt h w = absurd (omega arith)
erase_stops b (suc n) {s} {m} {t} {f} lt h w =
    ⊎_elim
    (λ e. subst (λ k. Tries (erasing k ++ (erase k ∷ [])) s (Err f) t) e (tries_then h (plans.stop w)))
    (λ ne. tries_less (erase n ∷ []) (erase_stops b n (omega (arith, ne)) h w))
    (cases_eq b n)
