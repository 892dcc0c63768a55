-- What is found among as many slots as an image has claimed is found in its log.
use Rattle.std.proofs.Common.{◌≡◌, ℕ, Some, None, Option, subst}
use Rattle.chip.specs.Flash.{Flash}
use Rattle.label.specs.declared.Sizes.{Sizes}
use Rattle.ring.specs.declared.Slot.{Slot}
use Rattle.ring.specs.Logs.{claimed}
use Rattle.lookup.specs.Answers.{Found, FoundAmong}

pub claimed_found : (s : Flash) (z : Sizes) (c m x : ℕ) (r : Option Slot) → m ≡ claimed s z c → FoundAmong s z c m x r → Found s z c x r
claimed_found s z c m x None e h = subst (λ k. FoundAmong s z c k x None) e h
claimed_found s z c m x (Some t) e h = subst (λ k. FoundAmong s z c k x (Some t)) e h
