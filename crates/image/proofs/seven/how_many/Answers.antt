-- One more is counted where it is true.
use Rattle.std.proofs.Common.{◌≡◌, ℕ, ◌+◌, ◌≤◌, Bool, true, false, cond, ◌⊎◌, sym, ap, ◌∙◌, inl, inr, ⊎_elim, add-zero, arith}
use Rattle.ring.specs.Searches.{count}
use Rattle.ring.proofs.Searching.{count_none, count_more}
use Rattle.image.proofs.seven.how_many.Goals as goal
use Rattle.image.proofs.seven.how_many.Goals.{then-live, else-live}

counted : (f : ℕ → Bool) (j n m : ℕ) → n ≡ count f j → n ≤ j → ((f j ≡ true) × (m ≡ n + 1)) ⊎ ((f j ≡ false) × (m ≡ n)) → (m ≡ count f (j + 1)) × (m ≤ j + 1)
counted f j n m e le way =
    ⊎_elim
    (λ w. (w.1 ∙ ap (λ a. a + 1) e ∙ sym (count_more f j ∙ ap (λ b. count f j + cond b 1 0) w.0), omega (arith, w.1)))
    (λ w. (w.1 ∙ e ∙ sym (count_more f j ∙ ap (λ b. count f j + cond b 1 0) w.0 ∙ add-zero (count f j)), omega (arith, w.1)))
    way

pub loop-live-init : goal.loop-live-init
loop-live-init c = (sym (count_none _), omega arith)

pub loop-live-preserved : goal.loop-live-preserved
loop-live-preserved c =
    counted _ c.loop-live.live-index c.loop-live.n c.if-live.n c.loop-live.invariant.0 c.loop-live.invariant.1
    (elim c.if-live.branch [ then-live w ↦ inl (w.if-live.true, w.n-is) | else-live w ↦ inr (w.if-live.false, w.n-is) ])

pub returns : goal.returns
returns c =
    let all : c.loop-live.live-index ≡ 7 = omega arith in
    c.loop-live.invariant.0 ∙ ap (count _) all
