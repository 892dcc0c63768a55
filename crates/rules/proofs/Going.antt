-- Going over the blocks of the ring in their order, each at its turn of the log, to the first place that has a property.
use Rattle.std.proofs.Common.{◌≡◌, ℕ, ◌+◌, ◌*◌, ◌/◌, ◌%◌, ◌<◌, Some, None, sym, ◌∙◌, subst, ⊎_elim, mod-lt, arith}
use Rattle.std.proofs.lemmas.Bool.{cases_order}
use Rattle.label.specs.declared.Sizes.{Sizes}
use Rattle.ring.specs.Searches.{First}
use Rattle.ring.specs.Places.{first_block, positions, block_at, slot_at}
use Rattle.ring.specs.Turns.{Shaped, Turned, turns_of}
use Rattle.ring.specs.Rules.{At}
use Rattle.ring.proofs.Turning.{comes_once, starts_inside}
use Rattle.rules.specs.Firsts.{FirstAtTurn}

-- no position of a ring block below b has the property
abbrev pub Clear : Sizes → ℕ → (ℕ → Type 0) → ℕ → Type 0
Clear z c P b = (p : ℕ) → p < positions z c → block_at z c p < b → P p → ⊥

-- the turn and the slot of a position
pub turn_is : (i j : ℕ) → j < 7 → (7 * i + j) / 7 ≡ i
turn_is i j lt = omega arith

pub slot_is : (i j : ℕ) → j < 7 → (7 * i + j) % 7 ≡ j
slot_is i j lt = omega arith

-- a position of the block that comes at turn i is one of seven
of_turn : (z : Sizes) (c b i : ℕ) → Shaped z c → Turned z c b (Some i) → (p : ℕ) → p < positions z c → block_at z c p ≡ b → p ≡ 7 * i + p % 7
of_turn z c b i h t p inside at =
    let in_turns : p / 7 < turns_of z c = omega arith in
    let same : p / 7 ≡ i = comes_once z.ring (first_block z c) (p / 7) i (starts_inside z c h) (omega arith) (omega (arith, t.0)) (at ∙ sym t.1) in
    omega arith

-- and each of the seven lies in that block
in_block : (z : Sizes) (c b i j : ℕ) → Turned z c b (Some i) → j < 7 → block_at z c (7 * i + j) ≡ b
in_block z c b i j t lt = subst (λ k. (first_block z c + k) % z.ring ≡ b) (sym (turn_is i j lt)) t.1

pub clear_none : (z : Sizes) (c : ℕ) (P : ℕ → Type 0) → Clear z c P 0
clear_none z c P p inside lt bad = omega arith

-- one block more, in which no position has the property
pub clear_more : (z : Sizes) (c : ℕ) (P : ℕ → Type 0) (b : ℕ) → Clear z c P b → ((p : ℕ) → p < positions z c → block_at z c p ≡ b → P p → ⊥) → Clear z c P (b + 1)
clear_more z c P b clear here p inside lt bad =
    ⊎_elim (λ e. here p inside e bad)
    (⊎_elim (λ less. clear p inside less bad) (λ more. absurd (omega (arith, lt, more))))
    (cases_order (block_at z c p) b)

-- a turn at which no slot has it
pub clear_turn : (z : Sizes) (c : ℕ) (P : ℕ → Type 0) (b i : ℕ) → Shaped z c → Turned z c b (Some i) → FirstAtTurn P i None → Clear z c P b → Clear z c P (b + 1)
clear_turn z c P b i h t first clear =
    clear_more z c P b clear
    (λ p inside at bad. first (p % 7) (omega arith) (subst P (of_turn z c b i h t p inside at) bad))

-- the block without a turn
pub clear_skip : (z : Sizes) (c : ℕ) (P : ℕ → Type 0) (b : ℕ) → Turned z c b None → Clear z c P b → Clear z c P (b + 1)
clear_skip z c P b none clear = clear_more z c P b clear (λ p inside at bad. none p inside at)

-- the first slot is in the first block that has one, and is the first there
pub first_slot : (z : Sizes) (c : ℕ) (P : ℕ → Type 0) (b i j : ℕ) → Shaped z c → Turned z c b (Some i) → FirstAtTurn P i (Some j) → Clear z c P b → First (At z c (slot_at z c) P) (Some (7 * b + j))
first_slot z c P b i j h t first clear =
    let e = in_block z c b i j t first.0 in
    let s = slot_is i j first.0 in (
      (7 * i + j, omega (arith, t.0, first.0), omega (arith, e, s), first.1),
      λ q lt hit.
          let p = hit.0 in
          ⊎_elim
          (λ at.
          let same = of_turn z c b i h t p hit.1 at in
          first.2 (p % 7) (omega (arith, lt, hit.2, at)) (subst P same hit.3))
          (⊎_elim (λ less. clear p hit.1 less hit.3) (λ more. absurd (omega (arith, lt, hit.2, more, first.0))))
          (cases_order (block_at z c p) b),
    )

-- the first block is the first that has such a position
pub first_block_is : (z : Sizes) (c : ℕ) (P : ℕ → Type 0) (b i : ℕ) → Turned z c b (Some i) → ((p : ℕ) → block_at z c p ≡ b → P p) → Clear z c P b → First (At z c (block_at z c) P) (Some b)
first_block_is z c P b i t here clear =
    let e = in_block z c b i 0 t (omega arith) in (
      (7 * i + 0, omega (arith, t.0), e, here (7 * i + 0) e),
      λ q lt hit. clear hit.0 hit.1 (omega (arith, lt, hit.2)) hit.3,
    )

-- there is no such position
pub no_place : (z : Sizes) (c : ℕ) (P : ℕ → Type 0) (place : ℕ → ℕ) → Shaped z c → Clear z c P z.ring → First (At z c place P) None
no_place z c P place h clear n hit = clear hit.0 hit.1 (mod-lt _ (omega (arith, h.ring_least))) hit.3
