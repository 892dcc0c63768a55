-- A ring block with strays in its directory, and the positions of that block.
use Rattle.std.proofs.Common.{◌≡◌, ℕ, ◌+◌, true, false, is_some, Some, None, Option, sym, subst}
use Rattle.std.proofs.lemmas.Bool.{true≢false, false≢true}
use Rattle.chip.specs.Flash.{Flash}
use Rattle.label.specs.declared.Sizes.{Sizes}
use Rattle.ring.specs.Searches.{First}
use Rattle.ring.specs.Places.{chip_block, block_at}
use Rattle.ring.specs.Turns.{Turned}
use Rattle.ring.specs.Rules.{At, Scribbled}
use Rattle.rules.specs.Bytes.{Strays}
use Rattle.rules.proofs.Going.{Clear, clear_more, clear_skip, first_block_is}

-- a position of a block with strays is scribbled, and no other is
scribbled : (s : Flash) (z : Sizes) (c b p : ℕ) → Strays (s.byte (chip_block z b)) → block_at z c p ≡ b → Scribbled s z c p
scribbled s z c b p h at = record { offset = h.0; inside = h.1; spare = h.2; marked = subst (λ k. s.byte (chip_block z k) h.0 ≡ 255 → ⊥) (sym at) h.3 }

strays : (s : Flash) (z : Sizes) (c b p : ℕ) → Scribbled s z c p → block_at z c p ≡ b → Strays (s.byte (chip_block z b))
strays s z c b p h at = (h.offset, h.inside, h.spare, subst (λ k. s.byte (chip_block z k) h.offset ≡ 255 → ⊥) at h.marked)

-- the first block of the log with strays
pub scribbled_first : {s t : Flash} (z : Sizes) (c b n : ℕ) (o : Option ℕ) → t ≡ s → Turned z c b o → is_some o ≡ true → n ≡ chip_block z b → Strays (t.byte n) → Clear z c (Scribbled s z c) b → First (At z c (block_at z c) (Scribbled s z c)) (Some b)
scribbled_first {s = s} z c b n (Some i) e turned some at h clear =
    let h' : Strays (s.byte (chip_block z b)) = subst (λ k. Strays (s.byte k)) at (subst (λ u. Strays (u.byte n)) e h) in
    first_block_is z c (Scribbled s z c) b i turned (λ p in_b. scribbled s z c b p h' in_b) clear
scribbled_first z c b n None e turned some at h clear = absurd (false≢true some)

-- a block without strays, and one that has no turn
pub scribbled_not : {s t : Flash} (z : Sizes) (c b n : ℕ) → t ≡ s → n ≡ chip_block z b → (Strays (t.byte n) → ⊥) → Clear z c (Scribbled s z c) b → Clear z c (Scribbled s z c) (b + 1)
scribbled_not {s = s} z c b n e at h clear =
    let h' : Strays (s.byte (chip_block z b)) → ⊥ = subst (λ k. Strays (s.byte k) → ⊥) at (subst (λ u. Strays (u.byte n) → ⊥) e h) in
    clear_more z c (Scribbled s z c) b clear (λ p inside in_b bad. h' (strays s z c b p bad in_b))

pub scribbled_skip : {s : Flash} (z : Sizes) (c b : ℕ) (o : Option ℕ) → Turned z c b o → is_some o ≡ false → Clear z c (Scribbled s z c) b → Clear z c (Scribbled s z c) (b + 1)
scribbled_skip z c b (Some i) turned some clear = absurd (true≢false some)
scribbled_skip {s = s} z c b None turned some clear = clear_skip z c (Scribbled s z c) b turned clear
