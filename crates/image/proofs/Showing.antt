-- The bytes of a live slot are the page that its sector holds.
use Rattle.std.proofs.Common.{◌≡◌, ℕ, ◌+◌, ◌*◌, ◌/◌, ◌%◌, ◌<◌, ◌≤◌, List, length, get_or, Some, sym, ap, ◌∙◌, ap₂, mod-lt, arith}
use Rattle.chip.specs.Flash.{Flash}
use Rattle.label.specs.declared.Sizes.{Sizes}
use Rattle.ring.specs.Places.{chip_block, block_at, slot_at, first_block, page_byte}
use Rattle.ring.specs.Logs.{Entry, no_entry, live, shows, holds, entry_at, log_of}
use Rattle.ring.proofs.Searching.{length-row, get_or-row, row_is}
use Rattle.lookup.proofs.Fronting.{live_inside}

-- a position has a slot of the ring
pub slot_inside : (z : Sizes) (c i : ℕ) → 5 ≤ z.ring → slot_at z c i < 7 * z.ring
slot_inside z c i some =
    let lt : block_at z c i < z.ring = mod-lt (first_block z c + i / 7) (omega arith) in
    omega arith

-- what is read of the live slot is what the sector holds
pub page_held : (s : Flash) (z : Sizes) (c m x i t : ℕ) (page : List ℕ) → live x (log_of s z c m) ≡ Some i → t ≡ slot_at z c i → length page ≡ 512 → ((k : ℕ) → k < 512 → get_or page k 0 ≡ s.byte (chip_block z (t / 7)) (512 * (t % 7 + 1) + k)) → holds x (log_of s z c m) ≡ Some page
page_held s z c m x i t page is e long bytes =
    let block : t / 7 ≡ block_at z c i = omega arith in
    let place : t % 7 ≡ i % 7 = omega arith in
    let lt : i < m = omega (arith, live_inside x (log_of s z c m) i is, length-row (entry_at s z c) m) in
    ap (shows (log_of s z c m)) is
    ∙ ap Some
    (ap (λ (y : Entry). y.page) (get_or-row (entry_at s z c) m i no_entry lt)
    ∙ sym (row_is (page_byte s z c i) page 512 0 long
    (λ k inside. bytes k inside ∙ ap₂ (λ b o. s.byte (chip_block z b) (512 * (o + 1) + k)) block place)))
