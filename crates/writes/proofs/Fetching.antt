-- What was fetched of a position is its number and its page.
use Rattle.std.proofs.Common.{◌≡◌, ℕ, ◌+◌, ◌*◌, ◌%◌, ◌<◌, List, length, get_or, ap, ◌∙◌, subst, arith}
use Rattle.chip.specs.Flash.{Flash}
use Rattle.label.specs.declared.Sizes.{Sizes}
use Rattle.ring.specs.Places.{chip_block, block_at, descriptor_byte, page_byte, sector_at, page_at}
use Rattle.ring.proofs.Searching.{row_is}
use Rattle.laid.specs.Sane.{Readable}

-- a list has n bytes of a block from an offset on
abbrev pub Fetched : Flash → ℕ → ℕ → ℕ → List ℕ → Type 0
Fetched s b at n new = (k : ℕ) → k < n → get_or new k 0 ≡ s.byte b (at + k)

-- these n are bytes
abbrev pub Bytes : Flash → ℕ → ℕ → ℕ → Type 0
Bytes s b at n = (k : ℕ) → k < n → s.byte b (at + k) < 256

-- in the chip's block of a position
module _ (s : Flash) (z : Sizes) (c p b : ℕ) (there : b ≡ chip_block z (block_at z c p)) where
  at_number : (k : ℕ) → s.byte b (4 * (p % 7) + 1 + k) ≡ descriptor_byte s z c p (k + 1)
  at_number k = ap (s.byte b) (omega arith) ∙ ap (λ n. s.byte n (4 * (p % 7) + (k + 1))) there

  at_page : (o : ℕ) → s.byte b (512 * (p % 7 + 1) + o) ≡ page_byte s z c p o
  at_page o = ap (λ n. s.byte n (512 * (p % 7 + 1) + o)) there

  pub number_is : (bytes : List ℕ) → Fetched s b (4 * (p % 7) + 1) 2 bytes → get_or bytes 0 0 + get_or bytes 1 0 * 256 ≡ sector_at s z c p
  number_is bytes h = omega (arith, h 0 (omega arith), h 1 (omega arith), at_number 0, at_number 1)

  pub page_is : (page : List ℕ) → length page ≡ 512 → Fetched s b (512 * (p % 7 + 1)) 512 page → page ≡ page_at s z c p
  page_is page long h = row_is (page_byte s z c p) page 512 0 long (λ o lt. h o lt ∙ at_page o)

  pub reads : Bytes s b (4 * (p % 7) + 1) 2 → Bytes s b (512 * (p % 7 + 1)) 512 → Readable s z c p
  reads number page = record {
    number = λ k lt. subst (λ n. n < 256) (at_number k) (number k lt);
    page = λ o lt. subst (λ n. n < 256) (at_page o) (page o lt);
  }
