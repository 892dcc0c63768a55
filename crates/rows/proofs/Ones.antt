-- What a byte has that was programmed and spared some of its ones: no more ones than it had, and each that a whole
-- program leaves. By its digits.
use Rattle.std.proofs.Common.{◌≡◌, ℕ, arith}
use lib.Bits.{bit_and, bit_or}
use Rattle.std.proofs.lemmas.Nat.Bits.{bit_at_and, bit_at_or, same_from_bits}

pub under : (a w : ℕ) → bit_and (bit_and a w) a ≡ bit_and a w
under a w = same_from_bits _ _ (λ i. omega (arith, bit_at_and (bit_and a w) a i, bit_at_and a w i))

pub over : (a g m : ℕ) → bit_and (bit_and a (bit_or g m)) (bit_and a g) ≡ bit_and a g
over a g m =
    same_from_bits _ _
    (λ i. omega (arith, bit_at_and (bit_and a (bit_or g m)) (bit_and a g) i, bit_at_and a (bit_or g m) i, bit_at_and a g i, bit_at_or g m i))
