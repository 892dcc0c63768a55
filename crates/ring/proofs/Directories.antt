-- What holds of each of the seven slots of a block.
use Rattle.std.proofs.Common.{ℕ, zero, suc, ◌<◌, arith}

pub seven : (P : ℕ → Type 0) → P 0 → P 1 → P 2 → P 3 → P 4 → P 5 → P 6 → (j : ℕ) → j < 7 → P j
seven P a b c d e f g zero lt = a
seven P a b c d e f g (suc zero) lt = b
seven P a b c d e f g (suc (suc zero)) lt = c
seven P a b c d e f g (suc (suc (suc zero))) lt = d
seven P a b c d e f g (suc (suc (suc (suc zero)))) lt = e
seven P a b c d e f g (suc (suc (suc (suc (suc zero))))) lt = f
seven P a b c d e f g (suc (suc (suc (suc (suc (suc zero)))))) lt = g
seven P a b c d e f g (suc (suc (suc (suc (suc (suc (suc n))))))) lt = absurd (omega arith)
