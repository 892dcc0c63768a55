-- The masks that clear one bit of a byte.
use Rattle.std.proofs.Common.{◌≡◌, ℕ, zero, suc, ◌-◌, ◌/◌, ◌^◌, ◌<◌, refl, arith}

-- the first bit of a byte, moved down by m
pub moved_down : (m : ℕ) → m < 8 → 128 / 2 ^ m ≡ 2 ^ (7 - m)
moved_down zero lt = refl
moved_down (suc zero) lt = refl
moved_down (suc (suc zero)) lt = refl
moved_down (suc (suc (suc zero))) lt = refl
moved_down (suc (suc (suc (suc zero)))) lt = refl
moved_down (suc (suc (suc (suc (suc zero))))) lt = refl
moved_down (suc (suc (suc (suc (suc (suc zero)))))) lt = refl
moved_down (suc (suc (suc (suc (suc (suc (suc zero))))))) lt = refl
moved_down (suc (suc (suc (suc (suc (suc (suc (suc m)))))))) lt = absurd (omega arith)
