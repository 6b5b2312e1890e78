-- Division of natural numbers: it grows with what is divided and falls with the divisor.
-- Assumes nothing.
use Prim.Native.Nat.{ℕ, ◌/◌, ◌≤◌, ◌<◌}
use mathlib.Core.Path.{◌≡◌}
use mathlib.Core.Logic.{◌⊎◌, inl, inr}
use native.Mathlib.Omega.{arith}
use native.Mathlib.Nat.{le_trans, le-div_iff_mul-le, div-mul-le_self, div-zero, eq-zero-or-pos, mul-le-mul_left}

pub div_mono : (a b k : ℕ) → a ≤ b → a / k ≤ b / k
div_mono a b k h = go (eq-zero-or-pos k)
  where
    go : (k ≡ 0) ⊎ (0 < k) → a / k ≤ b / k
    go (inl z) = rw z (rw (div-zero, div-zero) (omega arith))
    go (inr pos) = (le-div_iff_mul-le pos).1 (le_trans (div-mul-le_self a k) h)

pub div_anti : (a k m : ℕ) → 0 < k → k ≤ m → a / m ≤ a / k
div_anti a k m pos h =
    (le-div_iff_mul-le pos).1 (le_trans (mul-le-mul_left (a / m) h) (div-mul-le_self a m))
