-- That the sums and products of this crate's arithmetic fit 32 bits, over plain numbers. Assumes nothing.
use Prim.Native.Nat.{ℕ, ◌*◌, ◌-◌, ◌/◌, ◌≤◌}
use native.Mathlib.Omega.{arith}
use native.Mathlib.Nat.{le_trans, mul-le-mul_left, mul-le-mul_right, div-mul-le_self}

-- one gap or two, and one less
pub gaps_most : (n g : ℕ) → n ≤ 2 → (n * g ≤ 2 * g) × ((n - 1) * g ≤ g)
gaps_most n g h = (mul-le-mul_right g h, at_most (mul-le-mul_right g one))
  where
    one : n - 1 ≤ 1
    one = omega arith

    at_most : (n - 1) * g ≤ 1 * g → (n - 1) * g ≤ g
    at_most k = omega (arith, k)

-- whole periods of p ticks within t, and the budgets in them
pub whole-most : (t p b g : ℕ) → b ≤ p → (t - g) / p * b ≤ t
whole-most t p b g h =
    le_trans (mul-le-mul_left ((t - g) / p) h) (omega (arith, div-mul-le_self (t - g) p))
