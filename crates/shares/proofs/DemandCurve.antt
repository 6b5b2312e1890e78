-- The laws of demand on which the search rests: a longer length and a task more demand no less, some ticks are demanded, and not too many.
-- Assumes nothing.
use Prim.Native.Nat.{ℕ, zero, suc, ◌+◌, ◌*◌, ◌-◌, ◌≤◌, ◌<◌}
use mathlib.Core.Path.{◌≡◌}
use mathlib.Core.List.{List}
use native.Mathlib.Omega.{arith}
use native.Mathlib.Nat.{le_trans, le_refl, mul-le-mul, mul-le-mul_left, mul-le-mul_right, div-mul-le_self, le-div_iff_mul-le}
use lib.ListN.{length, get_or}
use Rattle.model.specs.Demand.{ceil, demand_of}
use Rattle.shares.specs.Private.{IsTaskList, longest}
use Rattle.shares.proofs.Numbers.{div_mono}

pub demand-longer : (ps es : List ℕ) (i t u : ℕ) → t ≤ u → demand_of ps es i t ≤ demand_of ps es i u
demand-longer ps es zero t u h = le_refl 0
demand-longer ps es (suc i) t u h =
    let p = get_or ps i 0 in
    omega (arith, demand-longer ps es i t u h, mul-le-mul_right (get_or es i 0) (div_mono (t + (p - 1)) (u + (p - 1)) p (omega arith)))

pub demand-more : (ps es : List ℕ) (i t : ℕ) → demand_of ps es i t ≤ demand_of ps es (suc i) t
demand-more ps es i t = omega arith

-- one task of period p and cost e demands at most t + p ticks
pub one-most : (p e t : ℕ) → e ≤ p → ceil t p * e ≤ t + p
one-most p e t h =
    le_trans (mul-le-mul_left (ceil t p) h) (omega (arith, div-mul-le_self (t + (p - 1)) p))

pub one-some : (p e t : ℕ) → 1 ≤ p → 1 ≤ e → 1 ≤ t → 1 ≤ ceil t p * e
one-some p e t pos some-e some-t =
    let whole : 1 ≤ ceil t p = (le-div_iff_mul-le pos).1 (omega arith) in
    mul-le-mul whole some-e

module _ (ps es : List ℕ) (tasks : IsTaskList ps es) where
  pub demand-some : (i t : ℕ) → i < length ps → 1 ≤ t → 1 ≤ demand_of ps es (suc i) t
  demand-some i t h pos =
      omega (arith, one-some (get_or ps i 0) (get_or es i 0) t (tasks.period-least i h) (tasks.cost-least i h) pos)

  pub demand-most : (i t : ℕ) → i ≤ length ps → t ≤ 2000 → demand_of ps es i t ≤ i * 4000
  demand-most zero t h le = omega arith
  demand-most (suc i) t h le =
      omega
      (arith, demand-most i t (omega arith) le, one-most (get_or ps i 0) (get_or es i 0) t (tasks.cost-most i h), tasks.period-most i h)

  -- no period is above a later one, and so none above the last
  pub rising_to : (k i : ℕ) → i + k < length ps → get_or ps i 0 ≤ get_or ps (i + k) 0
  rising_to zero i h = let e : i + 0 ≡ i = omega arith in rw e (le_refl _)
  rising_to (suc k) i h =
      let e : i + suc k ≡ suc (i + k) = omega arith in
      rw e (le_trans (rising_to k i (omega arith)) (tasks.rising (i + k) (omega arith)))

  pub under-longest : (i : ℕ) → i < length ps → get_or ps i 0 ≤ longest ps
  under-longest i h =
      let e : i + (length ps - 1 - i) ≡ length ps - 1 = omega arith in
      rw e at (rising_to (length ps - 1 - i) i (omega arith))

  pub longest-most : longest ps ≤ 2000
  longest-most = tasks.period-most (length ps - 1) (omega (arith, tasks.some-task))
