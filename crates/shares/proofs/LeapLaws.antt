-- The table of leaps: what the search reads from it passes over no length that would do. Assumes nothing.
use Prim.Native.Nat.{ℕ, zero, suc, ◌+◌, ◌*◌, ◌/◌, ◌%◌, ◌≤◌, ◌<◌, min, max}
use mathlib.Core.Path.{◌≡◌, refl}
use mathlib.Core.List.{List}
use mathlib.Core.Logic.{◌⊎◌, inl, inr}
use native.Mathlib.Omega.{arith}
use borrow.Author.Tests.{lt-ltb, le-ltb}
use lib.ListN.{length, get_or, replicate}
use Rattle.model.specs.Demand.{demand_of}
use Rattle.model.proofs.Tests.{below-or-from}
use Rattle.shares.specs.Private.{IsTaskList, NoneSpares, Leaps, leap_of}
use Rattle.shares.proofs.DemandCurve.{demand-longer}

pub leap_far : (leaps : List ℕ) (i d s : ℕ) → 2000 < s → leap_of leaps i d s ≡ 2001
unfolding leap_of
leap_far leaps i d s h = rw (lt-ltb 2000 s h)

pub leap_near : (leaps : List ℕ) (i d s : ℕ) → s ≤ 2000 → leap_of leaps i d s ≡ max (d + s) (get_or leaps (i * 2001 + s) 0)
unfolding leap_of
leap_near leaps i d s h = rw (le-ltb 2000 s h)

pub leap_least : (leaps : List ℕ) (i d s : ℕ) → min (d + s) 2001 ≤ leap_of leaps i d s
leap_least leaps i d s = go (below-or-from 2000 s)
  where
    go : (2000 < s) ⊎ (s ≤ 2000) → min (d + s) 2001 ≤ leap_of leaps i d s
    go (inl far) = omega (arith, leap_far leaps i d s far)
    go (inr near) = omega (arith, leap_near leaps i d s near)

pub zeros : (n k : ℕ) → get_or (replicate {A = ℕ} n 0) k 0 ≡ 0
zeros zero k = refl
zeros (suc n) zero = refl
zeros (suc n) (suc k) = zeros n k

module _ (ps es : List ℕ) where
  -- a table of zeros passes over nothing
  pub leaps-zero : (leaps : List ℕ) (m : ℕ) → length leaps ≡ 32016 → ((k : ℕ) → get_or leaps k 0 ≡ 0) → Leaps ps es leaps m
  leaps-zero leaps m h z = record { size = h; right = λ k l u p q. absurd (omega (arith, z k)) }

  -- what the search reads at t, with the demand there: no length from t on and below it has s ticks to spare
  pub leap_none : (leaps : List ℕ) (i t s : ℕ) → IsTaskList ps es → i < length ps → Leaps ps es leaps (length ps * 2001)
      → (u : ℕ) → 1 ≤ u → t ≤ u → u < leap_of leaps i (demand_of ps es (suc i) t) s → u ≤ get_or ps i 0 → u < demand_of ps es (suc i) u + s
  leap_none leaps i t s tasks some-i table u p from l last = go (below-or-from 2000 s)
    where
      d : ℕ
      d = demand_of ps es (suc i) t

      task : s ≤ 2000 → (i * 2001 + s) / 2001 ≡ i
      task h = omega arith

      spare : s ≤ 2000 → (i * 2001 + s) % 2001 ≡ s
      spare h = omega arith

      held : s ≤ 2000 → NoneSpares ps es i (get_or leaps (i * 2001 + s) 0) s
      held h = rw (task h, spare h) at (table.right (i * 2001 + s) (omega arith))

      go : (2000 < s) ⊎ (s ≤ 2000) → u < demand_of ps es (suc i) u + s
      go (inl far) = omega (arith, tasks.period-most i some-i)
      go (inr near) = pick (below-or-from u (d + s))
        where
          pick : (u < d + s) ⊎ (d + s ≤ u) → u < demand_of ps es (suc i) u + s
          pick (inl before) = omega (arith, demand-longer ps es (suc i) t u from)
          pick (inr after) = held near u p (omega (arith, leap_near leaps i d s near)) last
