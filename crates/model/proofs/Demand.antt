-- The demand of specs/Demand.antt is that of specs/Meaning.antt, each way round, and its ceil is theirs. Assumes nothing but that periods
-- are at least 1 where a ceil has to exist.
use Prim.Native.Nat.{ℕ, zero, suc, ◌+◌, ◌*◌, ◌-◌, ◌≤◌, ◌<◌}
use mathlib.Core.Path.{◌≡◌, refl, ap, sym, ◌∙◌, subst}
use mathlib.Core.List.{List}
use mathlib.Core.Logic.{◌⊎◌, inl, inr}
use native.Mathlib.Omega.{arith}
use native.Mathlib.Nat.{div-lt_iff_lt-mul, div-zero, eq-zero-or-pos, suc-mul, lt-suc_self}
use lib.ListN.{get_or}
use Rattle.model.specs.Demand.{ceil, demand_of}
use Rattle.model.specs.Meaning.{IsCeil, IsDemand}

module _ (t p : ℕ) where
  covered : (y : ℕ) → t + (p - 1) < suc y * p → t ≤ y * p
  covered y h = omega (arith, h, suc-mul y p)

  not_covered : (z : ℕ) → 1 ≤ p → t ≤ z * p → t + (p - 1) < suc z * p
  not_covered z pos h = omega (arith, h, suc-mul z p)

  pub ceil-means : 1 ≤ p → IsCeil t p (ceil t p)
  ceil-means pos = (
    covered (ceil t p) ((div-lt_iff_lt-mul {k = p} {x = t + (p - 1)} {y = suc (ceil t p)} pos).0 (lt-suc_self (ceil t p))),
    λ z h. at_most (ceil t p) z ((div-lt_iff_lt-mul {k = p} {x = t + (p - 1)} {y = suc z} pos).1 (not_covered z pos h)),
  )
    where
      at_most : (a b : ℕ) → a < suc b → a ≤ b
      at_most a b h = omega (arith, h)

-- two that are least are equal; of a period of 0 there is one only where t is 0
pub ceil-only : (t p y : ℕ) → IsCeil t p y → ceil t p ≡ y
ceil-only t p y i = go (eq-zero-or-pos p)
  where
    both : (a b : ℕ) → a ≤ b → b ≤ a → a ≡ b
    both a b h k = omega (arith, h, k)

    go : (p ≡ 0) ⊎ (0 < p) → ceil t p ≡ y
    go (inl z) =
        let j = subst (λ (q : ℕ). IsCeil t q y) z i in
        let e : y ≡ 0 = omega (arith, j.1 0 (omega (arith, j.0))) in
        ap (ceil t) z ∙ div-zero (t + (0 - 1)) ∙ sym e
    go (inr pos) = let c = ceil-means t p pos in both (ceil t p) y (c.1 y i.0) (i.1 (ceil t p) c.0)

module _ (ps es : List ℕ) where
  pub demand-means : (i t : ℕ) → ((k : ℕ) → k < i → 1 ≤ get_or ps k 0) → IsDemand ps es i t (demand_of ps es i t)
  demand-means zero t h = refl
  demand-means (suc i) t h = (
    demand_of ps es i t,
    ceil t (get_or ps i 0),
    demand-means i t (λ k l. h k (omega arith)),
    ceil-means t (get_or ps i 0) (h i (omega arith)),
    refl,
  )

  pub demand-only : (i t d : ℕ) → IsDemand ps es i t d → demand_of ps es i t ≡ d
  demand-only zero t d e = sym e
  demand-only (suc i) t d x =
      ap (λ (b : ℕ). b + ceil t (get_or ps i 0) * get_or es i 0) (demand-only i t x.0 x.2)
      ∙ ap (λ (y : ℕ). x.0 + y * get_or es i 0) (ceil-only t (get_or ps i 0) x.1 x.3) ∙ sym x.4
