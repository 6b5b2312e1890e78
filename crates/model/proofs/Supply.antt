-- The supply of specs/Supply.antt is that of specs/Meaning.antt, each way round and in both forms: before the first gap is over and after
-- it. And it is never more than the length. Assumes nothing.
use Prim.Native.Nat.{ℕ, ◌+◌, ◌*◌, ◌-◌, ◌/◌, ◌≤◌, ◌<◌}
use mathlib.Core.Path.{◌≡◌, ap, sym, ◌∙◌, subst}
use mathlib.Core.Logic.{◌⊎◌, inl, inr}
use native.Mathlib.Omega.{arith}
use native.Mathlib.Nat.{mul-le-mul_left, div-mul-le_self, div-lt_iff_lt-mul, le-div_iff_mul-le, eq-zero-or-pos}
use borrow.Author.Tests.{lt-ltb, le-ltb}
use Rattle.model.specs.Form.{Form, ordinary, aligned}
use Rattle.model.specs.Supply.{supply_of}
use Rattle.model.specs.Meaning.{IsFloor, IsSupply, short, long, long-aligned}
use Rattle.model.proofs.Tests.{below-or-from}

pub supply-short : (form : Form) (P B t : ℕ) → t < P - B → supply_of form P B t ≡ 0
unfolding supply_of
supply-short ordinary P B t h = rw (lt-ltb _ _ h)
supply-short aligned P B t h = rw (lt-ltb _ _ h)

pub supply-long : (P B t : ℕ) → P - B ≤ t
    → supply_of ordinary P B t ≡ (t - (P - B)) / P * B + (t - (2 * (P - B) + (t - (P - B)) / P * P))
unfolding supply_of
supply-long P B t h = rw (le-ltb _ _ h) (omega arith)

pub supply-aligned : (P B t : ℕ) → P - B ≤ t → supply_of aligned P B t ≡ t / P * B + (t - ((P - B) + t / P * P))
unfolding supply_of
supply-aligned P B t h = rw (le-ltb _ _ h) (omega arith)

pub floor_means : (x p : ℕ) → 1 ≤ p → IsFloor x p (x / p)
floor_means x p pos = (div-mul-le_self x p, (div-lt_iff_lt-mul {k = p} {x = x} {y = x / p + 1} pos).0 (next (x / p)))
  where
    next : (y : ℕ) → y < y + 1
    next y = omega arith

pub floor_only : (x p y : ℕ) → IsFloor x p y → x / p ≡ y
floor_only x p y f = go (eq-zero-or-pos p)
  where
    pinned : (a b : ℕ) → a ≤ b → b < a + 1 → b ≡ a
    pinned a b h k = omega (arith, h, k)

    go : (p ≡ 0) ⊎ (0 < p) → x / p ≡ y
    go (inl z) = let h = subst (λ (q : ℕ). x < (y + 1) * q) z f.1 in absurd (omega (arith, h))
    go (inr pos) =
        pinned y (x / p) ((le-div_iff_mul-le {k = p} {x = y} {y = x} pos).1 f.0)
        ((div-lt_iff_lt-mul {k = p} {x = x} {y = y + 1} pos).1 f.1)

module _ (P B t : ℕ) where
  -- what is had beside y whole budgets, behind a wait w
  less : (w y : ℕ) → y * B + (t - (w + y * P)) ≡ y * B + (t - w - y * P)
  less w y = ap (λ (n : ℕ). y * B + n) (twice w (y * P))
    where
      twice : (a b : ℕ) → t - (a + b) ≡ t - a - b
      twice a b = omega arith

  pub supply-means : (form : Form) → 1 ≤ P → IsSupply P B t (supply_of form P B t) form
  supply-means form pos = go form (below-or-from t (P - B))
    where
      go : (form : Form) → (t < P - B) ⊎ (P - B ≤ t) → IsSupply P B t (supply_of form P B t) form
      go form (inl h) = short form h (supply-short form P B t h)
      go ordinary (inr h) =
          long ((t - (P - B)) / P) h (floor_means (t - (P - B)) P pos)
          (supply-long P B t h ∙ less (2 * (P - B)) ((t - (P - B)) / P))
      go aligned (inr h) = long-aligned (t / P) h (floor_means t P pos) (supply-aligned P B t h ∙ less (P - B) (t / P))

  pub supply-only : (form : Form) (s : ℕ) → IsSupply P B t s form → supply_of form P B t ≡ s
  supply-only _ s (short form h e) = supply-short form P B t h ∙ sym e
  supply-only ordinary s (long y h f e) =
      supply-long P B t h ∙ ap (λ (q : ℕ). q * B + (t - (2 * (P - B) + q * P))) (floor_only (t - (P - B)) P y f)
      ∙ less (2 * (P - B)) y ∙ sym e
  supply-only aligned s (long-aligned y h f e) =
      supply-aligned P B t h ∙ ap (λ (q : ℕ). q * B + (t - ((P - B) + q * P))) (floor_only t P y f) ∙ less (P - B) y ∙ sym e

pub supply-most : (form : Form) (P B t : ℕ) → B ≤ P → supply_of form P B t ≤ t
supply-most form P B t fits = go form (below-or-from t (P - B))
  where
    go : (form : Form) → (t < P - B) ⊎ (P - B ≤ t) → supply_of form P B t ≤ t
    go form (inl h) = omega (arith, supply-short form P B t h)
    go ordinary (inr h) =
        let y = (t - (P - B)) / P in
        omega (arith, supply-long P B t h, mul-le-mul_left y fits, div-mul-le_self (t - (P - B)) P)
    go aligned (inr h) =
        let y = t / P in
        omega (arith, supply-aligned P B t h, mul-le-mul_left y fits, div-mul-le_self t P)
