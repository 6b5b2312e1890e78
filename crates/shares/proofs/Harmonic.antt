-- Row 36 on periods that rise: where each divides the next, of any two one divides the other, and else not; and then a resource period
-- divides all of them where it divides the first. Assumes nothing.
use Prim.Native.Nat.{ℕ, zero, suc, ◌+◌, ◌*◌, ◌-◌, ◌%◌, ◌≤◌, ◌<◌}
use mathlib.Core.Path.{◌≡◌, refl, ap, sym, ◌∙◌, subst}
use mathlib.Core.Bool.{Bool, true, false}
use mathlib.Core.List.{List}
use mathlib.Core.Logic.{◌⊎◌, inl, inr}
use native.Mathlib.Omega.{arith}
use native.Mathlib.Nat.{mul_assoc, mul-mod_left}
use borrow.Author.Tests.{eq-eqb}
use Rattle.std.specs.Prelude.{◌↔◌, IsTrue}
use lib.ListN.{length, get_or}
use Rattle.model.specs.Form.{divides, pairwise, multiples}
use Rattle.model.specs.Meaning.{Multiple, Pairwise, Multiples}
use Rattle.model.proofs.Tests.{tested, below-or-from}
use Rattle.model.proofs.Divides.{divides-tells, pairwise-tells, multiples-tells}
use Rattle.shares.specs.Private.{IsTaskList, EachDivides}
use Rattle.shares.proofs.DemandCurve.{rising_to}

multiple_trans : (a b c : ℕ) → Multiple a b → Multiple b c → Multiple a c
multiple_trans a b c (m, e) (n, f) = (n * m, f ∙ ap (λ (x : ℕ). n * x) e ∙ sym (mul_assoc n m a))

-- of two numbers the larger is the multiple
larger : (a b : ℕ) → 1 ≤ a → a ≤ b → Multiple a b ⊎ Multiple b a → Multiple a b
larger a b some-a h (inl m) = m
larger a b some-a h (inr (zero, e)) = absurd (omega arith)
larger a b some-a h (inr (suc m, e)) = (1, omega (arith, e))

-- each of the first i periods divides the next of them
abbrev pub Chain : List ℕ → ℕ → Type 0
Chain ps i = (k : ℕ) → suc k < i → Multiple (get_or ps k 0) (get_or ps (suc k) 0)

module _ (ps es : List ℕ) (tasks : IsTaskList ps es) where
  chain_of : EachDivides ps → Chain ps (length ps)
  chain_of each k h =
      let e : suc k ≡ k + 1 = omega arith in
      rw e ((divides-tells (get_or ps k 0) (get_or ps (k + 1) 0)).0 (eq-eqb _ 0 (each k (omega arith))))

  along : Chain ps (length ps) → (k i : ℕ) → i + k < length ps → Multiple (get_or ps i 0) (get_or ps (i + k) 0)
  along chain zero i h = let e : i + 0 ≡ i = omega arith in rw e (1, omega arith)
  along chain (suc k) i h =
      let e : i + suc k ≡ suc (i + k) = omega arith in
      rw e (multiple_trans _ _ _ (along chain k i (omega arith)) (chain (i + k) (omega arith)))

  pub chain_harmonic : Chain ps (length ps) → pairwise ps ≡ true
  chain_harmonic chain = go (tested (pairwise ps))
    where
      from : (j k : ℕ) → j ≤ k → k < length ps → Multiple (get_or ps j 0) (get_or ps k 0)
      from j k h l =
          let e : j + (k - j) ≡ k = omega arith in
          subst (λ (n : ℕ). Multiple (get_or ps j 0) (get_or ps n 0)) e (along chain (k - j) j (omega arith))

      all : Pairwise ps
      all j k some-j last-j some-k last-k = by (below-or-from j k)
        where
          by : (j < k) ⊎ (k ≤ j)
              → Multiple (get_or ps (j - 1) 0) (get_or ps (k - 1) 0) ⊎ Multiple (get_or ps (k - 1) 0) (get_or ps (j - 1) 0)
          by (inl below) = inl (from (j - 1) (k - 1) (omega arith) (omega arith))
          by (inr above) = inr (from (k - 1) (j - 1) (omega arith) (omega arith))

      go : (pairwise ps ≡ true) ⊎ (pairwise ps ≡ false) → pairwise ps ≡ true
      go (inl harmonic) = harmonic
      go (inr broken) = absurd ((pairwise-tells ps).1 broken all)

  -- of two of them the later is a multiple of the earlier
  later : pairwise ps ≡ true → (j k : ℕ) → j ≤ k → k < length ps → Multiple (get_or ps j 0) (get_or ps k 0)
  later harmonic j k h l =
      let e : suc j - 1 ≡ j = omega arith in
      let f : suc k - 1 ≡ k = omega arith in
      let g : j + (k - j) ≡ k = omega arith in
      let up : get_or ps j 0 ≤ get_or ps k 0 = subst (λ (n : ℕ). get_or ps j 0 ≤ get_or ps n 0) g (rising_to ps es tasks (k - j) j (omega arith)) in
      let two = (pairwise-tells ps).0 harmonic (suc j) (suc k) (omega arith) (omega arith) (omega arith) (omega arith) in
      larger (get_or ps j 0) (get_or ps k 0) (tasks.period-least j (omega arith)) up (rw (e, f) at two)

  -- so the test of neighbours tells of any two
  pub harmonic_tells : (b : Bool) → (IsTrue b ↔ EachDivides ps) → b ≡ pairwise ps
  harmonic_tells true tells = sym (chain_harmonic (chain_of (tells.0 refl)))
  harmonic_tells false tells = go (tested (pairwise ps))
    where
      go : (pairwise ps ≡ true) ⊎ (pairwise ps ≡ false) → false ≡ pairwise ps
      go (inl harmonic) = tells.1 (λ k h. each k h) ∙ sym harmonic
        where
          each : (k : ℕ) → k + 1 < length ps → get_or ps (k + 1) 0 % get_or ps k 0 ≡ 0
          each k h =
              let m = later harmonic k (k + 1) (omega arith) h in
              ap (λ (n : ℕ). n % get_or ps k 0) m.1 ∙ mul-mod_left m.0 (get_or ps k 0)
      go (inr gone) = sym gone

  -- P divides all where it divides the first
  pub taken-first : (P : ℕ) → pairwise ps ≡ true → divides P (get_or ps 0 0) ≡ multiples P ps
  taken-first P harmonic = go (tested (divides P (get_or ps 0 0))) (tested (multiples P ps))
    where
      all : divides P (get_or ps 0 0) ≡ true → Multiples P ps
      all e k some-k last-k =
          multiple_trans _ _ _ ((divides-tells P (get_or ps 0 0)).0 e) (later harmonic 0 (k - 1) (omega arith) (omega arith))

      go : (divides P (get_or ps 0 0) ≡ true) ⊎ (divides P (get_or ps 0 0) ≡ false) → (multiples P ps ≡ true) ⊎ (multiples P ps ≡ false)
          → divides P (get_or ps 0 0) ≡ multiples P ps
      go (inl e) (inl f) = e ∙ sym f
      go (inl e) (inr f) = absurd ((multiples-tells ps P).1 f (all e))
      go (inr e) (inl f) =
          absurd ((divides-tells P (get_or ps 0 0)).1 e ((multiples-tells ps P).0 f 1 (omega arith) tasks.some-task))
      go (inr e) (inr f) = e ∙ sym f
