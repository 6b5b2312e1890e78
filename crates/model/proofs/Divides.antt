-- The tests of specs/Form.antt tell the facts of specs/Meaning.antt: which periods suit a form, and which P it takes. Of any numbers, 0
-- among them. Assumes nothing.
use Prim.Native.Nat.{ℕ, ◌-◌, ◌/◌, ◌%◌, ◌≤◌}
use mathlib.Core.Path.{◌≡◌, refl}
use mathlib.Core.Bool.{Bool, true, false, ◌||◌}
use mathlib.Core.List.{List}
use mathlib.Core.Logic.{◌⊎◌}
use native.Mathlib.Omega.{arith}
use native.Mathlib.Nat.{div-add-mod', mul-mod_left}
use lib.ListN.{length, get_or}
use borrow.Author.Tests.{eqb-true, eqb-false}
use Rattle.model.specs.Form.{Form, ordinary, aligned, divides, pairwise, multiples, suits, takes}
use Rattle.model.specs.Search.{everywhere}
use Rattle.model.specs.Meaning.{Multiple, Pairwise, Multiples, Suits, Takes}
use Rattle.model.proofs.Tests.{Tells, always, either, clash}
use Rattle.model.proofs.Places.{everywhere-has, everywhere-all}

pub divides-tells : (a b : ℕ) → Tells (divides a b) (Multiple a b)
divides-tells a b = (there, back)
  where
    there : divides a b ≡ true → Multiple a b
    there e = (b / a, omega (arith, div-add-mod' b a, eqb-true (b % a) 0 e))

    back : divides a b ≡ false → Multiple a b → ⊥
    back e m = eqb-false (b % a) 0 e (rw m.1 (mul-mod_left m.0 a))

-- a test of each number from 1 to n tells what it tells of each
each_tells : (f : ℕ → Bool) (n : ℕ) (Such : ℕ → Type 0) → ((k : ℕ) → Tells (f k) (Such k))
    → Tells (everywhere f n) ((k : ℕ) → 1 ≤ k → k ≤ n → Such k)
each_tells f n Such tells = (
  λ e k p l. (tells k).0 (everywhere-has f n k p l e),
  λ e all. clash (everywhere-all f n (λ k p l. holds k (f k) refl (all k p l))) e,
)
  where
    holds : (k : ℕ) (b : Bool) → f k ≡ b → Such k → f k ≡ true
    holds k true e x = e
    holds k false e x = absurd ((tells k).1 e x)

module _ (ps : List ℕ) where
  abbrev at : ℕ → ℕ
  at k = get_or ps (k - 1) 0

  pub pairwise-tells : Tells (pairwise ps) (Pairwise ps)
  unfolding pairwise
  pairwise-tells = (λ e j k from to. t.0 e j from to k, λ e p. t.1 e (λ j from to k. p j k from to))
    where
      t : Tells (pairwise ps) ((j : ℕ) → 1 ≤ j → j ≤ length ps → (k : ℕ) → 1 ≤ k → k ≤ length ps
          → Multiple (at j) (at k) ⊎ Multiple (at k) (at j))
      t =
          each_tells (λ j. everywhere (λ k. divides (at j) (at k) || divides (at k) (at j)) (length ps)) (length ps)
          (λ j. (k : ℕ) → 1 ≤ k → k ≤ length ps → Multiple (at j) (at k) ⊎ Multiple (at k) (at j))
          (λ j. each_tells (λ k. divides (at j) (at k) || divides (at k) (at j)) (length ps)
          (λ k. Multiple (at j) (at k) ⊎ Multiple (at k) (at j))
          (λ k. either (divides (at j) (at k)) (divides (at k) (at j)) (divides-tells (at j) (at k)) (divides-tells (at k) (at j))))

  pub multiples-tells : (P : ℕ) → Tells (multiples P ps) (Multiples P ps)
  unfolding multiples
  multiples-tells P = each_tells (λ k. divides P (at k)) (length ps) (λ k. Multiple P (at k)) (λ k. divides-tells P (at k))

pub suits-tells : (form : Form) (ps : List ℕ) → Tells (suits form ps) (Suits form ps)
suits-tells ordinary ps = always
suits-tells aligned ps = pairwise-tells ps

pub takes-tells : (form : Form) (P : ℕ) (ps : List ℕ) → Tells (takes form P ps) (Takes form P ps)
takes-tells ordinary P ps = always
takes-tells aligned P ps = multiples-tells ps P
