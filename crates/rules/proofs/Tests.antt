-- Facts out of tests: what a conjunction, a disjunction or a conditional says, and a case on a test that keeps its equation.
-- Assumes nothing.
use mathlib.Core.Path.{◌≡◌, refl, sym}
use mathlib.Core.Bool.{Bool, true, false, ◌&&◌, ◌||◌}
use mathlib.Core.Logic.{◌⊎◌, inl, inr}
use mathlib.Core.Option.{none, some}
use Prim.Native.Nat.{ℕ}
use native.Mathlib.Omega.{arith}
use borrow.Author.Tests.{leb-true, leb-false, ltb-true, ltb-false, eqb-true, eqb-false}

-- omega (arith, tests) reads the tests in reach, and so says at which numbers a fact fails
pub ruleset tests = (leb-true, leb-false, ltb-true, ltb-false, eqb-true, eqb-false)

pub clash : {A : Type 0} → true ≡ false → A
clash e = let z : ◌≡◌ {A = ℕ} 0 1 = cc in absurd (omega arith)

pub no-some : {A B : Type 0} {b : B} → none ≡ some b → A
no-some e = let z : ◌≡◌ {A = ℕ} 0 1 = cc in absurd (omega arith)

pub cases : (t : Bool) → (t ≡ true) ⊎ (t ≡ false)
cases true = inl refl
cases false = inr refl

-- two tests that pass together are the same
pub same_test : (a b : Bool) → (a ≡ true → b ≡ true) → (b ≡ true → a ≡ true) → a ≡ b
same_test true b f g = sym (f refl)
same_test false true f g = g refl
same_test false false f g = refl

pub and-true : (a b : Bool) → a && b ≡ true → (a ≡ true) × (b ≡ true)
and-true true b e = (refl, e)
and-true false b e = clash (sym e)

pub and-false : (a b : Bool) → a && b ≡ false → (a ≡ false) ⊎ (b ≡ false)
and-false true b e = inr e
and-false false b e = inl refl

pub or-true : (a b : Bool) → a || b ≡ true → (a ≡ true) ⊎ (b ≡ true)
or-true true b e = inl refl
or-true false b e = inr e

pub or-false : (a b : Bool) → a || b ≡ false → (a ≡ false) × (b ≡ false)
or-false true b e = clash e
or-false false b e = (refl, e)

pub or_right : (a : Bool) → a || true ≡ true
or_right true = refl
or_right false = refl

pub or-none : (a : Bool) → a || false ≡ a
or-none true = refl
or-none false = refl

pub and_right : (a : Bool) → a && false ≡ false
and_right true = refl
and_right false = refl

pub and_one : (a : Bool) → a && true ≡ a
and_one true = refl
and_one false = refl
