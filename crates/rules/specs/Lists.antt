-- Words on lists that the rules use: keep those that pass a test, whether one does, how many do; a sum; a fact of every one.
-- Assumes nothing.
use Rattle.std.specs.Prelude.{ℕ, ◌+◌, Bool, false, cond, ◌||◌, List, [], ◌∷◌, ◌⊎◌, ◌≡◌}

module _ {A : Type 0} where
  -- those that pass, in their order
  abbrev pub keep : (A → Bool) → List A → List A
  keep test [] = []
  keep test (a ∷ l) = cond (test a) (a ∷ keep test l) (keep test l)

  -- one of them passes
  abbrev pub any : (A → Bool) → List A → Bool
  any test [] = false
  any test (a ∷ l) = test a || any test l

  -- 1 for each that passes
  abbrev pub count : (A → Bool) → List A → ℕ
  count test [] = 0
  count test (a ∷ l) = cond (test a) 1 0 + count test l

  abbrev pub sum : (A → ℕ) → List A → ℕ
  sum f [] = 0
  sum f (a ∷ l) = f a + sum f l

  -- the fact P holds of every one
  abbrev pub All : (A → Type 0) → List A → Type 0
  All P [] = Unit {0}
  All P (a ∷ l) = P a × All P l

  -- it is one of them
  abbrev pub Among : A → List A → Type 0
  Among a [] = ⊥
  Among a (b ∷ l) = (a ≡ b) ⊎ Among a l
