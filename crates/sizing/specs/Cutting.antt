-- A text cut at each byte b, with more behind it: a piece that has ended stays as it is, and one that has not goes on. And the pieces
-- with a last b behind them. Assumes nothing.
use Prim.Native.Nat.{ℕ, suc, ◌+◌, ◌<◌}
use mathlib.Core.Path.{◌≡◌, refl, ap, sym, ◌∙◌}
use mathlib.Core.Bool.{Bool, true, false, cond}
use mathlib.Core.List.{List, [], ◌∷◌, ◌++◌}
use native.Mathlib.Omega.{arith}
use lib.Dec.{eqb}
use lib.ListN.{length, take}
use lib.Seq.{take-length}
use borrow.Author.Tests.{eq-eqb}
use Rattle.queries.specs.Meaning.{until, behind}
use Rattle.queries.proofs.Pieces.{until-take}

pub until-all : (b : ℕ) (t : List ℕ) → length (until b t) ≡ length t → until b t ≡ t
until-all b t h = sym (until-take b t) ∙ ap (λ (n : ℕ). take n t) h ∙ take-length t

pub until-ended : (b : ℕ) (t u : List ℕ) → length (until b t) < length t → until b (t ++ u) ≡ until b t
until-ended b [] u h = absurd (omega arith)
until-ended b (x ∷ t) u h = go (eqb x b) h (until-ended b t u)
  where
    go : (c : Bool) → length (cond c [] (x ∷ until b t)) < suc (length t) → (length (until b t) < length t → until b (t ++ u) ≡ until b t)
        → cond c [] (x ∷ until b (t ++ u)) ≡ cond c [] (x ∷ until b t)
    go true h r = refl
    go false h r = ap (λ (l : List ℕ). x ∷ l) (r (omega arith))

pub begun_goes_on : (b : ℕ) (t u : List ℕ) → length (until b t) ≡ length t
    → (until b (t ++ u) ≡ t ++ until b u) × (behind b (t ++ u) ≡ behind b u)
begun_goes_on b [] u h = (refl, refl)
begun_goes_on b (x ∷ t) u h = go (eqb x b) h (begun_goes_on b t u)
  where
    go : (c : Bool) → length (cond c [] (x ∷ until b t)) ≡ suc (length t)
        → (length (until b t) ≡ length t → (until b (t ++ u) ≡ t ++ until b u) × (behind b (t ++ u) ≡ behind b u))
        → (cond c [] (x ∷ until b (t ++ u)) ≡ x ∷ (t ++ until b u))
        × (cond c (until b (t ++ u) ∷ behind b (t ++ u)) (behind b (t ++ u)) ≡ behind b u)
    go true h r = absurd (omega arith)
    go false h r =
        let e = r (omega arith) in
        (ap (λ (l : List ℕ). x ∷ l) e.0, e.1)

-- a last b ends the last piece, and behind it stands an empty one
pub end-behind : (b : ℕ) (t : List ℕ) → (until b (t ++ (b ∷ [])) ≡ until b t) × (behind b (t ++ (b ∷ [])) ≡ behind b t ++ ([] ∷ []))
end-behind b [] = rw (eq-eqb b b refl) (refl, refl)
end-behind b (x ∷ t) = go (eqb x b) (end-behind b t)
  where
    go : (c : Bool) → (until b (t ++ (b ∷ [])) ≡ until b t) × (behind b (t ++ (b ∷ [])) ≡ behind b t ++ ([] ∷ []))
        → (cond c [] (x ∷ until b (t ++ (b ∷ []))) ≡ cond c [] (x ∷ until b t))
        × (cond c (until b (t ++ (b ∷ [])) ∷ behind b (t ++ (b ∷ []))) (behind b (t ++ (b ∷ [])))
        ≡ cond c (until b t ∷ behind b t) (behind b t) ++ ([] ∷ []))
    go true e = (refl, rw (e.0, e.1) refl)
    go false e = (ap (λ (l : List ℕ). x ∷ l) e.0, e.1)

-- how many bytes the pieces have, with a byte between any two
abbrev pub sizes : List ℕ → List (List ℕ) → ℕ
sizes l [] = length l
sizes l (m ∷ ms) = suc (length l) + sizes m ms

one_more : (x : ℕ) (l : List ℕ) (ms : List (List ℕ)) → sizes (x ∷ l) ms ≡ suc (sizes l ms)
one_more x l [] = refl
one_more x l (m ∷ ms) = omega arith

pub all-sizes : (b : ℕ) (t : List ℕ) → sizes (until b t) (behind b t) ≡ length t
all-sizes b [] = refl
all-sizes b (x ∷ t) = go (eqb x b) (all-sizes b t)
  where
    go : (c : Bool) → sizes (until b t) (behind b t) ≡ length t
        → sizes (cond c [] (x ∷ until b t)) (cond c (until b t ∷ behind b t) (behind b t)) ≡ suc (length t)
    go true h = omega arith
    go false h = omega (arith, one_more x (until b t) (behind b t))
