-- The carriage return at the end of a line. Assumes nothing.
use Prim.Native.Nat.{ℕ, ◌-◌}
use mathlib.Core.Path.{◌≡◌, ap}
use mathlib.Core.Bool.{Bool, true, false, cond}
use mathlib.Core.List.{List}
use native.Mathlib.Omega.{arith}
use lib.Dec.{eqb}
use lib.ListN.{length, get_or, take}
use lib.Seq.{take_all, length-take-le}
use Rattle.queries.specs.Meaning.{trimmed}

module _ (l : List ℕ) where
  -- what is left is the front of the line
  pub trimmed-front : take (length (trimmed l)) l ≡ trimmed l
  trimmed-front = go (eqb (get_or l (length l - 1) 0) 13)
    where
      go : (t : Bool) → take (length (cond t (take (length l - 1) l) l)) l ≡ cond t (take (length l - 1) l) l
      go true = ap (λ (n : ℕ). take n l) (length-take-le (length l - 1) l (omega arith))
      go false = take_all (length l) l (omega arith)
