-- The window bound, tick by tick: in any T ticks in a row at most C are held. A tick not held is trivial. For a held one look at the
-- tick that leaves the window: if it was held the count does not grow, else all held ones are of slices begun in it. Assumes nothing.
use mathlib.Core.Path.{◌≡◌}
use mathlib.Core.Bool.{Bool, true, false, cond}
use mathlib.Core.List.{List, [], ◌∷◌}
use mathlib.Core.Logic.{⊎_elim}
use Prim.Native.Nat.{ℕ, zero, suc, ◌+◌, ◌≤◌, ◌<◌}
use native.Mathlib.Omega.{arith}
use lib.ListN.{length, get_or, take, drop}
use Rattle.rules.specs.History.{ticks}
use Rattle.rules.specs.Stays.{held_ticks}
use Rattle.rules.proofs.Tests.{cases}
use Rattle.rules.proofs.Lists.{length-ticks}
use Rattle.rules.proofs.Slices.{begun, begun-most, fresh}

abbrev pub Within : ℕ → ℕ → List Bool → Type 0
Within T C m = (k : ℕ) → held_ticks (take T (drop k m)) ≤ C

take_next : (n : ℕ) (m : List Bool) → held_ticks (take (suc n) m) ≡ held_ticks (take n m) + cond (get_or m n false) 1 0
take_next zero [] = omega arith
take_next (suc n) [] = omega arith
take_next zero (b ∷ m) = omega arith
take_next (suc n) (b ∷ m) = omega (arith, take_next n m)

pub within_none : (T C : ℕ) → Within T C []
within_none zero C zero = omega arith
within_none zero C (suc k) = omega arith
within_none (suc T) C zero = omega arith
within_none (suc T) C (suc k) = omega arith

pub within-idle : (T C d : ℕ) (m : List Bool) → Within T C m → Within T C (ticks d false m)
within-idle T C zero m w = w
within-idle T C (suc d) m w = one T (ticks d false m) (within-idle T C d m w)
  where
    one : (T : ℕ) (m : List Bool) → Within T C m → Within T C (false ∷ m)
    one T m w (suc k) = w k
    one zero m w zero = omega arith
    one (suc T) m w zero = omega (arith, take_next T m, w 0)

one_more : (T C : ℕ) (m : List Bool) → 1 ≤ T → Within T C m → begun T (suc (length m)) (true ∷ m) ≤ C → Within T C (true ∷ m)
one_more T C m h w b (suc k) = w k
one_more zero C m h w b zero = absurd (omega arith)
one_more (suc T) C m h w b zero = ⊎_elim leaves gap (cases (get_or m T false))
  where
    leaves : get_or m T false ≡ true → held_ticks (take (suc T) (true ∷ m)) ≤ C
    leaves e = omega (arith, rw e at (take_next T m), w 0)

    gap : get_or m T false ≡ false → held_ticks (take (suc T) (true ∷ m)) ≤ C
    gap e = omega (arith, fresh (suc T) (suc (length m)) (suc T) (true ∷ m) e (omega arith), b)

pub within_held : (T C d : ℕ) (m : List Bool) → 1 ≤ T → Within T C m
    → ((x : ℕ) → length m < x → d + begun T x m ≤ C) → Within T C (ticks d true m)
within_held T C zero m h w b = w
within_held T C (suc d) m h w b =
    one_more T C (ticks d true m) h (within_held T C d m h w (λ x k. omega (arith, b x k)))
    (omega (
      arith,
      begun-most T (suc (length (ticks d true m))) (suc d) m,
      b (suc (length (ticks d true m)))
          (omega (arith, length-ticks d true m)),
    ))
