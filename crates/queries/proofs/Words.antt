-- The test of a word that the definitions name is the library's `==`. Assumes nothing.
use Prim.Native.Nat.{ℕ}
use mathlib.Core.Path.{◌≡◌, refl, ap}
use mathlib.Core.Bool.{Bool, ◌&&◌}
use mathlib.Core.List.{List, [], ◌∷◌}
use lib.Dec.{eqb}
use Rattle.std.specs.Cmp.Lexicographic.{pointwise}
use Rattle.text.specs.Text.{same}

pub same_is : (s w : List ℕ) → same s w ≡ pointwise eqb s w
same_is [] [] = refl
same_is [] (y ∷ w) = refl
same_is (x ∷ s) [] = refl
same_is (x ∷ s) (y ∷ w) = ap (λ (t : Bool). eqb x y && t) (same_is s w)
