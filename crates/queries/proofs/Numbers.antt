-- A field read digit by digit: whether it is a number, and the number held to 9,999. Assumes nothing.
use Prim.Native.Nat.{ℕ, suc, ◌+◌, ◌-◌, ◌*◌, ◌≤◌, ◌<◌, min}
use mathlib.Core.Path.{◌≡◌, refl, ap, sym, ◌∙◌}
use mathlib.Core.Bool.{Bool, true, false, ◌&&◌}
use mathlib.Core.List.{List, [], ◌∷◌}
use native.Mathlib.Omega.{arith}
use native.Mathlib.Numerals.{add-one}
use lib.Dec.{leb}
use lib.ListN.{length, get_or, drop}
use lib.Seq.{drop-cons}
use borrow.Author.Tests.{leb-true, leb-false}
use Rattle.text.specs.Text.{number_from}
use Rattle.queries.specs.Meaning.{is_digit, all_digits}
use Rattle.queries.specs.Private.{with_digit}

-- more digits make no number smaller
number-grows : (n : ℕ) (f : List ℕ) → n ≤ number_from n f
number-grows n [] = omega arith
number-grows n (b ∷ f) = omega (arith, number-grows (n * 10 + (b - 48)) f)

-- so a number that is held to 9,999 on its way is held to 9,999 at its end
held_same : (n : ℕ) (f : List ℕ) → min (number_from (min n 9999) f) 9999 ≡ min (number_from n f) 9999
held_same n f = go (leb n 9999) refl
  where
    go : (t : Bool) → leb n 9999 ≡ t → min (number_from (min n 9999) f) 9999 ≡ min (number_from n f) 9999
    go true e =
        let same : min n 9999 ≡ n = omega (arith, leb-true n 9999 e) in
        ap (λ (m : ℕ). min (number_from m f) 9999) same
    go false e = omega (arith, leb-false n 9999 e, number-grows n f, number-grows (min n 9999) f)

-- what is left to read of a field from k on
module _ (f : List ℕ) (k : ℕ) (inside : k < length f) where
  pub digit-next : (n : ℕ) → min (number_from n (drop k f)) 9999 ≡ min (number_from (with_digit n (get_or f k 0)) (drop (k + 1) f)) 9999
  digit-next n =
      rw add-one
      (ap (λ (l : List ℕ). min (number_from n l) 9999) (drop-cons f k 0 inside)
      ∙ sym (held_same (n * 10 + (get_or f k 0 - 48)) (drop (suc k) f)))

  pub digits-next : is_digit (get_or f k 0) ≡ true → all_digits (drop k f) ≡ all_digits (drop (k + 1) f)
  digits-next e =
      rw add-one (ap all_digits (drop-cons f k 0 inside) ∙ ap (λ (t : Bool). t && all_digits (drop (suc k) f)) e)
