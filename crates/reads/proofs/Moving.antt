-- Bytes moved to the front, in the slice in which they stand. Assumes nothing.
use Prim.Native.Nat.{ℕ, ◌+◌, ◌-◌, ◌≤◌}
use mathlib.Core.Path.{◌≡◌, ap, sym, ◌∙◌}
use mathlib.Core.List.{List, ◌++◌}
use native.Mathlib.Omega.{arith}
use lib.ListN.{length, take, drop}
use lib.Seq.{paste, slice, length-take-le, take-add, drop_at}
use borrow.Author.Tests.{le-leb}
use Rattle.reads.specs.Reads.{moved}

module _ (from end : ℕ) (l : List ℕ) (low : from ≤ end) (high : end ≤ length l) where
  pub all_moved : moved from end l ≡ slice from end l ++ drop (end - from) l
  all_moved = rw (le-leb from end low, le-leb end (length l) high)

  -- `copy_within` takes them from behind `from`
  pub behind-is : take (end - from) (drop from l) ≡ slice from end l
  behind-is =
      let whole : end ≡ from + (end - from) = omega arith in
      sym
      (ap (λ (n : ℕ). drop from (take n l)) whole
      ∙ ap (drop from) (take-add from (end - from) l)
      ∙ drop_at (take from l) (take (end - from) (drop from l)) from (length-take-le from l (omega arith)))

  pub copied : paste l 0 (drop from l) (end - from) ≡ moved from end l
  copied =
      let none : 0 + (end - from) ≡ end - from = omega arith in
      ap (λ (n : ℕ). take (end - from) (drop from l) ++ drop n l) none
      ∙ ap (λ (xs : List ℕ). xs ++ drop (end - from) l) behind-is
      ∙ sym all_moved
