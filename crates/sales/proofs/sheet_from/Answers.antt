-- `sheet_from` is the place behind the newline; behind the end there is nothing either. Assumes nothing.
use Prim.Native.Nat.{ℕ, suc, ◌≤◌}
use mathlib.Core.Path.{◌≡◌, ap, sym, ◌∙◌}
use mathlib.Core.List.{List}
use native.Mathlib.Omega.{arith}
use native.Mathlib.Numerals.{add-one}
use lib.ListN.{length, drop, drop_of_length-le}
use Rattle.sales.proofs.sheet_from.Goals as goal

none-behind : (s : List ℕ) (end : ℕ) → length s ≤ end → drop end s ≡ drop (suc end) s
none-behind s end h = drop_of_length-le s {i = end} h ∙ sym (drop_of_length-le s {i = suc end} (omega arith))

pub returns-then-end-input : goal.returns-then-end-input
returns-then-end-input c =
    let a = c.args in
    (omega (arith, c.requires), none-behind a.input.now a.end (omega (arith, c.if-end-input.true)))

pub returns : goal.returns
returns c =
    let a = c.args in
    (omega (arith, c.requires, c.if-end-input.false), ap (λ (n : ℕ). drop n a.input.now) (add-one a.end))
