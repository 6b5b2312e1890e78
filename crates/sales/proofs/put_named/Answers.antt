-- `put_named` makes the answer in a room of its own, and puts it behind the name where there is one. Assumes nothing.
use Prim.Native.Nat.{ℕ}
use mathlib.Core.Path.{◌≡◌, sym}
use mathlib.Core.List.{List}
use native.Mathlib.Omega.{arith}
use lib.ListN.{length}
use lib.Seq.{length-take-le}
use Rattle.queries.specs.Text.{longest}
use Rattle.queries.specs.Meaning.{line_means}
use Rattle.sales.proofs.Naming.{InFront, in_front, none_named, some-named}
use Rattle.sales.proofs.put_named.Goals as goal
use Rattle.sales.proofs.put_named.Goals.{After-answer-size, Start}

-- where the function begins, seen from the answer, which stands in front of its room
abbrev start : After-answer-size → Start
start a = (goal.at.After-answer-size a).Start

abbrev left : After-answer-size → List ℕ
left a = a.answer-size.new.out

sized : (a : After-answer-size) → length (left a) ≡ longest
sized a = a.answer-size.auto.out

front : (a : After-answer-size) → InFront (line_means (start a).args.line.now) (left a) a.answer-size.result
front a = in_front (line_means (start a).args.line.now) _ (left a) a.answer-size.result (omega arith) a.answer-size.auto.out a.answer-size.ensures

pub returns-then-size-eq0 : goal.returns-then-size-eq0
returns-then-size-eq0 c =
    let a = (goal.at.returns-then-size-eq0 c).After-answer-size in (
      none_named (start a).args.name.now (line_means (start a).args.line.now) (left a) a.answer-size.result (front a) (start a).args.out.now (start a).args.at
          c.if-size-eq0.true,
      omega arith,
    )

pub slice_bounds-answer-end-2 : goal.slice_bounds-answer-end-2
slice_bounds-answer-end-2 c = (front (goal.at.slice_bounds-answer-end-2 c).After-answer-size).within

pub slice_bounds-put_text-end : goal.slice_bounds-put_text-end
slice_bounds-put_text-end c = sym (length-take-le _ _ (front (goal.at.slice_bounds-put_text-end c).After-answer-size).within)

pub returns : goal.returns
returns c =
    let a = (goal.at.returns c).After-answer-size in
    some-named (start a).args.name.now (line_means (start a).args.line.now) (left a) a.answer-size.result (front a) (start a).args.out.now (start a).args.at
    c.if-size-eq0.false (start a).requires (sized a) c.put_text-from.ensures c.put_text.ensures
