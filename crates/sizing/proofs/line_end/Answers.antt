-- `line_end` is the library's search in what stands behind `from`. Assumes nothing.
use Rattle.std.proofs.Common.{ap, ◌+◌, rules, tests, eqb, ℕ}
use Rattle.std.proofs.lemmas.Iterator.{YieldsList-from_slice}
use Rattle.std.proofs.lemmas.Iterator.Search.{position_from_yields_List}
use Rattle.queries.proofs.Pieces.{found_behind}
use Rattle.sizing.proofs.line_end.Goals as goal

pub returns : goal.returns
returns c =
    ap (λ (n : ℕ). c.args.from + n) (found_behind 10 c.args.part.now c.args.from _ _
    (position_from_yields_List (λ y. eqb y 10) _ _ c.position.result c.position.ensures.ran (YieldsList-from_slice _ c.iter.ensures.rest)
    (λ x b q k. search (rules, tests)))
    c.unwrap_or.ensures)
