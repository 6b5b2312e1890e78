-- `until` is the library's search. Assumes nothing.
use Rattle.std.proofs.Common.{◌∙◌, rules, tests, eqb}
use Rattle.std.proofs.lemmas.Iterator.{YieldsList-from_slice}
use Rattle.std.proofs.lemmas.Iterator.Search.{position_from_yields_List}
use Rattle.queries.proofs.Pieces.{found}
use Rattle.sales.proofs.until.Goals as goal

pub returns : goal.returns
returns c =
    c.unwrap_or.ensures
    ∙ found c.args.byte c.args.bytes.now _ (position_from_yields_List (λ y. eqb y c.args.byte) _ _ c.position.result c.position.ensures.ran
    (YieldsList-from_slice _ c.iter.ensures.rest) (λ x b q k. search (rules, tests)))
