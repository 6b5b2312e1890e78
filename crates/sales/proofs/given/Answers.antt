-- `given` is the library's count of the spaces. Assumes nothing.
use Rattle.std.proofs.Common.{◌∙◌, rules, tests, eqb}
use Rattle.std.proofs.lemmas.Iterator.{YieldsList-from_slice}
use Rattle.std.proofs.lemmas.Iterator.Consumers.{YieldsList-from_filter, count_from_yields_List}
use Rattle.sales.proofs.Asking.{given-spaces}
use Rattle.sales.proofs.given.Goals as goal

pub returns : goal.returns
returns c =
    count_from_yields_List c.filter.result c.count.result c.count.ensures.ran
    (YieldsList-from_filter _ (λ b. eqb b 32)
    (YieldsList-from_slice c.args.question.now (rw c.filter.ensures.source c.iter.ensures.rest)) c.filter.ensures.closure (λ x b q k. search (rules, tests)))
    ∙ given-spaces c.args.question.now
