-- `digit_count` counts the bytes up to the first that is no digit. Assumes nothing.
use Rattle.std.proofs.Common.{◌∙◌, ap, length, rules, tests}
use Rattle.std.proofs.lemmas.Iterator.{YieldsList-from_slice}
use Rattle.std.proofs.lemmas.Iterator.Consumers.{count_from_yields_List}
use Rattle.std.proofs.lemmas.Iterator.Search.{YieldsList-from_take_while}
use Rattle.sheets.specs.Sheet.{is_digit}
use Rattle.sheets.proofs.Scan.{taken}
use Rattle.sheets.proofs.field.digit_count.Goals as goal

pub returns : goal.returns
returns c =
    count_from_yields_List c.take_while.result _ c.count.ensures.ran
    (YieldsList-from_take_while _ is_digit (YieldsList-from_slice c.args.s.now cc) c.take_while.ensures.closure c.take_while.ensures.done (λ x b q k. search (rules, tests)))
    ∙ ap length (taken c.args.s.now)
