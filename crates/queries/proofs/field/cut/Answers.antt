-- `cut` is the library's search. Assumes nothing.
use Rattle.std.proofs.Common.{ap, sym, ◌∙◌, ◌+◌, ◌-◌, rules, tests, eqb, arith, length, drop, length-drop}
use lib.Seq.{take_all}
use Rattle.std.proofs.lemmas.Iterator.{YieldsList-from_slice}
use Rattle.std.proofs.lemmas.Iterator.Search.{position_from_yields_List}
use Rattle.queries.specs.Private.{pieces}
use Rattle.queries.proofs.Pieces.{cut-some, cut-none}
use Rattle.queries.proofs.field.cut.Goals as goal

pub returns-in-Some-clause-first : goal.returns-in-Some-clause-first
returns-in-Some-clause-first c =
    let e = position_from_yields_List (λ y. eqb y 32) _ _ c.position.result c.position.ensures.ran (YieldsList-from_slice _ c.iter.ensures.rest)
    (λ x b q k. search (rules, tests)) in
    (cut-some 32 c.args.line.now c.position.result e c.in-Some.at c.in-Some.is).1

pub returns-in-Some-clause-rest : goal.returns-in-Some-clause-rest
returns-in-Some-clause-rest c =
    let e = position_from_yields_List (λ y. eqb y 32) _ _ c.position.result c.position.ensures.ran (YieldsList-from_slice _ c.iter.ensures.rest)
    (λ x b q k. search (rules, tests)) in
    let line = c.args.line.now in
    let next = c.in-Some.at + 1 in
    (cut-some 32 line c.position.result e c.in-Some.at c.in-Some.is).2
    ∙ ap (pieces 32) (sym (take_all (length line - next) (drop next line) (omega (arith, length-drop next line))))

pub returns-in-None-clause-first : goal.returns-in-None-clause-first
returns-in-None-clause-first c =
    let e = position_from_yields_List (λ y. eqb y 32) _ _ c.position.result c.position.ensures.ran (YieldsList-from_slice _ c.iter.ensures.rest)
    (λ x b q k. search (rules, tests)) in
    (cut-none 32 c.args.line.now c.position.result e c.in-None.is).0

pub returns-in-None-clause-rest : goal.returns-in-None-clause-rest
returns-in-None-clause-rest c =
    let e = position_from_yields_List (λ y. eqb y 32) _ _ c.position.result c.position.ensures.ran (YieldsList-from_slice _ c.iter.ensures.rest)
    (λ x b q k. search (rules, tests)) in
    (cut-none 32 c.args.line.now c.position.result e c.in-None.is).1
