-- `to_sizing` asks where the question has its own fields, and says what is wrong where not. Assumes nothing.
use mathlib.Core.Path.{refl, sym, ◌∙◌}
use mathlib.Core.Bool.{true, false}
use native.Mathlib.Omega.{arith}
use lib.Seq.{length-take-le}
use Rattle.queries.proofs.Pieces.{until-few}
use Rattle.sales.proofs.Asking.{of_word, either_way, wants_none, wants_some, as_many, not_as_many}
use Rattle.sales.proofs.to_sizing.Goals as goal

pub slice_bounds-wanted-end : goal.slice_bounds-wanted-end
slice_bounds-wanted-end c =
    let q = c.args.question.now in
    sym (length-take-le _ _ (omega (arith, c.until-end.ensures, until-few 32 q)))

pub returns-in_default : goal.returns-in_default
returns-in_default c =
    let p = c.put_bad_word in
    let q = c.args.question.now in
    either_way q c.args.sheet.now c.args.out.now p.new.out p.result 0 _ false
    (of_word q c.until-end.result 0 c.until-end.ensures (sym (wants_none _ (sym c.in_default.is ∙ c.wanted.ensures.0)))) refl refl p.ensures

pub returns-then-has-wants : goal.returns-then-has-wants
returns-then-has-wants c =
    let p = c.both_forms in
    let q = c.args.question.now in
    let w = wants_some _ _ (sym c.in-Some.is ∙ c.wanted.ensures.0) in
    either_way q c.args.sheet.now c.args.out.now p.new.out p.result c.in-Some.wants c.given-has.result true
    (of_word q c.until-end.result c.in-Some.wants c.until-end.ensures (sym w.0)) c.given-has.ensures
    (as_many c.in-Some.wants c.given-has.result w.1 c.if-has-wants.true) p.ensures

pub put_unasked-requires : goal.put_unasked-requires
put_unasked-requires c =
    let w = wants_some _ _ (sym c.in-Some.is ∙ c.wanted.ensures.0) in
    (w.1, omega (arith, w.0, c.wanted.ensures.1), c.requires.1)

pub returns : goal.returns
returns c =
    let p = c.put_unasked in
    let q = c.args.question.now in
    let w = wants_some _ _ (sym c.in-Some.is ∙ c.wanted.ensures.0) in
    either_way q c.args.sheet.now c.args.out.now p.new.out p.result c.in-Some.wants c.given-has.result false
    (of_word q c.until-end.result c.in-Some.wants c.until-end.ensures (sym w.0)) c.given-has.ensures
    (not_as_many c.in-Some.wants c.given-has.result w.1 c.if-has-wants.false) p.ensures
