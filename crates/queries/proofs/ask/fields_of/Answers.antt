use Rattle.std.proofs.Common.{◌≡◌, ◌+◌, ◌<◌, sym, ◌∙◌, subst, rules, tests, eqb, ℕ, List, arith, length, get_or}
use Rattle.std.proofs.lemmas.Iterator.Consumers.{YieldsList-at, YieldsList-turn, YieldsList-end}
use Rattle.std.proofs.lemmas.Iterator.Splits.{YieldsList-from_slice_split}
use Rattle.std.proofs.lemmas.List.{length_push}
use Rattle.queries.specs.Private.{pieces}
use Rattle.queries.proofs.Pieces.{parts-are}
use Rattle.queries.proofs.Fields.{Reading, too_many_here, no_number, next_field, missing, all-read}
use Rattle.queries.proofs.ask.fields_of.Goals as goal
use Rattle.queries.proofs.ask.fields_of.Goals.{In-Some, In-None}

-- the field of this turn is the next piece
turn : (c : In-Some) → (c.loop-field.count < length (pieces 32 c.args.line.now)) × (c.in-Some.field.now ≡ get_or (pieces 32 c.args.line.now) c.loop-field.count c.in-Some.field.now)
turn c =
    rw (parts-are 32 c.args.line.now, sym c.loop-field.invariant.0) at (YieldsList-turn (YieldsList-at c.into_iter-field-iterator.ensures.into_iter_gives
    (YieldsList-from_slice_split _ (λ y. eqb y 32) c.args.line.now c.split-field-items.ensures.rest c.split-field-items.ensures.done c.split-field-items.ensures.closure
    (λ x b q k. search (rules, tests)))) c.loop-field.yielded _ c.loop-field.yielded_by _ _ c.in-Some.field c.in-Some.is c.next.ensures.steps)

-- at the end all were read
all : (c : In-None) → c.loop-field.count ≡ length (pieces 32 c.args.line.now)
all c =
    let e = rw (parts-are 32 c.args.line.now) at (YieldsList-end (YieldsList-at c.into_iter-field-iterator.ensures.into_iter_gives
    (YieldsList-from_slice_split _ (λ y. eqb y 32) c.args.line.now c.split-field-items.ensures.rest c.split-field-items.ensures.done c.split-field-items.ensures.closure
    (λ x b q k. search (rules, tests)))) c.loop-field.yielded _ c.loop-field.yielded_by _ _ c.in-None.is c.next.ensures.steps).1 in
    c.loop-field.invariant.0 ∙ e

pub returns-then-is_too_many : goal.returns-then-is_too_many
returns-then-is_too_many c =
    let t = turn (goal.at.returns-then-is_too_many c).In-Some in
    too_many_here c.args.word (pieces 32 c.args.line.now) c.loop-field.numbers c.loop-field.count c.loop-field.invariant.1 c.in-Some.field.now t.0 t.1
    (sym c.is_too_many.ensures ∙ c.if-is_too_many.true)

pub returns-in_default : goal.returns-in_default
returns-in_default c =
    let t = turn (goal.at.returns-in_default c).In-Some in
    no_number c.args.word (pieces 32 c.args.line.now) c.loop-field.numbers c.loop-field.count c.loop-field.invariant.1 c.in-Some.field.now t.0 t.1
    (sym c.in_default.is ∙ c.number_of.ensures)

pub loop-field-preserved : goal.loop-field-preserved
loop-field-preserved c =
    let t = turn (goal.at.loop-field-preserved c).In-Some in
    let next = next_field c.args.word (pieces 32 c.args.line.now) c.loop-field.numbers c.loop-field.count c.loop-field.invariant.1 c.in-Some.field.now t.0 t.1 _
    (sym c.is_too_many.ensures ∙ c.if-is_too_many.false) (sym c.in-Some-number_of.is ∙ c.number_of.ensures) in (
      omega (arith, c.loop-field.invariant.0, length_push c.loop-field.yielded c.in-Some.field),
      subst (λ (ns : List ℕ). Reading c.args.word (pieces 32 c.args.line.now) ns (c.loop-field.count + 1)) (sym c.keep.ensures) next,
    )

pub returns-then-next-heads : goal.returns-then-next-heads
returns-then-next-heads c =
    missing c.args.word (pieces 32 c.args.line.now) c.loop-field.numbers c.loop-field.count c.loop-field.invariant.1
    (all (goal.at.returns-then-next-heads c).In-None) (omega (arith, c.heads.ensures.0, c.if-next-heads.true))

pub returns : goal.returns
returns c =
    all-read c.args.word (pieces 32 c.args.line.now) c.loop-field.numbers c.loop-field.count c.loop-field.invariant.1
    (all (goal.at.returns c).In-None) (omega (arith, c.heads.ensures.0, c.if-next-heads.false))
