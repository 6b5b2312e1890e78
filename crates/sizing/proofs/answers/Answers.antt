use Prim.Native.Nat.{ℕ, ◌+◌, ◌-◌, ◌≤◌}
use mathlib.Core.Path.{◌≡◌, refl, sym, ◌∙◌}
use mathlib.Core.Bool.{false}
use mathlib.Core.List.{List, ◌++◌}
use native.Mathlib.Omega.{arith}
use lib.ListN.{length, take, drop}
use Rattle.queries.proofs.Pieces.{end-inside}
use Rattle.sizing.proofs.Lines.{Done, done-start, full_go, let_go, waits, one_more}
use Rattle.sizing.proofs.answers.Goals as goal
use Rattle.sizing.proofs.answers.Goals.{After-line_end-end, After-told-written, At-loop-too_long, Start}

-- the points of the program: its start, the top of the loop, and the end of a line
abbrev start : At-loop-too_long → Start
start l = (goal.at.At-loop-too_long l).Start

abbrev top : After-line_end-end → At-loop-too_long
top e = (goal.at.After-line_end-end e).At-loop-too_long

abbrev ended : After-told-written → After-line_end-end
ended t = (goal.at.After-told-written t).After-line_end-end

-- the line lies in the part
inside : (e : After-line_end-end)
    → ((top e).loop-too_long.used ≤ e.line_end-end.result) × (e.line_end-end.result ≤ length (start (top e)).args.part.now)
inside e =
    let l = (top e).loop-too_long in
    end-inside 10 (start (top e)).args.part.now l.used e.line_end-end.result l.invariant.1.within.0 e.line_end-end.ensures

-- the room after an answer
abbrev after : After-told-written → List ℕ
after t =
    let l = (top (ended t)).loop-too_long in
    take l.written l.out ++ (t.told-written.new.out ++ drop (length l.out - l.written) (drop l.written l.out))

-- one line more is answered
more : (t : After-told-written)
    → (length (after t) ≡ length (top (ended t)).loop-too_long.out)
    × Done (start (top (ended t))).args.begun (start (top (ended t))).args.part.now (after t) false ((ended t).line_end-end.result + 1)
    ((top (ended t)).loop-too_long.written + t.told-written.result)
more t =
    let e = ended t in
    let l = (top e).loop-too_long in
    let a = (start (top e)).args in
    one_more a.begun a.part.now l.out l.long l.used l.written l.invariant.1 e.line_end-end.result e.line_end-end.ensures
    (omega (arith, t.if-end-part.false)) (omega (arith, t.if-out-written-lt-LONGEST_ANSWER.false))
    t.told-written.result t.told-written.new.out t.told-written.auto.out t.told-written.ensures

pub loop-too_long-init : goal.loop-too_long-init
loop-too_long-init c =
    let a = c.args in
    (refl, done-start a.begun a.part.now a.out.now)

pub returns-then-too_long : goal.returns-then-too_long
returns-then-too_long c =
    let e = (goal.at.returns-then-too_long c).After-line_end-end in
    let l = (top e).loop-too_long in
    let a = (start (top e)).args in
    let_go a.begun a.part.now l.out l.long l.used l.written l.invariant.1 e.line_end-end.result e.line_end-end.ensures
    (omega (arith, c.if-end-part.true)) (sym c.if-too_long.true ∙ c.is_too_long-too_long.ensures)

pub returns-then-end-part : goal.returns-then-end-part
returns-then-end-part c =
    let e = (goal.at.returns-then-end-part c).After-line_end-end in
    let l = (top e).loop-too_long in
    let a = (start (top e)).args in
    waits a.begun a.part.now l.out l.long l.used l.written l.invariant.1 e.line_end-end.result e.line_end-end.ensures
    (omega (arith, c.if-end-part.true)) (sym c.if-too_long.false ∙ c.is_too_long-too_long.ensures)

pub returns-then-out-written-lt-LONGEST_ANSWER : goal.returns-then-out-written-lt-LONGEST_ANSWER
returns-then-out-written-lt-LONGEST_ANSWER c =
    let e = (goal.at.returns-then-out-written-lt-LONGEST_ANSWER c).After-line_end-end in
    let l = (top e).loop-too_long in
    let a = (start (top e)).args in
    full_go a.begun a.part.now l.out l.long l.used l.written l.invariant.1 (omega (arith, c.if-out-written-lt-LONGEST_ANSWER.true))

pub slice_bounds-told-end : goal.slice_bounds-told-end
slice_bounds-told-end c = omega (arith, inside (goal.at.slice_bounds-told-end c).After-line_end-end)

pub overflow_add-written : goal.overflow_add-written
overflow_add-written c = omega (arith, more (goal.at.overflow_add-written c).After-told-written)

pub overflow_add-used : goal.overflow_add-used
overflow_add-used c = omega (arith, more (goal.at.overflow_add-used c).After-told-written)

pub loop-too_long-smaller : goal.loop-too_long-smaller
loop-too_long-smaller c = omega (arith, more (goal.at.loop-too_long-smaller c).After-told-written, inside (ended (goal.at.loop-too_long-smaller c).After-told-written))

pub loop-too_long-preserved : goal.loop-too_long-preserved
loop-too_long-preserved c =
    let t = (goal.at.loop-too_long-preserved c).After-told-written in
    ((more t).0 ∙ (top (ended t)).loop-too_long.invariant.0, (more t).1)
