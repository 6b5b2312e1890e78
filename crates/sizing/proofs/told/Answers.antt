-- `told` is what it calls for either kind of line. Assumes nothing.
use Prim.Native.Nat.{ℕ}
use mathlib.Core.Path.{◌≡◌, sym, subst}
use mathlib.Core.Bool.{Bool}
use mathlib.Core.List.{List}
use Rattle.queries.specs.Text.{answer_in, Written}
use Rattle.sizing.specs.Program.{line_answer}
use Rattle.sizing.proofs.told.Goals as goal

-- a line of either kind: what its test says
kind : (line out after : List ℕ) (n : ℕ) {long t : Bool} → long ≡ t → Written (answer_in (line_answer t line) out) out after n
    → Written (answer_in (line_answer long line) out) out after n
kind line out after n e h = subst (λ (b : Bool). Written (answer_in (line_answer b line) out) out after n) (sym e) h

pub returns-then-long : goal.returns-then-long
returns-then-long c =
    let a = c.args in
    kind a.line.now a.out.now c.bad_line.new.out c.bad_line.result c.if-long.true c.bad_line.ensures

pub returns : goal.returns
returns c =
    let a = c.args in
    kind a.line.now a.out.now c.answer.new.out c.answer.result c.if-long.false c.answer.ensures
