-- `both_forms` asks both lines, and has room for both answers. Assumes nothing.
use Prim.Native.Nat.{ℕ, ◌-◌}
use mathlib.Core.Path.{◌≡◌, ap}
use mathlib.Core.List.{List, ◌++◌}
use native.Mathlib.Omega.{arith}
use lib.ListN.{take, drop}
use Rattle.text.proofs.Writing.{put_as}
use Rattle.queries.specs.Meaning.{line_means}
use Rattle.sales.specs.Sales.{ordinary, aligned, task_fields, named}
use Rattle.sales.proofs.Naming.{both_lines, both_put}
use Rattle.sales.proofs.both_forms.Goals as goal
use Rattle.sales.proofs.both_forms.Goals.{After-put_line-end}

-- the lines that are asked
abbrev rest : After-put_line-end → List ℕ
rest l =
    let a = l.args in
    a.question.now ++ task_fields a.sheet.now.periods a.sheet.now.costs

lines : (l : After-put_line-end)
    → (take (l.put_line-end.result - 8) (drop 8 l.put_line-end.new.line) ≡ rest l)
    × (take l.put_line-end.result l.put_line-end.new.line ≡ aligned ++ rest l)
lines l = both_lines (omega (arith, l.put_line-end.ensures.1)) l.put_line-end.ensures.0

pub returns : goal.returns
returns c =
    let n = c.put_named in
    let m = c.put_named-next in
    let l = (goal.at.returns c).After-put_line-end in
    both_put (put_as (ap (λ (x : List ℕ). named ordinary (line_means x)) (lines l).0) m.ensures.0)
    (put_as (ap (λ (x : List ℕ). named aligned (line_means x)) (lines l).1) n.ensures.0) (omega (arith, c.requires, m.ensures.1, n.ensures.1))
