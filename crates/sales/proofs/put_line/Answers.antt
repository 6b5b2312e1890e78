-- `put_line` has room for the form's word, the question and 16 tasks. Assumes nothing.
use Prim.Native.Nat.{◌≤◌}
use mathlib.Core.List.{◌++◌}
use native.Mathlib.Omega.{arith}
use Rattle.text.specs.Text.{Put}
use Rattle.text.proofs.Writing.{put_two, put-size, text-put}
use Rattle.sales.specs.Sales.{aligned}
use Rattle.sales.proofs.put_line.Goals as goal
use Rattle.sales.proofs.put_line.Goals.{After-put_text-behind, After-put_text-from, Start}

-- where the function begins, seen from the second text, and both texts
abbrev start : After-put_text-behind → Start
start t = (goal.at.After-put_text-behind t).Start

abbrev first : After-put_text-behind → After-put_text-from
first t = (goal.at.After-put_text-behind t).After-put_text-from

behind : (t : After-put_text-behind)
    → Put (start t).args.line.now 0 (aligned ++ (start t).args.question.now) t.put_text-behind.new.out t.put_text-behind.result
    × (t.put_text-behind.result ≤ 65543)
behind t =
    let p = text-put (start t).args.line.now 0 aligned (omega (arith, (start t).requires)) (first t).put_text-from.ensures in
    let q = text-put _ _ (start t).args.question.now (omega (arith, (start t).requires, p.behind, put-size p)) t.put_text-behind.ensures in
    (put_two p q, omega (arith, (start t).requires, p.behind, q.behind))

pub put_tasks-requires : goal.put_tasks-requires
put_tasks-requires c =
    let t = (goal.at.put_tasks-requires c).After-put_text-behind in
    omega (arith, (start t).requires, (behind t).0.behind, put-size (behind t).0, (behind t).1)

pub returns : goal.returns
returns c =
    let t = (goal.at.returns c).After-put_text-behind in
    let last = c.put_tasks.ensures in
    (put_two (behind t).0 last.0, omega (arith, (start t).requires, (behind t).1, last.1))
