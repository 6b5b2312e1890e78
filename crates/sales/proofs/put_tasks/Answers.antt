use Prim.Native.Nat.{ℕ, ◌≤◌, ◌<◌}
use mathlib.Core.Path.{◌≡◌, refl, ap, ◌∙◌}
use mathlib.Core.List.{List}
use native.Mathlib.Omega.{arith}
use lib.ListN.{length, take}
use lib.Seq.{take_all}
use Rattle.text.proofs.Writing.{put_as, put-size}
use Rattle.sales.specs.Sales.{task_fields}
use Rattle.sales.proofs.Tasks.{task-put}
use Rattle.sales.proofs.put_tasks.Goals as goal
use Rattle.sales.proofs.put_tasks.Goals.{At-loop-k, Start}

-- where the function begins, seen from the loop; there are at most 16 tasks
abbrev start : At-loop-k → Start
start t = (goal.at.At-loop-k t).Start

few : (t : At-loop-k) → length (start t).args.sheet.now.periods ≤ 16
few t = omega (arith, t.loop-k.invariant.0.1, t.loop-k.invariant.1)

pub loop-k-init : goal.loop-k-init
loop-k-init c =
    ((omega arith, omega (arith, c.count-k-end.ensures.count_is, c.count-k-end.ensures.holds.few)), c.count-k-end.ensures.count_is, refl, (record { behind = omega arith; stored = refl }, omega arith))

pub loop-k-preserved : goal.loop-k-preserved
loop-k-preserved c =
    let t = (goal.at.loop-k-preserved c).At-loop-k in
    let l = t.loop-k in
    let ps : List ℕ = (start t).args.sheet.now.periods in
    let es : List ℕ = (start t).args.sheet.now.costs in
    let next = c.put_field-next-in-loop-k in
    let more : l.k < length ps = omega (arith, l.invariant.1, c.loop-k-test.true) in
    let all = task-put ps es l.k c.from.result c.from-in-loop-k.result more (c.from.ensures ∙ c.period.ensures) (c.from-in-loop-k.ensures ∙ c.cost.ensures)
    (omega (arith, few t, more, (start t).requires)) l.invariant.3 c.put_field-next.ensures next.ensures in
    ((omega (arith, c.loop-k-test.true), l.invariant.0.1), l.invariant.1, put-size all.0, all)

pub returns : goal.returns
returns c =
    let t = (goal.at.returns c).At-loop-k in
    let l = t.loop-k in
    let ps : List ℕ = (start t).args.sheet.now.periods in
    let whole : take l.k ps ≡ ps = take_all l.k ps (omega (arith, l.invariant.1, c.loop-k-test.false)) in
    let put = put_as (ap (λ (xs : List ℕ). task_fields xs (start t).args.sheet.now.costs) whole) l.invariant.3.0 in
    (put, omega (arith, l.invariant, few t))
