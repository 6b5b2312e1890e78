-- The sum is at most 4,000 a task, and so 16 bits hold it. Assumes nothing.
use Rattle.shares.proofs.DemandCurve.{demand-most}
use native.Mathlib.Omega.{arith}
use Prim.Native.Nat.{◌+◌, ◌≤◌}
use Rattle.shares.proofs.table.fill_length.Goals as goal
use Rattle.shares.proofs.table.fill_length.Goals.{After-demand_of_one-sum}

few-ticks : (c : After-demand_of_one-sum) → c.loop-i.sum + c.demand_of_one-sum.result ≤ 64000
few-ticks c =
    let tasks = c.args.tasks.now in
    let l = c.loop-i in
    let most = demand-most tasks.periods.now tasks.costs.now tasks.accepted l.i c.args.t (omega (arith, c.loop-i-test.true)) c.requires.0 in
    omega (arith, c.demand_of_one-sum.ensures, l.invariant.2, c.loop-i-test.true, tasks.accepted.few, most)

pub overflow_add-sum : goal.overflow_add-sum
overflow_add-sum c = record { fits = omega (arith, few-ticks c) }

pub overflow_cast-cells : goal.overflow_cast-cells
overflow_cast-cells c = record { fits = omega (arith, few-ticks c) }
