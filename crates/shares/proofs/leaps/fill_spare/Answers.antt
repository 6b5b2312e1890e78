-- The demand, and so the sum, is far below 32 bits. Assumes nothing.
use Rattle.shares.proofs.DemandCurve.{demand-most}
use native.Mathlib.Omega.{arith}
use Prim.Native.Nat.{◌+◌}
use Rattle.shares.proofs.leaps.fill_spare.Goals as goal

pub overflow_add-d : goal.overflow_add-d
overflow_add-d c =
    let a = c.args in
    let tasks = a.tasks.now in
    let l = c.loop-spare in
    let most = demand-most tasks.periods.now tasks.costs.now tasks.accepted (a.i + 1) a.t (omega (arith, l.invariant.task)) c.requires.1.2 in
    record { fits = omega (arith, c.requires.1, l.invariant.few, l.invariant.task, tasks.accepted.few, most) }
