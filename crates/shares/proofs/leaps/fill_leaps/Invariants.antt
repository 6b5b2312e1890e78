-- `fill_leaps` enters every task. The invariant: the tasks passed are entered. Assumes nothing.
use Rattle.shares.specs.Private.{Leaps}
use lib.ListN.{length}
use Prim.Native.Nat.{◌*◌, ◌≤◌}
use Rattle.shares.proofs.leaps.fill_leaps.Given as goal

abbrev pub invariant-loop-i : goal.invariant-loop-i
invariant-loop-i l = (l.i ≤ length l.tasks.periods.now) × Leaps l.tasks.periods.now l.tasks.costs.now l.leaps (l.i * 2001)
