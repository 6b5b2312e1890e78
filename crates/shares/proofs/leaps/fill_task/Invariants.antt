-- `fill_task` enters one task. The invariant: what the lengths passed have to spare is entered. Assumes nothing.
use Rattle.shares.specs.Private.{Entering}
use lib.ListN.{get_or}
use Prim.Native.Nat.{◌+◌, ◌≤◌}
use Rattle.shares.proofs.leaps.fill_task.Given as goal

abbrev pub invariant-loop-t : goal.invariant-loop-t
invariant-loop-t l =
    (1 ≤ l.t) × (l.t ≤ get_or l.tasks.periods.now l.i 0 + 1) × Entering l.tasks.periods.now l.tasks.costs.now l.leaps l.i l.t l.spare
