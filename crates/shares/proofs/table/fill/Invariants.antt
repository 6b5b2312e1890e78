-- `fill` fills the table up to the last task's period. The invariant: the cells of the lengths passed are right. Assumes nothing.
use Rattle.shares.specs.Private.{Filled, longest}
use Prim.Native.Nat.{◌+◌, ◌*◌, ◌≤◌}
use Rattle.shares.proofs.table.fill.Given as goal

abbrev pub invariant-loop-t : goal.invariant-loop-t
invariant-loop-t l = (l.t ≤ longest l.tasks.periods.now + 1) × Filled l.tasks.periods.now l.tasks.costs.now l.cells (l.t * 16)
