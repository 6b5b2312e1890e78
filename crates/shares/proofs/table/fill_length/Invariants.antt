-- `fill_length` fills the cells of one length. The invariant: the cells before are right, and the sum is the demand of the tasks passed.
-- Assumes nothing.
use Rattle.model.specs.Demand.{demand_of}
use Rattle.shares.specs.Private.{Cells}
use lib.ListN.{length}
use mathlib.Core.Path.{◌≡◌}
use Prim.Native.Nat.{◌+◌, ◌*◌, ◌≤◌}
use Rattle.shares.proofs.table.fill_length.Given as goal

abbrev pub invariant-loop-i : goal.invariant-loop-i
invariant-loop-i l =
    (l.i ≤ length l.tasks.periods.now) × (length l.cells ≡ 32016) × (l.sum ≡ demand_of l.tasks.periods.now l.tasks.costs.now l.i l.t) × Cells l.tasks.periods.now l.tasks.costs.now l.cells (l.t * 16 + l.i)
