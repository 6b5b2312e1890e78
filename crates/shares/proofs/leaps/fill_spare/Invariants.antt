-- `fill_spare` enters a length for each number of ticks to spare that no shorter one has. The invariant: what is entered is right.
-- Assumes nothing.
use Rattle.shares.specs.Private.{Entering}
use Prim.Native.Nat.{◌+◌, ◌-◌}
use Rattle.shares.proofs.leaps.fill_spare.Given as goal

abbrev pub invariant-loop-spare : goal.invariant-loop-spare
invariant-loop-spare l = Entering l.tasks.periods.now l.tasks.costs.now l.leaps l.i l.t l.spare

abbrev pub decreases-loop-spare : goal.decreases-loop-spare
decreases-loop-spare l = (l.t + 1) - l.spare
