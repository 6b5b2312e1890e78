-- `fill_none` enters 2001 for the ticks that no length has to spare. The invariant: what is entered is right. Assumes nothing.
use Rattle.shares.specs.Private.{Leaps}
use Prim.Native.Nat.{◌+◌, ◌*◌, ◌≤◌}
use Rattle.shares.proofs.leaps.fill_none.Given as goal

abbrev pub invariant-loop-spare : goal.invariant-loop-spare
invariant-loop-spare l = (l.from ≤ l.spare) × (l.spare ≤ 2001) × Leaps l.tasks.periods.now l.tasks.costs.now l.leaps (l.i * 2001 + l.spare)
