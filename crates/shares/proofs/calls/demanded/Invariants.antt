-- The sum is the demand of the tasks passed. Assumes nothing.
use Rattle.model.specs.Demand.{demand_of}
use Rattle.std.proofs.Common.{◌≡◌, length}
use Rattle.shares.proofs.calls.demanded.Given as goal

abbrev pub invariant-loop-p : goal.invariant-loop-p
invariant-loop-p l = l.sum ≡ demand_of l.tasks.periods.now l.tasks.costs.now (length l.yielded) l.t
