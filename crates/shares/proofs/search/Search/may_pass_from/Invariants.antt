-- The budget stays above 0 and at most `cap`. Assumes nothing.
use Prim.Native.Nat.{◌≤◌}
use Rattle.shares.proofs.search.Search.may_pass_from.Given as goal

abbrev pub invariant-loop-step : goal.invariant-loop-step
invariant-loop-step l = (1 ≤ l.b) × (l.b ≤ l.cap) × (1 ≤ l.step)

abbrev pub decreases-loop-step : goal.decreases-loop-step
decreases-loop-step l = l.b
