-- `first_budget` finds the first budget that passes. The invariant of all three loops is the walk of proofs/Walk.antt; the inner ones add
-- that the budget, and within the lengths the task, is the one that the loop began with. The loops know the form by its gaps. Assumes
-- nothing.
use Rattle.shares.proofs.Walk.{Walk}
use Rattle.shares.proofs.SupplyCurve.{form_of}
use lib.ListN.{length, get_or}
use mathlib.Core.Path.{◌≡◌}
use Prim.Native.Nat.{◌+◌, ◌-◌, ◌≤◌, ◌<◌}
use Rattle.shares.proofs.search.Search.first_budget.Given as goal

abbrev pub invariant-lengths : goal.invariant-lengths
invariant-lengths l =
    Walk (form_of l.gaps) l.self.tasks.periods.now l.self.tasks.costs.now l.p l.from l.b l.i l.t × ((l.b ≤ l.to) × ((l.i < length l.self.tasks.periods.now) × ((l.b ≡ l.initial.b) × (l.i ≡ l.initial.i))))

abbrev pub decreases-lengths : goal.decreases-lengths
decreases-lengths l = get_or l.self.tasks.periods.now l.i 0 - l.t

abbrev pub invariant-tasks : goal.invariant-tasks
invariant-tasks l =
    Walk (form_of l.gaps) l.self.tasks.periods.now l.self.tasks.costs.now l.p l.from l.b l.i l.t × ((l.b ≤ l.to) × (l.b ≡ l.initial.b))

abbrev pub decreases-tasks : goal.decreases-tasks
decreases-tasks l = length l.self.tasks.periods.now - l.i

abbrev pub invariant-budgets : goal.invariant-budgets
invariant-budgets l = Walk (form_of l.gaps) l.self.tasks.periods.now l.self.tasks.costs.now l.p l.from l.b l.i l.t

abbrev pub decreases-budgets : goal.decreases-budgets
decreases-budgets l = (l.to + 1) - l.b
