-- `put_tasks` has put the tasks so far, in at most 42 bytes each. Assumes nothing.
use Prim.Native.Nat.{◌+◌, ◌-◌, ◌*◌, ◌≤◌}
use mathlib.Core.Path.{◌≡◌}
use lib.ListN.{length, take}
use Rattle.text.specs.Text.{Put}
use Rattle.sales.specs.Sales.{task_fields}
use Rattle.sales.proofs.put_tasks.Given as goal

abbrev pub invariant-loop-k : goal.invariant-loop-k
invariant-loop-k l =
    ((l.k ≤ l.k-end) × (l.k-end ≤ 16)) × (l.k-end ≡ length l.sheet.periods) × (length l.line ≡ length l.initial.line)
    × (Put l.initial.line l.at (task_fields (take l.k l.sheet.periods) l.sheet.costs) l.line l.next × (l.next ≤ l.at + l.k * 42))

abbrev pub decreases-loop-k : goal.decreases-loop-k
decreases-loop-k l = l.k-end - l.k
