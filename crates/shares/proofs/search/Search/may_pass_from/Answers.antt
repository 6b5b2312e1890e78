-- A budget that fails settles all below it. Assumes nothing.
use Prim.Native.Nat.{◌-◌}
use mathlib.Core.Path.{sym, ◌∙◌}
use native.Mathlib.Omega.{arith}
use Rattle.shares.specs.Paper.{paper_form}
use Rattle.shares.proofs.Budgets.{fails-below}
use Rattle.shares.proofs.search.Search.may_pass_from.Goals as goal

pub returns-then-not-passes : goal.returns-then-not-passes
returns-then-not-passes c =
    let a = c.args in
    let tasks = a.self.now.tasks in
    let l = c.loop-step in (
      omega arith,
      omega (arith, c.loop-step-test.true, l.invariant),
      λ x pos h.
          fails-below (paper_form a.self.now.form) a.p tasks.periods.now tasks.costs.now tasks.accepted (l.b - l.step)
          (omega (arith, l.invariant, c.requires)) (sym c.passes.ensures ∙ c.if-not-passes.true) x pos (omega arith),
    )
