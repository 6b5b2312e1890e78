-- The cap is tried, and then what is above a failing budget. Assumes nothing.
use mathlib.Core.Logic.{inl, inr}
use mathlib.Core.Path.{sym, ◌∙◌, ap}
use native.Mathlib.Omega.{arith}
use Rattle.shares.specs.Paper.{paper_form}
use Rattle.shares.specs.Private.{place_of}
use Rattle.shares.proofs.Budgets.{least_none, least_cap, skip}
use Rattle.shares.proofs.search.Search.least_under.Goals as goal
use Rattle.shares.proofs.search.Search.least_under.Goals.{then-cap-eq0-via-then-cap-eq0, then-cap-eq0-via-else-cap-eq0+then-not-passes}

pub returns-then-cap-eq0 : goal.returns-then-cap-eq0
returns-then-cap-eq0 c =
    let a = c.args in
    let tasks = a.self.now.tasks in
    let none = least_none (paper_form a.self.now.form) a.p tasks.periods.now tasks.costs.now tasks.accepted a.cap c.requires.1 in
    elim c.then-cap-eq0.branch [
      | then-cap-eq0-via-then-cap-eq0 w ↦ none (inl w.if-cap-eq0.true)
      | then-cap-eq0-via-else-cap-eq0+then-not-passes w ↦ none (inr (sym w.passes.ensures ∙ w.if-not-passes.true))
    ]

pub returns-then-from-cap : goal.returns-then-from-cap
returns-then-from-cap c =
    let a = c.args in
    let tasks = a.self.now.tasks in
    let from = c.may_pass_from-from.ensures in
    least_cap (paper_form a.self.now.form) a.p tasks.periods.now tasks.costs.now tasks.accepted a.cap (omega (arith, from, c.if-from-cap.true))
    (λ x pos h. from.2 x pos (omega (arith, c.if-from-cap.true))) (sym c.passes.ensures ∙ c.if-not-passes.false)

pub returns : goal.returns
returns c =
    let a = c.args in
    let tasks = a.self.now.tasks in
    let from = c.may_pass_from-from.ensures in
    c.first_budget.ensures
    ∙ ap place_of (skip (paper_form a.self.now.form) a.p tasks.periods.now tasks.costs.now tasks.accepted _ a.cap from.0 from.2)
