-- The search from one budget to itself tells whether that passes. Assumes nothing.
use Rattle.std.proofs.Common.{rules}
use Rattle.std.specs.Prelude.{is_some}
use Rattle.shares.specs.Paper.{paper_form}
use Rattle.shares.proofs.Budgets.{one_tells}
use mathlib.Core.Path.{◌≡◌, ◌∙◌}
use Rattle.shares.proofs.search.Search.passes.Goals as goal

pub returns : goal.returns
returns c =
    let a = c.args in
    let tasks = a.self.now.tasks in
    let told : c.is_some.result ≡ is_some c.first_budget.result = search rules in
    told
    ∙ one_tells (paper_form a.self.now.form) a.p tasks.periods.now tasks.costs.now tasks.accepted a.b c.first_budget.result c.requires.1.0
    c.first_budget.ensures
