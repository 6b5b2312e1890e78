-- Of periods that rise neighbours tell of any two. Assumes nothing.
use mathlib.Core.Path.{ap, sym, ◌∙◌}
use Rattle.model.specs.Form.{suits}
use Rattle.shares.specs.Paper.{paper_form}
use Rattle.shares.proofs.Harmonic.{harmonic_tells}
use Rattle.shares.proofs.form.Form.suits.Goals as goal

pub returns-in-Aligned : goal.returns-in-Aligned
returns-in-Aligned c =
    let tasks = c.args.tasks.now in
    harmonic_tells tasks.periods.now tasks.costs.now tasks.accepted c.is_harmonic.result c.is_harmonic.ensures
    ∙ sym (ap (λ f. suits (paper_form f) tasks.periods.now) c.in-Aligned.is)
