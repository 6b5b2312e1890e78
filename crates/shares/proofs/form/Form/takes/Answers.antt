-- Of periods that each divide the next the first tells of all. Assumes nothing.
use mathlib.Core.Path.{ap, sym, ◌∙◌}
use Rattle.model.specs.Form.{suits, takes}
use Rattle.shares.specs.Paper.{paper_form}
use Rattle.shares.proofs.Harmonic.{taken-first}
use Rattle.shares.proofs.form.Form.takes.Goals as goal

pub returns-in-Aligned : goal.returns-in-Aligned
returns-in-Aligned c =
    let a = c.args in
    let ps = a.tasks.now.periods.now in
    let told = c.in-Aligned.is in
    let harmonic = sym (ap (λ f. suits (paper_form f) ps) told) ∙ c.requires.1 in
    taken-first ps a.tasks.now.costs.now a.tasks.now.accepted a.p harmonic ∙ sym (ap (λ f. takes (paper_form f) a.p ps) told)
