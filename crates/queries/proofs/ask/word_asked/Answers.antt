-- `word_asked` answers a word that its form knows. Assumes nothing.
use mathlib.Core.Path.{sym, ◌∙◌, ap}
use Rattle.std.specs.Prelude.{Some}
use Rattle.shares.specs.Paper.{paper_form}
use Rattle.queries.proofs.Meaning.{lone_means}
use Rattle.queries.proofs.ask.word_asked.Goals as goal

pub returns-in-None-fields : goal.returns-in-None-fields
returns-in-None-fields c =
    rw (sym c.word_in.ensures ∙ c.in-Some.is ∙ ap Some c.in-Known.is, c.in-None-fields.is) (lone_means (paper_form c.args.form) c.in-Known.known)
