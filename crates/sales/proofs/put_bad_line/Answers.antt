-- `put_bad_line` has room for a word, two numbers and the newline. Assumes nothing.
use mathlib.Core.Path.{◌∙◌}
use Rattle.sales.proofs.Tasks.{refusal-put}
use Rattle.sales.proofs.put_bad_line.Goals as goal

pub returns : goal.returns
returns c =
    refusal-put c.args.out.now _ _ _ (c.from.ensures ∙ c.number.ensures) (c.from-2.ensures ∙ c.detail.ensures) c.requires c.put_text-number.ensures
    c.put_field-detail.ensures c.put_field-end.ensures c.put_end.ensures
