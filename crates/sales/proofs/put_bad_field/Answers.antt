-- `put_bad_field` has room for the text, a number and the newline. Assumes nothing.
use mathlib.Core.Path.{refl}
use Rattle.sales.proofs.Asking.{field_told}
use Rattle.sales.proofs.put_bad_field.Goals as goal

pub returns : goal.returns
returns c =
    field_told c.args.out.now c.args.k c.args.k refl c.requires c.put_text-field.ensures c.put_field-end.ensures c.put_end.ensures
