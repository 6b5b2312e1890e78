-- `put_number` takes the digits out of a field of `text`, and puts them where they have room. Assumes nothing.
use mathlib.Core.Path.{refl}
use Rattle.sheets.proofs.Puts.{field-ends, field-digits, number_put}
use Rattle.sheets.proofs.put.put_number.Goals as goal

pub slice_bounds-put_text-end : goal.slice_bounds-put_text-end
slice_bounds-put_text-end c = (field-ends _ _ c.from.result c.put_field-end.result refl c.put_field-end.ensures).1

pub returns : goal.returns
returns c =
    let a = c.args in
    number_put a.out.now _ a.at a.n c.put_text.result _
    (rw c.from.ensures at (field-digits _ _ c.from.result c.put_field-end.result refl c.put_field-end.ensures))
    c.put_text.ensures
