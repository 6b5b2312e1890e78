-- `put_or_dash` puts a number. Assumes nothing.
use native.Mathlib.Omega.{arith}
use Rattle.text.proofs.Writing.{field_put}
use Rattle.lines.proofs.line.put_or_dash.Goals as goal

pub returns-in-Some : goal.returns-in-Some
returns-in-Some c = rw c.in-Some.is (field_put c.args.out.now c.args.at _ (omega arith) c.put_field.ensures)
