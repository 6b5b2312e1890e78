-- `value` reads digit after digit: what is left makes of the number so far what all of them say. Assumes nothing.
use mathlib.Core.Path.{◌≡◌}
use lib.ListN.{drop}
use Rattle.text.specs.Text.{number_from, number}
use Rattle.sheets.proofs.field.value.Given as goal

abbrev pub invariant-loop-digit : goal.invariant-loop-digit
invariant-loop-digit l = number_from l.n (drop l.digit-index l.s) ≡ number l.s
