-- `number_of` reads digit after digit: what is left makes of the number so far what the whole field says. Assumes nothing.
use Prim.Native.Nat.{◌≤◌, min}
use mathlib.Core.Path.{◌≡◌}
use lib.ListN.{drop}
use Rattle.text.specs.Text.{number_from}
use Rattle.queries.specs.Meaning.{all_digits}
use Rattle.queries.proofs.field.number_of.Given as goal

abbrev pub invariant-loop-byte : goal.invariant-loop-byte
invariant-loop-byte l =
    (l.n ≤ 9999) × (all_digits l.field ≡ all_digits (drop l.byte-index l.field)) × (min (number_from 0 l.field) 9999 ≡ min (number_from l.n (drop l.byte-index l.field)) 9999)
