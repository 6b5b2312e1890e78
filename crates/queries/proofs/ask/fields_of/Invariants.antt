-- `fields_of` reads field after field. Assumes nothing.
use mathlib.Core.Path.{◌≡◌}
use lib.ListN.{length}
use Rattle.queries.specs.Private.{pieces}
use Rattle.queries.proofs.Fields.{Reading}
use Rattle.queries.proofs.ask.fields_of.Given as goal

abbrev pub invariant-loop-field : goal.invariant-loop-field
invariant-loop-field l = (l.count ≡ length l.yielded) × Reading l.word (pieces 32 l.line) l.numbers l.count
