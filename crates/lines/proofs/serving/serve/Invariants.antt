-- `serve` answers record by record. The invariant: what is done with what is left to be served gives the whole; the measure is what is
-- left of the input. Assumes nothing.
use Prim.Native.Nat.{◌-◌}
use lib.ListN.{length}
use Rattle.lines.proofs.ServedLines.{Going}
use Rattle.lines.proofs.serving.serve.Given as goal

abbrev pub invariant-loop-used : goal.invariant-loop-used
invariant-loop-used l =
    Going l.input l.offset l.last l.initial.core l.initial.out l.core l.used l.written l.out

abbrev pub decreases-loop-used : goal.decreases-loop-used
decreases-loop-used l = length l.input - l.used
