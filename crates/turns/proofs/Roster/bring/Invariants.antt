-- `turns::Roster::bring` has the return step done for the first i places. Assumes nothing.
use Rattle.turns.proofs.Sweep.{Sweeping}
use Rattle.turns.proofs.Roster.bring.Given as goal

abbrev pub invariant-loop-i : goal.invariant-loop-i
invariant-loop-i l = Sweeping l.now l.fn.self l.self l.next l.total l.i
