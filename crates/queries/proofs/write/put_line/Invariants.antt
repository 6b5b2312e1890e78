-- `put_line` puts number after number. Assumes nothing.
use Rattle.queries.proofs.Writing.{Putting}
use Rattle.queries.proofs.write.put_line.Given as goal

abbrev pub invariant-loop-n : goal.invariant-loop-n
invariant-loop-n l = Putting l.fn.out l.text l.numbers l.n-index l.out l.at
