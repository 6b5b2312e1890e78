-- `turns::Memory::keep` meets its contract: the loop has passed the first k slots, and those kept stand at the front.
-- Assumes nothing.
use Rattle.turns.specs.Written.{memories}
use Rattle.turns.proofs.Remembered.{Keeping}
use Rattle.turns.proofs.Memory.keep.Given as goal

abbrev pub invariant-loop-k : goal.invariant-loop-k
invariant-loop-k l = Keeping l.now (memories l.fn.self) l.self l.left l.k
