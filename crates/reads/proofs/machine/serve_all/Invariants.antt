-- `serve_all` ends: each go that is followed by another uses a byte. The invariant: the goes so far and then the rest give what the whole
-- part gives, and what they gave is written. Assumes nothing.
use Rattle.std.proofs.Common.{◌≡◌, ◌-◌, length}
use Rattle.reads.proofs.Goes.{Ahead}
use Rattle.reads.proofs.machine.serve_all.Given as goal

abbrev pub invariant-loop-served : goal.invariant-loop-served
invariant-loop-served g l =
    (length l.out ≡ length l.initial.out) × Ahead g.M.Machine.run l.initial.machine l.offset l.part l.last (g.W.Write.contents l.initial.output) l.machine l.used (g.W.Write.contents l.output)

abbrev pub decreases-loop-served : goal.decreases-loop-served
decreases-loop-served g l = length l.part - l.used
