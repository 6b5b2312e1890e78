-- `answers` ends: each line uses its newline. The invariant: the lines answered so far and then the rest give what the whole part gives,
-- with the answers in front of the room. Assumes nothing.
use Prim.Native.Nat.{◌-◌}
use mathlib.Core.Path.{◌≡◌}
use lib.ListN.{length}
use Rattle.sizing.proofs.Lines.{Done}
use Rattle.sizing.proofs.answers.Given as goal

abbrev pub invariant-loop-too_long : goal.invariant-loop-too_long
invariant-loop-too_long l = (length l.out ≡ length l.initial.out) × Done l.begun l.part l.out l.long l.used l.written

abbrev pub decreases-loop-too_long : goal.decreases-loop-too_long
decreases-loop-too_long l = length l.part - l.used
