-- `serve` lends serving the bytes that are not used yet, and each go but the last uses some. Assumes nothing.
use Prim.Native.Nat.{◌-◌, ◌≤◌}
use mathlib.Core.Path.{◌≡◌}
use lib.ListN.{length}
use Rattle.usage.proofs.serve.Given as goal

abbrev pub invariant-loop-out : goal.invariant-loop-out
invariant-loop-out l = (l.used ≤ length l.part) × (65536 ≡ length l.out)

abbrev pub decreases-loop-out : goal.decreases-loop-out
decreases-loop-out l = length l.part - l.used
