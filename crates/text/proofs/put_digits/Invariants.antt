-- `put_digits` puts the digits from the last to the first. The invariant: putting the rest of the number gives the whole. Assumes nothing.
use Prim.Native.Nat.{◌+◌, ◌^◌, ◌<◌}
use mathlib.Core.Path.{◌≡◌}
use lib.Seq.{sets}
use lib.ListN.{length}
use Rattle.text.specs.Text.{decimal}
use Rattle.text.proofs.put_digits.Given as goal

abbrev pub invariant-loop-i : goal.invariant-loop-i
invariant-loop-i l =
    (l.i ≡ l.at + length (decimal l.rest)) × (l.rest < 2 ^ 64) × (length l.out ≡ length l.initial.out)
    × (sets l.out l.at (decimal l.rest) ≡ sets l.initial.out l.at (decimal l.n))
