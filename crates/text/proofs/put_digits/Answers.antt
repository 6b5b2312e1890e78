use Prim.Native.Nat.{◌≤◌}
use mathlib.Core.Path.{◌∙◌}
use native.Mathlib.Omega.{arith}
use lib.ListN.{length-set}
use Rattle.text.proofs.Writing.{last-digit}
use Rattle.text.proofs.Figures.{longer, several-digits}
use Rattle.text.proofs.put_digits.Goals as goal

pub loop-i-preserved : goal.loop-i-preserved
loop-i-preserved c =
    let l = c.loop-i in
    let more : 10 ≤ l.rest = several-digits l.rest (omega arith) in (
      omega (arith, longer l.rest more l.invariant.1),
      omega arith,
      simp length-set l.invariant.2,
      last-digit l.out c.args.at l.i l.rest more l.invariant.1 l.invariant.0 ∙ l.invariant.3,
    )
