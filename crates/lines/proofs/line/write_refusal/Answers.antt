-- `write_refusal` puts the line of a refusal at the start, where a longest one has room. Assumes nothing.
use mathlib.Core.Path.{refl}
use native.Mathlib.Omega.{arith}
use borrow.Author.Tests.{lt-ltb, le-ltb}
use Rattle.text.proofs.Writing.{put-over}
use Rattle.lines.proofs.line.write_refusal.Goals as goal

pub returns-then-out-lt-LONGEST_LINE : goal.returns-then-out-lt-LONGEST_LINE
returns-then-out-lt-LONGEST_LINE c = rw (lt-ltb _ _ c.if-out-lt-LONGEST_LINE.true) (refl, refl)

pub returns : goal.returns
returns c =
    let p = c.put_refusal.ensures in
    let fits = c.if-out-lt-LONGEST_LINE.false in
    rw (le-ltb _ _ fits) (omega (arith, p.0.behind), put-over (omega (arith, p.1)) p.0)
