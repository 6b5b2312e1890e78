-- `write_line` puts a line at the start, where a longest one has room. Assumes nothing.
use mathlib.Core.Path.{refl}
use native.Mathlib.Omega.{arith}
use borrow.Author.Tests.{lt-ltb, le-ltb}
use Rattle.text.proofs.Writing.{put-over}
use Rattle.lines.proofs.line.write_line.Goals as goal

pub returns-then-out-lt-LONGEST_LINE : goal.returns-then-out-lt-LONGEST_LINE
returns-then-out-lt-LONGEST_LINE c = rw (lt-ltb _ _ c.if-out-lt-LONGEST_LINE.true) (refl, refl)

pub returns-in-Ok : goal.returns-in-Ok
returns-in-Ok c =
    let p = c.put_report.ensures in
    let fits = c.if-out-lt-LONGEST_LINE.false in
    rw (c.in-Ok.is, le-ltb _ _ fits) (omega (arith, p.0.behind), put-over (omega (arith, p.1)) p.0)

pub returns-in-Err : goal.returns-in-Err
returns-in-Err c =
    let p = c.put_refusal.ensures in
    let fits = c.if-out-lt-LONGEST_LINE.false in
    rw (c.in-Err.is, le-ltb _ _ fits) (omega (arith, p.0.behind), put-over (omega (arith, p.1)) p.0)
