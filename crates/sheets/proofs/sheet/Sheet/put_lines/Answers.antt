use Rattle.std.proofs.lemmas.Slice.Zip.{either_empty_from_Zip}
use Rattle.sheets.proofs.Puts.{lined-more, lined-all}
use Rattle.sheets.proofs.sheet.Sheet.put_lines.Goals as goal

pub loop-period-preserved : goal.loop-period-preserved
loop-period-preserved c = let s = c.in-Some.ensures.steps in lined-more c.loop-period.invariant s.0 s.1 c.put_line-at.ensures

pub returns-clause-put : goal.returns-clause-put
returns-clause-put c = lined-all c.loop-period.invariant (either_empty_from_Zip c.loop-period.period-iterator c.next.new.self c.next.result c.in-None.is c.next.ensures.steps)
