-- `put_lines` puts line after line: some stand there, and the tasks left have room. Assumes nothing.
use Rattle.sheets.proofs.Puts.{Lined}
use Rattle.sheets.proofs.sheet.Sheet.put_lines.Given as goal

abbrev pub invariant-loop-period : goal.invariant-loop-period
invariant-loop-period l =
    Lined l.initial.out l.self.periods l.self.costs l.out l.at l.period-iterator.a.rest.now l.period-iterator.b.rest.now
