-- `push` keeps a task behind the others. Assumes nothing.
use Rattle.sheets.proofs.Tasks.{pushed_valid}
use Rattle.sheets.proofs.sheet.Sheet.push.Goals as goal

pub invariant_of-self : goal.invariant_of-self
invariant_of-self c =
    pushed_valid c.self.inside c.args.period c.args.cost c.self.invariant c.if-self-eq-MOST_LINES.false c.requires.0 c.requires.1
