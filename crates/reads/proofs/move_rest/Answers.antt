use Rattle.std.proofs.Common.{◌∙◌}
use Rattle.reads.proofs.Moving.{copied}
use Rattle.reads.proofs.move_rest.Goals as goal

pub returns-then-end-input : goal.returns-then-end-input
returns-then-end-input c = c.copy_within.ensures.after ∙ copied c.args.from c.args.end c.args.input.now c.if-from-end.true c.if-end-input.true
