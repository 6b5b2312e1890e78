-- `asked` hands on the numbers that were kept, and the tasks among them. Assumes nothing.
use Rattle.std.proofs.Common.{rules}
use Rattle.shares.specs.Paper.{paper_form}
use Rattle.queries.proofs.Replies.{asked-reply}
use Rattle.queries.proofs.ask.asked.Goals as goal

pub returns : goal.returns
returns c =
    asked-reply (paper_form c.args.form) c.args.word c.args.fields.now _ _ _ _ _ c.heads-h.ensures.0 c.min-n.ensures (search rules) (search rules)
    c.every_other-periods.ensures c.every_other-costs.ensures c.requires c.put_to_shares.ensures
