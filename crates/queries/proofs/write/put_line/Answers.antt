use Rattle.queries.proofs.Writing.{putting-more, putting-end}
use Rattle.queries.proofs.write.put_line.Goals as goal

pub loop-n-preserved : goal.loop-n-preserved
loop-n-preserved c =
    putting-more _ _ _ c.requires.0 c.requires.1 c.requires.2 c.loop-n.invariant c.loop-n-test.true c.put_field-at.ensures

pub returns : goal.returns
returns c =
    putting-end _ _ _ c.requires.0 c.requires.1 c.requires.2 c.loop-n.invariant c.loop-n-test.false c.loop-n.auto.n-index-end c.put_end.ensures
