-- `put_line` puts the period, the space, the cost and the newline, each behind the one before. Assumes nothing.
use native.Mathlib.Omega.{arith}
use Rattle.sheets.proofs.Puts.{space-fits, line-put}
use Rattle.sheets.proofs.put.put_line.Goals as goal

pub bounds-out-space : goal.bounds-out-space
bounds-out-space c =
    let a = c.args in
    (space-fits a.out.now a.at a.period a.cost (omega arith) (omega arith) (omega arith) _ c.put_number-space.result
    c.put_number-space.ensures).0

pub returns : goal.returns
returns c =
    let a = c.args in
    line-put a.out.now a.at a.period a.cost c.requires.0 c.requires.1 c.requires.2 _ c.put_number-space.result
    c.put_number-space.ensures _ c.put_number-end.result c.put_number-end.ensures _ c.put_end.result
    c.put_end.ensures
