-- `supplied` is the supply of model's specs/Supply.antt, in either form. Assumes nothing.
use mathlib.Core.Path.{sym}
use native.Mathlib.Omega.{arith}
use Rattle.model.proofs.Supply.{supply-short}
use Rattle.shares.specs.Paper.{paper_form}
use Rattle.shares.proofs.SupplyCurve.{supply-with}
use Rattle.shares.proofs.curve.supplied.Goals as goal

pub returns-then-t-g : goal.returns-then-t-g
returns-then-t-g c =
    let a = c.args in sym (supply-short (paper_form a.form) a.p a.b a.t c.if-t-g.true)

pub returns : goal.returns
returns c =
    let a = c.args in
    omega (
      arith,
      supply-with (paper_form a.form) c.gaps-gaps.result a.p a.b a.t c.gaps-gaps.ensures c.if-t-g.false,
      c.saturating_sub.ensures,
    )
