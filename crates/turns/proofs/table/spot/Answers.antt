-- `turns::table::spot` meets its contract: that position, or behind the first n.
-- Assumes nothing.
use Rattle.std.proofs.Common.{rules, ◌∙◌, ap, Option, unwrap_or}
use Rattle.turns.specs.Calls.{described}
use Rattle.turns.proofs.Shift.{spot-found}
use Rattle.turns.proofs.table.spot.Goals as goal

pub returns : goal.returns
returns c =
    let a = c.args in
    c.unwrap_or.ensures
    ∙ ap (λ (o : Option _). unwrap_or o a.n) c.first_below.ensures
    ∙ spot-found (described a.d) a.n a.places.now a.ids.now (search (rules, c.requires)) (search (rules, c.requires))
