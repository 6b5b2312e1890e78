-- `turns::table::named` meets its contract: the identifier of each call is sought.
-- Assumes nothing.
use Rattle.std.proofs.Common.{◌∙◌}
use mathlib.Core.Logic.{inl, inr}
use Rattle.turns.proofs.Shift.{seek_found}
use Rattle.turns.proofs.table.named.Goals as goal

pub returns-in-Admit : goal.returns-in-Admit
returns-in-Admit c = rw c.in-Admit.is (c.find.ensures ∙ seek_found c.in-Admit.d.tunnel.0 c.args.ids.now c.told-ids)

pub returns-in-Wake : goal.returns-in-Wake
returns-in-Wake c =
    let h = c.find-in-Wake.ensures ∙ seek_found c.in-Wake.id.0 c.args.ids.now c.told-ids in
    elim c.in-Wake.is [
      | inl e ↦ rw e h
      | inr r ↦ elim r [
        | inl e ↦ rw e h
        | inr e ↦ rw e h
      ]
    ]
