-- `turns::table::remove_at` meets its contract: the places in use behind that one are moved by one, and the last of them is written.
-- Assumes nothing.
use Rattle.std.proofs.Common.{◌∙◌, ◌-◌, arith, ap, slice_set}
use Rattle.turns.proofs.Shift.{take_out}
use Rattle.turns.proofs.table.remove_at.Goals as goal

pub returns : goal.returns
returns g c =
    let a = c.args in
    ap (λ (l : _). slice_set l (a.n - 1) a.vacant) (c.copy_within.ensures.after)
    ∙ take_out a.at a.n (32 - a.n) a.vacant a.slots.now c.requires.place.0 (omega (arith, c.requires.place, c.told-slots)) c.requires.blank
