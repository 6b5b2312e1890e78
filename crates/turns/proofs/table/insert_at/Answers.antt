-- `turns::table::insert_at` meets its contract: the places in use from there on are moved by one, and the first of them is written.
-- Assumes nothing.
use Rattle.std.proofs.Common.{◌∙◌, ◌-◌, arith, ap, slice_set}
use Rattle.turns.proofs.Shift.{put_in}
use Rattle.turns.proofs.table.insert_at.Goals as goal

pub returns : goal.returns
returns g c =
    let a = c.args in
    ap (λ (l : _). slice_set l a.at a.x) (c.copy_within.ensures.after)
    ∙ put_in a.at a.n (32 - a.n) c.requires.blank.0 a.x a.slots.now c.requires.place.0 (omega (arith, c.requires.place, c.told-slots)) c.requires.blank.1
