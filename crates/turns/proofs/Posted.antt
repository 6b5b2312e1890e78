-- A use posted does not look at the ticks usable, held and pending, and leaves them. Assumes nothing.
use mathlib.Core.Path.{◌≡◌, refl}
use mathlib.Core.Bool.{Bool, true, false, cond}
use lib.Dec.{eqb}
use Rattle.units.specs.Units.{later}
use Rattle.units.specs.declared.Moment.{Moment}
use Rattle.units.specs.declared.Amount.{Amount}
use Rattle.units.specs.declared.Total.{Total}
use Rattle.turns.specs.declared.Vcpu.{Vcpu}
use Rattle.turns.specs.Steps.{usable_as, totals_as, joins_of, joined_of, folded_of, appended_of, posted_of}

-- with other ticks of the three sorts
abbrev pub ticked : Vcpu → Amount → Amount → Total → Vcpu
ticked v u a t = totals_as (usable_as v v.due v.runnable u) a t

pub posted_over : (v : Vcpu) (u a : Amount) (t : Total) (used : Amount) (last : Moment)
    → posted_of (ticked v u a t) used last ≡ ticked (posted_of v used last) u a t
unfolding posted_of
posted_over v u a t used last = go (joins_of v last) (eqb v.count 8)
  where
    go : (b e : Bool)
        → cond b (joined_of (ticked v u a t) used)
        (cond e (folded_of (ticked v u a t) used (later last v.period)) (appended_of (ticked v u a t) used (later last v.period)))
        ≡ ticked (cond b (joined_of v used) (cond e (folded_of v used (later last v.period)) (appended_of v used (later last v.period)))) u a t
    go true e = refl
    go false true = refl
    go false false = refl
