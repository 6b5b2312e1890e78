-- Document 01, step 4: the most urgent VCPU that is runnable and has usable ticks; if there is none, idle.
-- Assumes nothing.
use Rattle.std.specs.Prelude.{ℕ, Bool, cond, ◌&&◌, List, [], ◌∷◌, ltb}
use Rattle.std.proofs.Math.Option.{Option, none, some}
use Rattle.rules.specs.Lists.{keep}
use Rattle.rules.specs.Vcpu.{Vcpu, more_urgent}

abbrev pub has_ticks : Vcpu → Bool
has_ticks v = ltb 0 v.usable

abbrev pub ready : Vcpu → Bool
ready v = v.runnable && has_ticks v

-- of `v` and another, if there is another, the more urgent
abbrev pub better : Vcpu → Option Vcpu → Vcpu
better v none = v
better v (some w) = cond (more_urgent w.terms v.terms) w v

abbrev pub most_urgent : List Vcpu → Option Vcpu
most_urgent [] = none
most_urgent (v ∷ vs) = some (better v (most_urgent vs))

abbrev pub choose : List Vcpu → Option Vcpu
choose vs = most_urgent (keep ready vs)

-- who runs: an identifier, or idle
abbrev pub runs : Option Vcpu → Option ℕ
runs none = none
runs (some v) = some v.terms.tunnel

-- 0 in idle
abbrev pub usable_of : Option Vcpu → ℕ
usable_of none = 0
usable_of (some v) = v.usable
