-- Document 02, No. 3: "After a removal the identifier stays remembered", with a time; who is remembered still at a moment, and with which
-- time an identifier is. Assumes nothing.
use Rattle.std.specs.Prelude.{ℕ, max, Bool, cond, List, [], ◌∷◌, ltb, eqb}
use Rattle.std.proofs.Math.Option.{Option, none, some}
use Rattle.rules.specs.Lists.{keep}
use Rattle.rules.specs.Vcpu.{Vcpu, comes}

-- an identifier, and the time that it is remembered with
pub record Remembered : Type 0 where
  pub tunnel : ℕ
  pub time : ℕ

abbrev pub later : ℕ → Option ℕ → ℕ
later a none = a
later a (some b) = max a b

abbrev pub latest : List ℕ → Option ℕ
latest [] = none
latest (t ∷ ts) = some (later t (latest ts))

-- "with the time of its latest pending return"; "For deferrable and polling kinds the time remembered is the next boundary."
abbrev pub leaves_until : Vcpu → Option ℕ
leaves_until v = latest (comes v)

-- "where nothing is pending it is forgotten at once"
abbrev pub remembering : ℕ → Option ℕ → List Remembered
remembering tunnel none = []
remembering tunnel (some time) = record { tunnel = tunnel; time = time } ∷ []

-- what the VCPU that is removed leaves behind
abbrev pub left_by : Option Vcpu → List Remembered
left_by none = []
left_by (some v) = remembering v.terms.tunnel (leaves_until v)

-- its time has not come at `now`
abbrev pub is_kept : ℕ → Remembered → Bool
is_kept now r = ltb now r.time

-- "until an accepted call at or after that time"
abbrev pub kept : ℕ → List Remembered → List Remembered
kept now rs = keep (is_kept now) rs

-- all 24 bits here too
abbrev pub remembers : ℕ → Remembered → Bool
remembers tunnel r = eqb r.tunnel tunnel

-- the time that the identifier is remembered with, if it is
abbrev pub time_of : ℕ → List Remembered → Option ℕ
time_of tunnel [] = none
time_of tunnel (r ∷ rs) = cond (remembers tunnel r) (some r.time) (time_of tunnel rs)
