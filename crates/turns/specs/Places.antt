-- What the parts of a call that look at the table, or shift it, answer. Assumes nothing.
use Rattle.std.specs.Prelude.{ℕ, ◌≡◌, ◌-◌, drop, replicate, zero, suc, cond, List, [], ◌∷◌, ◌++◌, ltb, eqb, Option, Some, None}
use Rattle.units.specs.declared.Tunnel.{Tunnel}
use Rattle.rules.specs.Limits.{most_vcpus}
use Rattle.rules.specs.Vcpu.{more_urgent}
use Rattle.rules.specs.Vcpu.{Description as Terms}
use Rattle.turns.specs.declared.Vcpu.{Vcpu}
use Rattle.turns.specs.declared.Change.{Change}
use Rattle.turns.specs.declared.Change.TheVariants.{Admit, Wake, Block, Remove, Tick}

-- behind all places
abbrev pub nowhere : ℕ
nowhere = most_vcpus

-- the first place of an identifier, or behind all
abbrev pub seek : ℕ → List Tunnel → ℕ
seek t [] = 0
seek t (x ∷ xs) = cond (eqb x.0 t) 0 (suc (seek t xs))

-- that place, where it is one of the table
abbrev pub on_table : ℕ → Option ℕ
on_table k = cond (ltb k nowhere) (Some k) None

-- the place of the VCPU that a call names; a tick names nobody
abbrev pub named_at : List Tunnel → Change → ℕ
named_at ids (Admit d) = seek d.tunnel.0 ids
named_at ids (Wake t) = seek t.0 ids
named_at ids (Block t) = seek t.0 ids
named_at ids (Remove t) = seek t.0 ids
named_at ids Tick = nowhere

-- what urgency looks at; the other terms do not matter
abbrev pub urgency : ℕ → ℕ → Terms
urgency priority t = record { tunnel = t; period = 0; capacity = 0; priority = priority; kind = 0 }

-- the first of the first `n` places that the newcomer is more urgent than, or `n`
abbrev pub spot_in : Terms → ℕ → List Vcpu → List Tunnel → ℕ
spot_in d zero vs ts = 0
spot_in d (suc n) [] ts = 0
spot_in d (suc n) (v ∷ vs) [] = 0
spot_in d (suc n) (v ∷ vs) (t ∷ ts) = cond (more_urgent d (urgency v.priority t.0)) 0 (suc (spot_in d n vs ts))

module _ {A : Type 0} where
  -- `y` at a place, what stood there and behind it one place on, and the last one gone
  abbrev pub inserted : ℕ → A → List A → List A
  inserted zero y [] = []
  inserted zero y (x ∷ l) = y ∷ inserted zero x l
  inserted (suc k) y [] = []
  inserted (suc k) y (x ∷ l) = x ∷ inserted k y l

  -- what stood behind a place one place forward, and `z` at the end
  abbrev pub removed : ℕ → A → List A → List A
  removed zero z [] = []
  removed zero z (x ∷ l) = l ++ z ∷ []
  removed (suc k) z [] = []
  removed (suc k) z (x ∷ l) = x ∷ removed k z l

  -- the places from `n` on hold `z`
  abbrev pub BlankFrom : ℕ → A → List A → Type 0
  BlankFrom n z l = drop n l ≡ replicate (most_vcpus - n) z
