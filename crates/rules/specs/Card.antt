-- Document 01: the state of the core, the empty card, and the VCPU that an identifier names; with document 02, Nos. 3 and 6: who is
-- remembered, and the ticks that removed tenants and nobody held. And, for a reader of a card, who is on it from a number on.
-- Assumes nothing.
use Rattle.std.specs.Prelude.{ℕ, min, Bool, cond, List, [], ◌∷◌, map, leb}
use Rattle.std.proofs.Math.Option.{Option, none, some}
use Rattle.rules.specs.Lists.{any}
use Rattle.rules.specs.Vcpu.{Vcpu, named}
use Rattle.rules.specs.Remember.{Remembered}

-- `last` is the time of the last accepted call; `running` is the identifier of the VCPU that holds the core, none in idle. `remembered`
-- has the identifiers that left the card and are remembered; `removed` is how many ticks removed tenants held, `idle` how many nobody did
pub record Card : Type 0 where
  pub last : ℕ
  pub running : Option ℕ
  pub timer : Option ℕ
  pub vcpus : List Vcpu
  pub remembered : List Remembered
  pub removed : ℕ
  pub idle : ℕ

-- "An empty card has time 0, runs idle and has no timer."
abbrev pub empty : Card
empty = record { last = 0; running = none; timer = none; vcpus = []; remembered = []; removed = 0; idle = 0 }

-- the identifier is on the card
abbrev pub on_card : ℕ → List Vcpu → Bool
on_card tunnel vs = any (named tunnel) vs

-- the VCPU so named, if it is on the card
abbrev pub find : ℕ → List Vcpu → Option Vcpu
find tunnel [] = none
find tunnel (v ∷ vs) = cond (named tunnel v) (some v) (find tunnel vs)

abbrev pub smaller : ℕ → Option ℕ → ℕ
smaller a none = a
smaller a (some b) = min a b

-- the smallest identifier on the card that is `low` or above, if there is one; no rule uses it
abbrev pub first_from : ℕ → List Vcpu → Option ℕ
first_from low [] = none
first_from low (v ∷ vs) = cond (leb low v.terms.tunnel) (some (smaller v.terms.tunnel (first_from low vs))) (first_from low vs)

-- do this to the VCPU so named, and leave the others as they are
abbrev pub to_named : ℕ → (Vcpu → Vcpu) → List Vcpu → List Vcpu
to_named tunnel f vs = map (λ v. cond (named tunnel v) (f v) v) vs
