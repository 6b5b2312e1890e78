-- Document 02, No. 6, computed on document 01's case and some calls more: whose ticks they are, what is pending, and what removed tenants
-- and nobody held; a call at the time of the last one and a wake move none of it; who comes back begins at 0. Assumes nothing.
use Prim.Native.Nat.{ℕ}
use mathlib.Core.Path.{◌≡◌, refl}
use mathlib.Core.List.{List, [], ◌∷◌, map}
use Rattle.rules.specs.Vcpu.{more_urgent}
use Rattle.rules.specs.Card.{Card}
use Rattle.rules.specs.Charge.{posted, charged}
use Rattle.rules.specs.Change.{Change, admit, wake, block, remove, tick}
use Rattle.rules.specs.Timer.{timer}
use Rattle.rules.specs.Refuse.{refusal}
use Rattle.rules.specs.Turn.{Call, turn, settled}
use Rattle.rules.specs.History.{after}
use Rattle.rules.proofs.Examples.{at}

abbrev admits : ℕ → ℕ → ℕ → ℕ → ℕ → Change
admits id T C priority k = admit (record { tunnel = id; period = T; capacity = C; priority = priority; kind = k })

-- of each VCPU its identifier, pending total and held total; then the ticks of removed tenants and the idle ones
abbrev accounts : Card → List (List ℕ)
accounts c = (c.removed ∷ c.idle ∷ []) ∷ map (λ v. v.terms.tunnel ∷ v.pending_total ∷ v.held_total ∷ []) c.vcpus

-- document 01's case, as far as it is accepted; the latest call first
abbrev case : List Call
case =
    at 11 (block 65793)
    ∷ at 10 tick
    ∷ at 3 tick
    ∷ at 0 (wake 257)
    ∷ at 0 (wake 65793)
    ∷ at 0 (admits 257 8 8 2 0)
    ∷ at 0 (admits 65793 10 3 1 0)
    ∷ []

-- 65793 held 3 ticks and 1, of which 1 is pending; 257 held 7, which came back at 11
abbrev accounts_in_case : List (List ℕ)
accounts_in_case = (0 ∷ 0 ∷ []) ∷ (65793 ∷ 1 ∷ 4 ∷ []) ∷ (257 ∷ 0 ∷ 7 ∷ []) ∷ []

-- a call at the same time, a wake and a refused call move no total
pub in_the_case :
    (accounts (after case) ≡ accounts_in_case)
    × (accounts (after (at 11 tick ∷ case)) ≡ accounts_in_case)
    × (accounts (after (at 11 (wake 65793) ∷ case)) ≡ accounts_in_case)
    × (accounts (after (at 30 tick ∷ case)) ≡ accounts_in_case)
unfolding turn refusal settled timer more_urgent charged posted
in_the_case = (refl, refl, refl, refl)

-- both leave: 65793 with the 4 ticks that it had, 257, which holds the core, with the 2 ticks of the two calls too; then nobody holds 7
-- ticks, and 257 comes back, deferrable now, holds 3 ticks from 21 to 24, and has nothing pending
abbrev over : List Call
over = at 20 tick ∷ at 13 (remove 257) ∷ at 12 (remove 65793) ∷ case

abbrev again : List Call
again = at 24 tick ∷ at 21 (wake 257) ∷ at 21 (admits 257 8 8 2 1) ∷ over

pub removed-and-idle :
    (accounts (after (at 12 (remove 65793) ∷ case)) ≡ (4 ∷ 0 ∷ []) ∷ (257 ∷ 1 ∷ 8 ∷ []) ∷ [])
    × (accounts (after over) ≡ (13 ∷ 7 ∷ []) ∷ [])
    × (accounts (after again) ≡ (13 ∷ 8 ∷ []) ∷ (257 ∷ 0 ∷ 3 ∷ []) ∷ [])
unfolding turn refusal settled timer more_urgent charged posted
removed-and-idle = (refl, refl, refl)
