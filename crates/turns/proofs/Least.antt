-- The smallest identifier of the table from a number on is that of the card. Assumes nothing.
use Prim.Native.Nat.{ℕ, zero, suc, ◌≤◌, min}
use mathlib.Core.Path.{◌≡◌, refl, ap, ◌∙◌}
use mathlib.Core.Bool.{Bool, true, false, cond}
use mathlib.Core.List.{List, [], ◌∷◌, map}
use mathlib.Core.Option.{none, some}
use mathlib.Core.Option.{Option as Maybe}
use native.Mathlib.Omega.{arith}
use lib.Dec.{leb}
use lib.ListN.{length, take}
use Rattle.std.specs.Prelude.{option_map, filter}
use Rattle.std.specs.List.{reduce, fold}
use Rattle.units.specs.Units.{tunnel}
use Rattle.units.specs.declared.Tunnel.{Tunnel}
use Rattle.rules.specs.Vcpu.{Vcpu as Tenant}
use Rattle.rules.specs.Card.{smaller, first_from}
use Rattle.turns.specs.declared.Core.TheInside.{Inside}
use Rattle.turns.specs.Laid.{laid}
use Rattle.turns.specs.Written.{nobody, tunnel_of, number_in, card}
use Rattle.turns.proofs.Invariant.{SoundCore, between}
use Rattle.turns.proofs.Stage.{ids_are, n-is}

-- the identifiers from a number on, as the search has them
abbrev pub from_low : ℕ → List Tunnel → List ℕ
from_low low ids = filter (λ n. leb low n) (map (λ (t : Tunnel). t.0) ids)

-- .. and with the best so far
least-more : (low best : ℕ) (vs : List Tenant) → fold min best (from_low low (map tunnel_of vs)) ≡ smaller best (first_from low vs)
least-more low best [] = refl
least-more low best (v ∷ vs) = go (leb low v.terms.tunnel) (λ b. least-more low b vs)
  where
    three : (o : Maybe ℕ) → smaller (min best v.terms.tunnel) o ≡ min best (smaller v.terms.tunnel o)
    three none = refl
    three (some b) = omega arith

    go : (b : Bool) → ((x : ℕ) → fold min x (from_low low (map tunnel_of vs)) ≡ smaller x (first_from low vs))
        → fold min best (cond b (v.terms.tunnel ∷ from_low low (map tunnel_of vs)) (from_low low (map tunnel_of vs)))
        ≡ smaller best (cond b (some (smaller v.terms.tunnel (first_from low vs))) (first_from low vs))
    go true more = more (min best v.terms.tunnel) ∙ three (first_from low vs)
    go false more = more best

least-all : (low : ℕ) (vs : List Tenant)
    → number_in (option_map tunnel (reduce min (from_low low (map tunnel_of vs)))) ≡ first_from low vs
least-all low [] = refl
least-all low (v ∷ vs) = go (leb low v.terms.tunnel) (least-all low vs)
  where
    go : (b : Bool) → number_in (option_map tunnel (reduce min (from_low low (map tunnel_of vs)))) ≡ first_from low vs
        → number_in (option_map tunnel (reduce min (cond b (v.terms.tunnel ∷ from_low low (map tunnel_of vs)) (from_low low (map tunnel_of vs)))))
        ≡ cond b (some (smaller v.terms.tunnel (first_from low vs))) (first_from low vs)
    go true e = ap (λ (n : ℕ). some n) (least-more low v.terms.tunnel vs)
    go false e = e

front-laid : {A B : Type 0} (f : A → B) (z : B) (k : ℕ) (l : List A) → length l ≤ k → take (length l) (laid k f z l) ≡ map f l
unfolding laid
front-laid f z k [] h = refl
front-laid f z zero (a ∷ l) h = absurd (omega arith)
front-laid f z (suc k) (a ∷ l) h = ap (λ r. f a ∷ r) (front-laid f z k l (omega arith))

-- of the identifiers beside the places in use
pub least-first : (low n : ℕ) (ids : List Tunnel) (vs : List Tenant) → ids ≡ laid 32 tunnel_of (tunnel nobody) vs → n ≡ length vs
    → length vs ≤ 32 → number_in (option_map tunnel (reduce min (from_low low (take n ids)))) ≡ first_from low vs
least-first low n ids vs e c h =
    rw (e, c, front-laid tunnel_of (tunnel nobody) 32 vs h) (least-all low vs)

pub first-is : (c : Inside) → SoundCore c → (low : ℕ)
    → number_in (option_map tunnel (reduce min (from_low low (take c.table.n c.table.ids)))) ≡ first_from low (card c).vcpus
first-is c r low = least-first low c.table.n c.table.ids (card c).vcpus (ids_are c r) (n-is c r) (between c r).few
