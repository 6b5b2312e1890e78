-- What holds after any calls, of the card's VCPUs, the stays and the history together.
-- Assumes nothing.
use mathlib.Core.Path.{◌≡◌}
use mathlib.Core.Bool.{true}
use mathlib.Core.List.{List}
use mathlib.Core.Option.{Option}
use Prim.Native.Nat.{ℕ, ◌≤◌}
use lib.ListN.{length}
use Rattle.rules.specs.Limits.{most_vcpus}
use Rattle.rules.specs.Lists.{count, All}
use Rattle.rules.specs.Vcpu.{Vcpu, named}
use Rattle.rules.specs.Stays.{Stay, lasts, lasts_as, held, held_ticks, EachTick, owners}
use Rattle.rules.proofs.Sound.{Sound}
use Rattle.rules.proofs.Tied.{Tied}
use Rattle.rules.proofs.Window.{Within}
use Rattle.rules.proofs.Held.{Dated}

-- a VCPU and the stay that it lasts in; a queue that tells of its ticks has only a sporadic one
pub record Pair (last : ℕ) (s : Stay) (v : Vcpu) (h : List (Option ℕ)) : Type 0 where
  pub same-terms : v.terms ≡ s.terms
  pub held-total : v.held_total ≡ held_ticks (held s h)
  pub tied : v.terms.kind ≡ 0 → Tied v.terms.period last v.ended v.pending (held s h)

-- `s` is the stay of each VCPU on the card that has its identifier
abbrev pub Paired : ℕ → List Vcpu → List (Option ℕ) → Stay → Type 0
Paired last vs h s =
    lasts s.until ≡ true → All (λ v. v.terms.tunnel ≡ s.terms.tunnel → Pair last s v h) vs

-- a sporadic stay
abbrev pub Bounded : List (Option ℕ) → Stay → Type 0
Bounded h s = s.terms.kind ≡ 0 → Within s.terms.period s.terms.capacity (held s h)

pub record Lawful (last : ℕ) (vs : List Vcpu) (ss : List Stay) (h : List (Option ℕ)) : Type 0 where
  pub sound : All (Sound last) vs
  pub once : (t : ℕ) → count (named t) vs ≤ 1
  pub few : length vs ≤ most_vcpus
  pub long : length h ≡ last
  pub on_the_card : (t : ℕ) → count (lasts_as t) ss ≡ count (named t) vs
  pub dated : All (Dated last) ss
  pub paired : All (Paired last vs h) ss
  pub bounded : All (Bounded h) ss
  pub owned : EachTick (λ o n. owners ss o n ≡ 1) h
