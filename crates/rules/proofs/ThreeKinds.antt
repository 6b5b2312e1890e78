-- The three kinds of document 02, No. 1: the words for them and the rules' tests say the same, and there is no fourth; what a VCPU is left
-- of its ticks, by its kind; what a refill moves, and that the boundary after `now` comes within one period. Assumes nothing.
use mathlib.Core.Path.{◌≡◌, refl, ap}
use mathlib.Core.Bool.{Bool, true, false, cond, not, ◌&&◌}
use mathlib.Core.Logic.{◌⊎◌, inl, inr, ⊎_elim}
use mathlib.Core.Option.{Option, none, some}
use Prim.Native.Nat.{ℕ, zero, suc, ◌+◌, ◌-◌, ◌/◌, ◌≤◌, ◌<◌}
use native.Mathlib.Nat.{div-add-mod', mod-lt, add-mul, one-mul}
use native.Mathlib.Omega.{arith}
use lib.Dec.{leb}
use borrow.Author.Tests.{eqb-true, eqb-false, eq-eqb, ne_eqb}
use Rattle.rules.specs.Vcpu.{Description, Vcpu, is_sporadic, is_polling, leaves}
use Rattle.rules.specs.Meaning.{Sporadic, Deferrable, Polling}
use Rattle.rules.specs.Return.{brought_in, boundary_after, refilled, refill, returned}
use Rattle.rules.proofs.Tests.{cases}

pub is-sporadic : (d : Description) → Sporadic d → is_sporadic d ≡ true
is-sporadic d e = eq-eqb d.kind 0 e

pub not-sporadic : (d : Description) → (Sporadic d → ⊥) → is_sporadic d ≡ false
not-sporadic d n = ne_eqb d.kind 0 n

pub is-polling : (d : Description) → Polling d → is_polling d ≡ true
is-polling d e = eq-eqb d.kind 2 e

pub not-polling : (d : Description) → (Polling d → ⊥) → is_polling d ≡ false
not-polling d n = ne_eqb d.kind 2 n

-- a kind that row 10 lets through is one of the three
pub one_of_three : (d : Description) → d.kind ≤ 2 → Sporadic d ⊎ Deferrable d ⊎ Polling d
one_of_three d h = go d.kind h
  where
    go : (k : ℕ) → k ≤ 2 → (k ≡ 0) ⊎ (k ≡ 1) ⊎ (k ≡ 2)
    go zero h = inl refl
    go (suc zero) h = inr (inl refl)
    go (suc (suc zero)) h = inr (inr refl)
    go (suc (suc (suc k))) h = absurd (omega arith)

-- sporadic, or not
pub by_kind : {A : Type 0} (d : Description) → (Sporadic d → A) → ((Sporadic d → ⊥) → A) → A
by_kind d f g = ⊎_elim (λ e. f (eqb-true d.kind 0 e)) (λ e. g (eqb-false d.kind 0 e)) (cases (is_sporadic d))

-- polling, or not
pub by-polling : {A : Type 0} (d : Description) → (Polling d → A) → ((Polling d → ⊥) → A) → A
by-polling d f g = ⊎_elim (λ e. f (eqb-true d.kind 2 e)) (λ e. g (eqb-false d.kind 2 e)) (cases (is_polling d))

pub leaves-most : (d : Description) (runnable : Bool) (n : ℕ) → leaves d runnable n ≤ n
leaves-most d runnable n = go (is_polling d) runnable
  where
    go : (p r : Bool) → cond (p && not r) 0 n ≤ n
    go true true = omega arith
    go true false = omega arith
    go false r = omega arith

-- all but a polling VCPU keep their ticks, and so does a runnable one
pub leaves_all : (d : Description) (runnable : Bool) (n : ℕ) → (Polling d → runnable ≡ true) → leaves d runnable n ≡ n
leaves_all d runnable n h = by-polling d (λ e. rw (is-polling d e, h e)) (λ e. rw (not-polling d e))

pub leaves_none : (d : Description) (n : ℕ) → Polling d → leaves d false n ≡ 0
leaves_none d n e = rw (is-polling d e)

-- a refill moves the usable ticks and the boundary, and nothing else
pub refill-keeps : {A : Type 0} (f : Vcpu → A) (now : ℕ) (o : Option ℕ) (v : Vcpu) → ((b : ℕ) → f (refilled now b v) ≡ f v)
    → f (refill now o v) ≡ f v
refill-keeps f now none v e = refl
refill-keeps f now (some b) v e = go (leb b now)
  where
    go : (t : Bool) → f (cond t (refilled now b v) v) ≡ f v
    go true = e b
    go false = refl

pub terms-returned : (now : ℕ) (v : Vcpu) → (returned now v).terms ≡ v.terms
terms-returned now v = refill-keeps (λ w. w.terms) now v.boundary (brought_in now v) (λ b. refl)

pub runnable-returned : (now : ℕ) (v : Vcpu) → (returned now v).runnable ≡ v.runnable
runnable-returned now v = refill-keeps (λ w. w.runnable) now v.boundary (brought_in now v) (λ b. refl)

pub held-returned : (now : ℕ) (v : Vcpu) → (returned now v).held_total ≡ v.held_total
held-returned now v = refill-keeps (λ w. w.held_total) now v.boundary (brought_in now v) (λ b. refl)

-- without a boundary only the queue returns
pub returned-none : (now : ℕ) (v : Vcpu) → v.boundary ≡ none → returned now v ≡ brought_in now v
returned-none now v e = ap (λ (o : Option ℕ). refill now o (brought_in now v)) e

-- the first boundary after `now` is to come, within one period
pub boundary-after : (now T b : ℕ) → 1 ≤ T → b ≤ now → (now < boundary_after now T b) × (boundary_after now T b ≤ now + T)
boundary-after now T b h k =
    let e = div-add-mod' (now - b) T in
    let m = mod-lt (now - b) h in
    let p = add-mul ((now - b) / T) 1 T in
    let q = one-mul T in
    omega arith
