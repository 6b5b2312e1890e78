-- Laws of the tags: which are known, and how long their payloads are. The layouts of the plain facts (specs/Rows) are the case
-- analysis. Assumes nothing.
use Prim.Native.Nat.{ℕ, ◌≤◌}
use native.Mathlib.Omega.{arith}
use mathlib.Core.Path.{◌≡◌, refl, ap, sym, ◌∙◌, subst}
use mathlib.Core.Bool.{Bool, true, false}
use Rattle.std.specs.Prelude.{Option, None, Some, is_some, unwrap_or}
use lib.Dec.{eqb}
use borrow.Author.Tests.{eqb-true, eqb-false}
use Rattle.rules.proofs.Tests.{clash}
use Rattle.records.specs.Record.{payload_of, known, payload}
use Rattle.records.specs.Rows.{Layout, admit-has, wake-has, block-has, remove-has, tick-has}

-- a tag with its payload, or one that has none
data Sort (k : ℕ) : Type 0 where
  one : (n : ℕ) → Layout k n → Sort k
  other : payload_of k ≡ None → (1 ≤ k → k ≤ 5 → ⊥) → Sort k

sort : (k : ℕ) → Sort k
unfolding payload_of
sort k = go (eqb k 1) refl (eqb k 2) refl (eqb k 3) refl (eqb k 4) refl (eqb k 5) refl
  where
    at : (t n : ℕ) → eqb k t ≡ true → Layout t n → Sort k
    at t n e l = one n (subst (λ (x : ℕ). Layout x n) (sym (eqb-true k t e)) l)

    go : (a : Bool) → eqb k 1 ≡ a → (b : Bool) → eqb k 2 ≡ b → (c : Bool) → eqb k 3 ≡ c → (d : Bool) → eqb k 4 ≡ d
        → (f : Bool) → eqb k 5 ≡ f → Sort k
    go true p b q c r d s f t = at 1 21 p admit-has
    go false p true q c r d s f t = at 2 11 q wake-has
    go false p false q true r d s f t = at 3 11 r block-has
    go false p false q false r true s f t = at 4 11 s remove-has
    go false p false q false r false s true t = at 5 8 t tick-has
    go false p false q false r false s false t =
        other (rw (p, q, r, s, t))
        (λ x y. omega (arith, eqb-false k 1 p, eqb-false k 2 q, eqb-false k 3 r, eqb-false k 4 s, eqb-false k 5 t))

-- the layout that the plain facts have is the one that the rule has
pub layout_is : (k n : ℕ) → Layout k n → payload_of k ≡ Some n
unfolding payload_of
layout_is k n admit-has = refl
layout_is k n wake-has = refl
layout_is k n block-has = refl
layout_is k n remove-has = refl
layout_is k n tick-has = refl

-- the tags are 1 to 5; the time is in every payload, and no payload is longer than admit's
layout_bounds : (k n : ℕ) → Layout k n → (1 ≤ k) × (k ≤ 5) × (8 ≤ n) × (n ≤ 21)
layout_bounds k n admit-has = omega arith
layout_bounds k n wake-has = omega arith
layout_bounds k n block-has = omega arith
layout_bounds k n remove-has = omega arith
layout_bounds k n tick-has = omega arith

-- wake, block and remove
layout-naming : (k n : ℕ) → Layout k n → 2 ≤ k → k ≤ 4 → n ≡ 11
layout-naming k n admit-has a b = absurd (omega arith)
layout-naming k n wake-has a b = refl
layout-naming k n block-has a b = refl
layout-naming k n remove-has a b = refl
layout-naming k n tick-has a b = absurd (omega arith)

pub has-bytes : (k n : ℕ) → payload_of k ≡ Some n → (known k ≡ true) × (payload k ≡ n)
unfolding known payload
has-bytes k n e = (ap is_some e, ap (λ (o : Option ℕ). unwrap_or o 0) e)

pub has-none : (k : ℕ) → payload_of k ≡ None → known k ≡ false
unfolding known
has-none k e = ap is_some e

pub none-outside : (k : ℕ) → (1 ≤ k → k ≤ 5 → ⊥) → payload_of k ≡ None
none-outside k h = go (sort k)
  where
    go : Sort k → payload_of k ≡ None
    go (one n l) = absurd (h (layout_bounds k n l).0 (layout_bounds k n l).1)
    go (other e o) = e

-- a known tag has a layout, and no other tag has one
pub known-layout : (k : ℕ) → known k ≡ true → Layout k (payload k)
known-layout k h = go (sort k)
  where
    go : Sort k → Layout k (payload k)
    go (one n l) = subst (Layout k) (sym (has-bytes k n (layout_is k n l)).1) l
    go (other e o) = clash (sym h ∙ has-none k e)

pub layout-known : (k n : ℕ) → Layout k n → (known k ≡ true) × (payload k ≡ n)
layout-known k n l = has-bytes k n (layout_is k n l)

pub payload-naming : (k : ℕ) → 2 ≤ k → k ≤ 4 → payload_of k ≡ Some 11
payload-naming k a b = go (sort k)
  where
    go : Sort k → payload_of k ≡ Some 11
    go (one n l) = layout_is k n l ∙ ap Some (layout-naming k n l a b)
    go (other e o) = absurd (o (omega arith) (omega arith))

pub payload_bounds : (k : ℕ) → known k ≡ true → (8 ≤ payload k) × (payload k ≤ 21)
payload_bounds k h = omega (arith, layout_bounds k (payload k) (known-layout k h))
