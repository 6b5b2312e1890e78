-- Tests: one holds or it does not, what two say together, and whether a number is below another.
-- Assumes nothing.
use Prim.Native.Nat.{ℕ, ◌≤◌, ◌<◌}
use mathlib.Core.Path.{◌≡◌, refl, sym}
use mathlib.Core.Bool.{Bool, true, false, not, ◌&&◌, ◌||◌}
use mathlib.Core.Logic.{◌⊎◌, inl, inr, ⊎_elim}
use native.Mathlib.Omega.{arith}
use lib.Dec.{ltb}
use borrow.Author.Tests.{ltb-true, ltb-false}

pub or_right : (a b : Bool) → b ≡ true → (a || b) ≡ true
or_right true b h = refl
or_right false b h = h

pub or_left : (a b : Bool) → a ≡ true → (a || b) ≡ true
or_left true b h = refl
or_left false b h = let z : true ≡ false = sym h in cc

pub or-false : (a b : Bool) → a ≡ false → b ≡ false → (a || b) ≡ false
or-false true b h k = h
or-false false b h k = k

pub and-true : (a b : Bool) → a ≡ true → b ≡ true → (a && b) ≡ true
and-true true b h k = k
and-true false b h k = h

pub and_right : (a b : Bool) → b ≡ false → (a && b) ≡ false
and_right true b h = h
and_right false b h = refl

pub and_left : (a b : Bool) → a ≡ false → (a && b) ≡ false
and_left true b h = let z : true ≡ false = h in cc
and_left false b h = refl

-- a test holds or it does not
pub tested : (b : Bool) → (b ≡ true) ⊎ (b ≡ false)
tested true = inl refl
tested false = inr refl

pub clash : {b : Bool} → b ≡ true → b ≡ false → ⊥
clash p q = let z : ◌≡◌ {A = ℕ} 0 1 = cc in omega arith

pub and_both : (a b : Bool) → (a && b) ≡ true → (a ≡ true) × (b ≡ true)
and_both true b h = (refl, h)
and_both false b h = absurd (clash refl (sym h))

pub or_neither : (a b : Bool) → (a || b) ≡ false → (a ≡ false) × (b ≡ false)
or_neither true b h = absurd (clash refl h)
or_neither false b h = (refl, h)

pub below-or-from : (m n : ℕ) → (m < n) ⊎ (n ≤ m)
below-or-from m n = go (ltb m n) refl
  where
    go : (b : Bool) → ltb m n ≡ b → (m < n) ⊎ (n ≤ m)
    go true e = inl (ltb-true m n e)
    go false e = inr (ltb-false m n e)

pub neither_below : (m n : ℕ) → (m < n → ⊥) → (n < m → ⊥) → m ≡ n
neither_below m n f g = go (below-or-from m n) (below-or-from n m)
  where
    go : (m < n) ⊎ (n ≤ m) → (n < m) ⊎ (m ≤ n) → m ≡ n
    go (inl l) k = absurd (f l)
    go (inr h) (inl l) = absurd (g l)
    go (inr h) (inr k) = omega arith

-- a test tells a fact: it holds where the fact does, and only there
abbrev pub Tells : Bool → Type 0 → Type 0
Tells b A = (b ≡ true → A) × (b ≡ false → A → ⊥)

pub never : Tells false ⊥
never = (λ e. absurd (clash e refl), λ e a. a)

pub always : Tells true Unit
always = (λ e. tt, λ e. absurd (clash refl e))

pub either : {A B : Type 0} (a b : Bool) → Tells a A → Tells b B → Tells (a || b) (A ⊎ B)
either true b x y = (λ e. inl (x.0 refl), λ e o. clash refl e)
either false b x y = (λ e. inr (y.0 e), λ e. ⊎_elim (x.1 refl) (y.1 e))

pub refuted : {A : Type 0} (a : Bool) → Tells a A → Tells (not a) (A → ⊥)
refuted true x = (λ e. absurd (clash e refl), λ e n. n (x.0 refl))
refuted false x = (λ e. x.1 refl, λ e n. clash refl e)
