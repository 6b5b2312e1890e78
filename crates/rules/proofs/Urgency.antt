-- "Smaller is more urgent; at equal priority the smaller identifier is" is a strict order, total on different identifiers.
-- Assumes nothing.
use mathlib.Core.Path.{◌≡◌, refl, sym, ◌∙◌}
use mathlib.Core.Bool.{true, false, ◌&&◌}
use mathlib.Core.Logic.{◌⊎◌, inl, inr, ⊎_elim}
use Prim.Native.Nat.{◌≤◌, ◌<◌}
use native.Mathlib.Omega.{arith}
use lib.Dec.{ltb, eqb}
use borrow.Author.Tests.{ltb-true, ltb-false, eqb-true, eqb-false, lt-ltb, le-ltb, eq-eqb, ne_eqb}
use Rattle.rules.specs.Vcpu.{Description, more_urgent}
use Rattle.rules.specs.Meaning.{MoreUrgent}
use Rattle.rules.proofs.Tests.{clash, cases, and-true, and-false, or-true, or-false, or_right}

-- what the test says where it does not pass
abbrev pub NotBefore : Description → Description → Type 0
NotBefore a b = (b.priority < a.priority) ⊎ ((b.priority ≡ a.priority) × (b.tunnel ≤ a.tunnel))

pub before : (a b : Description) → more_urgent a b ≡ true → MoreUrgent a b
unfolding more_urgent
before a b e = ⊎_elim (λ f. inl (ltb-true _ _ f)) (λ f. inr (both (and-true _ _ f))) (or-true _ _ e)
  where
    both : (eqb a.priority b.priority ≡ true) × (ltb a.tunnel b.tunnel ≡ true)
        → (a.priority ≡ b.priority) × (a.tunnel < b.tunnel)
    both p = (eqb-true _ _ p.0, ltb-true _ _ p.1)

pub not-before : (a b : Description) → more_urgent a b ≡ false → NotBefore a b
unfolding more_urgent
not-before a b e = go (or-false _ _ e)
  where
    go : (ltb a.priority b.priority ≡ false)
        × (eqb a.priority b.priority && ltb a.tunnel b.tunnel ≡ false)
        → NotBefore a b
    go p = ⊎_elim apart same (and-false _ _ p.1)
      where
        apart : eqb a.priority b.priority ≡ false → NotBefore a b
        apart f = inl (omega (arith, ltb-false a.priority b.priority p.0, eqb-false a.priority b.priority f))

        same : ltb a.tunnel b.tunnel ≡ false → NotBefore a b
        same f = ⊎_elim (λ h. inr (sym (eqb-true _ _ h), ltb-false _ _ f)) apart (cases (eqb a.priority b.priority))

pub urgent : (a b : Description) → MoreUrgent a b → more_urgent a b ≡ true
unfolding more_urgent
urgent a b (inl h) = rw (lt-ltb a.priority b.priority h)
urgent a b (inr p) = rw (eq-eqb a.priority b.priority p.0, lt-ltb a.tunnel b.tunnel p.1)
    (or_right (ltb a.priority b.priority))

pub not-urgent : (a b : Description) → NotBefore a b → more_urgent a b ≡ false
unfolding more_urgent
not-urgent a b (inl h) =
    rw (le-ltb a.priority b.priority (omega arith), ne_eqb a.priority b.priority (omega arith))
not-urgent a b (inr p) =
    let e : a.priority ≡ b.priority = sym p.0 in
    rw (le-ltb a.priority b.priority (omega arith), eq-eqb a.priority b.priority e, le-ltb a.tunnel b.tunnel p.1)

-- the same in plain facts
pub not_more : (a b : Description) → more_urgent a b ≡ false → MoreUrgent a b → ⊥
not_more a b e h = clash (sym (urgent a b h) ∙ e)

pub no_more : (a b : Description) → (MoreUrgent a b → ⊥) → more_urgent a b ≡ false
no_more a b n = ⊎_elim (λ e. absurd (n (before a b e))) (λ e. e) (cases (more_urgent a b))

pub irreflexive : (a : Description) → more_urgent a a ≡ false
irreflexive a = not-urgent a a (inr (refl, omega arith))

pub asymmetric : (a b : Description) → more_urgent a b ≡ true → more_urgent b a ≡ false
asymmetric a b e = go (before a b e)
  where
    go : MoreUrgent a b → more_urgent b a ≡ false
    go (inl h) = not-urgent b a (inl h)
    go (inr p) = not-urgent b a (inr (p.0, omega arith))

pub transitive : (a b c : Description) → more_urgent a b ≡ true → more_urgent b c ≡ true → more_urgent a c ≡ true
transitive a b c e f = urgent a c (go (before a b e) (before b c f))
  where
    go : MoreUrgent a b → MoreUrgent b c → MoreUrgent a c
    go (inl h) (inl k) = inl (omega arith)
    go (inl h) (inr k) = inl (omega arith)
    go (inr h) (inl k) = inl (omega arith)
    go (inr h) (inr k) = inr (omega arith)

-- neither is more urgent than the next: the first is not more urgent than the last
pub still-not : (a b c : Description) → more_urgent a b ≡ false → more_urgent b c ≡ false → more_urgent a c ≡ false
still-not a b c e f = not-urgent a c (go (not-before a b e) (not-before b c f))
  where
    go : NotBefore a b → NotBefore b c → NotBefore a c
    go (inl h) (inl k) = inl (omega arith)
    go (inl h) (inr k) = inl (omega arith)
    go (inr h) (inl k) = inl (omega arith)
    go (inr h) (inr k) = inr (omega arith)

-- of two with different identifiers one is more urgent
pub total : (a b : Description) → (a.tunnel ≡ b.tunnel → ⊥) → more_urgent a b ≡ false → more_urgent b a ≡ true
total a b n e = urgent b a (go (not-before a b e))
  where
    go : NotBefore a b → MoreUrgent b a
    go (inl h) = inl h
    go (inr p) = inr (p.0, omega arith)
