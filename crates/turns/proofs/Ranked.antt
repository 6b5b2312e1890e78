-- The order of urgency is kept: where a newcomer is placed, where one is taken out, and where the terms stay as they are.
-- Assumes nothing.
use Prim.Native.Nat.{ℕ, zero, suc, ◌<◌}
use mathlib.Core.Path.{◌≡◌, refl, ap, sym, ◌∙◌}
use mathlib.Core.Bool.{Bool, true, false, cond}
use mathlib.Core.List.{List, [], ◌∷◌, map}
use native.Mathlib.Omega.{arith}
use lib.ListN.{length, get_or, set}
use Rattle.rules.specs.Lists.{keep, All}
use Rattle.rules.specs.Vcpu.{Description, more_urgent, named}
use Rattle.rules.specs.Vcpu.{Vcpu as Tenant}
use Rattle.rules.specs.Card.{Card, on_card, to_named}
use Rattle.rules.specs.Change.{placed}
use Rattle.rules.specs.Turn.{after_return}
use Rattle.rules.proofs.Lists.{all_imp, count_none, any_false}
use Rattle.rules.proofs.Urgency.{transitive, total}
use Rattle.rules.proofs.Advance.{stepped, each-stepped, terms-stepped}
use Rattle.turns.proofs.Invariant.{Ranked, terms_of, nowhere}

module _ {A : Type 0} where
  pub all-get : (P : A → Type 0) (l : List A) (i : ℕ) (z : A) → All P l → i < length l → P (get_or l i z)
  all-get P [] i z h g = absurd (omega arith)
  all-get P (a ∷ l) zero z h g = h.0
  all-get P (a ∷ l) (suc i) z h g = all-get P l i z h.1 (omega arith)

  pub all_set : (P : A → Type 0) (l : List A) (i : ℕ) (a : A) → All P l → P a → All P (set l i a)
  all_set P [] i a h g = h
  all_set P (x ∷ l) zero a h g = (g, h.1)
  all_set P (x ∷ l) (suc i) a h g = (h.0, all_set P l i a h.1 g)

-- steps 1 and 2 leave the terms, and so does a mark
pub return-terms : (k : Card) (now : ℕ) → terms_of (after_return k now) ≡ terms_of k.vcpus
return-terms k now = ap terms_of (each-stepped k now) ∙ go k.vcpus
  where
    go : (vs : List Tenant) → terms_of (map (stepped k.last now k.running) vs) ≡ terms_of vs
    go [] = refl
    go (v ∷ vs) = rw (terms-stepped k.last now k.running v, go vs)

pub named-terms : (t : ℕ) (f : Tenant → Tenant) (vs : List Tenant) → ((v : Tenant) → (f v).terms ≡ v.terms)
    → terms_of (to_named t f vs) ≡ terms_of vs
named-terms t f [] h = refl
named-terms t f (v ∷ vs) h = go (named t v) ∙ ap (λ (l : List Description). v.terms ∷ l) (named-terms t f vs h)
  where
    go : (b : Bool) → (cond b (f v) v).terms ∷ terms_of (to_named t f vs) ≡ v.terms ∷ terms_of (to_named t f vs)
    go true = ap (λ (d : Description). d ∷ terms_of (to_named t f vs)) (h v)
    go false = refl

-- a newcomer
placed-terms : (P : Description → Type 0) (a : Tenant) (vs : List Tenant) → P a.terms → All P (terms_of vs)
    → All P (terms_of (placed a vs))
placed-terms P a [] g h = (g, h)
placed-terms P a (w ∷ ws) g h = go (more_urgent a.terms w.terms) (placed-terms P a ws g h.1)
  where
    go : (t : Bool) → All P (terms_of (placed a ws)) → All P (terms_of (cond t (a ∷ w ∷ ws) (w ∷ placed a ws)))
    go true rec = (g, h)
    go false rec = (h.0, rec)

apart-ranked : (a : Tenant) (vs : List Tenant) → All (λ e. e.tunnel ≡ a.terms.tunnel → ⊥) (terms_of vs) → Ranked (terms_of vs)
    → Ranked (terms_of
    (placed a vs))
apart-ranked a [] h r = (tt, tt)
apart-ranked a (w ∷ ws) h r = go (more_urgent a.terms w.terms) refl (apart-ranked a ws h.1 r.1)
  where
    go : (t : Bool) → more_urgent a.terms w.terms ≡ t → Ranked (terms_of (placed a ws))
        → Ranked (terms_of (cond t (a ∷ w ∷ ws) (w ∷ placed a ws)))
    go true e rec = ((e, all_imp (λ x g. transitive a.terms w.terms x e g) (terms_of ws) r.0), r)
    go false e rec =
        (placed-terms (λ x. more_urgent w.terms x ≡ true) a ws (total a.terms w.terms (λ g. h.0 (sym g)) e) r.0, rec)

pub placed-ranked : (a : Tenant) (vs : List Tenant) → on_card a.terms.tunnel vs ≡ false → Ranked (terms_of vs)
    → Ranked (terms_of (placed a vs))
placed-ranked a vs e r = apart-ranked a vs
    (nowhere a.terms.tunnel vs (count_none (named a.terms.tunnel) vs (any_false (named a.terms.tunnel) vs e))) r

-- one taken out
keep-terms : (P : Description → Type 0) (test : Tenant → Bool) (vs : List Tenant) → All P (terms_of vs) → All P (terms_of (keep test vs))
keep-terms P test [] h = h
keep-terms P test (v ∷ vs) h = go (test v) (keep-terms P test vs h.1)
  where
    go : (t : Bool) → All P (terms_of (keep test vs)) → All P (terms_of (cond t (v ∷ keep test vs) (keep test vs)))
    go true rec = (h.0, rec)
    go false rec = rec

pub keep-ranked : (test : Tenant → Bool) (vs : List Tenant) → Ranked (terms_of vs) → Ranked (terms_of (keep test vs))
keep-ranked test [] h = h
keep-ranked test (v ∷ vs) h = go (test v) (keep-ranked test vs h.1)
  where
    go : (t : Bool) → Ranked (terms_of (keep test vs)) → Ranked (terms_of (cond t (v ∷ keep test vs) (keep test vs)))
    go true rec = (keep-terms (λ e. more_urgent v.terms e ≡ true) test vs h.0, rec)
    go false rec = rec
