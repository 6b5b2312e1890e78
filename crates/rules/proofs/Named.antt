-- "Identifiers are equal only if all 24 bits are": a VCPU is named by its identifier and by no other, and an identifier is on the
-- card exactly where a VCPU there has it; and who is remembered still is one whose time has not come.
-- Assumes nothing.
use mathlib.Core.Path.{◌≡◌, refl, ap, sym, ◌∙◌, subst}
use mathlib.Core.Bool.{Bool, true, false, cond}
use mathlib.Core.List.{List, [], ◌∷◌}
use mathlib.Core.Logic.{inl, inr}
use mathlib.Core.Option.{Option, none, some}
use Prim.Native.Nat.{ℕ, ◌≤◌, ◌<◌}
use native.Mathlib.Omega.{arith}
use borrow.Author.Tests.{eq-eqb, ne_eqb, lt-ltb}
use Rattle.rules.specs.Lists.{count, All, Among}
use Rattle.rules.specs.Vcpu.{Vcpu, named}
use Rattle.rules.specs.Remember.{Remembered, is_kept, kept}
use Rattle.rules.specs.Card.{on_card, find}
use Rattle.rules.specs.Meaning.{OnTheCard, RememberedWith}
use Rattle.rules.proofs.Tests.{tests, clash, no-some}
use Rattle.rules.proofs.Lists.{all_among, any_among, any-one, among_keep, keep_among, only_one}

pub named-says : (tunnel : ℕ) (v : Vcpu) → named tunnel v ≡ true → v.terms.tunnel ≡ tunnel
named-says tunnel v e = omega (arith, tests)

pub is-named : (tunnel : ℕ) (v : Vcpu) → v.terms.tunnel ≡ tunnel → named tunnel v ≡ true
is-named tunnel v e = omega (arith, eq-eqb)

pub not_named : (tunnel : ℕ) (v : Vcpu) → (v.terms.tunnel ≡ tunnel → ⊥) → named tunnel v ≡ false
not_named tunnel v n = omega (arith, ne_eqb)

pub named_itself : (v : Vcpu) → named v.terms.tunnel v ≡ true
named_itself v = is-named v.terms.tunnel v refl

pub on_card_says : (vs : List Vcpu) (tunnel : ℕ) → on_card tunnel vs ≡ true → OnTheCard vs tunnel
on_card_says vs tunnel e =
    let p = any-one (named tunnel) vs e in
    (p.0, p.1, named-says tunnel p.0 p.2)

pub is_on_card : (vs : List Vcpu) (tunnel : ℕ) → OnTheCard vs tunnel → on_card tunnel vs ≡ true
is_on_card vs tunnel p = any_among (named tunnel) vs p.0 p.1 (is-named tunnel p.0 p.2)

-- the one that is looked up is there
pub found : (t : ℕ) (vs : List Vcpu) (v : Vcpu) → find t vs ≡ some v → Among v vs × (named t v ≡ true)
found t [] v e = no-some e
found t (w ∷ vs) v e = go (named t w) refl e (λ f. found t vs v f)
  where
    go : (b : Bool) → named t w ≡ b → cond b (some w) (find t vs) ≡ some v → (find t vs ≡ some v → Among v vs × (named t v ≡ true))
        → Among v (w ∷ vs) × (named t v ≡ true)
    go true n f ih =
        let q : w ≡ v = cc in
        (inl (sym q), subst (λ (x : Vcpu). named t x ≡ true) q n)
    go false n f ih = (inr (ih f).0, (ih f).1)

pub not_found : (t : ℕ) (vs : List Vcpu) → find t vs ≡ none → All (λ w. named t w ≡ false) vs
not_found t [] e = tt
not_found t (w ∷ vs) e = go (named t w) refl e (λ f. not_found t vs f)
  where
    go : (b : Bool) → named t w ≡ b → cond b (some w) (find t vs) ≡ none → (find t vs ≡ none → All (λ w. named t w ≡ false) vs)
        → All (λ w. named t w ≡ false) (w ∷ vs)
    go true n f ih = no-some (sym f)
    go false n f ih = (n, ih f)

pub find-there : (t : ℕ) (vs : List Vcpu) → count (named t) vs ≤ 1 → (v : Vcpu) → Among v vs → v.terms.tunnel ≡ t → find t vs ≡ some v
find-there t vs once v m e = go (find t vs) refl
  where
    go : (o : Option Vcpu) → find t vs ≡ o → find t vs ≡ some v
    go none f = clash (sym (is-named t v e) ∙ all_among (λ w. named t w ≡ false) vs (not_found t vs f) v m)
    go (some w) f =
        let p = found t vs w f in
        f ∙ ap some (only_one (named t) vs once w v p.0 m p.1 (is-named t v e))

-- those kept at `now` are those whose time has not come
pub kept-says : (now tunnel time : ℕ) (rs : List Remembered) → RememberedWith (kept now rs) tunnel time
    → RememberedWith rs tunnel time × (now < time)
kept-says now tunnel time rs p =
    let q = among_keep (is_kept now) rs p.0 p.1 in
    ((p.0, q.0, p.2, p.3), omega (arith, tests, q.1, p.3))

pub is-kept : (now tunnel time : ℕ) (rs : List Remembered) → RememberedWith rs tunnel time → now < time
    → RememberedWith (kept now rs) tunnel time
is-kept now tunnel time rs p h =
    (p.0, keep_among (is_kept now) rs p.0 p.1 (omega (arith, lt-ltb, p.3)), p.2, p.3)
