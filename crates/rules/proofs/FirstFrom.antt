-- The search for the smallest identifier on the card from a number on finds just that, or that there is none; and searches one behind the
-- other go through all of them, each once and in rising order. Assumes nothing.
use mathlib.Core.Path.{◌≡◌, refl, ap, sym, ◌∙◌, subst}
use mathlib.Core.Bool.{Bool, true, false, cond}
use mathlib.Core.List.{List, [], ◌∷◌}
use mathlib.Core.Logic.{inl, inr, ⊎_elim, ◌↔◌}
use mathlib.Core.Option.{Option, none, some}
use Prim.Native.Nat.{ℕ, zero, suc, ◌+◌, ◌≤◌, ◌<◌, min}
use native.Mathlib.Omega.{arith}
use lib.Dec.{leb, eqb}
use borrow.Author.Tests.{leb-true, leb-false, le-leb, lt-leb, eqb-true, eqb-false}
use Rattle.rules.specs.Lists.{count, Among}
use Rattle.rules.specs.Vcpu.{Vcpu}
use Rattle.rules.specs.Card.{smaller, first_from}
use Rattle.rules.specs.Meaning.{OnTheCard, FirstFrom, onward, walk, Rises}
use Rattle.rules.proofs.Tests.{cases}
use Rattle.rules.proofs.Lists.{among_all, count_among, count_less}

-- nobody on the card from `low` on
abbrev NoneFrom : List Vcpu → ℕ → Type 0
NoneFrom vs low = (t : ℕ) → OnTheCard vs t → low ≤ t → ⊥

-- what the search answers
abbrev Answers : List Vcpu → ℕ → Option ℕ → Type 0
Answers vs low none = NoneFrom vs low
Answers vs low (some t) = FirstFrom vs low t

-- one VCPU more
module _ (v : Vcpu) (vs : List Vcpu) where
  behind : (t : ℕ) → OnTheCard vs t → OnTheCard (v ∷ vs) t
  behind t (w, m, e) = (w, inr m, e)

  here-or : {A : Type 0} (t : ℕ) → OnTheCard (v ∷ vs) t → (v.terms.tunnel ≡ t → A) → (OnTheCard vs t → A) → A
  here-or t (w, inl i, e) f g = f (ap (λ x. x.terms.tunnel) (sym i) ∙ e)
  here-or t (w, inr m, e) f g = g (w, m, e)

  passes : (low : ℕ) (o : Option ℕ) → low ≤ v.terms.tunnel → Answers vs low o → Answers (v ∷ vs) low (some (smaller v.terms.tunnel o))
  passes low none h a = (
    (v, inl refl, refl),
    h,
    λ t p l. here-or t p (λ e. omega arith) (λ q. absurd (a t q l)),
  )
  passes low (some b) h a =
      ⊎_elim
      (λ e. let k : v.terms.tunnel ≤ b = leb-true v.terms.tunnel b e in
      it-is v.terms.tunnel (omega arith) (v, inl refl, refl) h
      (λ t p l. here-or t p (λ i. omega arith) (λ q. omega (arith, a.2 t q l))))
      (λ e. let k = leb-false v.terms.tunnel b e in
      it-is b (omega arith) (behind b a.0) a.1 (λ t p l. here-or t p (λ i. omega arith) (λ q. a.2 t q l)))
      (cases (leb v.terms.tunnel b))
    where
      it-is : (n : ℕ) → n ≡ min v.terms.tunnel b → OnTheCard (v ∷ vs) n → low ≤ n
          → ((t : ℕ) → OnTheCard (v ∷ vs) t → low ≤ t → n ≤ t) → FirstFrom (v ∷ vs) low (min v.terms.tunnel b)
      it-is n e p l f = subst (FirstFrom (v ∷ vs) low) e (p, l, f)

  fails : (low : ℕ) (o : Option ℕ) → (low ≤ v.terms.tunnel → ⊥) → Answers vs low o → Answers (v ∷ vs) low o
  fails low none n a = λ t p l. here-or t p (λ e. n (omega arith)) (λ q. a t q l)
  fails low (some b) n a = (
    behind b a.0,
    a.1,
    λ t p l. here-or t p (λ e. absurd (n (omega arith))) (λ q. a.2 t q l),
  )

answers : (low : ℕ) (vs : List Vcpu) → Answers vs low (first_from low vs)
answers low [] = λ t p l. p.1
answers low (v ∷ vs) = go (leb low v.terms.tunnel) refl (answers low vs)
  where
    go : (b : Bool) → leb low v.terms.tunnel ≡ b → Answers vs low (first_from low vs)
        → Answers (v ∷ vs) low (cond b (some (smaller v.terms.tunnel (first_from low vs))) (first_from low vs))
    go true e a = passes v vs low (first_from low vs) (leb-true low v.terms.tunnel e) a
    go false e a = fails v vs low (first_from low vs) (λ h. omega (arith, leb-false low v.terms.tunnel e)) a

pub first-from : (vs : List Vcpu) (low t : ℕ) → first_from low vs ≡ some t ↔ FirstFrom vs low t
first-from vs low t = (λ e. subst (Answers vs low) e (answers low vs), λ f. go (first_from low vs) refl f)
  where
    go : (o : Option ℕ) → first_from low vs ≡ o → FirstFrom vs low t → first_from low vs ≡ some t
    go none e f = absurd (subst (Answers vs low) e (answers low vs) t f.0 f.1)
    go (some u) e f =
        let a = subst (Answers vs low) e (answers low vs) in
        e ∙ ap some (omega (arith, a.2 t f.0 f.1, f.2 u a.0 a.1))

pub none_from : (vs : List Vcpu) (low : ℕ) → first_from low vs ≡ none ↔ ((t : ℕ) → OnTheCard vs t → low ≤ t → ⊥)
none_from vs low = (λ e. subst (Answers vs low) e (answers low vs), λ n. go (first_from low vs) refl n)
  where
    go : (o : Option ℕ) → first_from low vs ≡ o → NoneFrom vs low → first_from low vs ≡ none
    go none e n = e
    go (some u) e n = let a = subst (Answers vs low) e (answers low vs) in absurd (n u a.0 a.1)

-- the searches one behind the other
abbrev pub from : ℕ → Vcpu → Bool
from low v = leb low v.terms.tunnel

module _ (vs : List Vcpu) where
  pub walk-there : (n low t : ℕ) → Among t (walk n low vs) → OnTheCard vs t × (low ≤ t)
  walk-there zero low t m = elim m [ ]
  walk-there (suc n) low t m = go (first_from low vs) refl m (λ u k. walk-there n (u + 1) t k)
    where
      go : (o : Option ℕ) → first_from low vs ≡ o → Among t (onward o (λ u. walk n (u + 1) vs))
          → ((u : ℕ) → Among t (walk n (u + 1) vs) → OnTheCard vs t × (u + 1 ≤ t)) → OnTheCard vs t × (low ≤ t)
      go none e m ih = absurd m
      go (some u) e (inl q) ih =
          let f = (first-from vs low u).0 e in
          subst (λ (x : ℕ). OnTheCard vs x × (low ≤ x)) (sym q) (f.0, f.1)
      go (some u) e (inr k) ih = ((ih u k).0, omega (arith, (ih u k).1, ((first-from vs low u).0 e).1))

  pub walk-all : (n low : ℕ) → count (from low) vs ≤ n → (t : ℕ) → OnTheCard vs t → low ≤ t → Among t (walk n low vs)
  walk-all zero low h t p l =
      absurd (omega (arith, count_among (from low) vs p.0 p.1 (le-leb low p.0.terms.tunnel (omega (arith, p.2)))))
  walk-all (suc n) low h t p l = go (first_from low vs) refl (λ u k i. walk-all n (u + 1) k t p i)
    where
      go : (o : Option ℕ) → first_from low vs ≡ o
          → ((u : ℕ) → count (from (u + 1)) vs ≤ n → u + 1 ≤ t → Among t (walk n (u + 1) vs)) → Among t (onward o (λ u. walk n (u + 1) vs))
      go none e ih = absurd ((none_from vs low).0 e t p l)
      go (some u) e ih =
          ⊎_elim (λ q. inl (eqb-true t u q)) (λ q. inr (ih u fewer (omega (arith, f.2 t p l, eqb-false t u q)))) (cases (eqb t u))
        where
          f : FirstFrom vs low u
          f = (first-from vs low u).0 e

          fewer : count (from (u + 1)) vs ≤ n
          fewer =
              omega (
                arith,
                count_less (from low) (from (u + 1))
                    (λ v q. le-leb low v.terms.tunnel (omega (arith, leb-true (u + 1) v.terms.tunnel q, f.1)))
                    vs f.0.0 f.0.1 (le-leb low f.0.0.terms.tunnel (omega (arith, f.0.2, f.1)))
                    (lt-leb (u + 1) f.0.0.terms.tunnel (omega (arith, f.0.2))),
              )

  pub walk-rises : (n low : ℕ) → Rises (walk n low vs)
  walk-rises zero low = tt
  walk-rises (suc n) low = go (first_from low vs) (λ u. walk-rises n (u + 1))
    where
      go : (o : Option ℕ) → ((u : ℕ) → Rises (walk n (u + 1) vs)) → Rises (onward o (λ u. walk n (u + 1) vs))
      go none ih = tt
      go (some u) ih = (among_all (λ t. u < t) (walk n (u + 1) vs) (λ t m. omega (arith, (walk-there n (u + 1) t m).1)), ih u)
