-- Step 4 means what it says: the chosen VCPU is runnable with usable ticks and no such VCPU is more urgent; idle exactly where
-- there is none; and where identifiers stand once, no other choice is open. Assumes nothing.
use mathlib.Core.Path.{◌≡◌, refl, ap, sym, ◌∙◌, subst}
use mathlib.Core.Bool.{Bool, true, false, cond}
use mathlib.Core.List.{List, [], ◌∷◌}
use mathlib.Core.Logic.{inl, inr, ⊎_elim}
use mathlib.Core.Option.{Option, none, some}
use Prim.Native.Nat.{ℕ, ◌<◌, ◌≤◌}
use native.Mathlib.Omega.{arith}
use lib.Dec.{eqb}
use borrow.Author.Tests.{le-leb, eqb-true, eq-eqb}
use Rattle.rules.specs.Lists.{keep, count, All, Among}
use Rattle.rules.specs.Vcpu.{Vcpu, more_urgent, named}
use Rattle.rules.specs.Choose.{has_ticks, ready, better, most_urgent, choose}
use Rattle.rules.specs.Meaning.{MayRun}
use Rattle.rules.proofs.Tests.{tests, clash, no-some, cases, and-true}
use Rattle.rules.proofs.Named.{is-named, named_itself}
use Rattle.rules.proofs.Lists.{all_imp, all_among, among_keep, all-kept, none_kept, keeps-none, only_one}
use Rattle.rules.proofs.Urgency.{not_more, no_more, irreflexive, asymmetric, still-not, total}

ready-says : (v : Vcpu) → ready v ≡ true → (v.runnable ≡ true) × (0 < v.usable)
ready-says v e =
    let p : (v.runnable ≡ true) × (has_ticks v ≡ true) = and-true v.runnable (has_ticks v) e in
    (p.0, omega (arith, tests))

pub is-ready : (v : Vcpu) → v.runnable ≡ true → 0 < v.usable → ready v ≡ true
is-ready v r h = rw r (omega (arith, le-leb))

nobody-there : (l : List Vcpu) → most_urgent l ≡ none → l ≡ []
nobody-there [] e = refl
nobody-there (v ∷ l) e = no-some (sym e)

most-urgent-says : (l : List Vcpu) (v : Vcpu) → most_urgent l ≡ some v
    → Among v l × All (λ w. more_urgent w.terms v.terms ≡ false) l
most-urgent-says [] v e = no-some e
most-urgent-says (x ∷ l) v e = go (most_urgent l) (λ w. most-urgent-says l w) (nobody-there l) e
  where
    go : (o : Option Vcpu) → ((w : Vcpu) → o ≡ some w → Among w l × All (λ u. more_urgent u.terms w.terms ≡ false) l)
        → (o ≡ none → l ≡ []) → some (better x o) ≡ some v
        → Among v (x ∷ l) × All (λ w. more_urgent w.terms v.terms ≡ false) (x ∷ l)
    go none ih nil f =
        let e : x ≡ v = cc in (
          inl (sym e),
          (
            subst (λ (u : Vcpu). more_urgent x.terms u.terms ≡ false) e (irreflexive x.terms),
            subst (λ (k : List Vcpu). All (λ w. more_urgent w.terms v.terms ≡ false) k) (sym (nil refl)) tt,
          ),
        )
    go (some w) ih nil f = pick (more_urgent w.terms x.terms) refl (ih w refl) f
      where
        pick : (t : Bool) → more_urgent w.terms x.terms ≡ t → Among w l × All (λ u. more_urgent u.terms w.terms ≡ false) l
            → some (cond t w x) ≡ some v
            → Among v (x ∷ l) × All (λ u. more_urgent u.terms v.terms ≡ false) (x ∷ l)
        pick true m p g =
            let e : w ≡ v = cc in
            subst (λ (z : Vcpu). Among z (x ∷ l) × All (λ u. more_urgent u.terms z.terms ≡ false) (x ∷ l)) e
            (inr p.0, (asymmetric w.terms x.terms m, p.1))
        pick false m p g =
            let e : x ≡ v = cc in
            subst (λ (z : Vcpu). Among z (x ∷ l) × All (λ u. more_urgent u.terms z.terms ≡ false) (x ∷ l)) e
            (inl refl, (irreflexive x.terms, all_imp (λ u q. still-not u.terms w.terms x.terms q m) l p.1))

pub chosen : (vs : List Vcpu) (v : Vcpu) → choose vs ≡ some v → MayRun vs v
chosen vs v e =
    let p : Among v (keep ready vs) × All (λ w. more_urgent w.terms v.terms ≡ false) (keep ready vs) = most-urgent-says
    (keep ready vs) v e in
    let q : Among v vs × (ready v ≡ true) = among_keep ready vs v p.0 in
    record {
      on_the_card = q.0;
      runnable = (ready-says v q.1).0;
      has-ticks = (ready-says v q.1).1;
      most-urgent = all_imp (λ w f r t. not_more w.terms v.terms (f (is-ready w r t))) vs
          (all-kept (λ w. more_urgent w.terms v.terms ≡ false) ready vs p.1);
    }

pub idle : (vs : List Vcpu) → choose vs ≡ none → All (λ w. ready w ≡ false) vs
idle vs e = none_kept ready vs (nobody-there (keep ready vs) e)

pub nobody : (vs : List Vcpu) → All (λ w. ready w ≡ false) vs → choose vs ≡ none
nobody vs h = ap most_urgent (keeps-none ready vs h)

-- where each identifier stands at most once, the VCPU that may run is the one chosen
pub only : (vs : List Vcpu) → ((t : ℕ) → count (named t) vs ≤ 1) → (v : Vcpu) → MayRun vs v → choose vs ≡ some v
only vs once v f = go (choose vs) refl
  where
    same : (w : Vcpu) → MayRun vs w → w.terms.tunnel ≡ v.terms.tunnel → w ≡ v
    same w g e =
        only_one (named v.terms.tunnel) vs (once v.terms.tunnel) w v g.on_the_card f.on_the_card
        (is-named v.terms.tunnel w e) (named_itself v)

    neither : (a b : Vcpu) → MayRun vs a → MayRun vs b → more_urgent a.terms b.terms ≡ false
    neither a b g h = no_more a.terms b.terms (all_among _ vs h.most-urgent a g.on_the_card g.runnable g.has-ticks)

    eq : (w : Vcpu) → MayRun vs w → w ≡ v
    eq w g = ⊎_elim (λ e. same w g (eqb-true w.terms.tunnel v.terms.tunnel e)) (λ e. apart e)
        (cases (eqb w.terms.tunnel v.terms.tunnel))
      where
        apart : eqb w.terms.tunnel v.terms.tunnel ≡ false → w ≡ v
        apart e =
            clash
            (sym (total w.terms v.terms (λ q. clash (sym (eq-eqb w.terms.tunnel v.terms.tunnel q) ∙ e)) (neither w v g f))
            ∙ neither v w f g)

    go : (o : Option Vcpu) → choose vs ≡ o → choose vs ≡ some v
    go none e =
        clash (sym (is-ready v f.runnable f.has-ticks) ∙ all_among (λ w. ready w ≡ false) vs (idle vs e) v f.on_the_card)
    go (some w) e = e ∙ ap some (eq w (chosen vs w e))
