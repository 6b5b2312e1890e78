-- What holds of every core that calls make (proofs/Made, `made_so`): it shows the rules' card after the same calls, is what that card is
-- written as, and its table is in the order of urgency. What the rules prove of such a card is drawn from there. Assumes nothing.
use Prim.Native.Nat.{ℕ, ◌+◌, ◌≤◌}
use mathlib.Core.Path.{◌≡◌, refl, sym, subst}
use mathlib.Core.Bool.{Bool, true, false, cond}
use mathlib.Core.List.{List, [], ◌∷◌, map}
use native.Mathlib.Omega.{arith}
use lib.ListN.{length}
use borrow.Author.Tests.{eqb-false}
use Rattle.rules.specs.Lists.{count, All}
use Rattle.rules.specs.Limits.{most_vcpus}
use Rattle.rules.specs.Vcpu.{Description, more_urgent, named}
use Rattle.rules.specs.Vcpu.{Vcpu as Tenant}
use Rattle.rules.specs.Card.{Card}
use Rattle.rules.specs.Turn.{Call}
use Rattle.rules.specs.History.{after, heard, past}
use Rattle.rules.specs.Stays.{stays}
use Rattle.rules.specs.Meaning.{Meaning}
use Rattle.rules.specs.Accounts.{all_held}
use Rattle.rules.proofs.Lists.{among_all, sum_among}
use Rattle.rules.proofs.Accounts.{totals}
use Rattle.rules.proofs.Named.{named_itself}
use Rattle.rules.proofs.ThreeKinds.{by_kind}
use Rattle.rules.proofs.Sound.{Orderly, Sound}
use Rattle.rules.proofs.Reached.{Reached, reached}
use Rattle.rules.proofs.Meaning.{meaning}
use Rattle.turns.specs.declared.Core.TheInside.{Inside}
use Rattle.turns.specs.Written.{card, core_of}
use Rattle.turns.specs.Tenants.{Formed, Fits, queue, refills}

-- each is more urgent than all behind it
abbrev pub Ranked : List Description → Type 0
Ranked [] = Unit {0}
Ranked (d ∷ l) = All (λ e. more_urgent d e ≡ true) l × Ranked l

-- no identifier stands twice
abbrev pub Distinct : List Description → Type 0
Distinct [] = Unit {0}
Distinct (d ∷ l) = All (λ e. e.tunnel ≡ d.tunnel → ⊥) l × Distinct l

abbrev pub terms_of : List Tenant → List Description
terms_of vs = map (λ v. v.terms) vs

pub record SoundCore (c : Inside) : Type 0 where
  pub written : c ≡ core_of (card c)
  pub calls : List Call
  pub shows : card c ≡ after calls
  pub ranked : Ranked (terms_of (card c).vcpus)

-- the tenants between calls, at `last`
pub record Between (last : ℕ) (vs : List Tenant) : Type 0 where
  pub few : length vs ≤ most_vcpus
  pub each : All (Sound last) vs
  pub distinct : Distinct (terms_of vs)
  pub ranked : Ranked (terms_of vs)

-- the tenants within a call
pub record Listed (vs : List Tenant) : Type 0 where
  pub few : length vs ≤ most_vcpus
  pub distinct : Distinct (terms_of vs)

pub orderly-formed : (low high now : ℕ) (v : Tenant) → Orderly low high now v → Formed v
orderly-formed low high now v k =
    by_kind v.terms (λ e. queue e (k.sporadic e).0)
    (λ n. let r = k.refills n in refills n k.range.kind-high r.0 r.2 r.3)

pub kept-fits : (low high now : ℕ) (v : Tenant) → Orderly low high now v → Fits v
kept-fits low high now v k =
    record { range = k.range; most = k.most; adds = k.adds; shows = (k.few, orderly-formed low high now v k); polls = k.polls }

-- the rules count those so named; one that stands once stands nowhere else
pub nowhere : (t : ℕ) (vs : List Tenant) → count (named t) vs ≡ 0 → All (λ e. e.tunnel ≡ t → ⊥) (terms_of vs)
nowhere t [] h = tt
nowhere t (v ∷ vs) h = go (named t v) refl h (nowhere t vs)
  where
    go : (b : Bool) → named t v ≡ b → cond b 1 0 + count (named t) vs ≡ 0
        → (count (named t) vs ≡ 0 → All (λ e. e.tunnel ≡ t → ⊥) (terms_of vs))
        → All (λ e. e.tunnel ≡ t → ⊥) (terms_of (v ∷ vs))
    go true e g rec = absurd (omega arith)
    go false e g rec = (eqb-false v.terms.tunnel t e, rec (omega arith))

once-distinct : (vs : List Tenant) → ((t : ℕ) → count (named t) vs ≤ 1) → Distinct (terms_of vs)
once-distinct [] h = tt
once-distinct (v ∷ vs) h = (nowhere v.terms.tunnel vs (alone (h v.terms.tunnel)), once-distinct vs (λ t. omega (arith, h t)))
  where
    alone : cond (named v.terms.tunnel v) 1 0 + count (named v.terms.tunnel) vs ≤ 1 → count (named v.terms.tunnel) vs ≡ 0
    alone = rw (named_itself v) (λ g. omega arith)

pub between-at : (k : Card) (calls : List Call) → k ≡ after calls → Ranked (terms_of k.vcpus) → Between k.last k.vcpus
between-at k calls e r =
    record {
      few = reach.lawful.few;
      each = reach.lawful.sound;
      distinct = once-distinct k.vcpus reach.lawful.once;
      ranked = r;
    }
  where
    reach : Reached k (stays (heard calls)) (past (heard calls))
    reach = subst (λ (x : Card). Reached x (stays (heard calls)) (past (heard calls))) (sym e) (reached calls)

module _ (c : Inside) (r : SoundCore c) where
  pub between : Between (card c).last (card c).vcpus
  between = between-at (card c) r.calls r.shows r.ranked

  pub card-reached : Reached (card c) (stays (heard r.calls)) (past (heard r.calls))
  card-reached = subst (λ (x : Card). Reached x (stays (heard r.calls)) (past (heard r.calls))) (sym r.shows) (reached r.calls)

  -- no total is above the time
  pub held-most : All (λ v. v.held_total ≤ (card c).last) (card c).vcpus
  held-most =
      let t = subst (λ (x : Card). all_held x.vcpus + x.removed + x.idle ≡ x.last) (sym r.shows) (totals r.calls).add-up in
      among_all _ (card c).vcpus (λ v m. omega (arith, t, sum_among (λ w. w.held_total) (card c).vcpus v m))

  pub means : Meaning (card c)
  means = subst Meaning (sym r.shows) (meaning r.calls)
