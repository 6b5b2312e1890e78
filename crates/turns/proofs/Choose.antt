-- In a ranked table the first ready one is the most urgent, and the times reported of the runnable ones before it, and its own if it has
-- a boundary, are what comes next: what the scan finds is what the rules choose, over every kind. Assumes nothing.
use Prim.Native.Nat.{ℕ, suc, ◌+◌, ◌≤◌, min}
use mathlib.Core.Path.{◌≡◌, refl, ap, sym, ◌∙◌, subst}
use mathlib.Core.Bool.{Bool, true, false, cond, ◌&&◌}
use mathlib.Core.List.{List, [], ◌∷◌, ◌++◌, map}
use mathlib.Core.Option.{Option, none, some}
use native.Mathlib.Omega.{arith}
use lib.Dec.{ltb, eqb}
use borrow.Author.Tests.{eqb-true, eq-eqb}
use Rattle.std.specs.Prelude.{Some, None}
use Rattle.units.specs.Units.{moment, amount}
use Rattle.units.specs.declared.Moment.{Moment}
use Rattle.units.specs.declared.Amount.{Amount}
use Rattle.rules.specs.Lists.{keep, All}
use Rattle.rules.specs.Vcpu.{Description, more_urgent, named, times, comes}
use Rattle.rules.specs.Vcpu.{Vcpu as Tenant}
use Rattle.rules.specs.Choose.{ready, better, most_urgent, choose}
use Rattle.rules.specs.Timer.{earlier, earliest, next, nexts, runnable, above}
use Rattle.rules.proofs.Tests.{and_right, and-true}
use Rattle.rules.proofs.Lists.{all_among, map_among}
use Rattle.rules.proofs.Choice.{chosen}
use Rattle.rules.proofs.Urgency.{irreflexive, asymmetric}
use Rattle.turns.specs.declared.Kind.{Kind}
use Rattle.turns.specs.declared.Kind.TheVariants.{Sporadic, Deferrable, Polling}
use Rattle.turns.specs.declared.Vcpu.{Vcpu}
use Rattle.turns.specs.declared.Pick.{Pick}
use Rattle.turns.specs.Written.{never, boundary_at, written, place, timer_of}
use Rattle.turns.proofs.Invariant.{Ranked, Distinct, terms_of}
use Rattle.turns.specs.Steps.{head_of, boundary_in}
use Rattle.turns.proofs.Written.{boundary-written}
use Rattle.turns.proofs.Return.{first, head-written}
use Rattle.turns.specs.Tenants.{picked_of, picks, ready_of, Formed}

-- a time more, or none, before some times; none of them above the time above all
early_times : (o : Option ℕ) (ts : List ℕ) → timer_of o ≤ never → timer_of (earliest ts) ≤ never
    → timer_of (earliest (times o ++ ts)) ≡ min (timer_of o) (timer_of (earliest ts))
early_times none ts h g = omega arith
early_times (some t) ts h g = go (earliest ts)
  where
    go : (o : Option ℕ) → earlier t o ≡ min t (timer_of o)
    go none = omega arith
    go (some b) = refl

-- times in order, none above the time above all: the first is the earliest
abbrev pub Rises : ℕ → List ℕ → Type 0
Rises low [] = low ≤ never
Rises low (t ∷ ts) = (low ≤ t) × Rises t ts

rises-first : (low : ℕ) (ts : List ℕ) → Rises low ts → (low ≤ first ts) × (first ts ≤ never) × (timer_of (earliest ts) ≡ first ts)
rises-first low [] h = (h, omega arith, refl)
rises-first low (t ∷ ts) h =
    let r = rises-first t ts h.1 in
    let m : t ≤ never = omega (arith, r.0, r.1) in
    (h.0, m, omega (arith, r.0, r.1, r.2, early_times (some t) ts m (omega (arith, r.1, r.2))))

-- what the scan asks of a tenant: what comes to it stands in order, and it has a queue or a boundary
pub record Calm (v : Tenant) : Type 0 where
  pub rises : Rises 0 (comes v)
  pub formed : Formed v

module _ (v : Tenant) (c : Calm v) where
  -- the head of its record is the next time that something comes to it, of every kind
  pub next-head : head_of (written v) ≡ timer_of (next v)
  next-head = head-written v ∙ sym (rises-first 0 (comes v) c.rises).2

  next-most : timer_of (next v) ≤ never
  next-most = let r = rises-first 0 (comes v) c.rises in omega (arith, r.1, r.2)

  own_written : timer_of (boundary_in (written v)) ≡ timer_of v.boundary
  own_written = ap timer_of (boundary-written v c.formed)

  own_most : timer_of v.boundary ≤ never
  own_most = subst (λ (n : ℕ). n ≤ never) own_written (go (written v).kind)
    where
      go : (k : Kind) → timer_of (boundary_at k (moment (head_of (written v)))) ≤ never
      go Sporadic = omega arith
      go Deferrable = omega (arith, next-head, next-most)
      go Polling = omega (arith, next-head, next-most)

pub nexts-most : (test : Tenant → Bool) (vs : List Tenant) → All Calm vs → timer_of (earliest (nexts (keep test vs))) ≤ never
nexts-most test [] h = omega arith
nexts-most test (v ∷ vs) h = go (test v) (nexts-most test vs h.1)
  where
    go : (b : Bool) → timer_of (earliest (nexts (keep test vs))) ≤ never
        → timer_of (earliest (nexts (cond b (v ∷ keep test vs) (keep test vs)))) ≤ never
    go true rec = omega (arith, early_times (next v) (nexts (keep test vs)) (next-most v h.0) rec)
    go false rec = rec

-- one tenant more in the search for what comes next
early_one : (test : Tenant → Bool) (v : Tenant) (vs : List Tenant) → All Calm (v ∷ vs)
    → timer_of (earliest (nexts (keep test (v ∷ vs))))
    ≡ min (cond (test v) (timer_of (next v)) never) (timer_of (earliest (nexts (keep test vs))))
early_one test v vs h = go (test v)
  where
    go : (b : Bool) → timer_of (earliest (nexts (cond b (v ∷ keep test vs) (keep test vs))))
        ≡ min (cond b (timer_of (next v)) never) (timer_of (earliest (nexts (keep test vs))))
    go true = early_times (next v) (nexts (keep test vs)) (next-most v h.0) (nexts-most test vs h.1)
    go false = omega (arith, nexts-most test vs h.1)

-- a fact of all terms holds of those of the one chosen
chosen-terms : (P : Description → Type 0) (vs : List Tenant) (w : Tenant) → All P (terms_of vs) → choose vs ≡ some w → P w.terms
chosen-terms P vs w h e = all_among P (terms_of vs) h w.terms (map_among (λ v. v.terms) vs w (chosen vs w e).on_the_card)

-- the first one, ready, is chosen
first-chosen : (v : Tenant) (vs : List Tenant) → All (λ e. more_urgent v.terms e ≡ true) (terms_of vs)
    → better v (most_urgent (keep ready vs)) ≡ v
first-chosen v vs h = go (most_urgent (keep ready vs)) refl
  where
    go : (o : Option Tenant) → most_urgent (keep ready vs) ≡ o → better v o ≡ v
    go none e = refl
    go (some w) e =
        let f : more_urgent w.terms v.terms ≡ false =
        asymmetric v.terms w.terms (chosen-terms (λ d. more_urgent v.terms d ≡ true) vs w h e) in
        rw f

-- and nobody runnable is more urgent than it
none_before : (v : Tenant) (vs : List Tenant) → All (λ e. more_urgent v.terms e ≡ true) (terms_of vs)
    → keep (above v) vs ≡ []
none_before v [] h = refl
none_before v (w ∷ ws) h = rw (asymmetric v.terms w.terms h.0, and_right w.runnable) (none_before v ws h.1)

abbrev pub idle_with : ℕ → Pick
idle_with s = record { at = None; usable = amount 0; soon = moment s }

abbrev found_at : ℕ → Amount → Moment → Pick
found_at i u s = record { at = Some i; usable = u; soon = s }

found-stays : (i : ℕ) (u : Amount) (s : Moment) (j : ℕ) (l : List Vcpu) (ts : List Moment) → picks (found_at i u s) j l ts ≡ found_at i u s
unfolding picked_of
found-stays i u s j [] ts = refl
found-stays i u s j (v ∷ l) [] = refl
found-stays i u s j (v ∷ l) (t ∷ ts) = found-stays i u s (suc j) l ts

-- what the scan of a ranked list from place j on finds, s being the next time that something comes to those before it
abbrev pub pick_for : ℕ → ℕ → List Tenant → Option Tenant → Pick
pick_for s j vs none = idle_with (min s (timer_of (earliest (nexts (keep runnable vs)))))
pick_for s j vs (some v) =
    record {
      at = Some (j + place v.terms.tunnel vs);
      usable = amount v.usable;
      soon = moment (min s (timer_of (earliest (times v.boundary ++ nexts (keep (above v) vs)))));
    }

ready-written : (v : Tenant) → ready_of (written v) ≡ ready v
unfolding written
ready-written v = refl

usable-written : (v : Tenant) → (written v).usable ≡ amount v.usable
unfolding written
usable-written v = refl

runnable-written : (v : Tenant) → (written v).runnable ≡ v.runnable
unfolding written
runnable-written v = refl

-- one place: it is ready, or it waits
abbrev waits : Tenant → ℕ
waits v = cond v.runnable (timer_of (next v)) never

-- the time reported of it, which is the head of its record where it is runnable
abbrev pub Heard : (Tenant → Moment) → Tenant → Type 0
Heard T v = v.runnable ≡ true → T v ≡ moment (head_of (written v))

module _ (T : Tenant → Moment) (s j : ℕ) (v : Tenant) (c : Calm v) (h : Heard T v) where
  step-ready : ready v ≡ true
      → picked_of (idle_with s) j (written v) (T v)
      ≡ record { at = Some j; usable = amount v.usable; soon = moment (min s (timer_of v.boundary)) }
  unfolding picked_of
  step-ready e =
      rw (ready-written v ∙ e, h (and-true v.runnable (ltb 0 v.usable) e).0, own_written v c, usable-written v)

  step_waits : ready v ≡ false → picked_of (idle_with s) j (written v) (T v) ≡ idle_with (min s (waits v))
  unfolding picked_of
  step_waits e = rw (ready-written v ∙ e, runnable-written v, heard v.runnable h)
    where
      heard : (b : Bool) → (b ≡ true → T v ≡ moment (head_of (written v))) → cond b (T v).0 never ≡ cond b (timer_of (next v)) never
      heard true f = ap (λ (m : Moment). m.0) (f refl) ∙ next-head v c
      heard false f = refl

-- the scan of the rest, where the one at j is not ready
module _ (s j : ℕ) (v : Tenant) (vs : List Tenant) (calm : All Calm (v ∷ vs)) (ranked : Ranked (terms_of (v ∷ vs)))
    (distinct : Distinct (terms_of
    (v ∷ vs))) where
  later-chosen : (o : Option Tenant) → choose vs ≡ o → pick_for (min s (waits v)) (suc j) vs o ≡ pick_for s j (v ∷ vs) o
  later-chosen none e = ap idle_with (omega (arith, early_one runnable v vs calm))
  later-chosen (some u) e =
      same (j + place u.terms.tunnel (v ∷ vs)) (placed-later (named u.terms.tunnel v) refl)
      (omega (
        arith,
        early_one (above u) v vs calm,
        waits-same v.runnable,
        early_times u.boundary (nexts (keep (above u) vs)) own (nexts-most (above u) vs calm.1),
        early_times u.boundary (nexts (keep (above u) (v ∷ vs))) own (nexts-most (above u) (v ∷ vs) calm),
      ))
    where
      own : timer_of u.boundary ≤ never
      own = own_most u (all_among Calm vs calm.1 u (chosen vs u e).on_the_card)

      urgent : more_urgent v.terms u.terms ≡ true
      urgent = chosen-terms (λ d. more_urgent v.terms d ≡ true) vs u ranked.0 e

      apart : u.terms.tunnel ≡ v.terms.tunnel → ⊥
      apart = chosen-terms (λ d. d.tunnel ≡ v.terms.tunnel → ⊥) vs u distinct.0 e

      waits-same : (b : Bool) → cond (b && more_urgent v.terms u.terms) (timer_of (next v)) never ≡ cond b (timer_of (next v)) never
      waits-same true = rw urgent
      waits-same false = refl

      placed-later : (b : Bool) → named u.terms.tunnel v ≡ b
          → suc j + place u.terms.tunnel vs ≡ j + cond b 0 (suc (place u.terms.tunnel vs))
      placed-later true f = absurd (apart (sym (eqb-true v.terms.tunnel u.terms.tunnel f)))
      placed-later false f = omega arith

      same : (k : ℕ) {m n : ℕ} → suc j + place u.terms.tunnel vs ≡ k → m ≡ n
          → ◌≡◌ {A = Pick} (record { at = Some (suc j + place u.terms.tunnel vs); usable = amount u.usable; soon = moment m })
          (record { at = Some k; usable = amount u.usable; soon = moment n })
      same k p q = rw (p, q)

pub scan : (T : Tenant → Moment) (s j : ℕ) (vs : List Tenant) → s ≤ never → All Calm vs → All (Heard T) vs
    → Ranked (terms_of vs) → Distinct (terms_of vs)
    → picks (idle_with s) j (map written vs) (map T vs) ≡ pick_for s j vs (choose vs)
scan T s j [] l calm heard ranked distinct = ap idle_with (omega arith)
scan T s j (v ∷ vs) l calm heard ranked distinct =
    go (ready v) refl
    (scan T (min s (waits v)) (suc j) vs (omega arith) calm.1 heard.1 ranked.1 distinct.1)
  where
    first-named : eqb v.terms.tunnel v.terms.tunnel ≡ true
    first-named = eq-eqb v.terms.tunnel v.terms.tunnel refl

    none_at_all : keep (above v) (v ∷ vs) ≡ []
    none_at_all = rw (irreflexive v.terms, and_right v.runnable) (none_before v vs ranked.0)

    alone : timer_of (earliest (times v.boundary ++ nexts [])) ≡ timer_of v.boundary
    alone = omega (arith, early_times v.boundary [] (own_most v calm.0) (omega arith), own_most v calm.0)

    found : record { at = Some j; usable = amount v.usable; soon = moment (min s (timer_of v.boundary)) } ≡ pick_for s j (v ∷ vs) (some v)
    found = rw (first-named, none_at_all) (same (omega arith) (omega (arith, alone)))
      where
        same : {a b m n : ℕ} → a ≡ b → m ≡ n → ◌≡◌ {A = Pick} (record { at = Some a; usable = amount v.usable; soon = moment m })
            (record { at = Some b; usable = amount v.usable; soon = moment n })
        same p q = rw (p, q)

    go : (b : Bool) → ready v ≡ b
        → picks (idle_with (min s (waits v))) (suc j) (map written vs) (map T vs) ≡ pick_for (min s (waits v)) (suc j) vs (choose vs)
        → picks (picked_of (idle_with s) j (written v) (T v)) (suc j) (map written vs) (map T vs)
        ≡ pick_for s j (v ∷ vs) (most_urgent (cond b (v ∷ keep ready vs) (keep ready vs)))
    go true e rec =
        ap (λ (k : Pick). picks k (suc j) (map written vs) (map T vs)) (step-ready T s j v calm.0 heard.0 e)
        ∙ found-stays j (amount v.usable) (moment (min s (timer_of v.boundary))) (suc j) (map written vs) (map T vs)
        ∙ found
        ∙ ap (λ (w : Tenant). pick_for s j (v ∷ vs) (some w)) (sym (first-chosen v vs ranked.0))
    go false e rec =
        ap (λ (k : Pick). picks k (suc j) (map written vs) (map T vs)) (step_waits T s j v calm.0 heard.0 e)
        ∙ rec
        ∙ later-chosen s j v vs calm ranked distinct (choose vs) refl
