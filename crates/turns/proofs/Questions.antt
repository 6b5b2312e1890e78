-- The two questions: what is known of a VCPU by its identifier, and the card's status. Assumes nothing.
use Prim.Native.Nat.{ℕ, ◌≤◌, ◌<◌}
use mathlib.Core.Path.{◌≡◌, refl, ap, sym, ◌∙◌}
use mathlib.Core.Bool.{Bool, true, false, cond, ◌||◌}
use mathlib.Core.List.{List, [], ◌∷◌}
use mathlib.Core.Option.{Option, none, some}
use native.Mathlib.Omega.{arith}
use lib.Dec.{eqb}
use lib.ListN.{length, get_or}
use borrow.Author.Tests.{ne_eqb, le-ltb}
use Rattle.std.specs.Prelude.{Option as Opt, Some, None, position}
use Rattle.units.specs.Units.{moment, amount, total, tunnel}
use Rattle.units.specs.declared.Moment.{Moment}
use Rattle.units.specs.declared.Tunnel.{Tunnel}
use Rattle.rules.specs.Lists.{All}
use Rattle.rules.specs.Limits.{largest_tunnel}
use Rattle.rules.specs.Vcpu.{named}
use Rattle.rules.specs.Vcpu.{Vcpu as Tenant}
use Rattle.rules.specs.Remember.{time_of}
use Rattle.rules.specs.Card.{on_card, find}
use Rattle.rules.proofs.Lists.{all_imp}
use Rattle.rules.proofs.Tests.{clash}
use Rattle.turns.specs.declared.Kind.{Kind}
use Rattle.turns.specs.declared.Kind.TheVariants.{Sporadic, Deferrable, Polling}
use Rattle.turns.specs.declared.Vcpu.{Vcpu}
use Rattle.turns.specs.declared.Core.TheInside.{Inside}
use Rattle.turns.specs.Written.{nobody, tunnel_of, written, no_tenant, card, place, running_at, boundary_at, number_in, moment_in}
use Rattle.turns.specs.Places.{seek, on_table}
use Rattle.turns.specs.Steps.{has_queue, head_of, boundary_in, boundary_held}
use Rattle.turns.specs.Tenants.{Formed, holder_of}
use Rattle.turns.specs.Calls.{looked, boundary_of}
use Rattle.turns.proofs.Invariant.{SoundCore, between, means, orderly-formed}
use Rattle.turns.proofs.Laid.{laid-get, laid-length}
use Rattle.turns.proofs.Shift.{seek_found}
use Rattle.turns.proofs.Places.{place-there, find-there}
use Rattle.turns.proofs.Written.{boundary-written}
use Rattle.turns.proofs.Ranked.{all-get}
use Rattle.turns.proofs.Rows.{at_place, found}
use Rattle.turns.proofs.Stage.{places_are, ids_are}

on_wide : (t : ℕ) (vs : List Tenant) → largest_tunnel < t → All (λ v. v.terms.tunnel ≤ largest_tunnel) vs → on_card t vs ≡ false
on_wide t [] h g = refl
on_wide t (v ∷ vs) h g = rw (ne_eqb v.terms.tunnel t (omega (arith, g.0))) (on_wide t vs h g.1)

find_absent : (t : ℕ) (vs : List Tenant) → on_card t vs ≡ false → find t vs ≡ none
find_absent t [] e = refl
find_absent t (v ∷ vs) e = go (named t v) e (find_absent t vs)
  where
    go : (b : Bool) → b || on_card t vs ≡ false → (on_card t vs ≡ false → find t vs ≡ none) → cond b (some v) (find t vs) ≡ none
    go true f rec = clash f
    go false f rec = rec f

-- what a look answers: whether the identifier is on the card, the record, and the next boundary
pub record Sought (c : Inside) (t : ℕ) (there : Bool) (v : Vcpu) (next : Opt Moment) : Type 0 where
  pub present : there ≡ on_card t (card c).vcpus
  pub is : v ≡ looked (find t (card c).vcpus)
  pub boundary : moment_in next ≡ boundary_of (find t (card c).vcpus)

held-boundary : (v : Vcpu) → moment_in (boundary_held v) ≡ boundary_in v
held-boundary v = go v.kind
  where
    go : (k : Kind) → moment_in (cond (has_queue k) None (Some (moment (head_of v)))) ≡ boundary_at k (moment (head_of v))
    go Sporadic = refl
    go Deferrable = refl
    go Polling = refl

module _ (c : Inside) (r : SoundCore c) (t : ℕ) where
  abbrev vs : List Tenant
  vs = (card c).vcpus

  absent : on_card t vs ≡ false → Sought c t false (written no_tenant) None
  absent e =
      let f : none ≡ find t vs = sym (find_absent t vs e) in
      record { present = sym e; is = ap looked f; boundary = ap boundary_of f }

  pub wide_sought : largest_tunnel < t → Sought c t false (written no_tenant) None
  wide_sought h = absent (on_wide t vs h (all_imp (λ v g. g.range.tunnel-high) vs (between c r).each))

  module _ (h : t ≤ largest_tunnel) where
    -- the place that a search finds
    abbrev at : Opt ℕ
    at = on_table (seek t c.table.ids)

    sought : (b : Bool) → on_card t vs ≡ b → on_table (seek t c.table.ids) ≡ at_place b (place t vs)
    sought b e = ap (λ (i : List Tunnel). on_table (seek t i)) (ids_are c r) ∙ found vs (between c r).few t b (le-ltb largest_tunnel t h) e

    pub there-sought : (i : ℕ) (z : Vcpu) → on_table (seek t c.table.ids) ≡ Some i
        → Sought c t true (get_or c.table.places i z) (boundary_held (get_or c.table.places i z))
    there-sought i z g = go (on_card t vs) refl
      where
        go : (b : Bool) → on_card t (card c).vcpus ≡ b
            → Sought c t true (get_or c.table.places i z) (boundary_held (get_or c.table.places i z))
        go true e =
            let v : Tenant = get_or vs (place t vs) no_tenant in
            let k : Some i ≡ Some (place t vs) = sym g ∙ sought true e in
            let n : i ≡ place t vs = cc in
            let there : get_or c.table.places i z ≡ written v =
            ap (λ (i : ℕ). get_or c.table.places i z) n
            ∙ ap (λ (p : List Vcpu). get_or p (place t vs) z) (places_are c r)
            ∙ laid-get written (written no_tenant) 32 vs (place t vs) no_tenant z (place-there t vs e) (between c r).few in
            record {
              present = sym e;
              is = there ∙ ap looked (sym (find-there t vs e));
              boundary =
                  held-boundary (get_or c.table.places i z)
                  ∙ ap boundary_in there
                  ∙ boundary-written v
                  (all-get Formed vs (place t vs) no_tenant
                  (all_imp (λ w s. orderly-formed _ _ _ w s) vs (between c r).each) (place-there t vs e))
                  ∙ ap boundary_of (sym (find-there t vs e));
            }
        go false e = let k : None ≡ Some i = sym (sought false e) ∙ g in let n : ◌≡◌ {A = ℕ} 0 1 = cc in absurd (omega arith)

    -- who is there is not remembered
    pub there-known : (i : ℕ) → on_table (seek t c.table.ids) ≡ Some i → none ≡ time_of t (card c).remembered
    there-known i g = go (time_of t (card c).remembered) refl (on_card t vs) refl
      where
        go : (o : Option ℕ) → time_of t (card c).remembered ≡ o → (b : Bool) → on_card t (card c).vcpus ≡ b → none ≡ o
        go none f b e = refl
        go (some u) f true e = absurd ((means c r).never_both t u (((means c r).remembered_time t u).0 f) (((means c r).on_the_card t).0 e))
        go (some u) f false e = let k : None ≡ Some i = sym (sought false e) ∙ g in let n : ◌≡◌ {A = ℕ} 0 1 = cc in absurd (omega arith)

    pub absent-sought : on_table (seek t c.table.ids) ≡ None → Sought c t false (written no_tenant) None
    absent-sought g = go (on_card t vs) refl
      where
        go : (b : Bool) → on_card t (card c).vcpus ≡ b → Sought c t false (written no_tenant) None
        go true e = let k : Some (place t vs) ≡ None = sym (sought true e) ∙ g in let n : ◌≡◌ {A = ℕ} 0 1 = cc in absurd (omega arith)
        go false e = absent e

-- what the search finds is the place sought
pub sought-at : (c : Inside) → SoundCore c → (t : ℕ)
    → position (λ (x : Tunnel). eqb x.0 t) c.table.ids ≡ on_table (seek t c.table.ids)
sought-at c r t = seek_found t c.table.ids (ap length (ids_are c r) ∙ laid-length tunnel_of (tunnel nobody) 32 (card c).vcpus)

-- who holds the core, on paper
pub holder-paper : (c : Inside) → SoundCore c → number_in (holder_of c.table.ids c.running) ≡ (card c).running
unfolding card
holder-paper c r = go c.running
  where
    go : (o : Opt ℕ) → number_in (holder_of c.table.ids o) ≡ running_at o c.table.ids
    go None = refl
    go (Some i) = refl

-- what a read of a place past the end would give
abbrev pub unread : Vcpu
unread =
    record {
      due = [];
      ended = moment 0;
      held = total 0;
      amount = [];
      period = amount 0;
      capacity = amount 0;
      usable = amount 0;
      pending = amount 0;
      priority = 0;
      runnable = false;
      count = 0;
      kind = Sporadic;
    }
