-- What is written is shown again: entries, a tenant of each kind, the tenants of a table. A tenant without a boundary is written as its
-- queue. Assumes nothing.
use Prim.Native.Nat.{ℕ, zero, suc, ◌≤◌}
use mathlib.Core.Path.{◌≡◌, refl, ap, sym, ◌∙◌}
use mathlib.Core.Bool.{Bool, true, false, cond}
use mathlib.Core.List.{List, [], ◌∷◌, ◌++◌, map}
use mathlib.Core.Option.{Option, none, some}
use native.Mathlib.Omega.{arith}
use lib.Dec.{eqb}
use lib.ListN.{length, get_or}
use borrow.Author.Tests.{eqb-true, eqb-false, ne_eqb}
use Rattle.units.specs.Units.{moment, amount}
use Rattle.units.specs.declared.Moment.{Moment}
use Rattle.units.specs.declared.Amount.{Amount}
use Rattle.units.specs.declared.Tunnel.{Tunnel}
use Rattle.rules.specs.Lists.{All}
use Rattle.rules.specs.Vcpu.{Entry, leaves, times, comes}
use Rattle.rules.specs.Vcpu.{Description as Terms}
use Rattle.rules.specs.Vcpu.{Vcpu as Tenant}
use Rattle.rules.proofs.Tests.{clash}
use Rattle.turns.specs.declared.Kind.{Kind}
use Rattle.turns.specs.declared.Kind.TheVariants.{Sporadic, Deferrable, Polling}
use Rattle.turns.specs.declared.Vcpu.{Vcpu}
use Rattle.turns.specs.Laid.{laid}
use Rattle.turns.specs.Written.{never, amount_of, tunnel_of, paper_kind, kind_as, boundary_at, written, entries, shown, tenants}
use Rattle.turns.specs.Tenants.{Formed, queue, refills, Shows}
use Rattle.turns.specs.Steps.{has_queue, left_of, boundary_in, queue_as}

-- the tenant under another identifier
abbrev pub under : ℕ → Tenant → Tenant
under t v = record v { terms = record v.terms { tunnel = t } }

-- the kind that has a number: its queue, what is left of its ticks, and the number again
pub kind-queue : (n : ℕ) → has_queue (kind_as n) ≡ eqb n 0
kind-queue n = go (eqb n 0) (eqb n 2)
  where
    go : (s p : Bool) → has_queue (cond s Sporadic (cond p Polling Deferrable)) ≡ s
    go true p = refl
    go false true = refl
    go false false = refl

pub kind-left : (d : Terms) (b : Bool) (n : ℕ) → left_of (kind_as d.kind) b (amount n) ≡ amount (leaves d b n)
kind-left d b n = go (eqb d.kind 0) refl (eqb d.kind 2) refl b
  where
    go : (s : Bool) → eqb d.kind 0 ≡ s → (p : Bool) → eqb d.kind 2 ≡ p → (b : Bool)
        → left_of (kind_as d.kind) b (amount n) ≡ amount (leaves d b n)
    go true e true f b = let g : d.kind ≡ 2 = eqb-true d.kind 2 f in absurd (omega (arith, eqb-true d.kind 0 e))
    go true e false f b = rw (e, f)
    go false e true f true = rw (e, f)
    go false e true f false = rw (e, f)
    go false e false f b = rw (e, f)

kind-again : (n : ℕ) → n ≤ 2 → paper_kind (kind_as n) ≡ n
kind-again n h = go (eqb n 0) refl (eqb n 2) refl
  where
    go : (s : Bool) → eqb n 0 ≡ s → (p : Bool) → eqb n 2 ≡ p → paper_kind (cond s Sporadic (cond p Polling Deferrable)) ≡ n
    go true e p f = sym (eqb-true n 0 e)
    go false e true f = sym (eqb-true n 2 f)
    go false e false f = omega (arith, eqb-false n 0 e, eqb-false n 2 f)

-- a kind without a queue has its boundary in the first slot
pub boundary-first : (k : Kind) (m : Moment) → has_queue k ≡ false → boundary_at k m ≡ some m.0
boundary-first Sporadic m e = clash e
boundary-first Deferrable m e = refl
boundary-first Polling m e = refl

pub boundary-none : (k : Kind) (m : Moment) → has_queue k ≡ true → boundary_at k m ≡ none
boundary-none Sporadic m e = refl
boundary-none Deferrable m e = clash (sym e)
boundary-none Polling m e = clash (sym e)

pub kind-boundary : (n : ℕ) (m : Moment) → boundary_at (kind_as n) m ≡ cond (eqb n 0) none (some m.0)
kind-boundary n m = go (eqb n 0) (kind-queue n)
  where
    go : (b : Bool) → has_queue (kind_as n) ≡ b → boundary_at (kind_as n) m ≡ cond b none (some m.0)
    go true e = boundary-none (kind_as n) m e
    go false e = boundary-first (kind_as n) m e

first_slot : (v : Tenant) (b : ℕ) → v.pending ≡ [] → v.boundary ≡ some b → get_or (laid 8 moment (moment never) (comes v)) 0 (moment 0)
    ≡ moment b
unfolding laid
first_slot v b p e = rw (p, e)

boundary-again : (v : Tenant) → Formed v
    → boundary_at (kind_as v.terms.kind) (get_or (laid 8 moment (moment never) (comes v)) 0 (moment 0)) ≡ v.boundary
boundary-again v (queue k e) =
    boundary-none (kind_as v.terms.kind) _ (kind-queue v.terms.kind ∙ rw k) ∙ sym e
boundary-again v (refills k h p b e) =
    boundary-first (kind_as v.terms.kind) _ (kind-queue v.terms.kind ∙ ne_eqb v.terms.kind 0 k)
    ∙ ap (λ (m : Moment). some m.0) (first_slot v b p e)
    ∙ sym e

pub boundary-written : (v : Tenant) → Formed v → boundary_in (written v) ≡ v.boundary
unfolding written
boundary-written v f = boundary-again v f

kind-high : (v : Tenant) → Formed v → v.terms.kind ≤ 2
kind-high v (queue k e) = omega (arith, k)
kind-high v (refills k h p b e) = h

entries-laid : (y : Moment) (z : Amount) (k : ℕ) (q : List Entry) (o : Option ℕ) → length q ≤ k
    → entries (length q) (laid k moment y (map (λ e. e.due) q ++ times o)) (laid k amount_of z q) ≡ q
unfolding laid
entries-laid y z k [] o h = refl
entries-laid y z zero (e ∷ q) o h = absurd (omega arith)
entries-laid y z (suc k) (e ∷ q) o h = ap (λ (r : List Entry). e ∷ r) (entries-laid y z k q o (omega arith))

pub shown-written : (t : Tunnel) (v : Tenant) → Shows v → shown t (written v) ≡ under t.0 v
unfolding shown written
shown-written t v h =
    same (paper_kind (kind_as v.terms.kind)) (entries (length v.pending) (laid 8 moment (moment never) (comes v))
    (laid 8 amount_of (amount 0) v.pending))
    (boundary_at (kind_as v.terms.kind) (get_or (laid 8 moment (moment never) (comes v)) 0 (moment 0)))
    (kind-again v.terms.kind (kind-high v h.1)) (entries-laid (moment never) (amount 0) 8 v.pending v.boundary h.0)
    (boundary-again v h.1)
  where
    same : (k : ℕ) (q : List Entry) (o : Option ℕ) → k ≡ v.terms.kind → q ≡ v.pending → o ≡ v.boundary
        → record {
          terms = record {
            tunnel = t.0;
            period = v.terms.period;
            capacity = v.terms.capacity;
            priority = v.terms.priority;
            kind = k;
          };
          runnable = v.runnable;
          usable = v.usable;
          ended = v.ended;
          pending = q;
          boundary = o;
          pending_total = v.pending_total;
          held_total = v.held_total;
        } ≡ under t.0 v
    same k q o a b c = rw (a, b, c)

pub tenants-laid : (y : Tunnel) (z : Vcpu) (k : ℕ) (vs : List Tenant) → length vs ≤ k → All Shows vs
    → tenants (length vs) (laid k tunnel_of y vs) (laid k written z vs) ≡ vs
unfolding laid
tenants-laid y z k [] h g = refl
tenants-laid y z zero (v ∷ vs) h g = absurd (omega arith)
tenants-laid y z (suc k) (v ∷ vs) h g =
    ap (λ (w : Tenant). w ∷ tenants (length vs) (laid k tunnel_of y vs) (laid k written z vs)) (shown-written (tunnel_of v) v g.0)
    ∙ ap (λ (r : List Tenant). v ∷ r) (tenants-laid y z k vs (omega arith) g.1)

-- the record whose queue is q
abbrev pub due_of : Entry → Moment
due_of e = moment e.due

abbrev pub with_queue : Tenant → List Entry → Vcpu
with_queue v q = queue_as (written v) (laid 8 due_of (moment never) q) (laid 8 amount_of (amount 0) q) (length q)

dues_laid : (k : ℕ) (q : List Entry) → laid k moment (moment never) (map (λ e. e.due) q ++ []) ≡ laid k due_of (moment never) q
unfolding laid
dues_laid zero q = refl
dues_laid (suc k) [] = ap (λ (l : List Moment). moment never ∷ l) (dues_laid k [])
dues_laid (suc k) (e ∷ q) = ap (λ (l : List Moment). due_of e ∷ l) (dues_laid k q)

pub as-queue : (v : Tenant) → v.boundary ≡ none → written v ≡ with_queue v v.pending
unfolding written
as-queue v e =
    ap (λ (ds : List Moment). queue_as (written v) ds (laid 8 amount_of (amount 0) v.pending) (length v.pending))
    (ap (λ (o : Option ℕ). laid 8 moment (moment never) (map (λ f. f.due) v.pending ++ times o)) e ∙ dues_laid 8 v.pending)
