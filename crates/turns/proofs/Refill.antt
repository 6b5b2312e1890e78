-- Boundaries on a written record: the moment that the code steps to by one division is the rules' next boundary, the refill is the
-- written refill, and a newcomer's record has its first boundary. Assumes nothing.
use Prim.Native.Nat.{ℕ, ◌+◌, ◌-◌, ◌/◌, ◌≤◌, ◌<◌}
use mathlib.Core.Path.{◌≡◌, ap, sym, ◌∙◌, subst}
use mathlib.Core.Bool.{false}
use mathlib.Core.List.{List, [], ◌∷◌}
use mathlib.Core.Option.{Option, some}
use native.Mathlib.Nat.{div-add-mod', mod-lt, add-mul, one-mul}
use native.Mathlib.Omega.{arith}
use lib.ListN.{get_or}
use borrow.Author.Tests.{le-leb}
use Rattle.units.specs.Units.{moment, amount, later}
use Rattle.units.specs.declared.Moment.{Moment}
use Rattle.units.specs.declared.Amount.{Amount}
use Rattle.rules.specs.Vcpu.{Entry, leaves}
use Rattle.rules.specs.Vcpu.{Vcpu as Tenant}
use Rattle.rules.specs.Return.{boundary_after, refilled, brought_in, returned}
use Rattle.turns.specs.declared.Vcpu.{Vcpu}
use Rattle.turns.specs.Laid.{laid}
use Rattle.turns.specs.Written.{never, written, shown}
use Rattle.turns.specs.Steps.{has_queue, owing_as, head_of, until_next, usable_as, refilled_of, bare, Returnable}
use Rattle.turns.proofs.Written.{kind-left, boundary-first}

next-boundary : (now T b : ℕ) → 1 ≤ T → b ≤ now → now + T < never
    → later (moment now) (until_next (moment b) (moment now) (amount T)) ≡ moment (boundary_after now T b)
next-boundary now T b h k l =
    let e = div-add-mod' (now - b) T in
    let m = mod-lt (now - b) h in
    let p = add-mul ((now - b) / T) 1 T in
    let q = one-mul T in
    ap moment (omega arith)

-- a tenant with that boundary, and no queue
module _ (now b : ℕ) (v : Tenant) (h : 1 ≤ v.terms.period) (k : b ≤ now) (l : now + v.terms.period < never) where
  abbrev bounded : Tenant
  bounded =
      record {
        terms = v.terms;
        runnable = v.runnable;
        usable = v.usable;
        ended = v.ended;
        pending = [];
        boundary = some b;
        pending_total = v.pending_total;
        held_total = v.held_total;
      }

  refilled-bounded : refilled_of (written bounded) (moment now) ≡ written (refilled now b (brought_in now bounded))
  unfolding refilled_of written laid
  refilled-bounded =
      same _ (moment (boundary_after now v.terms.period b)) _ (amount (leaves v.terms v.runnable v.terms.capacity))
      (amount v.pending_total) (amount (v.pending_total - 0)) (next-boundary now v.terms.period b h k l)
      (kind-left v.terms v.runnable v.terms.capacity) (ap amount (omega arith))
    where
      same : (m m' : Moment) (u u' a a' : Amount) → m ≡ m' → u ≡ u' → a ≡ a'
          → owing_as (usable_as (written bounded) (m ∷ laid 7 moment (moment never) []) v.runnable u) a
          ≡ owing_as (usable_as (written bounded) (m' ∷ laid 7 moment (moment never) []) v.runnable u') a'
      same m m' u u' a a' p q r = rw (p, q, r)

  bounded-same : refilled_of (written bounded) (moment now) ≡ written (returned now bounded)
  bounded-same = rw (le-leb b now k) refilled-bounded

refilled_same : (now b : ℕ) (v : Tenant) → v.pending ≡ [] → v.boundary ≡ some b → 1 ≤ v.terms.period → b ≤ now
    → now + v.terms.period < never → refilled_of (written v) (moment now) ≡ written (returned now v)
refilled_same now b v p e h k l =
    subst (λ (x : Tenant). refilled_of (written x) (moment now) ≡ written (returned now x)) (sym (is _ _ p e)) (bounded-same now b v h k l)
  where
    is : (q : List Entry) (o : Option ℕ) → q ≡ [] → o ≡ some b
        → record {
          terms = v.terms;
          runnable = v.runnable;
          usable = v.usable;
          ended = v.ended;
          pending = q;
          boundary = o;
          pending_total = v.pending_total;
          held_total = v.held_total;
        } ≡ bounded now b v h k l
    is q o a c = rw (a, c)

-- what the code does to a returnable record without a queue, where its boundary is due
pub refills_so : (w : Vcpu) (now : Moment) → Returnable w now → has_queue w.kind ≡ false → head_of w ≤ now.0
    → refilled_of w now ≡ written (returned now.0 (bare w))
unfolding shown
refills_so w now r n d =
    ap (λ (x : Vcpu). refilled_of x now) r.written
    ∙ refilled_same now.0 (head_of w) (bare w) (r.no-queue n) (boundary-first w.kind (get_or w.due 0 (moment 0)) n) r.period d
    r.time
