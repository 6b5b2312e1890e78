-- A deferrable or polling VCPU, its boundaries and the ticks of its stay, as each step of a call leaves them: what is usable is C less
-- what was held since the latest boundary, or nothing. One law for both kinds, of one VCPU. Assumes nothing.
use mathlib.Core.Path.{◌≡◌, refl, ap, sym, ◌∙◌, subst}
use mathlib.Core.Bool.{Bool, true, false, cond, ◌&&◌}
use mathlib.Core.List.{List, []}
use mathlib.Core.Logic.{inl, inr, ⊎_elim}
use mathlib.Core.Option.{Option, some}
use Prim.Native.Nat.{ℕ, ◌+◌, ◌-◌, ◌≤◌, ◌<◌}
use native.Mathlib.Omega.{arith}
use lib.Dec.{leb}
use lib.ListN.{length}
use borrow.Author.Tests.{lt-ltb, le-ltb}
use Rattle.rules.specs.Vcpu.{Description, Vcpu, leaves, admitted}
use Rattle.rules.specs.Charge.{no_ticks, charged_some, charged}
use Rattle.rules.specs.Change.{set_runnable}
use Rattle.rules.specs.Return.{brought, brought_in, boundary_after, refilled, refill, returned}
use Rattle.rules.specs.History.{ticks, holds}
use Rattle.rules.specs.Stays.{Stay}
use Rattle.rules.specs.Boundaries.{held_between, latest, passes}
use Rattle.rules.proofs.Tests.{tests, clash, cases, and-true, and-false, and_right}
use Rattle.rules.proofs.Lists.{length-ticks}
use Rattle.rules.proofs.ThreeKinds.{not-sporadic, by-polling, leaves-most, leaves_all, leaves_none}
use Rattle.rules.proofs.ThreeKinds.{terms-returned, runnable-returned}
use Rattle.rules.proofs.Sound.{Sound}
use Rattle.rules.proofs.Boundaries.{between-idle, between-held, between_none, between-end, Once, once-held}
use Rattle.rules.proofs.Boundaries.{latest-by, stays-latest, comes-later}
use Rattle.rules.proofs.Budgets.{Marked}
use Rattle.rules.proofs.Advance.{charged_if, stepped, terms-stepped, runnable-stepped}

-- A VCPU of the terms d at `now`, whose latest boundary was `since`, and the ticks that its stay held. `has`: it has its refill, which
-- only a polling one may lack.
pub record Filled (has : Bool) (since now : ℕ) (d : Description) (m : List Bool) (v : Vcpu) : Type 0 where
  pub next : v.boundary ≡ some (since + d.period)
  pub unused : (d.kind ≡ 2 → has ≡ true) → v.usable + held_between since now m ≡ d.capacity
  pub none_left : d.kind ≡ 2 → has ≡ false → v.usable ≡ 0

-- a charge takes the usable ticks, and leaves the boundary and, of these kinds, the empty queue

usable-charged : (last n : ℕ) (v : Vcpu) → (charged last (last + n) v).usable ≡ v.usable - n
unfolding charged
usable-charged last n v = go (no_ticks last (last + n)) refl
  where
    go : (z : Bool) → no_ticks last (last + n) ≡ z → (cond z v (charged_some last (last + n) v)).usable ≡ v.usable - n
    go true z = omega (arith, tests)
    go false z = omega arith

boundary-charged : (last now : ℕ) (v : Vcpu) → (charged last now v).boundary ≡ v.boundary
unfolding charged
boundary-charged last now v = go (no_ticks last now)
  where
    go : (z : Bool) → (cond z v (charged_some last now v)).boundary ≡ v.boundary
    go true = refl
    go false = refl

pending-charged : (last now : ℕ) (v : Vcpu) → (v.terms.kind ≡ 0 → ⊥) → (charged last now v).pending ≡ v.pending
unfolding charged
pending-charged last now v k = go (no_ticks last now)
  where
    go : (z : Bool) → (cond z v (charged_some last now v)).pending ≡ v.pending
    go true = refl
    go false = rw (not-sporadic v.terms k)

-- step 1: the ticks held are no longer usable
filled-charged : (has b : Bool) (since last n : ℕ) (d : Description) (m : List Bool) (v : Vcpu) → since ≤ last → length m ≡ last
    → (b ≡ true → n ≤ v.usable)
    → Filled has since last d m v → Filled has since (last + n) d (ticks n b m) (cond b (charged last (last + n) v) v)
filled-charged has false since last n d m v h l p f =
    let e = between-end since (last + n) last m (omega arith) (omega arith) in
    record {
      next = f.next;
      unused = λ g. omega (arith, f.unused g, between-idle since (last + n) n m);
      none_left = f.none_left;
    }
filled-charged has true since last n d m v h l p f =
    let e = between-end since (last + n) last m (omega arith) (omega arith) in
    let u = usable-charged last n v in
    record {
      next = boundary-charged last (last + n) v ∙ f.next;
      unused = λ g. omega (arith, f.unused g, p refl, between-held since (last + n) n m (omega arith) (omega arith));
      none_left = λ k g. omega (arith, f.none_left k g);
    }

-- step 2: where a boundary passed nothing is held since the latest, and the refill is whole or none
filled-returned : (has : Bool) (s : Stay) (last now : ℕ) (m : List Bool) (v : Vcpu) → 1 ≤ s.terms.period → s.from ≤ last → last ≤ now
    → v.terms ≡ s.terms → v.pending ≡ []
    → (latest s last + s.terms.period ≤ latest s now → held_between (latest s now) now m ≡ 0)
    → Filled has (latest s last) now s.terms m v
    → Filled (cond (passes s last now) v.runnable has) (latest s now) now s.terms m (returned now v)
filled-returned has s last now m v pos began fwd same empty z f =
    subst (λ (o : Option ℕ). Then (refill now o (brought_in now v))) (sym f.next) (⊎_elim due early (cases (leb b now)))
  where
    T : ℕ
    T = s.terms.period

    b : ℕ
    b = latest s last + T

    Then : Vcpu → Type 0
    Then w = Filled (cond (passes s last now) v.runnable has) (latest s now) now s.terms m w

    early : leb b now ≡ false → Then (cond (leb b now) (refilled now b (brought_in now v)) (brought_in now v))
    early e =
        let same-one : latest s now ≡ latest s last = stays-latest s pos last now began fwd (omega (arith, tests)) in
        let none_passes : passes s last now ≡ false = le-ltb (latest s last) (latest s now) (omega arith) in
        let q : brought now v.pending ≡ 0 = ap (brought now) empty in
        rw (e, none_passes, same-one)
        (record { next = f.next; unused = λ g. omega (arith, f.unused g); none_left = λ k g. omega (arith, f.none_left k g) })

    due : leb b now ≡ true → Then (cond (leb b now) (refilled now b (brought_in now v)) (brought_in now v))
    due e =
        let later = comes-later s pos last now began (omega (arith, tests)) in
        let one_passes : passes s last now ≡ true = lt-ltb (latest s last) (latest s now) (omega arith) in
        let full : v.terms.capacity ≡ s.terms.capacity = ap (λ d. d.capacity) same in
        rw (e, one_passes)
        (record {
          next = ap (λ d. some (boundary_after now d.period b)) same ∙ ap some later.1;
          unused = λ g. omega (
            arith,
            z later.0,
            leaves_all v.terms v.runnable v.terms.capacity (λ k. g (ap (λ d. d.kind) (sym same) ∙ k)),
          );
          none_left = λ k g. rw g (leaves_none v.terms v.terms.capacity (ap (λ d. d.kind) same ∙ k));
        })

-- steps 1 and 2
module _ (has : Bool) (s : Stay) (v : Vcpu) (last n : ℕ) (o : Option ℕ) (m : List Bool) (k : Sound last v) (same : v.terms ≡ s.terms)
    (kind : s.terms.kind ≡ 0 → ⊥) (began : s.from ≤ last) (long : length m ≡ last) (f : Filled has (latest s last) last s.terms m v)
    (pace : holds v.terms.tunnel o ≡ true → n ≤ v.usable)
    (own : holds v.terms.tunnel o ≡ true → (b : ℕ) → v.boundary ≡ some b → last + n ≤ b) where
  abbrev now : ℕ
  now = last + n

  pos : 1 ≤ s.terms.period
  pos = omega (arith, k.range.period-low, ap (λ d. d.period) same)

  by : (latest s last ≤ last) × (last < latest s last + s.terms.period)
  by = latest-by s pos last began

  its_queue : (charged_if last now o v).pending ≡ []
  its_queue = go (holds v.terms.tunnel o)
    where
      no : v.terms.kind ≡ 0 → ⊥
      no e = kind (ap (λ d. d.kind) (sym same) ∙ e)

      go : (b : Bool) → (cond b (charged last now v) v).pending ≡ []
      go true = pending-charged last now v no ∙ (k.refills no).0
      go false = (k.refills no).0

  -- the one that holds the core holds it up to its boundary at most
  none-since : latest s last + s.terms.period ≤ latest s now
      → held_between (latest s now) now (ticks n (holds v.terms.tunnel o) m) ≡ 0
  none-since l = go (holds v.terms.tunnel o) refl
    where
      go : (b : Bool) → holds v.terms.tunnel o ≡ b → held_between (latest s now) now (ticks n b m) ≡ 0
      go true e =
          between_none (latest s now) now (ticks n true m) (omega (arith, length-ticks n true m, own e _ f.next))
      go false e = between-idle (latest s now) now n m ∙ between_none (latest s now) now m (omega (arith, by.1))

  pub filled-stepped : Filled (cond (passes s last now) v.runnable has) (latest s now) now s.terms
      (ticks n (holds v.terms.tunnel o) m) (stepped last now o v)
  filled-stepped =
      let w : Vcpu = charged_if last now o v in
      subst (λ (r : Bool). Filled (cond (passes s last now) r has) (latest s now) now s.terms
      (ticks n (holds v.terms.tunnel o) m) (stepped last now o v)) (sym (runnable-returned now w) ∙ runnable-stepped last now o v)
      (filled-returned has s last now (ticks n (holds v.terms.tunnel o) m) w pos began (omega arith)
      (sym (terms-returned now w) ∙ terms-stepped last now o v ∙ same) its_queue none-since
      (filled-charged has (holds v.terms.tunnel o) (latest s last) last n s.terms m v by.0 long pace f))

-- step 3: a call leaves a polling VCPU its ticks only where it leaves it runnable
module _ (has : Bool) (since now : ℕ) (d : Description) (m : List Bool) (v : Vcpu) (same : v.terms ≡ d)
    (polls : v.terms.kind ≡ 2 → v.runnable ≡ false → v.usable ≡ 0) (f : Filled has since now d m v) where
  filled-left : (w : Vcpu) → w.boundary ≡ v.boundary → w.usable ≡ leaves v.terms w.runnable v.usable
      → Filled (has && w.runnable) since now d m w
  filled-left w b u =
      let u' : w.usable ≡ leaves d w.runnable v.usable = u ∙ ap (λ x. leaves x w.runnable v.usable) same in
      record {
        next = b ∙ f.next;
        unused = λ g. omega (
          arith,
          leaves_all d w.runnable v.usable (λ k. (and-true has w.runnable (g k)).1),
          f.unused (λ k. (and-true has w.runnable (g k)).0),
        );
        none_left = λ k g. ⊎_elim (λ e. omega (arith, leaves-most d w.runnable v.usable, f.none_left k e))
            (λ e. u' ∙ rw e (leaves_none d v.usable k)) (and-false has w.runnable g);
      }

  -- one without a mark of its own has no ticks to lose
  leaves_its : v.usable ≡ leaves v.terms v.runnable v.usable
  leaves_its = ⊎_elim on off (cases v.runnable)
    where
      on : v.runnable ≡ true → v.usable ≡ leaves v.terms v.runnable v.usable
      on e = sym (leaves_all v.terms v.runnable v.usable (λ k. e))

      off : v.runnable ≡ false → v.usable ≡ leaves v.terms v.runnable v.usable
      off e = by-polling v.terms (λ k. polls k e ∙ sym (rw e (leaves_none v.terms v.usable k)))
          (λ k. sym (leaves_all v.terms v.runnable v.usable (λ z. absurd (k z))))

  pub filled-marked : (w : Vcpu) → Marked v w → Filled (has && w.runnable) since now d m w
  filled-marked w (inl e) = subst (λ x. Filled (has && x.runnable) since now d m x) (sym e) (filled-left v refl leaves_its)
  filled-marked w (inr k) =
      subst (λ x. Filled (has && x.runnable) since now d m x) (sym k.1) (filled-left (set_runnable k.0 v) refl refl)

-- a newcomer has C usable and holds nothing; a polling one has none
pub filled-new : (has : Bool) (s : Stay) (m : List Bool) → 1 ≤ s.terms.period → (s.terms.kind ≡ 0 → ⊥) → length m ≡ s.from
    → Filled (has && false) (latest s s.from) s.from s.terms m (admitted s.from s.terms)
filled-new has s m pos kind long =
    let by = latest-by s pos s.from (omega arith) in
    let d : Description = s.terms in
    record {
      next = rw (not-sporadic d kind) (ap (λ (n : ℕ). some (n + d.period)) (omega arith));
      unused = λ g. omega (
        arith,
        leaves_all d false d.capacity (λ k. clash (sym (g k) ∙ and_right has)),
        between_none (latest s s.from) s.from m (omega arith),
      );
      none_left = λ k e. leaves_none d d.capacity k;
    }

-- the ticks held are of the refill that it has, and so at most C
pub filled-once : (has : Bool) (s : Stay) (v : Vcpu) (last n : ℕ) (m : List Bool) → 1 ≤ s.terms.period → s.from ≤ last → length m ≡ last
    → Filled has (latest s last) last s.terms m v → n ≤ v.usable → last + n ≤ latest s last + s.terms.period
    → Once m s → Once (ticks n true m) s
filled-once has s v last n m pos began long f pace own once =
    by-polling s.terms (λ k. ⊎_elim (λ e. whole (λ z. e)) (nothing k) (cases has)) (λ k. whole (λ z. absurd (k z)))
  where
    whole : (s.terms.kind ≡ 2 → has ≡ true) → Once (ticks n true m) s
    whole g = once-held s pos n last m long began own (omega (arith, f.unused g)) once

    nothing : s.terms.kind ≡ 2 → has ≡ false → Once (ticks n true m) s
    nothing k e =
        let z : 0 ≡ n = omega (arith, f.none_left k e) in
        subst (λ (j : ℕ). Once (ticks j true m) s) z once
