-- Step 5 means what it says, of every kind: the timer is the earliest of the moments that it names, each of them is named, and there
-- is none where nothing is named. One law over what comes to a VCPU (`comes`, `next`). Assumes nothing.
use mathlib.Core.Path.{◌≡◌, refl, sym, subst}
use mathlib.Core.Bool.{Bool, true, false}
use mathlib.Core.List.{List, [], ◌∷◌, ◌++◌, map}
use mathlib.Core.Logic.{◌⊎◌, inl, inr, ⊎_elim}
use mathlib.Core.Option.{Option, none, some}
use Prim.Native.Nat.{ℕ, ◌+◌, ◌<◌, ◌≤◌, min}
use native.Mathlib.Omega.{arith}
use Rattle.rules.specs.Lists.{keep, All, Among}
use Rattle.rules.specs.Vcpu.{Entry, Vcpu, more_urgent, times, comes}
use Rattle.rules.specs.Timer.{earlier, earliest, next, nexts, runnable, above, timer}
use lib.Dec.{leb}
use Rattle.rules.specs.Meaning.{Comes, return, boundary, Next, NoneBefore, Runnable, Above, TimerWhile}
use borrow.Author.Tests.{leb-true, leb-false}
use Rattle.rules.proofs.Tests.{no-some, cases, and-true}
use Rattle.rules.proofs.Lists.{all_imp, all_among, among_map, map_among, among_append, append_among, among_keep, all-kept}
use Rattle.rules.proofs.Urgency.{before, urgent}

earliest-none : (ts : List ℕ) → earliest ts ≡ none → ts ≡ []
earliest-none [] e = refl
earliest-none (u ∷ ts) e = no-some (sym e)

earliest-says : (ts : List ℕ) (t : ℕ) → earliest ts ≡ some t → Among t ts × All (λ u. t ≤ u) ts
earliest-says [] t e = no-some e
earliest-says (u ∷ ts) t e = go (earliest ts) (λ w. earliest-says ts w) (earliest-none ts) e
  where
    go : (o : Option ℕ) → ((w : ℕ) → o ≡ some w → Among w ts × All (λ x. w ≤ x) ts) → (o ≡ none → ts ≡ [])
        → some (earlier u o) ≡ some t → Among t (u ∷ ts) × All (λ x. t ≤ x) (u ∷ ts)
    go none ih n f =
        let g : u ≡ t = cc in
        (inl (sym g), (omega arith, subst (λ (k : List ℕ). All (λ x. t ≤ x) k) (sym (n refl)) tt))
    go (some w) ih n f = ⊎_elim left right (cases (leb u w))
      where
        g : min u w ≡ t
        g = cc

        left : leb u w ≡ true → Among t (u ∷ ts) × All (λ x. t ≤ x) (u ∷ ts)
        left q =
            let h : u ≤ w = leb-true u w q in
            let m : t ≡ u = omega (arith, g) in
            (inl m, (omega arith, all_imp (λ x k. omega arith) ts (ih w refl).1))

        right : leb u w ≡ false → Among t (u ∷ ts) × All (λ x. t ≤ x) (u ∷ ts)
        right q =
            let h : w < u = leb-false u w q in
            let m : w ≡ t = omega (arith, g) in
            (inr (subst (λ (z : ℕ). Among z ts) m (ih w refl).0), (omega arith, all_imp (λ x k. omega arith) ts (ih w refl).1))

all_append : {A : Type 0} (P : A → Type 0) (l k : List A) → All P (l ++ k) → All P l × All P k
all_append P [] k h = (tt, h)
all_append P (a ∷ l) k h = ((h.0, (all_append P l k h.1).0), (all_append P l k h.1).1)

among_times : (o : Option ℕ) (t : ℕ) → Among t (times o) → o ≡ some t
among_times none t m = elim m [ ]
among_times (some u) t (inr m) = elim m [ ]
among_times (some u) t (inl e) = rw e

times_among : (o : Option ℕ) (t : ℕ) → o ≡ some t → Among t (times o)
times_among o t e = rw e (inl refl)

-- the rules' times of a VCPU are those at which something comes to it

pub comes-says : (v : Vcpu) (t : ℕ) → Among t (comes v) → Comes v t
comes-says v t m = go (among_append (map (λ e. e.due) v.pending) (times v.boundary) t m)
  where
    go : Among t (map (λ e. e.due) v.pending) ⊎ Among t (times v.boundary) → Comes v t
    go (inl k) =
        let p = among_map (λ (e : Entry). e.due) v.pending t k in
        subst (λ (u : ℕ). Comes v u) (sym p.2) (return p.0 p.1)
    go (inr k) = boundary t (among_times v.boundary t k)

pub is_coming : (v : Vcpu) (t : ℕ) → Comes v t → Among t (comes v)
is_coming v t (return e m) =
    append_among (map (λ f. f.due) v.pending) (times v.boundary) e.due (inl (map_among (λ (f : Entry). f.due) v.pending e m))
is_coming v t (boundary b e) =
    append_among (map (λ f. f.due) v.pending) (times v.boundary) b (inr (times_among v.boundary b e))

-- `next` is the first of them
pub next-says : (v : Vcpu) (t : ℕ) → next v ≡ some t → Comes v t × ((u : ℕ) → Comes v u → t ≤ u)
next-says v t e =
    let p = earliest-says (comes v) t e in
    (comes-says v t p.0, λ u k. all_among (λ x. t ≤ x) (comes v) p.1 u (is_coming v u k))

-- and where there is none, nothing comes
pub next-none : (v : Vcpu) → next v ≡ none → (u : ℕ) → Comes v u → ⊥
next-none v e u k = subst (λ (l : List ℕ). Among u l) (earliest-none (comes v) e) (is_coming v u k)

among_nexts : (l : List Vcpu) (t : ℕ) → Among t (nexts l) → (w : Vcpu) × Among w l × Comes w t
among_nexts [] t m = elim m [ ]
among_nexts (v ∷ l) t m = go (among_append (times (next v)) (nexts l) t m) (λ k. among_nexts l t k)
  where
    go : Among t (times (next v)) ⊎ Among t (nexts l) → (Among t (nexts l) → (w : Vcpu) × Among w l × Comes w t)
        → (w : Vcpu) × Among w (v ∷ l) × Comes w t
    go (inl k) ih = (v, inl refl, (next-says v t (among_times (next v) t k)).0)
    go (inr k) ih = let p = ih k in (p.0, inr p.1, p.2)

-- where the first that comes to a VCPU is not before the moment, nothing that comes to it is
none_before : (v : Vcpu) (t : ℕ) → All (λ x. t ≤ x) (times (next v)) → (u : ℕ) → Comes v u → t ≤ u
none_before v t h u k = go (next v) refl h
  where
    go : (o : Option ℕ) → next v ≡ o → All (λ x. t ≤ x) (times o) → t ≤ u
    go none e f = absurd (next-none v e u k)
    go (some x) e f = omega (arith, f.0, (next-says v x e).1 u k)

all-nexts : (l : List Vcpu) (t : ℕ) → All (λ x. t ≤ x) (nexts l) → All (λ w. (u : ℕ) → Comes w u → t ≤ u) l
all-nexts [] t h = tt
all-nexts (v ∷ l) t h =
    let p = all_append (λ x. t ≤ x) (times (next v)) (nexts l) h in
    (none_before v t p.0, all-nexts l t p.1)

none-nexts : (l : List Vcpu) → nexts l ≡ [] → All (λ w. (u : ℕ) → Comes w u → ⊥) l
none-nexts [] h = tt
none-nexts (v ∷ l) h = go (next v) refl h (λ e. none-nexts l e)
  where
    go : (o : Option ℕ) → next v ≡ o → times o ++ nexts l ≡ [] → (nexts l ≡ [] → All (λ w. (u : ℕ) → Comes w u → ⊥) l)
        → ((u : ℕ) → Comes v u → ⊥) × All (λ w. (u : ℕ) → Comes w u → ⊥) l
    go none e f ih = (next-none v e, ih f)
    go (some x) e f ih = let z : ◌≡◌ {A = ℕ} 0 1 = cc in absurd (omega arith)

-- of those that pass a test, where the test is the fact that step 5 names
module _ (Such : Vcpu → Type 0) (test : Vcpu → Bool) (says : (w : Vcpu) → test w ≡ true → Such w)
    (is : (w : Vcpu) → Such w → test w ≡ true) (vs : List Vcpu) where
  next_of : (t : ℕ) → Among t (nexts (keep test vs)) → Next Such vs t
  next_of t m =
      let p = among_nexts (keep test vs) t m in
      let q = among_keep test vs p.0 p.1 in
      record { who = p.0; on_the_card = q.0; is_such = says p.0 q.1; comes = p.2 }

  none_before_of : (t : ℕ) → All (λ x. t ≤ x) (nexts (keep test vs)) → NoneBefore Such vs t
  none_before_of t h =
      all_imp (λ w k s. k (is w s)) vs
      (all-kept (λ w. (u : ℕ) → Comes w u → t ≤ u) test vs (all-nexts (keep test vs) t h))

-- "In idle: the earliest pending return of any runnable VCPU", or boundary
pub in_idle : (now : ℕ) (vs : List Vcpu) (t : ℕ) → timer now vs none ≡ some t → Next Runnable vs t × NoneBefore Runnable vs t
unfolding timer
in_idle now vs t e =
    let p = earliest-says (nexts (keep runnable vs)) t e in
    (next_of Runnable runnable (λ w h. h) (λ w h. h) vs t p.0, none_before_of Runnable runnable (λ w h. h) (λ w h. h) vs t p.1)

-- and where idle has no timer nothing comes to any runnable VCPU
pub no_return : (now : ℕ) (vs : List Vcpu) → timer now vs none ≡ none → All (λ w. Runnable w → (u : ℕ) → Comes w u → ⊥) vs
unfolding timer
no_return now vs e =
    all-kept (λ w. (u : ℕ) → Comes w u → ⊥) runnable vs
    (none-nexts (keep runnable vs) (earliest-none (nexts (keep runnable vs)) e))

-- "any runnable VCPU more urgent than it"
above-says : (v w : Vcpu) → above v w ≡ true → Above v w
above-says v w e =
    let p = and-true w.runnable (more_urgent w.terms v.terms) e in
    (p.0, before w.terms v.terms p.1)

is-above : (v w : Vcpu) → Above v w → above v w ≡ true
is-above v w p = rw (p.0, urgent w.terms v.terms p.1)

-- "The earlier of `now` + the chosen one's usable ticks and the earliest pending return of any runnable VCPU more urgent than it.";
-- "and also at the running VCPU's own next boundary"
pub while_running : (now : ℕ) (vs : List Vcpu) (v : Vcpu) → (t : ℕ) × (timer now vs (some v) ≡ some t) × TimerWhile now vs v t
unfolding timer
while_running now vs v = (_, refl, go _ (earliest-says ((now + v.usable) ∷ times v.boundary ++ nexts (keep (above v) vs)) _ refl))
  where
    go : (t : ℕ)
        → Among t ((now + v.usable) ∷ times v.boundary ++ nexts (keep (above v) vs)) ×
        All (λ u. t ≤ u) ((now + v.usable) ∷ times v.boundary ++ nexts (keep (above v) vs))
        → TimerWhile now vs v t
    go t (m, h) =
        let p = all_append (λ u. t ≤ u) (times v.boundary) (nexts (keep (above v) vs)) h.1 in
        record {
          in_time = h.0;
          before_own = λ b e. all_among (λ u. t ≤ u) (times v.boundary) p.0 b (times_among v.boundary b e);
          before-next = none_before_of (Above v) (above v) (above-says v) (is-above v) vs t p.1;
          one_of_them = ⊎_elim inl (λ k. inr (named k)) m;
        }
      where
        named : Among t (times v.boundary ++ nexts (keep (above v) vs)) → (v.boundary ≡ some t) ⊎ Next (Above v) vs t
        named k =
            ⊎_elim (λ n. inl (among_times v.boundary t n)) (λ n. inr (next_of (Above v) (above v) (above-says v) (is-above v) vs t n))
            (among_append (times v.boundary) (nexts (keep (above v) vs)) t k)
