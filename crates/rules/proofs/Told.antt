-- The reported times: of each VCPU that step 3 leaves runnable the time reported is the next at which something comes to it, so the
-- timer worked out from the reported times is the timer of step 5; and it reads no time of a record (`told-alone`). Assumes of the VCPUs
-- that no identifier stands twice.
use mathlib.Core.Path.{◌≡◌, refl, ap, sym, ◌∙◌}
use mathlib.Core.Bool.{Bool, true, false, cond}
use mathlib.Core.List.{List, [], ◌∷◌, map}
use mathlib.Core.Logic.{inl, inr, ⊎_elim}
use mathlib.Core.Option.{Option, none, some}
use Prim.Native.Nat.{ℕ, ◌≤◌}
use native.Mathlib.Omega.{arith}
use Rattle.rules.specs.Lists.{keep, count, All, Among}
use Rattle.rules.specs.Vcpu.{Vcpu, named, more_urgent}
use Rattle.rules.specs.Return.{returned, bring}
use Rattle.rules.specs.Change.{Change, admit, wake, block, remove, tick, change}
use Rattle.rules.specs.Choose.{choose}
use Rattle.rules.specs.Timer.{earliest, next, nexts, runnable, above, timer}
use Rattle.rules.specs.Rows.{AdmitOf}
use Rattle.rules.specs.Told.{Told, tell, time_told, times_told, boundary_told, timer_told}
use Rattle.rules.proofs.Tests.{and-true, clash}
use Rattle.rules.proofs.Lists.{all_among, among_all, among_map, only_one}
use Rattle.rules.proofs.Named.{named-says, is-named, not_named}
use Rattle.rules.proofs.ThreeKinds.{is-sporadic, not-sporadic, by_kind, terms-returned}
use Rattle.rules.proofs.Sound.{Sound}
use Rattle.rules.proofs.Choice.{chosen}
use Rattle.rules.proofs.Changed.{among_placed}
use Rattle.rules.proofs.Budgets.{Marked, known}

-- what is reported of `u`, after the charge, is found by its identifier
pub told_of : (now : ℕ) (us : List Vcpu) → ((t : ℕ) → count (named t) us ≤ 1) → (u : Vcpu) → Among u us → (w : Vcpu)
    → w.terms.tunnel ≡ u.terms.tunnel → time_told (tell now us) w ≡ next (returned now u)
told_of now [] once u m w e = elim m [ ]
told_of now (x ∷ us) once u m w e = go (named x.terms.tunnel w) refl m (λ k. told_of now us (λ t. omega (arith, once t)) u k w e)
  where
    go : (b : Bool) → named x.terms.tunnel w ≡ b → Among u (x ∷ us) → (Among u us → time_told (tell now us) w ≡ next (returned now u))
        → cond b (next (returned now x)) (time_told (tell now us) w) ≡ next (returned now u)
    go true f k rec =
        let t : w.terms.tunnel ≡ x.terms.tunnel = named-says x.terms.tunnel w f in
        ap (λ (y : Vcpu). next (returned now y))
        (only_one (named w.terms.tunnel) (x ∷ us) (once w.terms.tunnel) x u (inl refl) k
        (is-named w.terms.tunnel x (sym t)) (is-named w.terms.tunnel u (sym e)))
    go false f (inl k) rec =
        clash (sym (is-named x.terms.tunnel w (e ∙ ap (λ (y : Vcpu). y.terms.tunnel) k)) ∙ f)
    go false f (inr k) rec = rec k

-- and of one with another identifier there is none
pub none_told : (now : ℕ) (us : List Vcpu) (w : Vcpu) → All (λ u. u.terms.tunnel ≡ w.terms.tunnel → ⊥) us
    → time_told (tell now us) w ≡ none
none_told now [] w h = refl
none_told now (x ∷ us) w h = rw (not_named x.terms.tunnel w (λ e. h.0 (sym e))) (none_told now us w h.1)

-- a mark does not change when something comes
next-marked : (v w : Vcpu) → Marked v w → (next w ≡ next v) × (w.terms ≡ v.terms)
next-marked v w (inl e) = (ap next e, ap (λ (x : Vcpu). x.terms) e)
next-marked v w (inr p) = (ap next p.1, ap (λ (x : Vcpu). x.terms) p.1)

abbrev admits : Change → Bool
admits (admit d) = true
admits (wake t) = false
admits (block t) = false
admits (remove t) = false
admits tick = false

not-admit : (asked : Change) (t : ℕ) → admits asked ≡ false → AdmitOf asked t → ⊥
not-admit asked t e f = clash (sym (ap admits f.1) ∙ e)

-- whom step 3 leaves runnable was there before it
was-before : (now : ℕ) (asked : Change) (vs : List Vcpu) (w : Vcpu) → Among w (change now asked vs) → w.runnable ≡ true
    → (v : Vcpu) × Among v vs × Marked v w
was-before now (admit d) vs w m r =
    ⊎_elim (λ e. clash (sym r ∙ ap (λ (x : Vcpu). x.runnable) e)) (λ k. (w, k, inl refl)) (among_placed _ vs w m)
was-before now (wake t) vs w m r = known now (wake t) vs w m (not-admit (wake t) _ refl)
was-before now (block t) vs w m r = known now (block t) vs w m (not-admit (block t) _ refl)
was-before now (remove t) vs w m r = known now (remove t) vs w m (not-admit (remove t) _ refl)
was-before now tick vs w m r = (w, m, inl refl)

-- the times reported of those that are runnable after step 3; `us` are the VCPUs after the charge
pub told-next : (now : ℕ) (us : List Vcpu) (asked : Change) → ((t : ℕ) → count (named t) us ≤ 1)
    → All (λ w. w.runnable ≡ true → time_told (tell now us) w ≡ next w) (change now asked (bring now us))
told-next now us asked once =
    among_all (λ w. w.runnable ≡ true → time_told (tell now us) w ≡ next w) (change now asked (bring now us))
    (λ w m r. let p = was-before now asked (bring now us) w m r in
    let q = among_map (returned now) us p.0 p.1 in
    let k = next-marked p.0 w p.2 in
    let e : w.terms ≡ q.0.terms = k.1 ∙ ap (λ (x : Vcpu). x.terms) q.2 ∙ terms-returned now q.0 in
    told_of now us once q.0 q.1 w (ap (λ d. d.tunnel) e) ∙ ap next (sym q.2) ∙ sym k.0)

module _ (ts : List Told) where
  -- of those that pass a test that only runnable ones pass
  times-same : (test : Vcpu → Bool) → ((w : Vcpu) → test w ≡ true → w.runnable ≡ true) → (vs : List Vcpu)
      → All (λ w. w.runnable ≡ true → time_told ts w ≡ next w) vs → times_told ts (keep test vs) ≡ nexts (keep test vs)
  times-same test says [] h = refl
  times-same test says (v ∷ vs) h = go (test v) refl (times-same test says vs h.1)
    where
      go : (b : Bool) → test v ≡ b → times_told ts (keep test vs) ≡ nexts (keep test vs)
          → times_told ts (cond b (v ∷ keep test vs) (keep test vs)) ≡ nexts (cond b (v ∷ keep test vs) (keep test vs))
      go true e rec = rw (h.0 (says v e), rec)
      go false e rec = rec

  boundary-same : (now : ℕ) (v : Vcpu) → Sound now v → time_told ts v ≡ next v → boundary_told ts v ≡ v.boundary
  boundary-same now v s e =
      by_kind v.terms (λ k. rw (is-sporadic v.terms k) (sym (s.sporadic k).0))
      (λ n. rw (not-sporadic v.terms n) (e ∙ its_own n))
    where
      its_own : (v.terms.kind ≡ 0 → ⊥) → next v ≡ v.boundary
      its_own n = let r = s.refills n in rw (r.0, r.3)

  -- "the timer is worked out from the reported times"
  pub timer-from-told : (now : ℕ) (vs : List Vcpu) → All (Sound now) vs → All (λ w. w.runnable ≡ true → time_told ts w ≡ next w) vs
      → timer_told now ts vs (choose vs) ≡ timer now vs (choose vs)
  unfolding timer_told timer
  timer-from-told now vs s h = go (choose vs) refl
    where
      go : (o : Option Vcpu) → choose vs ≡ o → timer_told now ts vs o ≡ timer now vs o
      go none e = ap earliest (times-same runnable (λ w r. r) vs h)
      go (some v) e =
          let m = chosen vs v e in
          let b : boundary_told ts v ≡ v.boundary =
          boundary-same now v (all_among (Sound now) vs s v m.on_the_card)
          (all_among (λ w. w.runnable ≡ true → time_told ts w ≡ next w) vs h v m.on_the_card m.runnable) in
          rw (b, times-same (above v) (λ w r. (and-true w.runnable (more_urgent w.terms v.terms) r).0) vs h)

-- the timer from the reported times reads no time of a record: where the records have none it is the same
abbrev pub erased : Vcpu → Vcpu
erased v =
    record {
      terms = v.terms;
      runnable = v.runnable;
      usable = v.usable;
      ended = v.ended;
      pending = [];
      boundary = none;
      pending_total = v.pending_total;
      held_total = v.held_total;
    }

abbrev pub erased_of : Option Vcpu → Option Vcpu
erased_of none = none
erased_of (some v) = some (erased v)

module _ (ts : List Told) where
  time-erased : (us : List Told) (v : Vcpu) → time_told us (erased v) ≡ time_told us v
  time-erased [] v = refl
  time-erased (t ∷ us) v = ap (cond (named t.who v) t.next) (time-erased us v)

  times-erased : (f g : Vcpu → Bool) → ((w : Vcpu) → f (erased w) ≡ g w) → (vs : List Vcpu)
      → times_told ts (keep f (map erased vs)) ≡ times_told ts (keep g vs)
  times-erased f g same [] = refl
  times-erased f g same (v ∷ vs) = rw (same v) (go (g v) (times-erased f g same vs))
    where
      go : (b : Bool) → times_told ts (keep f (map erased vs)) ≡ times_told ts (keep g vs)
          → times_told ts (cond b (erased v ∷ keep f (map erased vs)) (keep f (map erased vs)))
          ≡ times_told ts (cond b (v ∷ keep g vs) (keep g vs))
      go true rec = rw (time-erased ts v, rec)
      go false rec = rec

  pub told-alone : (now : ℕ) (vs : List Vcpu) (o : Option Vcpu) → timer_told now ts (map erased vs) (erased_of o) ≡ timer_told now ts vs o
  unfolding timer_told
  told-alone now vs none = ap earliest (times-erased runnable runnable (λ w. refl) vs)
  told-alone now vs (some v) = rw (time-erased ts v, times-erased (above (erased v)) (above v) (λ w. refl) vs)
