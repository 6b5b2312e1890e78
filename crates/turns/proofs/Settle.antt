-- The end of an accepted call: what the scan found is written as the rules' card and said as the rules' report, and what is
-- written is shown again. Assumes nothing.
use Prim.Native.Nat.{ℕ, suc, ◌+◌, ◌≤◌, ◌<◌, min}
use mathlib.Core.Path.{◌≡◌, refl, ap, sym, ◌∙◌, subst}
use mathlib.Core.Bool.{true}
use mathlib.Core.List.{List, [], ◌∷◌, ◌++◌, map}
use mathlib.Core.Option.{Option, none, some}
use native.Mathlib.Omega.{arith}
use lib.ListN.{length, take}
use Rattle.units.specs.Units.{moment, amount, tunnel, total}
use Rattle.units.specs.declared.Moment.{Moment}
use Rattle.units.specs.declared.Tunnel.{Tunnel}
use Rattle.rules.specs.Lists.{keep, All}
use Rattle.rules.specs.Limits.{largest_time, largest_period}
use Rattle.rules.specs.Vcpu.{Entry, times, comes}
use Rattle.rules.specs.Vcpu.{Vcpu as Tenant}
use Rattle.rules.specs.Card.{Card, empty}
use Rattle.rules.specs.Choose.{ready, choose, runs, usable_of}
use Rattle.rules.specs.Timer.{earlier, earliest, next, nexts, runnable, above, timer}
use Rattle.rules.specs.Remember.{Remembered}
use Rattle.rules.specs.Turn.{settled, report}
use Rattle.units.specs.declared.Amount.{Amount}
use Rattle.units.specs.declared.Total.{Total}
use Rattle.turns.specs.declared.Report.{Report}
use Rattle.turns.specs.declared.Roster.{Roster}
use Rattle.rules.specs.Meaning.{Comes, return, boundary}
use Rattle.rules.proofs.Tests.{no-some}
use Rattle.rules.proofs.Lists.{all_imp, all_both, all_among}
use Rattle.rules.proofs.Queue.{Rising, rising_wide}
use Rattle.rules.proofs.Sound.{Sound}
use Rattle.rules.proofs.Timer.{in_idle, while_running}
use Rattle.turns.specs.declared.Vcpu.{Vcpu}
use Rattle.turns.specs.declared.Memory.{Memory}
use Rattle.turns.specs.declared.Core.TheInside.{Inside}
use Rattle.turns.specs.declared.Pick.{Pick}
use Rattle.std.specs.Prelude.{Option as Opt, Some}
use Rattle.turns.specs.Written.{never, nobody, tunnel_of, written, no_tenant, card, core_of, table_of, place, place_of, timer_of}
use Rattle.turns.specs.Written.{timer_at, running_at, tenants, memories, memory_of, places_of, ids_of, moment_in, moment_said, number_said}
use Rattle.turns.proofs.Invariant.{Between, orderly-formed}
use Rattle.turns.specs.Laid.{laid}
use Rattle.turns.specs.Tenants.{Formed, queue, refills, Filled, IsPlace, holder_of, picks, nobody_ready, soonest, timer_for}
use Rattle.turns.specs.Calls.{report_said}
use Rattle.turns.proofs.Laid.{laid-get, laid-front}
use Rattle.turns.proofs.Written.{tenants-laid}
use Rattle.turns.proofs.Ranked.{all-get}
use Rattle.turns.proofs.Choose.{Rises, Calm, next-head, nexts-most, pick_for, scan}
use Rattle.turns.proofs.Remembered.{memory-shown, time-back}
use Rattle.turns.proofs.Stage.{all_show, all_fit, At, chosen_at}

rising-below : (low high : ℕ) (q : List Entry) → Rising low high q → All (λ e. e.due ≤ high) q
rising-below low high [] h = tt
rising-below low high (e ∷ q) h = (h.1, rising-below e.due high q h.2)

rising-rises : (low high : ℕ) (q : List Entry) → low ≤ never → high ≤ never → Rising low high q → Rises low (map (λ e. e.due) q ++ [])
rising-rises low high [] l m h = l
rising-rises low high (e ∷ q) l m h = (h.0, rising-rises e.due high q (omega (arith, h.1)) m h.2)

-- what comes to a tenant between calls stands in order, and comes within one period
module _ (now : ℕ) (v : Tenant) (l : now ≤ largest_time) (s : Sound now v) where
  formed : Formed v
  formed = orderly-formed (suc now) (now + v.terms.period) now v s

  pub calm-one : Calm v
  calm-one = record { rises = go formed; formed = formed }
    where
      go : Formed v → Rises 0 (comes v)
      go (queue k e) =
          subst (λ (o : Option ℕ). Rises 0 (map (λ f. f.due) v.pending ++ times o)) (sym e)
          (rising-rises 0 (now + v.terms.period) v.pending (omega arith) (omega (arith, s.range.period-high))
          (rising_wide (suc now) (now + v.terms.period) 0 (now + v.terms.period) v.pending (omega arith) (omega arith) s.order))
      go (refills k h p b e) =
          let r = s.refills k in
          rw (p, r.3) (omega arith, omega (arith, r.5, s.range.period-high))

  comes-below : (t : ℕ) → Comes v t → t ≤ now + v.terms.period
  comes-below t (return e m) =
      all_among (λ f. f.due ≤ now + v.terms.period) v.pending
      (rising-below (suc now) (now + v.terms.period) v.pending s.order) e m
  comes-below t (boundary b e) = go formed
    where
      go : Formed v → b ≤ now + v.terms.period
      go (queue k n) = no-some (sym n ∙ e)
      go (refills k h p c f) =
          let r = s.refills k in
          let x : some r.2 ≡ some b = sym r.3 ∙ e in
          let y : r.2 ≡ b = cc in
          omega (arith, r.5)

calm : (now : ℕ) (vs : List Tenant) → now ≤ largest_time → All (Sound now) vs → All Calm vs
calm now vs l = all_imp (λ v s. calm-one now v l s) vs

module _ (now : ℕ) (vs : List Tenant) (l : now ≤ largest_time) (r : Between now vs) where
  usable-small : (v : Tenant) → At v vs → v.usable ≤ largest_period
  usable-small v a =
      let s : Sound now v = subst (Sound now) a.is
      (all-get (Sound now) vs (place v.terms.tunnel vs) no_tenant r.each a.inside) in
      omega (arith, s.most, s.range.capacity-high, s.range.period-high)

  -- the timer stays below the time above all
  timer-below : (t : ℕ) → timer now vs (choose vs) ≡ some t → t < never
  unfolding timer
  timer-below t = go (choose vs) refl
    where
      go : (o : Option Tenant) → choose vs ≡ o → timer now vs o ≡ some t → t < never
      go none e f =
          let n = (in_idle now vs t f).0 in
          let s : Sound now n.who = all_among (Sound now) vs r.each n.who n.on_the_card in
          omega (arith, comes-below now n.who l s t n.comes, s.range.period-high)
      go (some v) e f =
          let a : At v vs = chosen_at ready vs v r.distinct e in
          let w = while_running now vs v in
          let p : some w.0 ≡ some t = sym w.1 ∙ f in
          let g : w.0 ≡ t = cc in
          omega (arith, w.2.in_time, usable-small v a)

  timer_back : timer_at (timer_of (timer now vs (choose vs))) ≡ timer now vs (choose vs)
  timer_back = time-back (timer now vs (choose vs)) (λ t e. timer-below t e)

  moments-back : (o : Option ℕ) → moment_in (moment_said o) ≡ o
  moments-back none = refl
  moments-back (some t) = refl

  running-back : running_at (place_of (runs (choose vs)) vs) (ids_of vs) ≡ runs (choose vs)
  running-back = go (choose vs) refl
    where
      go : (o : Option Tenant) → choose vs ≡ o → running_at (place_of (runs o) vs) (ids_of vs) ≡ runs o
      go none e = refl
      go (some v) e =
          let a : At v vs = chosen_at ready vs v r.distinct e in
          ap (λ (x : Tunnel). some x.0) (laid-get tunnel_of (tunnel nobody) 32 vs (place v.terms.tunnel vs) no_tenant (tunnel nobody)
          a.inside r.few) ∙ ap (λ (x : Tenant). some x.terms.tunnel) a.is

  -- what is written is shown again
  pub shown-again : (rs : List Remembered) (g i : ℕ) → length rs ≤ 32
      → card (core_of (settled now vs rs g i)) ≡ settled now vs rs g i
  unfolding card core_of settled
  shown-again rs g i few =
      same (running_at (place_of (runs (choose vs)) vs) (ids_of vs)) (moment_in (moment_said (timer now vs (choose vs))))
      (tenants (length vs) (ids_of vs) (places_of vs)) (memories (memory_of rs))
      running-back (moments-back (timer now vs (choose vs))) (tenants-laid (tunnel nobody) (written no_tenant) 32 vs r.few (all_show vs (all_fit now vs r.each)))
      (memory-shown rs few)
    where
      asCard : Option ℕ → Option ℕ → List Tenant → List Remembered → Card
      asCard a b c d = record { last = now; running = a; timer = b; vcpus = c; remembered = d; removed = g; idle = i }

      same : (a : Option ℕ) (b : Option ℕ) (c : List Tenant) (d : List Remembered) → a ≡ runs (choose vs) → b ≡ timer now vs (choose vs)
          → c ≡ vs → d ≡ rs
          → asCard a b c d ≡ asCard (runs (choose vs)) (timer now vs (choose vs)) vs rs
      same a b c d p q s t = rw (p, q, s, t)

  seat-found : (pick_for never 0 vs (choose vs)).at ≡ place_of (runs (choose vs)) vs
  seat-found = go (choose vs)
    where
      go : (o : Option Tenant) → (pick_for never 0 vs o).at ≡ place_of (runs o) vs
      go none = refl
      go (some v) = ap Some (omega arith)

  usable-found : (pick_for never 0 vs (choose vs)).usable ≡ amount (usable_of (choose vs))
  usable-found = go (choose vs)
    where
      go : (o : Option Tenant) → (pick_for never 0 vs o).usable ≡ amount (usable_of o)
      go none = refl
      go (some v) = refl

  soon-found : soonest (pick_for never 0 vs (choose vs)).at (moment now) (pick_for never 0 vs (choose vs))
      ≡ timer_of (timer now vs (choose vs))
  unfolding timer
  soon-found = go (choose vs) refl
    where
      go : (o : Option Tenant) → choose vs ≡ o
          → soonest (pick_for never 0 vs o).at (moment now) (pick_for never 0 vs o) ≡ timer_of (timer now vs o)
      go none e = omega (arith, nexts-most runnable vs (calm now vs l r.each))
      go (some v) e =
          let a : At v vs = chosen_at ready vs v r.distinct e in
          omega (
            arith,
            earlier-min (now + v.usable) (earliest (times v.boundary ++ nexts (keep (above v) vs))) (omega (arith, usable-small v a)),
            usable-small v a,
          )
        where
          earlier-min : (b : ℕ) (o : Option ℕ) → b ≤ never → earlier b o ≡ min b (timer_of o)
          earlier-min b none h = omega arith
          earlier-min b (some c) h = refl

  timer-found : timer_for (moment now) (pick_for never 0 vs (choose vs)) ≡ moment_said (timer now vs (choose vs))
  unfolding timer_for
  timer-found = ap (λ (n : ℕ). moment_said (timer_at n)) soon-found ∙ ap moment_said timer_back

  holder-found : holder_of (ids_of vs) (pick_for never 0 vs (choose vs)).at ≡ number_said (runs (choose vs))
  holder-found = ap (holder_of (ids_of vs)) seat-found ∙ go (choose vs) refl
    where
      go : (o : Option Tenant) → choose vs ≡ o → holder_of (ids_of vs) (place_of (runs o) vs) ≡ number_said (runs o)
      go none e = refl
      go (some v) e =
          let a : At v vs = chosen_at ready vs v r.distinct e in
          ap Some (laid-get tunnel_of (tunnel nobody) 32 vs (place v.terms.tunnel vs) no_tenant (tunnel nobody) a.inside r.few
          ∙ ap tunnel_of a.is)

  -- the place found is one of the table
  pub found-place : IsPlace (pick_for never 0 vs (choose vs)).at
  found-place = go (choose vs) refl
    where
      go : (o : Option Tenant) → choose vs ≡ o → IsPlace (pick_for never 0 vs o).at
      go none e = tt
      go (some v) e = let a : At v vs = chosen_at ready vs v r.distinct e in omega (arith, a.inside, r.few)

  module _ (p : List Vcpu) (ids : List Tunnel) (n : ℕ) (f : Filled p ids n vs) where
    -- `T` has the time reported of each, and `ts` these times by their places
    pub pick-found : (T : Tenant → Moment) (ts : List Moment) → ts ≡ laid 32 T (moment never) vs
        → All (λ v. v.runnable ≡ true → T v ≡ moment (timer_of (next v))) vs
        → picks nobody_ready 0 (take n p) (take n ts) ≡ pick_for never 0 vs (choose vs)
    pick-found T ts e h =
        same p (places_of vs) n (length vs) ts (laid 32 T (moment never) vs) f.places f.count e
        ∙ ap (λ (q : List Vcpu). picks nobody_ready 0 q (take (length vs) (laid 32 T (moment never) vs)))
        (laid-front written (written no_tenant) 32 vs r.few)
        ∙ ap (picks nobody_ready 0 (map written vs)) (laid-front T (moment never) 32 vs r.few)
        ∙ scan T never 0 vs (omega arith) calms
        (all_both (λ v c k t. k t ∙ ap moment (sym (next-head v c))) vs calms h) r.ranked r.distinct
      where
        calms : All Calm vs
        calms = calm now vs l r.each

        same : (p q : List Vcpu) (n m : ℕ) (ts us : List Moment) → p ≡ q → n ≡ m → ts ≡ us
            → picks nobody_ready 0 (take n p) (take n ts) ≡ picks nobody_ready 0 (take m q) (take m us)
        same p q n m ts us a b c = rw (a, b, c)

-- what an accepted call leaves in the fields is the rules' card written; `k` is what the scan found
pub core-found : (now : Moment) (vs : List Tenant) → now.0 ≤ largest_time → Between now.0 vs
    → (x : Roster) → Filled x.places x.ids x.n vs → (rs : List Remembered) → x.memory ≡ memory_of rs
    → (gone : ℕ) → x.removed ≡ total gone → (i : Total) (idle : ℕ) → i ≡ total idle
    → (k : Pick) → k ≡ pick_for never 0 vs (choose vs)
    → record { table = x; last = now; timer = timer_for now k; running = k.at; idle = i } ≡ core_of (settled now.0 vs rs gone idle)
unfolding core_of settled
core-found now vs l r x f rs m gone g i idle ie k e =
    same x _ (timer_for now k) _ k.at _ i _ table
    (ap (timer_for now) e ∙ timer-found now.0 vs l r)
    (ap (λ (y : Pick). y.at) e ∙ seat-found now.0 vs l r) ie
  where
    table : x ≡ table_of vs rs gone
    table = written-as x.places _ x.ids _ x.memory _ x.removed _ x.n _ f.places f.tunnels m g f.count
      where
        written-as : (p p' : List Vcpu) (ids ids' : List Tunnel) (y y' : Memory) (g g' : Total) (n n' : ℕ) → p ≡ p' → ids ≡ ids'
            → y ≡ y' → g ≡ g' → n ≡ n'
            → ◌≡◌ {A = Roster} (record { places = p; ids = ids; memory = y; removed = g; n = n })
            (record { places = p'; ids = ids'; memory = y'; removed = g'; n = n' })
        written-as p p' ids ids' y y' g g' n n' a b c d e = rw (a, b, c, d, e)

    same : (x x' : Roster) (t t' : Opt Moment) (a a' : Opt ℕ) (i i' : Total) → x ≡ x' → t ≡ t' → a ≡ a' → i ≡ i'
        → ◌≡◌ {A = Inside} (record { table = x; last = now; timer = t; running = a; idle = i })
        (record { table = x'; last = now; timer = t'; running = a'; idle = i' })
    same x x' t t' a a' i i' p q u v = rw (p, q, u, v)

-- and what it reports, on paper, is the rules' report
pub report-found : (now : Moment) (vs : List Tenant) → now.0 ≤ largest_time → Between now.0 vs
    → (ids : List Tunnel) → ids ≡ ids_of vs → (rs : List Remembered) (gone idle : ℕ)
    → (k : Pick) → k ≡ pick_for never 0 vs (choose vs) → (brought : ℕ)
    → report_said (report brought (settled now.0 vs rs gone idle))
    ≡ record { time = now; run = holder_of ids k.at; usable = k.usable; timer = timer_for now k; brought = amount brought }
unfolding settled
report-found now vs l r ids i rs gone idle k e brought =
    same _ _ _ _ _ _
    (sym (ap (λ (y : List Tunnel). holder_of y k.at) i ∙ ap (λ (y : Pick). holder_of (ids_of vs) y.at) e ∙ holder-found now.0 vs l r))
    (sym (ap (λ (y : Pick). y.usable) e ∙ usable-found now.0 vs l r))
    (sym (ap (timer_for now) e ∙ timer-found now.0 vs l r))
  where
    same : (h h' : Opt Tunnel) (u u' : Amount) (t t' : Opt Moment) → h ≡ h' → u ≡ u' → t ≡ t'
        → ◌≡◌ {A = Report} (record { time = now; run = h; usable = u; timer = t; brought = amount brought })
        (record { time = now; run = h'; usable = u'; timer = t'; brought = amount brought })
    same h h' u u' t t' p q v = rw (p, q, v)

-- the empty card
empty-between : Between 0 []
empty-between = record { few = omega arith; each = tt; distinct = tt; ranked = tt }

pub empty-shown : card (core_of empty) ≡ empty
unfolding settled timer
empty-shown = shown-again 0 [] (omega arith) empty-between [] 0 0 (omega arith)
