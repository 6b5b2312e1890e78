-- After any calls the stored totals are those of the history: a VCPU's held total the ticks of its stay, the removed one those of the
-- stays that have ended, the idle one the ticks that nobody held; and all together they are the time. Assumes nothing.
use mathlib.Core.Path.{◌≡◌, refl, ap, sym, ◌∙◌, subst}
use mathlib.Core.Bool.{Bool, true, false, cond, not, ◌&&◌}
use mathlib.Core.List.{List, [], ◌∷◌, map}
use mathlib.Core.Option.{Option, none, some}
use Prim.Native.Nat.{ℕ, zero, suc, ◌+◌, ◌-◌, ◌≤◌}
use native.Mathlib.Omega.{arith}
use lib.Dec.{eqb}
use lib.ListN.{length}
use borrow.Author.Tests.{eqb-true}
use Rattle.rules.specs.Lists.{keep, count, sum, All, Among}
use Rattle.rules.specs.Vcpu.{Vcpu, admitted, more_urgent, named}
use Rattle.rules.specs.Card.{Card, find, to_named}
use Rattle.rules.specs.Charge.{charged}
use Rattle.rules.specs.Change.{Change, admit, wake, block, remove, tick, placed, set_runnable, change}
use Rattle.rules.specs.Ledger.{idled, held_of, handed_over}
use Rattle.rules.specs.Refuse.{Refusal, refusal}
use Rattle.rules.specs.Turn.{Call, settled, after_return, accepted}
use Rattle.rules.specs.History.{after, heard, time, past, ticks, holds, is_idle, idle_ticks}
use Rattle.rules.specs.Stays.{Stay, lasts, lasts_as, with_end, stays, change_stays, held, held_ticks}
use Rattle.rules.specs.Accounts.{has_ended, all_held, Totals}
use Rattle.rules.proofs.Tests.{and-true}
use Rattle.rules.proofs.Named.{named-says, found, not_found}
use Rattle.rules.proofs.Lists.{all_imp, all_among, among_all, count_among, count_none}
use Rattle.rules.proofs.Lists.{sum-map, sum-without, sum-none, sum_one, sum_same, sum_both}
use Rattle.rules.proofs.ThreeKinds.{held-returned}
use Rattle.rules.proofs.Accepted.{Passed, passed}
use Rattle.rules.proofs.Held.{Dated, held_more, held-end, held_off}
use Rattle.rules.proofs.Lawful.{Pair, Paired, Lawful}
use Rattle.rules.proofs.Advance.{charged_if, stepped, each-stepped, held-charged}
use Rattle.rules.proofs.Reached.{Reached, reached, returned-lawful, there, told-by-card}
use Rattle.rules.proofs.Reached.{card-refused, card-accepted, reply-refused, reply-accepted}

-- the ticks of the stays that have ended
abbrev ended : List (Option ℕ) → List Stay → ℕ
ended h ss = sum (λ s. held_ticks (held s h)) (keep has_ended ss)

-- the two totals beside the VCPUs, and the sum of all
record Kept (c : Card) (ss : List Stay) (h : List (Option ℕ)) : Type 0 where
  removed : c.removed ≡ ended h ss
  idle : c.idle ≡ idle_ticks h
  add-up : all_held c.vcpus + c.removed + c.idle ≡ c.last

-- steps 1 and 2: d ticks pass

idle-more : (d : ℕ) (o : Option ℕ) (h : List (Option ℕ)) → idle_ticks (ticks d o h) ≡ cond (is_idle o) d 0 + idle_ticks h
idle-more zero o h = go (is_idle o)
  where
    go : (b : Bool) → idle_ticks h ≡ cond b 0 0 + idle_ticks h
    go true = omega arith
    go false = omega arith
idle-more (suc d) o h = go (is_idle o) (idle-more d o h)
  where
    go : (b : Bool) → idle_ticks (ticks d o h) ≡ cond b d 0 + idle_ticks h
        → cond b 1 0 + idle_ticks (ticks d o h) ≡ cond b (suc d) 0 + idle_ticks h
    go true e = omega arith
    go false e = omega arith

pub idled_so : (last now : ℕ) (o : Option ℕ) (h : List (Option ℕ)) → idled last now o (idle_ticks h) ≡ idle_ticks (ticks (now - last) o h)
idled_so last now none h = omega (arith, idle-more (now - last) none h)
idled_so last now (some t) h = omega (arith, idle-more (now - last) (some t) h)

-- who has left holds nothing more
ended-more : (d last : ℕ) (o : Option ℕ) (h : List (Option ℕ)) → last ≤ length h → (ss : List Stay) → All (Dated last) ss
    → ended (ticks d o h) ss ≡ ended h ss
ended-more d last o h n [] g = refl
ended-more d last o h n (s ∷ ss) g = go (lasts s.until) refl (ended-more d last o h n ss g.1)
  where
    go : (b : Bool) → lasts s.until ≡ b → ended (ticks d o h) ss ≡ ended h ss
        → sum (λ s. held_ticks (held s (ticks d o h))) (cond (not b) (s ∷ keep has_ended ss) (keep has_ended ss))
        ≡ sum (λ s. held_ticks (held s h)) (cond (not b) (s ∷ keep has_ended ss) (keep has_ended ss))
    go true e ih = ih
    go false e ih =
        let same : held s (ticks d o h) ≡ ticks d false (held s h) =
        held_more s o last d h g.0 n ∙ ap (λ (b : Bool). ticks d (b && holds s.terms.tunnel o) (held s h)) e in
        omega (arith, ih, ap held_ticks same, held_off d (held s h))

-- each VCPU that held the core has d ticks more
held-stepped : (last d : ℕ) (o : Option ℕ) (v : Vcpu)
    → (stepped last (last + d) o v).held_total ≡ v.held_total + cond (holds v.terms.tunnel o) d 0
held-stepped last d o v = held-returned (last + d) (charged_if last (last + d) o v) ∙ go (holds v.terms.tunnel o)
  where
    go : (b : Bool) → (cond b (charged last (last + d) v) v).held_total ≡ v.held_total + cond b d 0
    go true = held-charged last d v
    go false = omega arith

-- .., and there is one, or none in idle
all-more-by : (c : Card) (d : ℕ) → ((t : ℕ) → c.running ≡ some t → count (named t) c.vcpus ≡ 1)
    → all_held (after_return c (c.last + d)) ≡ all_held c.vcpus + cond (is_idle c.running) 0 d
all-more-by c d there =
    ap all_held (each-stepped c (c.last + d))
    ∙ sum-map (λ v. v.held_total) (stepped c.last (c.last + d) c.running) c.vcpus
    ∙ sum_same (λ v. (stepped c.last (c.last + d) c.running v).held_total)
    (λ v. v.held_total + cond (holds v.terms.tunnel c.running) d 0) c.vcpus
    (among_all _ c.vcpus (λ v m. held-stepped c.last d c.running v))
    ∙ sum_both (λ v. v.held_total) (λ v. cond (holds v.terms.tunnel c.running) d 0) c.vcpus
    ∙ ap (λ (n : ℕ). all_held c.vcpus + n) (go c.running refl)
  where
    go : (o : Option ℕ) → c.running ≡ o → sum (λ v. cond (holds v.terms.tunnel o) d 0) c.vcpus ≡ cond (is_idle o) 0 d
    go none e = sum-none (λ v. false) (λ v. d) c.vcpus (count_none (λ v. false) c.vcpus (among_all _ c.vcpus (λ v m. refl)))
    go (some t) e = sum_one (named t) (λ v. d) d c.vcpus (there t e) (among_all _ c.vcpus (λ v m f. refl))

all_more : (c : Card) (now : ℕ) → c.last ≤ now → ((t : ℕ) → c.running ≡ some t → count (named t) c.vcpus ≡ 1)
    → all_held (after_return c now) ≡ all_held c.vcpus + cond (is_idle c.running) 0 (now - c.last)
all_more c now h there =
    let f : c.last + (now - c.last) ≡ now = omega arith in
    subst (λ (x : ℕ). all_held (after_return c x) ≡ all_held c.vcpus + cond (is_idle c.running) 0 (now - c.last)) f
    (all-more-by c (now - c.last) there)

-- step 3

found-held : (t : ℕ) (vs : List Vcpu) → count (named t) vs ≤ 1 → sum (λ v. cond (named t v) v.held_total 0) vs ≡ held_of (find t vs)
found-held t [] h = refl
found-held t (v ∷ vs) h = go (named t v) h (λ k. found-held t vs k)
  where
    go : (b : Bool) → cond b 1 0 + count (named t) vs ≤ 1
        → (count (named t) vs ≤ 1 → sum (λ v. cond (named t v) v.held_total 0) vs ≡ held_of (find t vs))
        → cond b v.held_total 0 + sum (λ v. cond (named t v) v.held_total 0) vs ≡ held_of (cond b (some v) (find t vs))
    go true k ih = omega (arith, sum-none (named t) (λ v. v.held_total) vs (omega arith))
    go false k ih = omega (arith, ih (omega arith))

held-placed : (v : Vcpu) (vs : List Vcpu) → all_held (placed v vs) ≡ v.held_total + all_held vs
held-placed v [] = refl
held-placed v (w ∷ vs) = go (more_urgent v.terms w.terms) (held-placed v vs)
  where
    go : (b : Bool) → all_held (placed v vs) ≡ v.held_total + all_held vs
        → all_held (cond b (v ∷ w ∷ vs) (w ∷ placed v vs)) ≡ v.held_total + (w.held_total + all_held vs)
    go true e = refl
    go false e = omega arith

held-marked : (t : ℕ) (mark : Bool) (vs : List Vcpu) → all_held (to_named t (set_runnable mark) vs) ≡ all_held vs
held-marked t mark vs =
    sum-map (λ v. v.held_total) (λ v. cond (named t v) (set_runnable mark v) v) vs
    ∙ sum_same (λ v. (cond (named t v) (set_runnable mark v) v).held_total) (λ v. v.held_total) vs
    (among_all _ vs (λ v m. go v (named t v)))
  where
    go : (v : Vcpu) (b : Bool) → (cond b (set_runnable mark v) v).held_total ≡ v.held_total
    go v true = refl
    go v false = refl

-- what leaves the card with a VCPU goes to those removed, so nothing is lost
all_changed : (now : ℕ) (asked : Change) (vs : List Vcpu) → ((t : ℕ) → count (named t) vs ≤ 1)
    → all_held (change now asked vs) + handed_over asked vs ≡ all_held vs
all_changed now (admit d) vs once = omega (arith, held-placed (admitted now d) vs)
all_changed now (wake t) vs once = omega (arith, held-marked t true vs)
all_changed now (block t) vs once = omega (arith, held-marked t false vs)
all_changed now (remove t) vs once = omega (arith, sum-without (named t) (λ v. v.held_total) vs, found-held t vs (once t))
all_changed now tick vs once = omega arith

module _ (now : ℕ) (vs : List Vcpu) (ss : List Stay) (h : List (Option ℕ)) (l : Lawful now vs ss h) where
  -- the stay that a remove ends adds its ticks to those of the ended ones
  ends-one : (t : ℕ) (ss : List Stay)
      → ended h (map (with_end now t) ss) ≡ ended h ss + sum (λ s. cond (lasts_as t s) (held_ticks (held s h)) 0) ss
  ends-one t [] = refl
  ends-one t (s ∷ ss) = go s.until refl (eqb s.terms.tunnel t) refl (ends-one t ss)
    where
      its : ℕ
      its = held_ticks (held s h)

      same : held_ticks (held (with_end now t s) h) ≡ its
      same = ap held_ticks (held-end now t s h (omega (arith, l.long)))

      Adds : (o : Option ℕ) → Bool → Type 0
      Adds o b =
          sum (λ s. held_ticks (held s h))
          (cond (not (lasts (cond (lasts o && b) (some now) o))) (with_end now t s ∷ keep has_ended (map (with_end now t) ss))
          (keep has_ended (map (with_end now t) ss)))
          ≡ sum (λ s. held_ticks (held s h)) (cond (not (lasts o)) (s ∷ keep has_ended ss) (keep has_ended ss))
          + (cond (lasts o && b) its 0 + sum (λ s. cond (lasts_as t s) (held_ticks (held s h)) 0) ss)

      go : (o : Option ℕ) → s.until ≡ o → (b : Bool) → eqb s.terms.tunnel t ≡ b
          → ended h (map (with_end now t) ss) ≡ ended h ss + sum (λ s. cond (lasts_as t s) (held_ticks (held s h)) 0) ss → Adds o b
      go none e true f ih = omega (arith, same)
      go none e false f ih = omega arith
      go (some r) e b f ih = omega (arith, same)

  -- its VCPU has just these
  its_held : (t : ℕ) (v : Vcpu) → Among v vs → v.terms.tunnel ≡ t
      → All (λ s. lasts_as t s ≡ true → held_ticks (held s h) ≡ v.held_total) ss
  its_held t v m n = among_all _ ss (λ s i e.
      let a = and-true (lasts s.until) (eqb s.terms.tunnel t) e in
      let same : v.terms.tunnel ≡ s.terms.tunnel = n ∙ sym (eqb-true s.terms.tunnel t a.1) in
      sym (all_among (λ v. v.terms.tunnel ≡ s.terms.tunnel → Pair now s v h) vs
      (all_among (Paired now vs h) ss l.paired s i a.0) v m same).held-total)

  ending : (t : ℕ) → sum (λ s. cond (lasts_as t s) (held_ticks (held s h)) 0) ss ≡ held_of (find t vs)
  ending t = go (find t vs) refl
    where
      go : (o : Option Vcpu) → find t vs ≡ o → sum (λ s. cond (lasts_as t s) (held_ticks (held s h)) 0) ss ≡ held_of o
      go none e =
          sum-none (lasts_as t) (λ s. held_ticks (held s h)) ss (l.on_the_card t ∙ count_none (named t) vs (not_found t vs e))
      go (some v) e =
          let p = found t vs v e in
          sum_one (lasts_as t) (λ s. held_ticks (held s h)) v.held_total ss
          (omega (arith, l.on_the_card t, l.once t, count_among (named t) vs v p.0 p.1))
          (its_held t v p.0 (named-says t v p.1))

  ended-changed : (asked : Change) → ended h (change_stays now asked ss) ≡ ended h ss + handed_over asked vs
  ended-changed (admit d) = omega arith
  ended-changed (wake t) = omega arith
  ended-changed (block t) = omega arith
  ended-changed (remove t) = omega (arith, ends-one t ss, ending t)
  ended-changed tick = omega arith

-- an accepted call
next : (c : Card) (ss : List Stay) (h : List (Option ℕ)) (call : Call) → Reached c ss h → refusal c call.now call.asked ≡ none
    → Kept c ss h → Kept (accepted c call) (change_stays call.now call.asked ss) (ticks (call.now - c.last) c.running h)
unfolding settled
next c ss h call r e k =
    let p = passed c call.now call.asked e in
    let l = returned-lawful c ss h call r p in
    let n = ended-changed call.now (after_return c call.now) ss (ticks (call.now - c.last) c.running h) l call.asked in
    let m = ended-more (call.now - c.last) c.last c.running h (omega (arith, r.lawful.long)) ss r.lawful.dated in
    record {
      removed = omega (arith, n, m, k.removed);
      idle = ap (idled c.last call.now c.running) k.idle ∙ idled_so c.last call.now c.running h;
      add-up = adds p (all_changed call.now call.asked (after_return c call.now) l.once);
    }
  where
    adds : Passed c call.now call.asked
        → all_held (change call.now call.asked (after_return c call.now)) + handed_over call.asked (after_return c call.now)
        ≡ all_held (after_return c call.now)
        → all_held (change call.now call.asked (after_return c call.now))
        + (c.removed + handed_over call.asked (after_return c call.now))
        + idled c.last call.now c.running c.idle ≡ call.now
    adds p a = go c.running (all_more c call.now p.not-before (there c ss h r))
      where
        go : (o : Option ℕ) → all_held (after_return c call.now) ≡ all_held c.vcpus + cond (is_idle o) 0 (call.now - c.last)
            → all_held (change call.now call.asked (after_return c call.now))
            + (c.removed + handed_over call.asked (after_return c call.now)) + idled c.last call.now o c.idle ≡ call.now
        go none b = omega (arith, a, k.add-up, p.not-before)
        go (some t) b = omega (arith, a, k.add-up, p.not-before)

kept_so : (calls : List Call) → Kept (after calls) (stays (heard calls)) (past (heard calls))
unfolding settled
kept_so [] = record { removed = refl; idle = refl; add-up = refl }
kept_so (call ∷ calls) = go (refusal (after calls) call.now call.asked) refl (kept_so calls)
  where
    go : (o : Option Refusal) → refusal (after calls) call.now call.asked ≡ o
        → Kept (after calls) (stays (heard calls)) (past (heard calls))
        → Kept (after (call ∷ calls)) (stays (heard (call ∷ calls))) (past (heard (call ∷ calls)))
    go (some r) e ih =
        let z : time (heard calls) - time (heard calls) ≡ 0 = omega arith in
        rw (reply-refused (after calls) call r e, card-refused (after calls) call r e, z) ih
    go none e ih =
        rw (reply-accepted (after calls) call e, card-accepted (after calls) call e, (told-by-card calls).0, (told-by-card calls).1)
        (next (after calls) (stays (heard calls)) (past (heard calls)) call (reached calls) e ih)

-- after steps 1 and 2 the ticks held, with those of removed tenants, are no more than have passed; nor are the idle ones
pub held-within : (calls : List Call) (call : Call) → Passed (after calls) call.now call.asked
    → all_held (after_return (after calls) call.now) + (after calls).removed ≤ call.now
held-within calls call p =
    go (is_idle (after calls).running)
    (all_more (after calls) call.now p.not-before (there (after calls) (stays (heard calls)) (past (heard calls)) (reached calls)))
  where
    go : (i : Bool) → all_held (after_return (after calls) call.now)
        ≡ all_held (after calls).vcpus + cond i 0 (call.now - (after calls).last)
        → all_held (after_return (after calls) call.now) + (after calls).removed ≤ call.now
    go true b = omega (arith, (kept_so calls).add-up, p.not-before)
    go false b = omega (arith, (kept_so calls).add-up, p.not-before)

pub idle-within : (calls : List Call) → (after calls).idle ≤ (after calls).last
idle-within calls = omega (arith, (kept_so calls).add-up)

pub totals : (calls : List Call) → Totals calls
totals calls =
    let l = (reached calls).lawful in
    let k = kept_so calls in
    record {
      pending = all_imp (λ v q. q.adds) (after calls).vcpus l.sound;
      whole = all_imp (λ v q e. omega (arith, q.adds, (q.sporadic e).1)) (after calls).vcpus l.sound;
      held = all_imp (λ s p u. all_imp (λ v q e. (q e).held-total) (after calls).vcpus (p u)) (stays (heard calls)) l.paired;
      removed = k.removed;
      idle = k.idle;
      add-up = k.add-up;
    }
