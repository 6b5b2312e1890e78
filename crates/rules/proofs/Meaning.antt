-- Steps 4 and 5 and the numbers of the card, as facts of the card after any calls from the empty card.
-- Assumes nothing.
use mathlib.Core.Path.{◌≡◌, refl, ap, sym, ◌∙◌, subst}
use mathlib.Core.Bool.{Bool, true, false, ◌&&◌}
use mathlib.Core.List.{List, [], ◌∷◌}
use mathlib.Core.Logic.{inl, ⊎_elim}
use mathlib.Core.Option.{Option, none, some}
use Prim.Native.Nat.{ℕ, suc, ◌+◌, ◌≤◌}
use native.Mathlib.Omega.{arith}
use lib.Dec.{ltb}
use borrow.Author.Tests.{ltb-true, ltb-false, eq-eqb}
use Rattle.rules.specs.Limits.{largest_time, most_vcpus}
use Rattle.rules.specs.Lists.{count, All, Among}
use Rattle.rules.specs.Vcpu.{Entry, Vcpu, named}
use Rattle.rules.specs.Remember.{remembers}
use Rattle.rules.specs.Card.{Card, find}
use Rattle.rules.specs.Choose.{ready, choose, runs, usable_of}
use Rattle.rules.specs.Timer.{earliest, nexts, runnable, timer}
use Rattle.rules.specs.Refuse.{Refusal, refusal}
use Rattle.rules.specs.Turn.{Call, turn, settled}
use Rattle.rules.specs.Meaning.{MayRun, Comes, return, boundary, Next, NoneBefore, Runnable, TimerWhile, Sorted}
use Rattle.rules.specs.Meaning.{Keeps, sporadic, refilled, Meaning}
use Rattle.rules.specs.History.{after, heard, past}
use Rattle.rules.specs.Stays.{stays}
use Rattle.rules.proofs.Tests.{clash, no-some, cases}
use Rattle.rules.proofs.FirstFrom.{first-from, none_from, from, walk-there, walk-all, walk-rises}
use Rattle.rules.proofs.Named.{named-says, is-named, named_itself, on_card_says, is_on_card, found, find-there}
use Rattle.rules.proofs.Lists.{all_imp, all_both, keeps-none, only_one, count_among, count_most}
use Rattle.rules.proofs.Choice.{chosen, idle, nobody, only, is-ready}
use Rattle.rules.proofs.Timer.{in_idle, no_return, while_running}
use Rattle.rules.proofs.Queue.{total, Rising}
use Rattle.rules.proofs.ThreeKinds.{one_of_three, by_kind}
use Rattle.rules.proofs.Sound.{Sound}
use Rattle.rules.proofs.Accepted.{passed, Settled, runs_on_card}
use Rattle.rules.proofs.Memory.{Memory, time_of_lem}
use Rattle.rules.proofs.Reached.{Reached, reached, card-refused, card-accepted}

time-high : (calls : List Call) → (after calls).last ≤ largest_time
unfolding settled
time-high [] = omega arith
time-high (call ∷ calls) = go (refusal (after calls) call.now call.asked) refl (time-high calls)
  where
    go : (o : Option Refusal) → refusal (after calls) call.now call.asked ≡ o → (after calls).last ≤ largest_time
        → (turn (after calls) call).card.last ≤ largest_time
    go (some r) e ih = rw (card-refused (after calls) call r e) ih
    go none e ih = rw (card-accepted (after calls) call e) (passed (after calls) call.now call.asked e).not-above

not-ready : (v : Vcpu) → ready v ≡ false → v.runnable ≡ true → v.usable ≡ 0
not-ready v e r =
    ⊎_elim (λ z. clash (sym (is-ready v r (ltb-true 0 v.usable z)) ∙ e)) (λ z. omega (arith, ltb-false 0 v.usable z))
    (cases (ltb 0 v.usable))

unready : (v : Vcpu) → (v.runnable ≡ true → v.usable ≡ 0) → ready v ≡ false
unready v f = go v.runnable refl
  where
    go : (b : Bool) → v.runnable ≡ b → b && ltb 0 v.usable ≡ false
    go true e = rw (f e)
    go false e = refl

pub rising-all : (low high : ℕ) (q : List Entry) → Rising low high q → All (λ e. low ≤ e.due) q
rising-all low high [] r = tt
rising-all low high (e ∷ q) r = (r.0, all_imp (λ f h. omega (arith, r.0)) q (rising-all e.due high q r.2))

rising-sorted : (low high : ℕ) (q : List Entry) → Rising low high q → Sorted q
rising-sorted low high [] r = tt
rising-sorted low high (e ∷ q) r = (rising-all e.due high q r.2, rising-sorted e.due high q r.2)

-- a VCPU without usable ticks has something to come: of a sporadic one all of its C ticks are pending, the others have a boundary
comes-again : (last : ℕ) (v : Vcpu) → Sound last v → v.usable ≡ 0 → ((u : ℕ) → Comes v u → ⊥) → ⊥
comes-again last v k z n = by_kind v.terms (λ e. pends v.pending refl (k.sporadic e).1) (λ e. bounded (k.refills e))
  where
    pends : (q : List Entry) → v.pending ≡ q → v.usable + total q ≡ v.terms.capacity → ⊥
    pends [] e w = omega (arith, k.range.capacity-low)
    pends (a ∷ q) e w = n a.due (return a (rw e (inl refl)))

    bounded : (v.pending ≡ []) × (v.ended ≡ 0) × (b : ℕ) × (v.boundary ≡ some b) × (suc last ≤ b) × (b ≤ last + v.terms.period) → ⊥
    bounded p = n p.2 (boundary p.2 p.3)

keeps_so : (last : ℕ) (v : Vcpu) → Sound last v → Keeps last v
keeps_so last v k =
    by_kind v.terms (λ e. sporadic e (k.sporadic e).0 (k.sporadic e).1)
    (λ n. let p = k.refills n in
    refilled n p.2 p.3 (omega (arith, p.4)) p.5 p.0 p.1 (omega (arith, k.most)))

module _ (c : Card) (s : Settled c) (once : (t : ℕ) → count (named t) c.vcpus ≤ 1) (sound : All (Sound c.last) c.vcpus) where
  same-one : (v w : Vcpu) → Among v c.vcpus → Among w c.vcpus → v.terms.tunnel ≡ w.terms.tunnel → v ≡ w
  same-one v w m n e =
      only_one (named w.terms.tunnel) c.vcpus (once w.terms.tunnel) v w m n (is-named w.terms.tunnel v e)
      (named_itself w)

  runs_it : (v : Vcpu) → MayRun c.vcpus v → c.running ≡ some v.terms.tunnel
  runs_it v f = s.runs-chosen ∙ ap runs (only c.vcpus once v f)

  it_may_run : (v : Vcpu) → Among v c.vcpus → c.running ≡ some v.terms.tunnel → MayRun c.vcpus v
  it_may_run v m e = go (choose c.vcpus) refl (sym s.runs-chosen ∙ e)
    where
      go : (o : Option Vcpu) → choose c.vcpus ≡ o → runs o ≡ some v.terms.tunnel → MayRun c.vcpus v
      go none f g = no-some g
      go (some w) f g =
          let h = chosen c.vcpus w f in
          let q : w.terms.tunnel ≡ v.terms.tunnel = cc in
          subst (λ (x : Vcpu). MayRun c.vcpus x) (same-one w v h.on_the_card m q) h

  its_timer : (v : Vcpu) → MayRun c.vcpus v → (t : ℕ) × (c.timer ≡ some t) × TimerWhile c.last c.vcpus v t
  its_timer v f =
      let r = while_running c.last c.vcpus v in
      (r.0, s.timer-set ∙ ap (timer c.last c.vcpus) (only c.vcpus once v f) ∙ r.1, r.2)

  idle-chosen : c.running ≡ none → choose c.vcpus ≡ none
  idle-chosen e = go (choose c.vcpus) refl (sym s.runs-chosen ∙ e)
    where
      go : (o : Option Vcpu) → choose c.vcpus ≡ o → runs o ≡ none → choose c.vcpus ≡ none
      go none f g = f
      go (some w) f g = no-some (sym g)

  idle-says : c.running ≡ none → All (λ v. v.runnable ≡ true → v.usable ≡ 0) c.vcpus
  idle-says e = all_imp not-ready c.vcpus (idle c.vcpus (idle-chosen e))

  idle-there : All (λ v. v.runnable ≡ true → v.usable ≡ 0) c.vcpus → c.running ≡ none
  idle-there h = s.runs-chosen ∙ ap runs (nobody c.vcpus (all_imp unready c.vcpus h))

  idle-timer-says : c.running ≡ none → (t : ℕ) → c.timer ≡ some t → Next Runnable c.vcpus t × NoneBefore Runnable c.vcpus t
  idle-timer-says e t f =
      in_idle c.last c.vcpus t (sym (ap (timer c.last c.vcpus) (idle-chosen e)) ∙ sym s.timer-set ∙ f)

  no-timer-says : c.timer ≡ none → All (λ v. v.runnable ≡ false) c.vcpus
  unfolding timer
  no-timer-says e = go (choose c.vcpus) refl (sym s.timer-set ∙ e)
    where
      nothing : (v : Vcpu) → Sound c.last v
          → (v.runnable ≡ true → v.usable ≡ 0) × (v.runnable ≡ true → (u : ℕ) → Comes v u → ⊥) → v.runnable ≡ false
      nothing v k p = ⊎_elim (λ z. absurd (comes-again c.last v k (p.0 z) (p.1 z))) (λ z. z) (cases v.runnable)

      go : (o : Option Vcpu) → choose c.vcpus ≡ o → timer c.last c.vcpus o ≡ none → All (λ v. v.runnable ≡ false) c.vcpus
      go none f g =
          all_both nothing c.vcpus sound
          (all_both (λ v a b. (a, b)) c.vcpus (all_imp not-ready c.vcpus (idle c.vcpus f)) (no_return c.last c.vcpus g))
      go (some w) f g = no-some (sym g)

  no-timer-there : All (λ v. v.runnable ≡ false) c.vcpus → c.timer ≡ none
  unfolding timer
  no-timer-there h =
      let n : choose c.vcpus ≡ none = nobody c.vcpus (all_imp (λ v e. rw e) c.vcpus h) in
      s.timer-set ∙ ap (timer c.last c.vcpus) n ∙ ap (λ (l : List Vcpu). earliest (nexts l)) (keeps-none runnable c.vcpus h)

  find-says : (t : ℕ) (v : Vcpu) → find t c.vcpus ≡ some v → Among v c.vcpus × (v.terms.tunnel ≡ t)
  find-says t v e = let p = found t c.vcpus v e in (p.0, named-says t v p.1)

pub meaning : (calls : List Call) → Meaning (after calls)
meaning calls =
    let c = after calls in
    record {
      runs = λ v. (λ f. (f.on_the_card, runs_it (after calls) s o k v f), λ p. it_may_run (after calls) s o k v p.0 p.1);
      has-timer = its_timer (after calls) s o k;
      idle = (idle-says (after calls) s o k, idle-there (after calls) s o k);
      idle-timer = idle-timer-says (after calls) s o k;
      no-timer = (no-timer-says (after calls) s o k, no-timer-there (after calls) s o k);
      runs_on_card = runs_on_card (after calls) s;
      once = o;
      on_the_card = λ t. (on_card_says (after calls).vcpus t, is_on_card (after calls).vcpus t);
      finds = λ t v. (find-says (after calls) s o k t v, λ p. find-there t (after calls).vcpus (o t) v p.0 p.1);
      reports = λ n v f. ap usable_of (only (after calls).vcpus o v f);
      reports-card = λ n. (refl, refl, refl);
      reports-idle = λ n e. ap usable_of (idle-chosen (after calls) s o k e);
      one_of_three = all_imp (λ v q. one_of_three v.terms q.range.kind-high) (after calls).vcpus k;
      keeps = all_imp (keeps_so (after calls).last) (after calls).vcpus k;
      first-from = λ low t. first-from (after calls).vcpus low t;
      none_from = λ low. none_from (after calls).vcpus low;
      walks = λ t. (
        λ m. (walk-there (after calls).vcpus most_vcpus 0 t m).0,
        λ p. walk-all (after calls).vcpus most_vcpus 0 (omega (arith, (reached calls).lawful.few, count_most (from 0) (after calls).vcpus)) t p
            (omega arith),
      );
      rises = walk-rises (after calls).vcpus most_vcpus 0;
      polling-waits = all_imp (λ v q. q.polls) (after calls).vcpus k;
      sorted = all_imp (λ v q. rising-sorted (suc (after calls).last) ((after calls).last + v.terms.period) v.pending q.order)
          (after calls).vcpus k;
      to_come = all_imp (λ v q. rising-all (suc (after calls).last) ((after calls).last + v.terms.period) v.pending q.order)
          (after calls).vcpus k;
      time-high = time-high calls;
      few-vcpus = r.lawful.few;
      terms_in_range = all_imp (λ v q. q.range) (after calls).vcpus k;
      few-pending = all_imp (λ v q. q.few) (after calls).vcpus k;
      never_both = λ t time p v. omega (
        arith,
        w.apart t,
        count_among (named t) (after calls).vcpus v.0 v.1 (is-named t v.0 v.2),
        count_among (remembers t) (after calls).remembered p.0 p.1 (eq-eqb p.0.tunnel t p.2),
      );
      remembered-once = remembered-once;
      few-together = w.few;
      remembered_time = λ t. time_of_lem t (after calls).remembered (remembered-once t);
      remembered-range = w.range;
    }
  where
    r : Reached (after calls) (stays (heard calls)) (past (heard calls))
    r = reached calls

    s : Settled (after calls)
    s = r.settled

    o : (t : ℕ) → count (named t) (after calls).vcpus ≤ 1
    o = r.lawful.once

    k : All (Sound (after calls).last) (after calls).vcpus
    k = r.lawful.sound

    w : Memory (after calls).last (after calls).vcpus (after calls).remembered
    w = r.memory

    remembered-once : (t : ℕ) → count (remembers t) (after calls).remembered ≤ 1
    remembered-once t = omega (arith, w.apart t)
