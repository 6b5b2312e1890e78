-- Deferrable and polling stays, after any calls: at most C from one boundary to the next and 2C in any window of T; the VCPU's next
-- boundary and its usable ticks, read off the history. Assumes nothing.
use mathlib.Core.Path.{◌≡◌, refl, ap, sym, ◌∙◌, subst}
use mathlib.Core.Bool.{Bool, true, false, cond, ◌&&◌}
use mathlib.Core.List.{List, [], ◌∷◌, map}
use mathlib.Core.Logic.{⊎_elim}
use mathlib.Core.Option.{Option, none, some}
use Prim.Native.Nat.{ℕ, ◌+◌, ◌-◌, ◌≤◌}
use native.Mathlib.Omega.{arith}
use lib.ListN.{length}
use Rattle.rules.specs.Lists.{All, Among}
use Rattle.rules.specs.Vcpu.{Description, Vcpu, admitted, named}
use Rattle.rules.specs.Remember.{Remembered, kept}
use Rattle.rules.specs.Card.{Card}
use Rattle.rules.specs.Change.{Change, admit, wake, block, remove, tick, placed, change}
use Rattle.rules.specs.Refuse.{Refusal, call_rows, refusal}
use Rattle.rules.specs.Rows.{AdmitOf}
use Rattle.rules.specs.Turn.{Call, after_return, after_change, settled}
use Rattle.rules.specs.Meaning.{Deferrable, Polling}
use Rattle.rules.specs.History.{Exchange, after, heard, time, past, ticks, runnable_after, is_runnable, holds}
use Rattle.rules.specs.Stays.{Stay, lasts, lasts_as, with_end, stays, change_stays, held}
use Rattle.rules.specs.Boundaries.{latest, passes, has_refill}
use Rattle.rules.specs.Demand3.{Refills, AtMostOnce, AtMostTwice, Unused, Polled, NextBoundary, OfItsVcpu}
use Rattle.rules.proofs.Tests.{clash, cases, and-true}
use Rattle.rules.proofs.Lists.{all_imp, all_both, all_map, all_map_among, all_among, among_all, any_false}
use Rattle.rules.proofs.Named.{is-named}
use Rattle.rules.proofs.Sound.{Sound}
use Rattle.rules.proofs.Boundaries.{between_admission, Once, once-idle, twice}
use Rattle.rules.proofs.Accepted.{Passed, passed, Admits, admits}
use Rattle.rules.proofs.Held.{Dated, held_more, held_new, held-end, length-held}
use Rattle.rules.proofs.Lawful.{Pair, Paired, Lawful}
use Rattle.rules.proofs.Reached.{card-refused, card-accepted, reply-refused, reply-accepted}
use Rattle.rules.proofs.Reached.{Reached, reached, pace, own_boundary, there, returned-lawful, told-by-card}
use Rattle.rules.proofs.Runnable.{runnable-told}
use Rattle.rules.proofs.Advance.{stepped, each-stepped, terms-stepped, rows-stepped, its_vcpu}
use Rattle.rules.proofs.Changed.{all_placed, no-stay-so-named}
use Rattle.rules.proofs.Budgets.{Marked, known}
use Rattle.rules.proofs.Filled.{Filled, filled-stepped, filled-marked, filled-new, filled-once}

-- of a stay of these kinds: its bound and, where it lasts, the VCPU on the card that has its identifier
record Fills (has : Vcpu → Bool) (now : ℕ) (vs : List Vcpu) (h : List (Option ℕ)) (s : Stay) : Type 0 where
  once : Once (held s h) s
  filled : lasts s.until ≡ true
      → All (λ v. v.terms.tunnel ≡ s.terms.tunnel → Filled (has v) (latest s now) now s.terms (held s h) v) vs

abbrev Each : (Stay → Vcpu → Bool) → ℕ → List Vcpu → List (Option ℕ) → Stay → Type 0
Each has now vs h s = (s.terms.kind ≡ 0 → ⊥) → Fills (has s) now vs h s

-- step 3
module _ (now : ℕ) (vs : List Vcpu) (rs : List Remembered) (ss : List Stay) (h : List (Option ℕ)) (l : Lawful now vs ss h)
    (has : Stay → Bool) (asked : Change) (e : call_rows vs rs asked ≡ none) where
  not-admitted : (s : Stay) → Among s ss → lasts s.until ≡ true → AdmitOf asked s.terms.tunnel → ⊥
  not-admitted s m u (d, a, t) =
      no-stay-so-named now vs ss h l rs d (admits vs rs d (subst (λ (x : Change). call_rows vs rs x ≡ none) a e)) s m u (sym t)

  -- a stay that was there, and the VCPUs after the change
  goes_on_lem : (s : Stay) → Among s ss → Each (λ s v. has s) now vs h s → Each (λ s w. has s && w.runnable) now (change now asked vs) h s
  goes_on_lem s m q kind = record { once = (q kind).once; filled = λ u. among_all _ (change now asked vs) (filled u) }
    where
      terms-marked : (v w : Vcpu) → Marked v w → w.terms ≡ v.terms
      terms-marked v w k = ⊎_elim (λ z. ap (λ x. x.terms) z) (λ z. ap (λ x. x.terms) z.1) k

      filled : lasts s.until ≡ true → (w : Vcpu) → Among w (change now asked vs) → w.terms.tunnel ≡ s.terms.tunnel
          → Filled (has s && w.runnable) (latest s now) now s.terms (held s h) w
      filled u w i t =
          let k = known now asked vs w i (λ z. not-admitted s m u (z.0, z.1, z.2 ∙ t)) in
          let v : Vcpu = k.0 in
          let t' : v.terms.tunnel ≡ s.terms.tunnel = ap (λ d. d.tunnel) (sym (terms-marked v w k.2)) ∙ t in
          let p = all_among (λ v. v.terms.tunnel ≡ s.terms.tunnel → Pair now s v h) vs
          (all_among (Paired now vs h) ss l.paired s m u) v k.1 t' in
          filled-marked (has s) (latest s now) now s.terms (held s h) v p.same-terms
          (all_among (Sound now) vs l.sound v k.1).polls
          (all_among (λ v. v.terms.tunnel ≡ s.terms.tunnel → Filled (has s) (latest s now) now s.terms (held s h) v) vs
          ((q kind).filled u) v k.1 t') w k.2

  all_go_on : All (Each (λ s v. has s) now vs h) ss → All (Each (λ s w. has s && w.runnable) now (change now asked vs) h) ss
  all_go_on a = among_all _ ss (λ s m. goes_on_lem s m (all_among (Each (λ s v. has s) now vs h) ss a s m))

  begun : (d : Description) → Admits vs rs d → let s : Stay = record { terms = d; from = now; until = none } in
      Each (λ s w. has s && w.runnable) now (placed (admitted now d) vs) h s
  begun d a kind =
      record {
        once = subst (λ (m : List Bool). Once m s) (sym (held_new s h (omega (arith, l.long))))
            (once-idle s (length h) [] (λ k. omega arith));
        filled = λ u. all_placed (λ v. v.terms.tunnel ≡ d.tunnel → Filled (has s && v.runnable) (latest s now) now d (held s h) v)
            (admitted now d) vs (λ t. filled-new (has s) s (held s h) a.range.period-low kind (length-held s h ∙ l.long))
            (all_imp (λ v n t. clash (sym (is-named d.tunnel v t) ∙ n)) vs (any_false (named d.tunnel) vs a.not_there));
      }
    where
      s : Stay
      s = record { terms = d; from = now; until = none }

  -- a stay that ends keeps its bound, and the others are as they were
  ended : (t : ℕ) (s : Stay) → Each (λ s w. has s && w.runnable) now (change now asked vs) h s
      → Each (λ s w. has s && w.runnable) now (change now asked vs) h (with_end now t s)
  ended t s q = ⊎_elim gone other (cases (lasts_as t s))
    where
      After : Stay → Type 0
      After s = Each (λ s w. has s && w.runnable) now (change now asked vs) h s

      other : lasts_as t s ≡ false → After (with_end now t s)
      other f = let same : with_end now t s ≡ s = rw f in subst After (sym same) q

      gone : lasts_as t s ≡ true → After (with_end now t s)
      gone f kind =
          record {
            once = subst (λ (m : List Bool). Once m s) (sym (held-end now t s h (omega (arith, l.long)))) (q kind).once;
            filled = λ u. clash (sym u ∙ ap (λ (b : Bool). lasts (cond b (some now) s.until)) f);
          }

changed-fills : (now : ℕ) (vs : List Vcpu) (rs : List Remembered) (ss : List Stay) (h : List (Option ℕ)) → Lawful now vs ss h
    → (has : Stay → Bool) (asked : Change) → call_rows vs rs asked ≡ none → All (Each (λ s v. has s) now vs h) ss
    → All (Each (λ s w. has s && w.runnable) now (change now asked vs) h) (change_stays now asked ss)
changed-fills now vs rs ss h l has asked e a = go asked e (all_go_on now vs rs ss h l has asked e a)
  where
    go : (asked : Change) → call_rows vs rs asked ≡ none → All (Each (λ s w. has s && w.runnable) now (change now asked vs) h) ss
        → All (Each (λ s w. has s && w.runnable) now (change now asked vs) h) (change_stays now asked ss)
    go (admit d) e b = (begun now vs rs ss h l has (admit d) e d (admits vs rs d e), b)
    go (wake t) e b = b
    go (block t) e b = b
    go (remove t) e b =
        all_map (Each (λ s w. has s && w.runnable) now (change now (remove t) vs) h) (with_end now t)
        (ended now vs rs ss h l has (remove t) e t) ss b
    go tick e b = b

-- who is runnable is told by the history
told-fills : (now : ℕ) (vs : List Vcpu) (ss : List Stay) (h : List (Option ℕ)) (has : Stay → Bool) (mark : ℕ → Bool)
    → All (λ v. v.runnable ≡ mark v.terms.tunnel) vs
    → All (Each (λ s v. has s && v.runnable) now vs h) ss → All (Each (λ s v. has s && mark s.terms.tunnel) now vs h) ss
told-fills now vs ss h has mark b a = all_imp one ss a
  where
    one : (s : Stay) → Each (λ s v. has s && v.runnable) now vs h s → Each (λ s v. has s && mark s.terms.tunnel) now vs h s
    one s q kind =
        record {
          once = (q kind).once;
          filled = λ u. all_both (λ v e f t. subst (λ (x : Bool). Filled (has s && x) (latest s now) now s.terms (held s h) v)
              (e ∙ ap mark t) (f t)) vs b ((q kind).filled u);
        }

-- an accepted call: its steps 1 and 2
module _ (call : Call) (calls : List Call) (e : refusal (after calls) call.now call.asked ≡ none) where
  abbrev c : Card
  c = after calls

  abbrev xs : List Exchange
  xs = heard calls

  abbrev ss : List Stay
  ss = stays xs

  abbrev h : List (Option ℕ)
  h = past xs

  abbrev n : ℕ
  n = call.now - c.last

  r : Reached c ss h
  r = reached calls

  p : Passed c call.now call.asked
  p = passed c call.now call.asked e

  comes : c.last + n ≡ call.now
  comes = omega (arith, p.not-before)

  dated : (s : Stay) → Among s ss → Dated c.last s
  dated s m = all_among (Dated c.last) ss r.lawful.dated s m

  long : (s : Stay) → length (held s h) ≡ c.last
  long s = length-held s h ∙ r.lawful.long

  ticked : (s : Stay) → Among s ss → (b : Bool) → lasts s.until && holds s.terms.tunnel c.running ≡ b
      → held s (ticks n c.running h) ≡ ticks n b (held s h)
  ticked s m b w =
      held_more s c.running c.last n h (dated s m) (omega (arith, r.lawful.long))
      ∙ ap (λ (x : Bool). ticks n x (held s h)) w

  abbrev Has : Stay → Vcpu → Type 0
  Has s v = Filled (has_refill s xs) (latest s c.last) c.last s.terms (held s h) v

  -- whether it has its refill after steps 1 and 2, at a time
  abbrev has_then : ℕ → Stay → Bool
  has_then k s = cond (passes s c.last k) (is_runnable xs s.terms.tunnel) (has_refill s xs)

  abbrev step : Vcpu → Vcpu
  step = stepped c.last (c.last + n) c.running

  -- the VCPU of a stay that lasts
  module _ (s : Stay) (m : Among s ss) (u : lasts s.until ≡ true) (v : Vcpu) (i : Among v c.vcpus)
      (t : v.terms.tunnel ≡ s.terms.tunnel) (f : Has s v) where
    sound : Sound c.last v
    sound = all_among (Sound c.last) c.vcpus r.lawful.sound v i

    same : v.terms ≡ s.terms
    same =
        (all_among (λ v. v.terms.tunnel ≡ s.terms.tunnel → Pair c.last s v h) c.vcpus
        (all_among (Paired c.last c.vcpus h) ss r.lawful.paired s m u) v i t).same-terms

    its_pace : holds v.terms.tunnel c.running ≡ true → n ≤ v.usable
    its_pace = all_among (λ v. holds v.terms.tunnel c.running ≡ true → n ≤ v.usable) c.vcpus (pace c ss h r call p) v i

    its_boundary : holds v.terms.tunnel c.running ≡ true → (b : ℕ) → v.boundary ≡ some b → c.last + n ≤ b
    its_boundary g b k =
        let l = all_among (λ v. holds v.terms.tunnel c.running ≡ true → (b : ℕ) → v.boundary ≡ some b → call.now ≤ b) c.vcpus
        (own_boundary c ss h r call p) v i g b k in
        omega (arith, comes)

    its-mark : v.runnable ≡ is_runnable xs s.terms.tunnel
    its-mark = all_among (λ v. v.runnable ≡ is_runnable xs v.terms.tunnel) c.vcpus (runnable-told calls) v i ∙ ap (is_runnable xs) t

    once-ran : holds s.terms.tunnel c.running ≡ true → Once (held s h) s → Once (ticks n true (held s h)) s
    once-ran g =
        let g' : holds v.terms.tunnel c.running ≡ true = subst (λ (t : ℕ). holds t c.running ≡ true) (sym t) g in
        filled-once (has_refill s xs) s v c.last n (held s h) (omega (arith, sound.range.period-low, ap (λ d. d.period) same))
        (dated s m).began (long s) f (its_pace g') (its_boundary g' _ f.next)

    filled-then : (s.terms.kind ≡ 0 → ⊥)
        → Filled (has_then (c.last + n) s) (latest s (c.last + n)) (c.last + n) s.terms (held s (ticks n c.running h)) (step v)
    filled-then kind =
        let w : lasts s.until && holds s.terms.tunnel c.running ≡ holds v.terms.tunnel c.running =
        rw u (ap (λ (t : ℕ). holds t c.running) (sym t)) in
        subst (λ (l : List Bool). Filled (has_then (c.last + n) s) (latest s (c.last + n)) (c.last + n) s.terms l (step v))
        (sym (ticked s m (holds v.terms.tunnel c.running) w))
        (subst (λ (x : Bool). Filled (cond (passes s c.last (c.last + n)) x (has_refill s xs)) (latest s (c.last + n)) (c.last + n)
        s.terms (ticks n (holds v.terms.tunnel c.running) (held s h)) (step v)) its-mark
        (filled-stepped (has_refill s xs) s v c.last n c.running (held s h) sound same kind (dated s m).began (long s) f
        its_pace its_boundary))

  once-then : (s : Stay) → Among s ss → Fills (λ v. has_refill s xs) c.last c.vcpus h s → Once (held s (ticks n c.running h)) s
  once-then s m q = ⊎_elim ran waited (cases (lasts s.until && holds s.terms.tunnel c.running))
    where
      ran : lasts s.until && holds s.terms.tunnel c.running ≡ true → Once (held s (ticks n c.running h)) s
      ran w =
          let b = and-true (lasts s.until) (holds s.terms.tunnel c.running) w in
          let v = its_vcpu c n ss h r.lawful (pace c ss h r call p) (there c ss h r) s m b.0 in
          let f = all_among (λ v. v.terms.tunnel ≡ s.terms.tunnel → Has s v) c.vcpus (q.filled b.0) v.0 v.1 v.2 in
          subst (λ (l : List Bool). Once l s) (sym (ticked s m true w)) (once-ran s m b.0 v.0 v.1 v.2 f b.1 q.once)

      waited : lasts s.until && holds s.terms.tunnel c.running ≡ false → Once (held s (ticks n c.running h)) s
      waited w = subst (λ (l : List Bool). Once l s) (sym (ticked s m false w)) (once-idle s n (held s h) q.once)

  step-fills : (s : Stay) → Among s ss → Each (λ s v. has_refill s xs) c.last c.vcpus h s
      → Each (λ s v. has_then (c.last + n) s) (c.last + n) (map step c.vcpus) (ticks n c.running h) s
  step-fills s m q kind =
      record {
        once = once-then s m (q kind);
        filled = λ u. all_map_among (λ v. v.terms.tunnel ≡ s.terms.tunnel → Has s v) _ step c.vcpus
            (λ v i f t. let t' = its_name v t in filled-then s m u v i t' (f t') kind) ((q kind).filled u);
      }
    where
      its_name : (v : Vcpu) → (step v).terms.tunnel ≡ s.terms.tunnel → v.terms.tunnel ≡ s.terms.tunnel
      its_name v t = ap (λ d. d.tunnel) (sym (terms-stepped c.last (c.last + n) c.running v)) ∙ t

  -- .. at the time of the call
  returned-fills : All (Each (λ s v. has_refill s xs) c.last c.vcpus h) ss
      → All (Each (λ s v. has_then call.now s) call.now (after_return c call.now) (ticks n c.running h)) ss
  returned-fills a =
      rw (each-stepped c call.now)
      (subst (λ (k : ℕ). All (Each (λ s v. has_then k s) k (map (stepped c.last k c.running) c.vcpus) (ticks n c.running h)) ss)
      comes
      (among_all _ ss (λ s m. step-fills s m (all_among (Each (λ s v. has_refill s xs) c.last c.vcpus h) ss a s m))))

  -- .. and its change
  accepted-fills : All (Each (λ s v. has_refill s xs) c.last c.vcpus h) ss
      → All (λ v. v.runnable ≡ runnable_after call.asked v.terms.tunnel (is_runnable xs v.terms.tunnel)) (after_change c call)
      → All (Each (λ s v. has_then call.now s && runnable_after call.asked s.terms.tunnel (is_runnable xs s.terms.tunnel))
      call.now (after_change c call) (ticks n c.running h)) (change_stays call.now call.asked ss)
  accepted-fills a b =
      told-fills call.now (after_change c call) (change_stays call.now call.asked ss) (ticks n c.running h) (has_then call.now)
      (λ t. runnable_after call.asked t (is_runnable xs t)) b
      (changed-fills call.now (after_return c call.now) _ ss (ticks n c.running h) (returned-lawful c ss h call r p)
      (has_then call.now) call.asked (rows-stepped c call.now (kept call.now c.remembered) call.asked ∙ p.asked_for)
      (returned-fills a))

fills : (calls : List Call)
    → All (Each (λ s v. has_refill s (heard calls)) (after calls).last (after calls).vcpus (past (heard calls))) (stays (heard calls))
unfolding settled
fills [] = tt
fills (call ∷ calls) = go (refusal (after calls) call.now call.asked) refl (fills calls) (runnable-told (call ∷ calls))
  where
    go : (o : Option Refusal) → refusal (after calls) call.now call.asked ≡ o
        → All (Each (λ s v. has_refill s (heard calls)) (after calls).last (after calls).vcpus (past (heard calls))) (stays (heard calls))
        → All (λ v. v.runnable ≡ is_runnable (heard (call ∷ calls)) v.terms.tunnel) (after (call ∷ calls)).vcpus
        → All (Each (λ s v. has_refill s (heard (call ∷ calls))) (after (call ∷ calls)).last (after (call ∷ calls)).vcpus
        (past (heard (call ∷ calls)))) (stays (heard (call ∷ calls)))
    go (some r) e ih =
        let z : time (heard calls) - time (heard calls) ≡ 0 = omega arith in
        rw (reply-refused (after calls) call r e, card-refused (after calls) call r e, z) (λ b. ih)
    go none e ih =
        rw (reply-accepted (after calls) call e, card-accepted (after calls) call e, (told-by-card calls).0, (told-by-card calls).1)
        (accepted-fills call calls e ih)

-- the next boundary of the VCPU of a stay that lasts, after steps 1 and 2 of an accepted call
pub returned-boundary : (call : Call) (calls : List Call) → refusal (after calls) call.now call.asked ≡ none → (s : Stay)
    → Among s (stays (heard calls)) → lasts s.until ≡ true → (v : Vcpu) → Among v (after_return (after calls) call.now)
    → v.terms.tunnel ≡ s.terms.tunnel → Refills s → v.boundary ≡ some (latest s call.now + s.terms.period)
returned-boundary call calls e s m u v i t kind =
    let f = all_among (Each _ call.now (after_return (after calls) call.now) _) (stays (heard calls))
    (returned-fills call calls e (fills calls)) s m kind in
    (all_among _ (after_return (after calls) call.now) (f.filled u) v i t).next

-- the sentences of demand 3
module _ (calls : List Call) where
  abbrev held_by : Stay → List Bool
  held_by s = held s (past (heard calls))

  abbrev AsHeard : Stay → Vcpu → Type 0
  AsHeard s v = Filled (has_refill s (heard calls)) (latest s (time (heard calls))) (time (heard calls)) s.terms (held_by s) v

  heard-fills : All (Each (λ s v. has_refill s (heard calls)) (time (heard calls)) (after calls).vcpus (past (heard calls)))
      (stays (heard calls))
  heard-fills =
      subst (λ (k : ℕ). All (Each (λ s v. has_refill s (heard calls)) k (after calls).vcpus (past (heard calls))) (stays (heard calls)))
      (sym (told-by-card calls).0) (fills calls)

  of_each : (P : Stay → Vcpu → Type 0) → ((s : Stay) (v : Vcpu) → (Refills s → AsHeard s v) → P s v)
      → All (OfItsVcpu calls P) (stays (heard calls))
  of_each P f =
      all_imp (λ s q u. among_all _ (after calls).vcpus (λ v i t. f s v (λ kind. all_among (λ v. v.terms.tunnel ≡ s.terms.tunnel
      → AsHeard s v) (after calls).vcpus ((q kind).filled u) v i t))) (stays (heard calls)) heard-fills

  pub at-most-once : All (λ s. Refills s → AtMostOnce (heard calls) s) (stays (heard calls))
  at-most-once = all_imp (λ s q kind. (q kind).once) (stays (heard calls)) heard-fills

  pub at-most-twice : All (λ s. Refills s → AtMostTwice (heard calls) s) (stays (heard calls))
  at-most-twice =
      all_imp (λ s q kind. twice s (held_by s) (between_admission s (past (heard calls))) (q kind).once) (stays (heard calls)) heard-fills

  pub next-boundary : All (OfItsVcpu calls (λ s v. Refills s → NextBoundary (heard calls) s v)) (stays (heard calls))
  next-boundary = of_each _ (λ s v f k. (f k).next)

  pub unused : All (OfItsVcpu calls (λ s v. Deferrable s.terms → Unused (heard calls) s v)) (stays (heard calls))
  unused = of_each _ (λ s v f k. (f (λ z. omega arith)).unused (λ z. absurd (omega arith)))

  pub polled : All (OfItsVcpu calls (λ s v. Polling s.terms → Polled (heard calls) s v)) (stays (heard calls))
  polled = of_each _ (λ s v f k. record {
    refilled = λ e. (f (λ z. omega arith)).unused (λ z. e);
    not-refilled = λ e. (f (λ z. omega arith)).none_left k e;
  })
