-- Who is remembered after an accepted call, exactly when and with which time, whatever calls came before; and that is one time.
-- Assumes nothing.
use mathlib.Core.Path.{◌≡◌, refl, ap, sym, ◌∙◌, subst}
use mathlib.Core.List.{List, [], ◌∷◌}
use mathlib.Core.Logic.{◌⊎◌, inl, inr, ⊎_elim}
use mathlib.Core.Option.{Option, none, some}
use Prim.Native.Nat.{ℕ, ◌≤◌, ◌<◌}
use native.Mathlib.Omega.{arith}
use lib.Dec.{leb}
use Rattle.rules.specs.Lists.{count, All, Among}
use Rattle.rules.specs.Vcpu.{Vcpu, named, comes}
use Rattle.rules.specs.Remember.{Remembered, later, latest, leaves_until, remembering, left_by, kept}
use Rattle.rules.specs.Card.{Card, find}
use Rattle.rules.specs.Change.{Change, admit, wake, block, remove, tick, set_runnable, leaving as left}
use Rattle.rules.specs.Refuse.{refusal}
use Rattle.rules.specs.Turn.{Call, settled, after_return, remembered_then}
use Rattle.rules.specs.History.{after, heard, past}
use Rattle.rules.specs.Stays.{stays}
use Rattle.rules.specs.Meaning.{Comes, RememberedWith}
use Rattle.rules.specs.Rows.{NoRow}
use Rattle.rules.specs.Leaving.{Leaves, Leaving}
use Rattle.rules.proofs.Tests.{tests, no-some, cases}
use Rattle.rules.proofs.Lists.{all_imp, all_among, among_append, append_among}
use Rattle.rules.proofs.Named.{named-says, found, find-there, kept-says, is-kept}
use Rattle.rules.proofs.Timer.{comes-says, is_coming}
use Rattle.rules.proofs.Accepted.{passed}
use Rattle.rules.proofs.Advance.{stepped, is-there, was-there, terms-stepped}
use Rattle.rules.proofs.Reached.{reached, returned-lawful, card-accepted}
use Rattle.rules.proofs.Rows.{not-given}
use Rattle.rules.proofs.Budgets.{one-budget, fits-stepped}
use Rattle.rules.proofs.Meaning.{meaning}

latest-none : (ts : List ℕ) → latest ts ≡ none → ts ≡ []
latest-none [] e = refl
latest-none (u ∷ ts) e = no-some (sym e)

latest-says : (ts : List ℕ) (t : ℕ) → latest ts ≡ some t → Among t ts × All (λ u. u ≤ t) ts
latest-says [] t e = no-some e
latest-says (u ∷ ts) t e = go (latest ts) (latest-says ts) (latest-none ts) e
  where
    go : (o : Option ℕ) → ((w : ℕ) → o ≡ some w → Among w ts × All (λ x. x ≤ w) ts) → (o ≡ none → ts ≡ []) → some (later u o) ≡ some t
        → Among t (u ∷ ts) × All (λ x. x ≤ t) (u ∷ ts)
    go none ih n f =
        let g : u ≡ t = cc in
        (inl (sym g), (omega arith, subst (λ (k : List ℕ). All (λ x. x ≤ t) k) (sym (n refl)) tt))
    go (some w) ih n f =
        let g : later u (some w) ≡ t = cc in
        let p = ih w refl in (
          ⊎_elim (λ q. inl (omega (arith, tests))) (λ q. inr (subst (λ (z : ℕ). Among z ts) (omega (arith, tests)) p.0))
              (cases (leb w u)),
          (omega arith, all_imp (λ x k. omega arith) ts p.1),
        )

-- "the time of its latest pending return", or of its next boundary: something comes to it then, and nothing later
pub leaves-says : (v : Vcpu) (t : ℕ) → leaves_until v ≡ some t → Comes v t × ((u : ℕ) → Comes v u → u ≤ t)
leaves-says v t e =
    let p = latest-says (comes v) t e in
    (comes-says v t p.0, λ u k. all_among (λ x. x ≤ t) (comes v) p.1 u (is_coming v u k))

pub leaves-then : (v : Vcpu) (t : ℕ) → Comes v t → ((u : ℕ) → Comes v u → u ≤ t) → leaves_until v ≡ some t
leaves-then v t k h = go (leaves_until v) refl
  where
    go : (o : Option ℕ) → leaves_until v ≡ o → leaves_until v ≡ some t
    go none e = absurd (subst (λ (l : List ℕ). Among t l) (latest-none (comes v) e) (is_coming v t k))
    go (some u) e =
        let p = leaves-says v u e in
        e ∙ ap some (omega (arith, h u p.0, p.1 t k))

-- the mark does not matter to what comes
same_coming : (v w : Vcpu) (t : ℕ) → comes v ≡ comes w → Comes v t → Comes w t
same_coming v w t e k = comes-says w t (subst (λ (l : List ℕ). Among t l) e (is_coming v t k))

module _ (calls : List Call) (call : Call) (e : refusal (after calls) call.now call.asked ≡ none) where
  abbrev vs : List Vcpu
  vs = after_return (after calls) call.now

  abbrev step : Vcpu → Vcpu
  step = stepped (after calls).last call.now (after calls).running

  once : (t : ℕ) → count (named t) vs ≤ 1
  once =
      (returned-lawful (after calls) (stays (heard calls)) (past (heard calls)) call (reached calls)
      (passed (after calls) call.now call.asked e)).once

  -- whom the rules remember for this call left in it, with that time
  left_so : (asked : Change) → call.asked ≡ asked → (r : Remembered) → Among r (left asked vs)
      → Leaves (after calls) call r.tunnel r.time
  left_so (admit d) q r m = absurd m
  left_so (wake t) q r m = absurd m
  left_so (block t) q r m = absurd m
  left_so tick q r m = absurd m
  left_so (remove t) q r m = go (find t vs) refl m
    where
      go : (o : Option Vcpu) → find t vs ≡ o → Among r (left_by o) → Leaves (after calls) call r.tunnel r.time
      go none f m = absurd m
      go (some w) f m = by (leaves_until w) refl m
        where
          by : (u : Option ℕ) → leaves_until w ≡ u → Among r (remembering w.terms.tunnel u)
              → Leaves (after calls) call r.tunnel r.time
          by none g m = absurd m
          by (some time) g (inr m) = elim m [ ]
          by (some time) g (inl h) =
              let p = found t vs w f in
              let b = was-there (after calls) call.now w p.0 in
              let k = leaves-says w time g in
              subst (λ (x : Remembered). Leaves (after calls) call x.tunnel x.time) (sym h)
              (record {
                removed = q ∙ ap remove (sym (named-says t w p.1));
                was = b.0;
                on_the_card = b.1;
                so_named = ap (λ x. x.tunnel)
                    (sym (terms-stepped (after calls).last call.now (after calls).running b.0) ∙ ap (λ x. x.terms) (sym b.2));
                then = w;
                budget = fits-stepped calls call e b.0 b.1 w (inl b.2);
                comes = k.0;
                latest = k.1;
              })

  -- .. and who left in it, with that time, is remembered
  is-left : (tunnel time : ℕ) → Leaves (after calls) call tunnel time → RememberedWith (left call.asked vs) tunnel time
  is-left tunnel time l =
      subst (λ (a : Change). RememberedWith (left a vs) tunnel time) (sym l.removed)
      (subst (λ (o : Option Vcpu). RememberedWith (left_by o) tunnel time)
      (sym (find-there tunnel vs (once tunnel) (step l.was) (is-there (after calls) call.now l.was l.on_the_card) its_name))
      (subst (λ (u : Option ℕ). RememberedWith (remembering (step l.was).terms.tunnel u) tunnel time) (sym its-time)
      (record { tunnel = (step l.was).terms.tunnel; time = time }, inl refl, its_name, refl)))
    where
      its_name : (step l.was).terms.tunnel ≡ tunnel
      its_name =
          ap (λ x. x.tunnel) (terms-stepped (after calls).last call.now (after calls).running l.was) ∙ l.so_named

      -- it is the VCPU after steps 1 and 2, but for the mark
      same : comes l.then ≡ comes (step l.was)
      same =
          ap comes
          (one-budget (after calls) call.now l.was l.then (set_runnable l.then.runnable (step l.was)) refl l.budget
          (fits-stepped calls call e l.was l.on_the_card (set_runnable l.then.runnable (step l.was))
          (inr (l.then.runnable, refl))))

      its-time : leaves_until (step l.was) ≡ some time
      its-time =
          leaves-then (step l.was) time (same_coming l.then (step l.was) time same l.comes)
          (λ u k. l.latest u (same_coming (step l.was) l.then u (sym same) k))

  remembers_so : Leaving (after calls) call (remembered_then (after calls) call)
  remembers_so = record { exactly = λ tunnel time. (says tunnel time, there tunnel time) }
    where
      old : List Remembered
      old = kept call.now (after calls).remembered

      says : (tunnel time : ℕ) → RememberedWith (remembered_then (after calls) call) tunnel time
          → (RememberedWith (after calls).remembered tunnel time × (call.now < time)) ⊎ Leaves (after calls) call tunnel time
      says tunnel time (r, m, n, t) =
          ⊎_elim (λ k. inl (kept-says call.now tunnel time (after calls).remembered (r, k, n, t)))
          (λ k. inr (subst (λ (x : ℕ). Leaves (after calls) call tunnel x) t
          (subst (λ (x : ℕ). Leaves (after calls) call x r.time) n (left_so call.asked refl r k))))
          (among_append old (left call.asked vs) r m)

      there : (tunnel time : ℕ)
          → (RememberedWith (after calls).remembered tunnel time × (call.now < time)) ⊎ Leaves (after calls) call tunnel time
          → RememberedWith (remembered_then (after calls) call) tunnel time
      there tunnel time (inl p) =
          let k = is-kept call.now tunnel time (after calls).remembered p.0 p.1 in
          (k.0, append_among old (left call.asked vs) k.0 (inl k.1), k.2, k.3)
      there tunnel time (inr l) =
          let k = is-left tunnel time l in
          (k.0, append_among old (left call.asked vs) k.0 (inr k.1), k.2, k.3)

pub leaving : (calls : List Call) (call : Call) → NoRow (after calls) call
    → Leaving (after calls) call (after (call ∷ calls)).remembered
unfolding settled
leaving calls call h =
    let e = not-given (after calls) call h in
    subst (λ (d : Card). Leaving (after calls) call d.remembered) (sym (card-accepted (after calls) call e)) (remembers_so calls call e)

-- a removal leaves one time behind
pub one_time : (calls : List Call) (call : Call) → NoRow (after calls) call → (tunnel t u : ℕ)
    → Leaves (after calls) call tunnel t → Leaves (after calls) call tunnel u → t ≡ u
one_time calls call h tunnel t u p q =
    let m = leaving calls call h in
    let f = (meaning (call ∷ calls)).remembered_time tunnel in
    let e : some t ≡ some u = sym ((f t).1 ((m.exactly tunnel t).1 (inr p))) ∙ (f u).1 ((m.exactly tunnel u).1 (inr q)) in
    cc
