-- Step 3 of an accepted call: admit begins a stay, remove ends one, wake and block touch neither stay nor queue.
-- Assumes that the call's own rows did not apply.
use mathlib.Core.Path.{◌≡◌, refl, ap, sym, ◌∙◌, subst}
use mathlib.Core.Bool.{Bool, true, false, cond, not, ◌&&◌}
use mathlib.Core.List.{List, [], ◌∷◌, map}
use mathlib.Core.Logic.{◌⊎◌, inl, inr, ⊎_elim}
use mathlib.Core.Option.{Option, none, some}
use Prim.Native.Nat.{ℕ, zero, suc, ◌+◌, ◌≤◌, ◌<◌}
use native.Mathlib.Omega.{arith}
use lib.Dec.{eqb}
use lib.ListN.{length, length-map}
use borrow.Author.Tests.{eqb-true, eqb-false, eq-eqb, ne_eqb, not-true}
use Rattle.rules.specs.Lists.{keep, count, All, Among}
use Rattle.rules.specs.Vcpu.{Description, Vcpu, admitted, more_urgent, named}
use Rattle.rules.specs.Remember.{Remembered}
use Rattle.rules.specs.Card.{to_named}
use Rattle.rules.specs.Change.{Change, admit, wake, block, remove, tick, placed, set_runnable, change}
use Rattle.rules.specs.Refuse.{call_rows}
use Rattle.rules.specs.History.{ticks, is_idle}
use Rattle.rules.specs.Stays.{Stay, lasts, lasts_as, with_end, change_stays, owns, held, held_ticks, owners}
use Rattle.rules.specs.Slices.{recent, returns_of}
use Rattle.rules.proofs.Tests.{clash, no-some, cases}
use Rattle.rules.proofs.Named.{named-says, is-named, not_named}
use Rattle.rules.proofs.Lists.{all_imp, all_map, all_every, all_among, among_all, all_keep, among_keep, count_none}
use Rattle.rules.proofs.Lists.{count_among, count_same, any_false, length-keep}
use Rattle.rules.proofs.Slices.{begun-idle, begun-none, going, going-gap, slices-idle}
use Rattle.rules.proofs.Sound.{Sound, sound-admitted, sound-set}
use Rattle.rules.proofs.Window.{within_none, within-idle}
use Rattle.rules.proofs.Accepted.{Admits, admits}
use Rattle.rules.proofs.Held.{Dated, held_new, held-end, held_off, owns_none, owns-end, each_imp}
use Rattle.rules.proofs.Lawful.{Pair, Paired, Bounded, Lawful}

-- a newcomer is one more, wherever it is placed

pub all_placed : (P : Vcpu → Type 0) (v : Vcpu) (vs : List Vcpu) → P v → All P vs → All P (placed v vs)
all_placed P v [] p h = (p, tt)
all_placed P v (w ∷ vs) p h = go (more_urgent v.terms w.terms) (all_placed P v vs p h.1)
  where
    go : (t : Bool) → All P (placed v vs) → All P (cond t (v ∷ w ∷ vs) (w ∷ placed v vs))
    go true k = (p, h)
    go false k = (h.0, k)

pub among_placed : (v : Vcpu) (vs : List Vcpu) (w : Vcpu) → Among w (placed v vs) → (w ≡ v) ⊎ Among w vs
among_placed v vs w m = all_among (λ u. (u ≡ v) ⊎ Among u vs) (placed v vs)
    (all_placed _ v vs (inl refl) (among_all _ vs (λ u k. inr k))) w m

pub placed_itself : (v : Vcpu) (vs : List Vcpu) → Among v (placed v vs)
placed_itself v [] = inl refl
placed_itself v (w ∷ vs) = go (more_urgent v.terms w.terms) (placed_itself v vs)
  where
    go : (t : Bool) → Among v (placed v vs) → Among v (cond t (v ∷ w ∷ vs) (w ∷ placed v vs))
    go true k = inl refl
    go false k = inr k

pub placed_among : (v : Vcpu) (vs : List Vcpu) (u : Vcpu) → Among u vs → Among u (placed v vs)
placed_among v [] u m = elim m [ ]
placed_among v (w ∷ vs) u m = go (more_urgent v.terms w.terms) m (λ k. placed_among v vs u k)
  where
    go : (t : Bool) → Among u (w ∷ vs) → (Among u vs → Among u (placed v vs)) → Among u (cond t (v ∷ w ∷ vs) (w ∷ placed v vs))
    go true m ih = inr m
    go false (inl e) ih = inl e
    go false (inr k) ih = inr (ih k)

pub count-placed : (test : Vcpu → Bool) (v : Vcpu) (vs : List Vcpu) → count test (placed v vs) ≡ cond (test v) 1 0 + count test vs
count-placed test v [] = refl
count-placed test v (w ∷ vs) = go (more_urgent v.terms w.terms) (count-placed test v vs)
  where
    go : (t : Bool) → count test (placed v vs) ≡ cond (test v) 1 0 + count test vs
        → count test (cond t (v ∷ w ∷ vs) (w ∷ placed v vs)) ≡ cond (test v) 1 0 + (cond (test w) 1 0 + count test vs)
    go true k = refl
    go false k = omega arith

pub length-placed : (v : Vcpu) (vs : List Vcpu) → length (placed v vs) ≡ suc (length vs)
length-placed v [] = refl
length-placed v (w ∷ vs) = go (more_urgent v.terms w.terms) (length-placed v vs)
  where
    go : (t : Bool) → length (placed v vs) ≡ suc (length vs) → length (cond t (v ∷ w ∷ vs) (w ∷ placed v vs)) ≡ suc (suc (length vs))
    go true k = refl
    go false k = ap suc k

-- a VCPU removed is one less

abbrev pub other : ℕ → Vcpu → Bool
other t v = not (named t v)

pub count_left : (t u : ℕ) (vs : List Vcpu) → count (named u) (keep (other t) vs) ≡ cond (eqb u t) 0 (count (named u) vs)
count_left t u vs = ⊎_elim (λ e. rw e (gone vs (eqb-true u t e))) (λ e. rw e (same vs (eqb-false u t e))) (cases (eqb u t))
  where
    gone : (vs : List Vcpu) → u ≡ t → count (named u) (keep (other t) vs) ≡ 0
    gone vs e =
        count_none (named u) (keep (other t) vs)
        (among_all (λ v. named u v ≡ false) (keep (other t) vs)
        (λ v m. subst (λ (x : ℕ). named x v ≡ false) (sym e) (not-true (named t v) (among_keep (other t) vs v m).1)))

    same : (vs : List Vcpu) → (u ≡ t → ⊥) → count (named u) (keep (other t) vs) ≡ count (named u) vs
    same [] n = refl
    same (v ∷ vs) n = go (named t v) refl (same vs n)
      where
        go : (b : Bool) → named t v ≡ b → count (named u) (keep (other t) vs) ≡ count (named u) vs
            → count (named u) (cond (not b) (v ∷ keep (other t) vs) (keep (other t) vs)) ≡ cond (named u v) 1 0 + count (named u) vs
        go true e ih =
            let f : named u v ≡ false = not_named u v (λ g. n (sym g ∙ named-says t v e)) in
            rw f (omega arith)
        go false e ih = omega arith

module _ (now : ℕ) (vs : List Vcpu) (ss : List Stay) (h : List (Option ℕ)) (l : Lawful now vs ss h) where
  -- wake, block: only the mark `runnable` moves, and the usable ticks of a polling VCPU
  marked : (t : ℕ) (b : Bool) → Lawful now (to_named t (set_runnable b) vs) ss h
  marked t b =
      record {
        sound = all_map (Sound now) mark (λ v s. pick (Sound now) v (sound-set now b v) s) vs l.sound;
        once = λ u. omega (arith, same u, l.once u);
        few = omega (arith, length-map vs mark, l.few);
        long = l.long;
        on_the_card = λ u. l.on_the_card u ∙ sym (same u);
        dated = l.dated;
        paired = all_imp (λ s p u. all_map (λ v. v.terms.tunnel ≡ s.terms.tunnel → Pair now s v h) mark
            (λ v q. pick (λ v. v.terms.tunnel ≡ s.terms.tunnel → Pair now s v h) v
            (λ q e. record { same-terms = (q e).same-terms; held-total = (q e).held-total; tied = (q e).tied }) q) vs (p u)) ss l.paired;
        bounded = l.bounded;
        owned = l.owned;
      }
    where
      mark : Vcpu → Vcpu
      mark v = cond (named t v) (set_runnable b v) v

      pick : (P : Vcpu → Type 0) (v : Vcpu) → (P v → P (set_runnable b v)) → P v → P (mark v)
      pick P v f p = go (named t v)
        where
          go : (x : Bool) → P (cond x (set_runnable b v) v)
          go true = f p
          go false = p

      same : (u : ℕ) → count (named u) (map mark vs) ≡ count (named u) vs
      same u = count_same (named u) (named u) mark vs (all_imp (λ v s. pick (λ w. named u w ≡ named u v) v (λ e. e) refl) vs l.sound)

  -- admit
  module _ (rs : List Remembered) (d : Description) (a : Admits vs rs d) where
    abbrev newStay : Stay
    newStay = record { terms = d; from = now; until = none }

    nobody-so-named : count (named d.tunnel) vs ≡ 0
    nobody-so-named = count_none (named d.tunnel) vs (any_false (named d.tunnel) vs a.not_there)

    pub no-stay-so-named : (s : Stay) → Among s ss → lasts s.until ≡ true → s.terms.tunnel ≡ d.tunnel → ⊥
    no-stay-so-named s m u e =
        omega (
          arith,
          nobody-so-named,
          l.on_the_card d.tunnel,
          count_among (lasts_as d.tunnel) ss s m
              (rw (u, eq-eqb s.terms.tunnel d.tunnel e)),
        )

    held-nothing : held newStay h ≡ ticks (length h) false []
    held-nothing = held_new newStay h (omega (arith, l.long))

    new-pair : Pair now newStay (admitted now d) h
    new-pair =
        record {
          same-terms = refl;
          held-total = sym (ap held_ticks held-nothing ∙ held_off (length h) []);
          tied = λ i. rw held-nothing
              (record {
                at_most = λ x k. omega (arith, begun-idle d.period x (length h) [], begun-none d.period x);
                one_for_one = λ f. sym (ap (λ ss. returns_of d.period (recent d.period now ss))
                    (slices-idle d.period (length h) []));
                latest = λ w. clash (sym w);
                still_going = λ g. absurd (omega (arith, none_going (length h)));
                since = λ e w k. clash (sym w);
              });
        }
      where
        none_going : (n : ℕ) → going d.period (ticks n false []) ≤ 0
        none_going zero = going-gap d.period 0 [] refl
        none_going (suc n) = going-gap d.period 0 (false ∷ ticks n false []) refl

    admitted-lawful : Lawful now (placed (admitted now d) vs) (newStay ∷ ss) h
    admitted-lawful =
        record {
          sound = all_placed (Sound now) (admitted now d) vs (sound-admitted now d a.range) l.sound;
          once = λ t. omega (arith, count-placed (named t) (admitted now d) vs, at_most_one t);
          few = omega (arith, length-placed (admitted now d) vs, a.room);
          long = l.long;
          on_the_card = λ t. omega (arith, count-placed (named t) (admitted now d) vs, l.on_the_card t);
          dated = (record { began = omega arith; over = λ r e. no-some e }, l.dated);
          paired = (
            λ u. all_placed (λ v. v.terms.tunnel ≡ d.tunnel → Pair now newStay v h) (admitted now d) vs (λ e. new-pair)
                (all_imp (λ v n e. clash (sym (is-named d.tunnel v e) ∙ n)) vs (any_false (named d.tunnel) vs a.not_there)),
            among_all (Paired now (placed (admitted now d) vs) h) ss
                (λ s m u. all_placed (λ v. v.terms.tunnel ≡ s.terms.tunnel → Pair now s v h) (admitted now d) vs
                (λ e. absurd (no-stay-so-named s m u (sym e))) (all_among (Paired now vs h) ss l.paired s m u)),
          );
          bounded = (
            λ i. rw held-nothing (within-idle d.period d.capacity (length h) []
                (within_none d.period d.capacity)),
            l.bounded,
          );
          owned = each_imp (λ o n. owners ss o n ≡ 1) (λ o n. owners (newStay ∷ ss) o n ≡ 1) h
              (λ o n k e. rw (owns_none newStay o n (omega (arith, l.long))) (omega arith)) l.owned;
        }
      where
        at_most_one : (t : ℕ) → cond (eqb d.tunnel t) 1 0 + count (named t) vs ≤ 1
        at_most_one t = ⊎_elim (λ e. new e) (λ e. rw e (omega (arith, l.once t))) (cases (eqb d.tunnel t))
          where
            new : eqb d.tunnel t ≡ true → cond (eqb d.tunnel t) 1 0 + count (named t) vs ≤ 1
            new e = rw e (omega (arith, subst (λ (u : ℕ). count (named u) vs ≡ 0) (eqb-true d.tunnel t e) nobody-so-named))

  -- remove: the stay so named ends, and its VCPU leaves
  module _ (t : ℕ) where
    -- a stay that goes on was not the one removed
    still_going : (s : Stay) → lasts (with_end now t s).until ≡ true → (lasts s.until ≡ true) × (eqb s.terms.tunnel t ≡ false)
    still_going s u = go s.until (eqb s.terms.tunnel t) refl u
      where
        go : (o : Option ℕ) (b : Bool) → eqb s.terms.tunnel t ≡ b → lasts (cond (lasts o && b) (some now) o) ≡ true
            → (lasts o ≡ true) × (b ≡ false)
        go none true e f = clash (sym f)
        go none false e f = (refl, refl)
        go (some r) b e f = clash (sym f)

    over-by-now : (s : Stay) → Dated now s → Dated now (with_end now t s)
    over-by-now s g = record { began = g.began; over = λ r e. go (lasts_as t s) r e }
      where
        go : (b : Bool) (r : ℕ) → cond b (some now) s.until ≡ some r → r ≤ now
        go true r e = let q : now ≡ r = cc in omega arith
        go false r e = g.over r e

    -- of each other identifier as many stay as were there, of this one none
    count-ended : (u : ℕ) (ss : List Stay) → count (lasts_as u) (map (with_end now t) ss) ≡ cond (eqb u t) 0 (count (lasts_as u) ss)
    count-ended u ss = ⊎_elim (λ e. rw e (gone ss (eqb-true u t e))) (λ e. rw e (same ss (eqb-false u t e))) (cases (eqb u t))
      where
        ended : (o : Option ℕ) (b : Bool) → lasts (cond (lasts o && b) (some now) o) && b ≡ false
        ended none true = refl
        ended none false = refl
        ended (some r) b = refl

        gone : (ss : List Stay) → u ≡ t → count (lasts_as u) (map (with_end now t) ss) ≡ 0
        gone ss e =
            count_none (lasts_as u) (map (with_end now t) ss)
            (all_map {P = λ s. Unit {0}} (λ s. lasts_as u s ≡ false) (with_end now t)
            (λ s p. subst (λ (x : ℕ). lasts (with_end now t s).until && eqb s.terms.tunnel x ≡ false) (sym e)
            (ended s.until (eqb s.terms.tunnel t)))
            ss (all_every (λ s. tt) ss))

        spared : (s : Stay) → (u ≡ t → ⊥) → (o : Option ℕ) (b : Bool) → eqb s.terms.tunnel t ≡ b
            → lasts (cond (lasts o && b) (some now) o) && eqb s.terms.tunnel u ≡ lasts o && eqb s.terms.tunnel u
        spared s n none true e = sym (ne_eqb s.terms.tunnel u (λ f. n (sym f ∙ eqb-true s.terms.tunnel t e)))
        spared s n none false e = refl
        spared s n (some r) b e = refl

        same : (ss : List Stay) → (u ≡ t → ⊥) → count (lasts_as u) (map (with_end now t) ss) ≡ count (lasts_as u) ss
        same ss n =
            count_same (lasts_as u) (lasts_as u) (with_end now t) ss
            (all_every (λ s. spared s n s.until (eqb s.terms.tunnel t) refl) ss)

    removed-lawful : Lawful now (keep (other t) vs) (map (with_end now t) ss) h
    removed-lawful =
        record {
          sound = all_keep (Sound now) (other t) vs l.sound;
          once = λ u. omega (arith, count_left t u vs, no_more u, l.once u);
          few = omega (arith, length-keep (other t) vs, l.few);
          long = l.long;
          on_the_card = λ u. count-ended u ss ∙ ap (cond (eqb u t) 0) (l.on_the_card u) ∙ sym (count_left t u vs);
          dated = all_map (Dated now) (with_end now t) over-by-now ss l.dated;
          paired = all_map (Paired now (keep (other t) vs) h) (with_end now t) left-paired ss l.paired;
          bounded = all_map (Bounded h) (with_end now t) (λ s w i. rw (held-end now t s h (omega (arith, l.long))) (w i)) ss l.bounded;
          owned = each_imp (λ o n. owners ss o n ≡ 1) (λ o n. owners (map (with_end now t) ss) o n ≡ 1) h
              (λ o n k e. ap (λ (x : ℕ). cond (is_idle o) 1 0 + x) (as_many o n (omega (arith, l.long))) ∙ e) l.owned;
        }
      where
        no_more : (u : ℕ) → cond (eqb u t) 0 (count (named u) vs) ≤ count (named u) vs
        no_more u = go (eqb u t)
          where
            go : (b : Bool) → cond b 0 (count (named u) vs) ≤ count (named u) vs
            go true = omega arith
            go false = omega arith

        as_many : (o : Option ℕ) (n : ℕ) → n < now → count (λ s. owns s o n) (map (with_end now t) ss) ≡ count (λ s. owns s o n) ss
        as_many o n k =
            count_same (λ s. owns s o n) (λ s. owns s o n) (with_end now t) ss (all_every (λ s. owns-end now t s o n k) ss)

        left-paired : (s : Stay) → Paired now vs h s → Paired now (keep (other t) vs) h (with_end now t s)
        left-paired s p u =
            all_keep (λ v. v.terms.tunnel ≡ s.terms.tunnel → Pair now (with_end now t s) v h) (other t) vs
            (all_imp (λ v q e. record {
              same-terms = (q e).same-terms;
              held-total = (q e).held-total ∙ ap held_ticks (sym (held-end now t s h (omega (arith, l.long))));
              tied = λ i. rw (held-end now t s h (omega (arith, l.long))) ((q e).tied i);
            }) vs
            (p (still_going s u).0))

  pub changed : (rs : List Remembered) (asked : Change) → call_rows vs rs asked ≡ none
      → Lawful now (change now asked vs) (change_stays now asked ss) h
  changed rs (admit d) e = admitted-lawful rs d (admits vs rs d e)
  changed rs (wake t) e = marked t true
  changed rs (block t) e = marked t false
  changed rs (remove t) e = removed-lawful t
  changed rs tick e = l
