-- Step 3 means what it says: who is on the card and who is runnable after an accepted call, whatever calls came before.
-- Assumes nothing.
use mathlib.Core.Path.{◌≡◌, refl, ap, sym, ◌∙◌, subst}
use mathlib.Core.Bool.{Bool, true, false, cond, not}
use mathlib.Core.List.{List, ◌∷◌}
use mathlib.Core.Logic.{◌⊎◌, ◌↔◌, inl, inr, ⊎_elim}
use mathlib.Core.Option.{none}
use Prim.Native.Nat.{ℕ, ◌≤◌}
use native.Mathlib.Omega.{arith}
use borrow.Author.Tests.{not-true}
use Rattle.rules.specs.Lists.{keep, count, Among}
use Rattle.rules.specs.Vcpu.{Description, Vcpu, admitted, named}
use Rattle.rules.specs.Remember.{Remembered}
use Rattle.rules.specs.Remember.{kept as kept_at}
use Rattle.rules.specs.Card.{Card, on_card, to_named}
use Rattle.rules.specs.Change.{Change, admit, wake, block, remove, tick, placed, set_runnable, change}
use Rattle.rules.specs.Refuse.{call_rows}
use Rattle.rules.specs.Turn.{Call, settled, after_return}
use Rattle.rules.specs.History.{after}
use Rattle.rules.specs.Meaning.{OnTheCard}
use Rattle.rules.specs.Rows.{AdmitOf, NoRow}
use Rattle.rules.specs.Marks.{RunnableThen, Newcomer, Marks}
use Rattle.rules.proofs.Tests.{clash}
use Rattle.rules.proofs.Named.{named-says, is-named, not_named, is_on_card}
use Rattle.rules.proofs.Lists.{among_map, map_among, among_keep, keep_among, only_one}
use Rattle.rules.proofs.ThreeKinds.{is-sporadic, not-sporadic, leaves_all, leaves_none}
use Rattle.rules.proofs.Accepted.{passed, admits}
use Rattle.rules.proofs.Advance.{stepped, is-there, was-there, terms-stepped, runnable-stepped}
use Rattle.rules.proofs.Changed.{among_placed, placed_itself, placed_among}
use Rattle.rules.proofs.Reached.{reached, card-accepted}
use Rattle.rules.proofs.Rows.{not-given}

-- a VCPU after steps 1 and 2, and the one that it was before them
record Was (old : List Vcpu) (v : Vcpu) : Type 0 where
  who : Vcpu
  on_the_card : Among who old
  same-terms : v.terms ≡ who.terms
  same_mark : v.runnable ≡ who.runnable

-- one number for each kind of call: calls of two kinds differ
abbrev kind : Change → ℕ
kind (admit d) = 0
kind (wake tunnel) = 1
kind (block tunnel) = 2
kind (remove tunnel) = 3
kind tick = 4

-- wake and block: the one so named has the mark, the others are as they were
record Marked (t : ℕ) (b : Bool) (vs : List Vcpu) (v : Vcpu) : Type 0 where
  who : Vcpu
  on_the_card : Among who vs
  same-terms : v.terms ≡ who.terms
  has_mark : v.terms.tunnel ≡ t → v.runnable ≡ b
  as_it_was : (v.terms.tunnel ≡ t → ⊥) → v ≡ who

among_marked : (t : ℕ) (b : Bool) (vs : List Vcpu) (v : Vcpu) → Among v (to_named t (set_runnable b) vs) → Marked t b vs v
among_marked t b vs v m =
    let p = among_map (λ w. cond (named t w) (set_runnable b w) w) vs v m in
    go p.0 p.1 (named t p.0) refl p.2
  where
    go : (w : Vcpu) → Among w vs → (x : Bool) → named t w ≡ x → v ≡ cond x (set_runnable b w) w → Marked t b vs v
    go w k true n e =
        record {
          who = w;
          on_the_card = k;
          same-terms = ap (λ x. x.terms) e;
          has_mark = λ q. ap (λ x. x.runnable) e;
          as_it_was = λ q. absurd (q (ap (λ x. x.terms.tunnel) e ∙ named-says t w n));
        }
    go w k false n e =
        record {
          who = w;
          on_the_card = k;
          same-terms = ap (λ x. x.terms) e;
          has_mark = λ q. clash (sym (is-named t w (ap (λ x. x.terms.tunnel) (sym e) ∙ q)) ∙ n);
          as_it_was = λ q. e;
        }

marked_among : (t : ℕ) (b : Bool) (vs : List Vcpu) (u : ℕ) → OnTheCard vs u → OnTheCard (to_named t (set_runnable b) vs) u
marked_among t b vs u p =
    (cond (named t p.0) (set_runnable b p.0) p.0, map_among _ vs p.0 p.1, go (named t p.0))
  where
    go : (x : Bool) → (cond x (set_runnable b p.0) p.0).terms.tunnel ≡ u
    go true = p.2
    go false = p.2

-- how an admitted one starts, by its kind
newcomer : (now : ℕ) (d : Description) → Newcomer now d (admitted now d)
newcomer now d =
    record {
      terms = refl;
      not-runnable = refl;
      all-usable = λ n. leaves_all d false d.capacity (λ e. absurd (n e));
      none-usable = leaves_none d d.capacity;
      nothing-pending = refl;
      no_earlier_use = refl;
      no-totals = (refl, refl);
      no-boundary = λ e. rw (is-sporadic d e);
      first-boundary = λ n. rw (not-sporadic d n);
    }

module _ (c : Card) (now : ℕ) (once : (t : ℕ) → count (named t) c.vcpus ≤ 1) where
  was : (v : Vcpu) → Among v (after_return c now) → Was c.vcpus v
  was v m =
      let p = was-there c now v m in
      record {
        who = p.0;
        on_the_card = p.1;
        same-terms = ap (λ x. x.terms) p.2 ∙ terms-stepped c.last now c.running p.0;
        same_mark = ap (λ x. x.runnable) p.2 ∙ runnable-stepped c.last now c.running p.0;
      }

  is : (u : Vcpu) → Among u c.vcpus → (v : Vcpu) × Among v (after_return c now) × (v.terms ≡ u.terms)
  is u m = (stepped c.last now c.running u, is-there c now u m, terms-stepped c.last now c.running u)

  abbrev Mark : Change → Vcpu → Type 0
  Mark asked v = v.runnable ≡ true ↔ RunnableThen c.vcpus asked v.terms.tunnel

  -- whom the call does not mark is runnable as it was
  kept : (asked : Change) (v : Vcpu) → Among v (after_return c now) → (asked ≡ wake v.terms.tunnel → ⊥)
      → (asked ≡ block v.terms.tunnel → ⊥) → (AdmitOf asked v.terms.tunnel → ⊥) → Mark asked v
  kept asked v m f g h = (λ e. inr ((w.who, w.on_the_card, same, sym w.same_mark ∙ e), g, h), back)
    where
      w : Was c.vcpus v
      w = was v m

      same : w.who.terms.tunnel ≡ v.terms.tunnel
      same = ap (λ x. x.tunnel) (sym w.same-terms)

      back : RunnableThen c.vcpus asked v.terms.tunnel → v.runnable ≡ true
      back (inl e) = absurd (f e)
      back (inr p) =
          let q : w.who ≡ p.0.0 = only_one (named v.terms.tunnel) c.vcpus (once v.terms.tunnel) w.who p.0.0
          w.on_the_card p.0.1
          (is-named v.terms.tunnel w.who same) (is-named v.terms.tunnel p.0.0 p.0.2) in
          w.same_mark ∙ ap (λ x. x.runnable) q ∙ p.0.3

  stays-there : (t : ℕ) → OnTheCard (after_return c now) t ↔ OnTheCard c.vcpus t
  stays-there t = (
    λ p. let w = was p.0 p.1 in (w.who, w.on_the_card, ap (λ x. x.tunnel) (sym w.same-terms) ∙ p.2),
    λ p. let v = is p.0 p.1 in (v.0, v.1, ap (λ x. x.tunnel) v.2 ∙ p.2),
  )

  marked-there : (t : ℕ) (b : Bool) (u : ℕ) → OnTheCard (to_named t (set_runnable b) (after_return c now)) u ↔ OnTheCard c.vcpus u
  marked-there t b u = (
    λ p. let w = among_marked t b (after_return c now) p.0 p.1 in
        (stays-there u).0 (w.who, w.on_the_card, ap (λ x. x.tunnel) (sym w.same-terms) ∙ p.2),
    λ p. marked_among t b (after_return c now) u ((stays-there u).1 p),
  )

  -- wake and block: the one so named, and all others
  toggled : (asked : Change) (t : ℕ) (b : Bool) (v : Vcpu) → Among v (to_named t (set_runnable b) (after_return c now))
      → (v.terms.tunnel ≡ t → v.runnable ≡ b → Mark asked v)
      → ((v.terms.tunnel ≡ t → ⊥) → (asked ≡ wake v.terms.tunnel → ⊥) × (asked ≡ block v.terms.tunnel → ⊥) ×
      (AdmitOf asked v.terms.tunnel → ⊥))
      → Mark asked v
  toggled asked t b v m f g = go (named t v) refl
    where
      w : Marked t b (after_return c now) v
      w = among_marked t b (after_return c now) v m

      go : (x : Bool) → named t v ≡ x → Mark asked v
      go true n = let q : v.terms.tunnel ≡ t = named-says t v n in f q (w.has_mark q)
      go false n =
          let o : v.terms.tunnel ≡ t → ⊥ = λ q. clash (sym (is-named t v q) ∙ n) in
          let k = g o in
          kept asked v (subst (λ (x : Vcpu). Among x (after_return c now)) (sym (w.as_it_was o)) w.on_the_card) k.0 k.1 k.2

  woken : (t : ℕ) (v : Vcpu) → Among v (to_named t (set_runnable true) (after_return c now)) → Mark (wake t) v
  woken t v m =
      toggled (wake t) t true v m (λ q r. (λ e. inl (ap wake (sym q)), λ e. r))
      (λ o. (λ e. let q : t ≡ v.terms.tunnel = cc in o (sym q), λ e. omega (arith, ap kind e), λ p. omega (arith, ap kind p.1)))

  blocked : (t : ℕ) (v : Vcpu) → Among v (to_named t (set_runnable false) (after_return c now)) → Mark (block t) v
  blocked t v m =
      toggled (block t) t false v m
      (λ q r. (λ e. clash (sym e ∙ r), ⊎_elim (λ e. absurd (omega (arith, ap kind e))) (λ p. absurd (p.1 (ap block (sym q))))))
      (λ o. (λ e. omega (arith, ap kind e), λ e. let q : t ≡ v.terms.tunnel = cc in o (sym q), λ p. omega (arith, ap kind p.1)))

  -- the newcomer's identifier is nobody else's
  module _ (d : Description) (free : on_card d.tunnel c.vcpus ≡ false) where
    alone : (v : Vcpu) → Among v (after_return c now) → v.terms.tunnel ≡ d.tunnel → ⊥
    alone v m e = clash (sym (is_on_card c.vcpus d.tunnel ((stays-there d.tunnel).0 (v, m, e))) ∙ free)

    entered : (v : Vcpu) → Among v (placed (admitted now d) (after_return c now)) → Mark (admit d) v
    entered v m = go (among_placed (admitted now d) (after_return c now) v m)
      where
        go : (v ≡ admitted now d) ⊎ Among v (after_return c now) → Mark (admit d) v
        go (inl e) = (
          λ r. clash (sym r ∙ ap (λ x. x.runnable) e),
          ⊎_elim (λ q. absurd (omega (arith, ap kind q))) (λ p. absurd (p.2 (d, refl, ap (λ x. x.terms.tunnel) (sym e)))),
        )
        go (inr k) =
            kept (admit d) v k (λ e. omega (arith, ap kind e)) (λ e. omega (arith, ap kind e))
            (λ p. let q : d ≡ p.0 = cc in alone v k (sym p.2 ∙ ap (λ x. x.tunnel) (sym q)))

    starts-anew : (v : Vcpu) → Among v (placed (admitted now d) (after_return c now)) → v.terms.tunnel ≡ d.tunnel → Newcomer now d v
    starts-anew v m e = go (among_placed (admitted now d) (after_return c now) v m)
      where
        go : (v ≡ admitted now d) ⊎ Among v (after_return c now) → Newcomer now d v
        go (inl q) =
            subst (λ (x : Vcpu). Newcomer now d x) (sym q) (newcomer now d)
        go (inr k) = absurd (alone v k e)

    entered-there : (t : ℕ) → (AdmitOf (admit d) t → ⊥)
        → OnTheCard (placed (admitted now d) (after_return c now)) t ↔ OnTheCard c.vcpus t
    entered-there t f = (
      λ p. go p (among_placed (admitted now d) (after_return c now) p.0 p.1),
      λ p. let q = (stays-there t).1 p in (q.0, placed_among (admitted now d) (after_return c now) q.0 q.1, q.2),
    )
      where
        go : (p : OnTheCard (placed (admitted now d) (after_return c now)) t) → (p.0 ≡ admitted now d) ⊎ Among p.0 (after_return c now)
            → OnTheCard c.vcpus t
        go p (inl e) = absurd (f (d, refl, ap (λ x. x.terms.tunnel) (sym e) ∙ p.2))
        go p (inr k) = (stays-there t).0 (p.0, k, p.2)

  module _ (t : ℕ) where
    abbrev left : List Vcpu
    left = keep (λ v. not (named t v)) (after_return c now)

    spared : (v : Vcpu) → Among v left → Mark (remove t) v
    spared v m =
        kept (remove t) v (among_keep (λ v. not (named t v)) (after_return c now) v m).0 (λ e. omega (arith, ap kind e))
        (λ e. omega (arith, ap kind e))
        (λ p. omega (arith, ap kind p.1))

    gone : (u : ℕ) → t ≡ u → OnTheCard left u → ⊥
    gone u e p =
        clash
        (sym (is-named t p.0 (p.2 ∙ sym e))
        ∙ not-true (named t p.0) (among_keep (λ v. not (named t v)) (after_return c now) p.0 p.1).1)

    left_there : (u : ℕ) → (t ≡ u → ⊥) → OnTheCard left u ↔ OnTheCard c.vcpus u
    left_there u f = (
      λ p. (stays-there u).0 (p.0, (among_keep (λ v. not (named t v)) (after_return c now) p.0 p.1).0, p.2),
      λ p. let q = (stays-there u).1 p in
          let n = not_named t q.0 (λ e. f (sym e ∙ q.2)) in
          (q.0, keep_among (λ v. not (named t v)) (after_return c now) q.0 q.1 (rw n), q.2),
    )

  -- wake, block, tick: everybody stays
  all_stay : (asked : Change) (vs : List Vcpu) → 1 ≤ kind asked → (kind asked ≡ 3 → ⊥) → ((v : Vcpu) → Among v vs → Mark asked v)
      → ((t : ℕ) → OnTheCard vs t ↔ OnTheCard c.vcpus t) → Marks c.vcpus now asked vs
  all_stay asked vs f g m o =
      record {
        runnable = m;
        admits = λ d e. absurd (omega (arith, ap kind e));
        starts = λ d e. absurd (omega (arith, ap kind e));
        removes = λ t e. absurd (g (ap kind e));
        others = λ t h k. o t;
      }

  marks_of : (rs : List Remembered) (asked : Change) → call_rows c.vcpus rs asked ≡ none
      → Marks c.vcpus now asked (change now asked (after_return c now))
  marks_of rs (admit d) e =
      let free = (admits c.vcpus rs d e).not_there in
      record {
        runnable = entered d free;
        admits = λ x f. let q : d ≡ x = cc in (admitted now d, placed_itself (admitted now d) (after_return c now), ap (λ x. x.tunnel) q);
        starts = λ x f. let q : d ≡ x = cc in
            subst (λ (x : Description). (v : Vcpu) → Among v
            (placed (admitted now d) (after_return c now)) → v.terms.tunnel ≡ x.tunnel → Newcomer now x v) q
            (starts-anew d free);
        removes = λ t f. absurd (omega (arith, ap kind f));
        others = λ t f g. entered-there d free t f;
      }
  marks_of rs (wake t) e = all_stay (wake t) _ (omega arith) (omega arith) (woken t) (marked-there t true)
  marks_of rs (block t) e = all_stay (block t) _ (omega arith) (omega arith) (blocked t) (marked-there t false)
  marks_of rs (remove t) e =
      record {
        runnable = spared t;
        admits = λ d f. absurd (omega (arith, ap kind f));
        starts = λ d f. absurd (omega (arith, ap kind f));
        removes = λ u f. let q : t ≡ u = cc in gone t u q;
        others = λ u f g. left_there t u (λ q. g (ap remove q));
      }
  marks_of rs tick e =
      all_stay tick _ (omega arith) (omega arith)
      (λ v m. kept tick v m (λ e. omega (arith, ap kind e)) (λ e. omega (arith, ap kind e))
      (λ p. omega (arith, ap kind p.1))) stays-there

pub marks : (calls : List Call) (call : Call) → NoRow (after calls) call
    → Marks (after calls).vcpus call.now call.asked (after (call ∷ calls)).vcpus
unfolding settled
marks calls call h =
    let e = not-given (after calls) call h in
    subst (λ (d : Card). Marks (after calls).vcpus call.now call.asked d.vcpus) (sym (card-accepted (after calls) call e))
    (marks_of (after calls) call.now (reached calls).lawful.once (kept_at call.now (after calls).remembered) call.asked
    (passed (after calls) call.now call.asked e).asked_for)
