-- Steps 1 and 2 of an accepted call: d ticks pass, the one that held the core is charged, and what is due returns.
-- Assumes that the ticks held are no more than the usable ones, and that who runs is on the card.
use mathlib.Core.Path.{◌≡◌, refl, ap, sym, ◌∙◌, subst}
use mathlib.Core.Bool.{Bool, true, false, cond, not, ◌&&◌, ◌||◌}
use mathlib.Core.List.{List, [], ◌∷◌, map}
use mathlib.Core.Logic.{⊎_elim}
use mathlib.Core.Option.{Option, none, some}
use Prim.Native.Nat.{ℕ, suc, ◌+◌, ◌≤◌}
use native.Mathlib.Omega.{arith}
use lib.Dec.{leb, ltb, eqb}
use lib.ListN.{length, length-map}
use borrow.Author.Tests.{eq-eqb}
use Rattle.rules.specs.Limits.{most_pending}
use Rattle.rules.specs.Lists.{any, count, All, Among}
use Rattle.rules.specs.Vcpu.{Entry, Vcpu, named}
use Rattle.rules.specs.Card.{Card, on_card}
use Rattle.rules.specs.Charge.{waiting, charge, no_ticks, charged_some, charged, folds}
use Rattle.rules.specs.Return.{bring, returned}
use Rattle.rules.specs.Change.{Change, admit, wake, block, remove, tick}
use Rattle.rules.specs.Remember.{Remembered}
use Rattle.rules.specs.Refuse.{call_rows}
use Rattle.rules.specs.Turn.{after_return}
use Rattle.rules.specs.Meaning.{OnTheCard}
use Rattle.rules.specs.History.{ticks, holds}
use Rattle.rules.specs.Stays.{Stay, lasts, lasts_as, owns, held, held_ticks, EachTick, owners}
use Rattle.rules.specs.Slices.{slices, ever_folds}
use Rattle.rules.specs.Demand3.{has_to_fold, folds_at}
use Rattle.rules.proofs.Tests.{tests, cases, and-true, and_right, and_one, or-none}
use Rattle.rules.proofs.Named.{named-says, is-named}
use Rattle.rules.proofs.ThreeKinds.{terms-returned, runnable-returned, held-returned, returned-none}
use Rattle.rules.proofs.Lists.{all_imp, all_both, all_every, all_map_both, all_map_among, all_among, among_all, any_same, any-only}
use Rattle.rules.proofs.Lists.{among_map, map_among, some_one, count_same, count_among, count_none, length-ticks}
use Rattle.rules.proofs.Slices.{slices-idle}
use Rattle.rules.proofs.Sound.{Orderly, Sound, orderly-later, kept-charged, sound-returned}
use Rattle.rules.proofs.Tied.{Tied, tied-return, tied-idle, tied-charged, within-charged, folds-there}
use Rattle.rules.proofs.Window.{Within, within-idle}
use Rattle.rules.proofs.Held.{Dated, length-held, owns-now, held_more, held_on, held_off, each_more}
use Rattle.rules.proofs.Lawful.{Pair, Paired, Bounded, Lawful}

-- what step 1, and steps 1 and 2, do to one VCPU
abbrev pub charged_if : ℕ → ℕ → Option ℕ → Vcpu → Vcpu
charged_if last now running v = cond (holds v.terms.tunnel running) (charged last now v) v

abbrev pub stepped : ℕ → ℕ → Option ℕ → Vcpu → Vcpu
stepped last now running v = returned now (charged_if last now running v)

pub each-stepped : (c : Card) (now : ℕ) → after_return c now ≡ map (stepped c.last now c.running) c.vcpus
each-stepped c now = go c.running c.vcpus
  where
    go : (o : Option ℕ) (vs : List Vcpu) → bring now (charge c.last now o vs) ≡ map (stepped c.last now o) vs
    go none vs = refl
    go (some t) [] = refl
    go (some t) (v ∷ vs) = ap (λ (l : List Vcpu). stepped c.last now (some t) v ∷ l) (go (some t) vs)

-- after these steps everybody is there, and nobody else
pub is-there : (c : Card) (now : ℕ) (v : Vcpu) → Among v c.vcpus → Among (stepped c.last now c.running v) (after_return c now)
is-there c now v m =
    let step = stepped c.last now c.running in
    subst (λ (l : List Vcpu). Among (step v) l) (sym (each-stepped c now)) (map_among step c.vcpus v m)

pub was-there : (c : Card) (now : ℕ) (w : Vcpu) → Among w (after_return c now)
    → (v : Vcpu) × Among v c.vcpus × (w ≡ stepped c.last now c.running v)
was-there c now w m =
    among_map (stepped c.last now c.running) c.vcpus w (subst (λ (l : List Vcpu). Among w l) (each-stepped c now) m)

pub terms-charged : (last now : ℕ) (v : Vcpu) → (charged last now v).terms ≡ v.terms
unfolding charged
terms-charged last now v = go (no_ticks last now)
  where
    go : (b : Bool) → (cond b v (charged_some last now v)).terms ≡ v.terms
    go true = refl
    go false = refl

-- a charge of d ticks adds them to the held total
pub held-charged : (last d : ℕ) (v : Vcpu) → (charged last (last + d) v).held_total ≡ v.held_total + d
unfolding charged
held-charged last d v = go (no_ticks last (last + d)) refl
  where
    go : (b : Bool) → no_ticks last (last + d) ≡ b → (cond b v (charged_some last (last + d) v)).held_total ≡ v.held_total + d
    go true z = omega (arith, tests)
    go false z = omega arith

pub terms_charged_if : (last now : ℕ) (o : Option ℕ) (v : Vcpu) → (charged_if last now o v).terms ≡ v.terms
terms_charged_if last now o v = go (holds v.terms.tunnel o)
  where
    go : (b : Bool) → (cond b (charged last now v) v).terms ≡ v.terms
    go true = terms-charged last now v
    go false = refl

pub terms-stepped : (last now : ℕ) (o : Option ℕ) (v : Vcpu) → (stepped last now o v).terms ≡ v.terms
terms-stepped last now o v = terms-returned now (charged_if last now o v) ∙ terms_charged_if last now o v

pub runnable-stepped : (last now : ℕ) (o : Option ℕ) (v : Vcpu) → (stepped last now o v).runnable ≡ v.runnable
unfolding charged
runnable-stepped last now o v = runnable-returned now (charged_if last now o v) ∙ go (holds v.terms.tunnel o) (no_ticks last now)
  where
    go : (b n : Bool) → (cond b (cond n v (charged_some last now v)) v).runnable ≡ v.runnable
    go true true = refl
    go true false = refl
    go false n = refl

-- the call's own rows may be judged before these steps or after them
pub rows-stepped : (c : Card) (now : ℕ) (rs : List Remembered) (asked : Change)
    → call_rows (after_return c now) rs asked ≡ call_rows c.vcpus rs asked
rows-stepped c now rs asked = rw (each-stepped c now) (go asked)
  where
    step : Vcpu → Vcpu
    step = stepped c.last now c.running

    there : (t : ℕ) → on_card t (map step c.vcpus) ≡ on_card t c.vcpus
    there t = any_same (named t) (named t) step c.vcpus (λ v. ap (λ x. eqb x.tunnel t) (terms-stepped c.last now c.running v))

    go : (asked : Change) → call_rows (map step c.vcpus) rs asked ≡ call_rows c.vcpus rs asked
    go (admit d) = rw (there d.tunnel, length-map c.vcpus step)
    go (wake t) = rw (there t)
    go (block t) = rw (there t)
    go (remove t) = rw (there t)
    go tick = refl

-- what has to fold is what the rule folds
has_to_fold_lem : (last : ℕ) (v : Vcpu) → has_to_fold last v ≡ folds last v
has_to_fold_lem last v = go v.pending (eqb v.ended last)
  where
    go : (q : List Entry) (b : Bool) → leb most_pending (length q) && not b ≡ not (b && waiting q) && leb most_pending (length q)
    go [] b = sym (and_right (not (b && false)))
    go (e ∷ q) true = and_right (leb most_pending (length (e ∷ q)))
    go (e ∷ q) false = and_one (leb most_pending (length (e ∷ q)))

-- the history says that the queue had to fold in this stay
abbrev pub says : Stay → List (Option ℕ) → Bool
says s h = ever_folds s.terms.period (slices s.terms.period (held s h))

module _ (c : Card) (d : ℕ) (ss : List Stay) (h : List (Option ℕ)) (l : Lawful c.last c.vcpus ss h)
    (pace : All (λ v. holds v.terms.tunnel c.running ≡ true → d ≤ v.usable) c.vcpus)
    (there : (t : ℕ) → c.running ≡ some t → count (named t) c.vcpus ≡ 1) where
  abbrev step : Vcpu → Vcpu
  step = stepped c.last (c.last + d) c.running

  sound-step : (v : Vcpu) → Sound c.last v → (holds v.terms.tunnel c.running ≡ true → d ≤ v.usable)
      → Sound (c.last + d) (step v)
  sound-step v s p = ⊎_elim ran (λ e. waited e) (cases (holds v.terms.tunnel c.running))
    where
      ran : holds v.terms.tunnel c.running ≡ true → Sound (c.last + d) (stepped c.last (c.last + d) c.running v)
      ran e =
          rw e
          (sound-returned (suc c.last) (c.last + v.terms.period) (c.last + d) (charged c.last (c.last + d) v)
          (omega (arith, ap (λ x. x.period) (terms-charged c.last (c.last + d) v)))
          (kept-charged c.last d v (p e) s))

      waited : holds v.terms.tunnel c.running ≡ false → Sound (c.last + d) (stepped c.last (c.last + d) c.running v)
      waited e =
          rw e
          (sound-returned (suc c.last) (c.last + v.terms.period) (c.last + d) v (omega arith)
          (orderly-later (suc c.last) (c.last + v.terms.period) c.last (c.last + d) v (omega arith) s))

  -- the ticks of a stay that lasts: all d, or none
  held-step : (s : Stay) (b : Bool) → Dated c.last s → lasts s.until ≡ true → holds s.terms.tunnel c.running ≡ b
      → held s (ticks d c.running h) ≡ ticks d b (held s h)
  held-step s b g u e =
      held_more s c.running c.last d h g (omega (arith, l.long))
      ∙ ap (λ (x : Bool). ticks d x (held s h)) (rw (u, e))

  -- a VCPU before its return, and what ties it to its stay
  pair-return : (s : Stay) (b : Bool) (w : Vcpu) (low high : ℕ) → w.terms ≡ s.terms → Orderly low high (c.last + d) w
      → held s (ticks d c.running h) ≡ ticks d b (held s h)
      → w.held_total ≡ held_ticks (ticks d b (held s h))
      → (w.terms.kind ≡ 0 → Tied w.terms.period (c.last + d) w.ended w.pending (ticks d b (held s h)))
      → Pair (c.last + d) s (returned (c.last + d) w) (ticks d c.running h)
  pair-return s b w low high e k g n t =
      record {
        same-terms = terms-returned (c.last + d) w ∙ e;
        held-total = held-returned (c.last + d) w ∙ n ∙ ap held_ticks (sym g);
        tied = λ i. back (ap (λ x. x.kind) (sym (terms-returned (c.last + d) w)) ∙ i);
      }
    where
      TiedTo : Vcpu → Type 0
      TiedTo v = Tied v.terms.period (c.last + d) v.ended v.pending (held s (ticks d c.running h))

      back : w.terms.kind ≡ 0 → TiedTo (returned (c.last + d) w)
      back i =
          subst TiedTo (sym (returned-none (c.last + d) w (k.sporadic i).0))
          (rw g
          (tied-return w.terms.period (c.last + d) w.ended low high w.pending (ticks d b (held s h)) k.order (t i)))

  pair_step : (s : Stay) (v : Vcpu) → Dated c.last s → lasts s.until ≡ true → Among v c.vcpus
      → v.terms.tunnel ≡ s.terms.tunnel
      → Pair c.last s v h → Pair (c.last + d) s (step v) (ticks d c.running h)
  pair_step s v g u m e p = ⊎_elim ran waited (cases (holds v.terms.tunnel c.running))
    where
      n : length (held s h) ≡ c.last
      n = length-held s h ∙ l.long

      sv : Sound c.last v
      sv = all_among (Sound c.last) c.vcpus l.sound v m

      ran : holds v.terms.tunnel c.running ≡ true
          → Pair (c.last + d) s (stepped c.last (c.last + d) c.running v) (ticks d c.running h)
      ran r =
          let k = all_among (λ v. holds v.terms.tunnel c.running ≡ true → d ≤ v.usable) c.vcpus pace v m r in
          let r' : holds s.terms.tunnel c.running ≡ true = subst (λ (t : ℕ). holds t c.running ≡ true) e r in
          let tw : (charged c.last (c.last + d) v).terms ≡ v.terms = terms-charged c.last (c.last + d) v in
          rw r
          (pair-return s true (charged c.last (c.last + d) v)
          (suc c.last) (c.last + v.terms.period) (tw ∙ p.same-terms) (kept-charged c.last d v k sv)
          (held-step s true g u r')
          (omega (arith, held-charged c.last d v, p.held-total, held_on d (held s h)))
          (rw tw (λ i. tied-charged c.last d v (held s h) i n sv k (p.tied i))))

      waited : holds v.terms.tunnel c.running ≡ false
          → Pair (c.last + d) s (stepped c.last (c.last + d) c.running v) (ticks d c.running h)
      waited r =
          let r' : holds s.terms.tunnel c.running ≡ false = subst (λ (t : ℕ). holds t c.running ≡ false) e r in
          rw r
          (pair-return s false v (suc c.last) (c.last + v.terms.period) p.same-terms
          (orderly-later (suc c.last) (c.last + v.terms.period) c.last (c.last + d) v (omega arith) sv)
          (held-step s false g u r')
          (omega (arith, p.held-total, held_off d (held s h)))
          (λ i. tied-idle v.terms.period c.last d v.ended v.pending (held s h) n sv.used (p.tied i)))

  paired-step : (s : Stay) → Dated c.last s → Paired c.last c.vcpus h s
      → Paired (c.last + d) (map step c.vcpus) (ticks d c.running h) s
  paired-step s g p u =
      all_map_among (λ v. v.terms.tunnel ≡ s.terms.tunnel → Pair c.last s v h)
      (λ v. v.terms.tunnel ≡ s.terms.tunnel → Pair (c.last + d) s v (ticks d c.running h)) step c.vcpus
      (λ v m q e. pair_step s v g u m (same v e) (q (same v e))) (p u)
    where
      same : (v : Vcpu) → (step v).terms.tunnel ≡ s.terms.tunnel → v.terms.tunnel ≡ s.terms.tunnel
      same v e = ap (λ x. x.tunnel) (sym (terms-stepped c.last (c.last + d) c.running v)) ∙ e

  -- the VCPU of a stay that lasts
  pub its_vcpu : (s : Stay) → Among s ss → lasts s.until ≡ true → OnTheCard c.vcpus s.terms.tunnel
  its_vcpu s m u =
      let k : 1 ≤ count (named s.terms.tunnel) c.vcpus =
      omega (
        arith,
        l.on_the_card s.terms.tunnel,
        count_among (lasts_as s.terms.tunnel) ss s m (rw (u, eq-eqb s.terms.tunnel s.terms.tunnel refl)),
      ) in
      let p = some_one (named s.terms.tunnel) c.vcpus k in
      (p.0, p.1, named-says s.terms.tunnel p.0 p.2)

  its_pair : (s : Stay) (m : Among s ss) (u : lasts s.until ≡ true) → Pair c.last s (its_vcpu s m u).0 h
  its_pair s m u =
      let v = its_vcpu s m u in
      all_among (λ v. v.terms.tunnel ≡ s.terms.tunnel → Pair c.last s v h) c.vcpus
      (all_among (Paired c.last c.vcpus h) ss l.paired s m u) v.0 v.1 v.2

  its_pace : (s : Stay) (m : Among s ss) (u : lasts s.until ≡ true) → holds s.terms.tunnel c.running ≡ true
      → d ≤ (its_vcpu s m u).0.usable
  its_pace s m u r =
      let v = its_vcpu s m u in
      all_among (λ v. holds v.terms.tunnel c.running ≡ true → d ≤ v.usable) c.vcpus pace v.0 v.1
      (subst (λ (t : ℕ). holds t c.running ≡ true) (sym v.2) r)

  its_sound : (s : Stay) (m : Among s ss) (u : lasts s.until ≡ true) → Sound c.last (its_vcpu s m u).0
  its_sound s m u = all_among (Sound c.last) c.vcpus l.sound (its_vcpu s m u).0 (its_vcpu s m u).1

  -- the VCPU of a sporadic stay is tied to it
  its_tied : (s : Stay) (m : Among s ss) (u : lasts s.until ≡ true) → s.terms.kind ≡ 0
      → let v = (its_vcpu s m u).0 in Tied v.terms.period c.last v.ended v.pending (held s h)
  its_tied s m u i = let p = its_pair s m u in p.tied (ap (λ x. x.kind) p.same-terms ∙ i)

  bounded-step : (s : Stay) → Among s ss → Bounded h s → Bounded (ticks d c.running h) s
  bounded-step s m w i = ⊎_elim here gone (cases (lasts s.until))
    where
      Kept : Type 0
      Kept = Within s.terms.period s.terms.capacity (held s (ticks d c.running h))

      g : Dated c.last s
      g = all_among (Dated c.last) ss l.dated s m

      gone : lasts s.until ≡ false → Kept
      gone u =
          rw (held_more s c.running c.last d h g (omega (arith, l.long)), u)
          (within-idle s.terms.period s.terms.capacity d (held s h) (w i))

      here : lasts s.until ≡ true → Kept
      here u = ⊎_elim ran waited (cases (holds s.terms.tunnel c.running))
        where
          waited : holds s.terms.tunnel c.running ≡ false → Kept
          waited r = rw (held-step s false g u r) (within-idle s.terms.period s.terms.capacity d (held s h) (w i))

          ran : holds s.terms.tunnel c.running ≡ true → Kept
          ran r =
              rw (held-step s true g u r)
              (subst (λ x. Within x.period x.capacity (held s h) → Within x.period x.capacity (ticks d true (held s h)))
              (its_pair s m u).same-terms
              (within-charged c.last d (its_vcpu s m u).0 (held s h) (length-held s h ∙ l.long)
              (its_sound s m u) (its_pace s m u r) (its_tied s m u i)) (w i))

  -- what the history says of a sporadic stay's folding grows by what the call does to the queue
  pub folded-step : (s : Stay) → Among s ss → s.terms.kind ≡ 0 → says s (ticks d c.running h) ≡ says s h || folds_at c (c.last + d) s
  folded-step s m i = go (ltb c.last (c.last + d)) refl (owns s c.running c.last) refl
    where
      g : Dated c.last s
      g = all_among (Dated c.last) ss l.dated s m

      owned : (o : Bool) → owns s c.running c.last ≡ o → lasts s.until && holds s.terms.tunnel c.running ≡ o
      owned o e = sym (owns-now s c.running c.last c.last g (omega arith)) ∙ e

      ticked : (o : Bool) → owns s c.running c.last ≡ o
          → says s (ticks d c.running h) ≡ ever_folds s.terms.period (slices s.terms.period (ticks d o (held s h)))
      ticked o e =
          ap (λ (k : List Bool). ever_folds s.terms.period (slices s.terms.period k))
          (held_more s c.running c.last d h g (omega (arith, l.long)) ∙ ap (λ (b : Bool). ticks d b (held s h)) (owned o e))

      ran : lasts s.until ≡ true → holds s.terms.tunnel c.running ≡ true → 1 ≤ d
          → ever_folds s.terms.period (slices s.terms.period (ticks d true (held s h)))
          ≡ says s h || any (λ v. named s.terms.tunnel v && has_to_fold c.last v) c.vcpus
      ran u r k =
          let v = its_vcpu s m u in
          let a : any (λ v. named s.terms.tunnel v && has_to_fold c.last v) c.vcpus ≡ folds c.last v.0 =
          any-only (named s.terms.tunnel) (has_to_fold c.last) c.vcpus (l.once s.terms.tunnel) v.0 v.1
          (is-named s.terms.tunnel v.0 v.2) ∙ has_to_fold_lem c.last v.0 in
          rw a
          (subst (λ x. ever_folds x.period (slices x.period (ticks d true (held s h)))
          ≡ ever_folds x.period (slices x.period (held s h)) || folds c.last v.0) (its_pair s m u).same-terms
          (folds-there c.last d v.0 (held s h) (length-held s h ∙ l.long)
          (its_sound s m u) (its_pace s m u r) (its_tied s m u i) k))

      go : (n : Bool) → ltb c.last (c.last + d) ≡ n → (o : Bool) → owns s c.running c.last ≡ o
          → says s (ticks d c.running h)
          ≡ says s h || (n && o && any (λ v. named s.terms.tunnel v && has_to_fold c.last v) c.vcpus)
      go false e o f =
          let z : d ≡ 0 = omega (arith, tests) in
          rw z (sym (or-none (says s h)))
      go true e false f =
          ticked false f ∙ ap (ever_folds s.terms.period) (slices-idle s.terms.period d (held s h)) ∙ sym (or-none (says s h))
      go true e true f =
          let p = and-true (lasts s.until) (holds s.terms.tunnel c.running) (owned true f) in
          ticked true f ∙ ran p.0 p.1 (omega (arith, tests))

  owned-step : EachTick (λ o n. owners ss o n ≡ 1) (ticks d c.running h)
  owned-step =
      each_more (λ o n. owners ss o n ≡ 1) d c.running h (λ n k. new c.running refl n (omega (arith, l.long)))
      l.owned
    where
      new : (o : Option ℕ) → c.running ≡ o → (n : ℕ) → c.last ≤ n → owners ss o n ≡ 1
      new none e n k = omega (arith, count_none (λ s. owns s none n) ss (all_imp (λ s g. refl) ss l.dated))
      new (some t) e n k = omega (arith, counted ss l.dated, l.on_the_card t, there t e)
        where
          counted : (ss : List Stay) → All (Dated c.last) ss → count (λ s. owns s (some t) n) ss ≡ count (lasts_as t) ss
          counted [] g = refl
          counted (s ∷ ss) g = rw (owns-now s (some t) c.last n g.0 k, counted ss g.1)

  pub advance : Lawful (c.last + d) (after_return c (c.last + d)) ss (ticks d c.running h)
  advance =
      rw (each-stepped c (c.last + d))
      (record {
        sound = all_map_both (Sound (c.last + d)) step sound-step c.vcpus l.sound pace;
        once = λ t. omega (arith, same t, l.once t);
        few = omega (arith, length-map c.vcpus step, l.few);
        long = omega (arith, length-ticks d c.running h, l.long);
        on_the_card = λ t. l.on_the_card t ∙ sym (same t);
        dated = all_imp (λ s g. record { began = omega (arith, g.began); over = λ r e. omega (arith, g.over r e) }) ss l.dated;
        paired = all_both paired-step ss l.dated l.paired;
        bounded = among_all _ ss (λ s m. bounded-step s m (all_among (Bounded h) ss l.bounded s m));
        owned = owned-step;
      })
    where
      same : (t : ℕ) → count (named t) (map step c.vcpus) ≡ count (named t) c.vcpus
      same t =
          count_same (named t) (named t) step c.vcpus
          (all_every (λ v. ap (λ x. eqb x.tunnel t) (terms-stepped c.last (c.last + d) c.running v)) c.vcpus)
