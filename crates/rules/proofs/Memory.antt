-- Who is remembered, after any calls: an identifier is on the card or remembered, at most once, together they are at most 32, and every
-- time remembered is still to come. Assumes that the call's own rows did not apply.
use mathlib.Core.Path.{◌≡◌, refl, ap, sym, ◌∙◌, subst}
use mathlib.Core.Bool.{Bool, true, false, cond}
use mathlib.Core.List.{List, [], ◌∷◌, ◌++◌, map}
use mathlib.Core.Logic.{◌↔◌, inl, inr, ⊎_elim}
use mathlib.Core.Option.{Option, none, some}
use Prim.Native.Nat.{ℕ, suc, ◌+◌, ◌≤◌, ◌<◌, max}
use native.Mathlib.Omega.{arith}
use lib.Dec.{eqb}
use lib.ListN.{length, length-map, length-append}
use borrow.Author.Tests.{ltb-true, eqb-true, eqb-false, eq-eqb, ne_eqb}
use Rattle.rules.specs.Limits.{largest_tunnel, largest_period, most_vcpus}
use Rattle.rules.specs.Lists.{keep, count, All, Among}
use Rattle.rules.specs.Vcpu.{Description, Entry, Vcpu, admitted, named, times, comes}
use Rattle.rules.specs.Remember.{Remembered, later, latest, leaves_until, remembering, left_by, is_kept, kept, remembers, time_of}
use Rattle.rules.specs.Card.{Card, find, to_named}
use Rattle.rules.specs.Change.{Change, admit, wake, block, remove, tick, placed, set_runnable, change, leaving}
use Rattle.rules.specs.Refuse.{call_rows}
use Rattle.rules.specs.Meaning.{RememberedWith}
use Rattle.rules.specs.Turn.{after_return}
use Rattle.rules.proofs.Tests.{tests, no-some, cases}
use Rattle.rules.proofs.Named.{named-says, found}
use Rattle.rules.proofs.ThreeKinds.{by_kind}
use Rattle.rules.proofs.Lists.{all_imp, all_every, among_all, among_keep, all_among, all_append, count_none}
use Rattle.rules.proofs.Lists.{any_false, only_one, count_among, count-append, count_same, count-keep, length-keep, length_without}
use Rattle.rules.proofs.Queue.{Rising}
use Rattle.rules.proofs.Sound.{Sound}
use Rattle.rules.proofs.Accepted.{Admits, admits}
use Rattle.rules.proofs.Advance.{stepped, each-stepped, terms-stepped}
use Rattle.rules.proofs.Changed.{other, count-placed, length-placed, count_left}

-- an identifier in range, and a time after `last` and within the longest period
abbrev pub Awaited : ℕ → Remembered → Type 0
Awaited last r = (r.tunnel ≤ largest_tunnel) × (last < r.time) × (r.time ≤ last + largest_period)

pub record Memory (last : ℕ) (vs : List Vcpu) (rs : List Remembered) : Type 0 where
  pub apart : (t : ℕ) → count (named t) vs + count (remembers t) rs ≤ 1
  pub few : length vs + length rs ≤ most_vcpus
  pub range : All (Awaited last) rs

-- the time that a VCPU leaves behind lies where the times at which something comes to it do

latest-between : (low high : ℕ) (ts : List ℕ) → All (λ t. (low ≤ t) × (t ≤ high)) ts → (t : ℕ) → latest ts ≡ some t
    → (low ≤ t) × (t ≤ high)
latest-between low high [] h t e = no-some e
latest-between low high (u ∷ ts) h t e = go (latest ts) (latest-between low high ts h.1) e
  where
    go : (o : Option ℕ) → ((w : ℕ) → o ≡ some w → (low ≤ w) × (w ≤ high)) → some (later u o) ≡ some t → (low ≤ t) × (t ≤ high)
    go none f g = let q : u ≡ t = cc in (omega (arith, h.0), omega (arith, h.0))
    go (some w) f g =
        let q : max u w ≡ t = cc in
        let k = f w refl in
        (omega (arith, h.0, k), omega (arith, h.0, k))

rising-between : (low high : ℕ) (q : List Entry) → Rising low high q → All (λ t. (low ≤ t) × (t ≤ high)) (map (λ e. e.due) q)
rising-between low high [] r = tt
rising-between low high (e ∷ q) r =
    ((r.0, r.1), all_imp (λ t a. (omega (arith, a, r.0), a.1)) (map (λ e. e.due) q) (rising-between e.due high q r.2))

-- .. so, of a VCPU on the card, after `now` and within its period
pub leaves-within : (now : ℕ) (v : Vcpu) → Sound now v → (t : ℕ) → leaves_until v ≡ some t → (now < t) × (t ≤ now + v.terms.period)
leaves-within now v s =
    latest-between (suc now) (now + v.terms.period) (comes v)
    (all_append (λ t. (suc now ≤ t) × (t ≤ now + v.terms.period)) (map (λ e. e.due) v.pending) (times v.boundary)
    (rising-between (suc now) (now + v.terms.period) v.pending s.order) (by_kind v.terms none-there one-there))
  where
    Near : Option ℕ → Type 0
    Near o = All (λ t. (suc now ≤ t) × (t ≤ now + v.terms.period)) (times o)

    none-there : v.terms.kind ≡ 0 → Near v.boundary
    none-there e = subst Near (sym (s.sporadic e).0) tt

    one-there : (v.terms.kind ≡ 0 → ⊥) → Near v.boundary
    one-there n = let r = s.refills n in subst Near (sym r.3) ((r.4, r.5), tt)

-- who is not found is not remembered
pub none_of : (t : ℕ) (rs : List Remembered) → time_of t rs ≡ none → count (remembers t) rs ≡ 0
none_of t [] e = refl
none_of t (r ∷ rs) e = go (remembers t r) refl e (λ f. none_of t rs f)
  where
    go : (b : Bool) → remembers t r ≡ b → cond b (some r.time) (time_of t rs) ≡ none → (time_of t rs ≡ none → count (remembers t) rs ≡ 0)
        → cond b 1 0 + count (remembers t) rs ≡ 0
    go true f g ih = no-some (sym g)
    go false f g ih = omega (arith, ih g)

-- .. and who is found is
pub recalled : (t : ℕ) (rs : List Remembered) (time : ℕ) → time_of t rs ≡ some time → RememberedWith rs t time
recalled t [] time e = no-some e
recalled t (r ∷ rs) time e = go (remembers t r) refl e (recalled t rs time)
  where
    go : (b : Bool) → remembers t r ≡ b → cond b (some r.time) (time_of t rs) ≡ some time
        → (time_of t rs ≡ some time → RememberedWith rs t time) → RememberedWith (r ∷ rs) t time
    go true f g ih = (r, inl refl, omega (arith, tests), (cc))
    go false f g ih = let p = ih g in (p.0, inr p.1, p.2, p.3)

-- .., with that time, where no identifier is remembered twice
pub time_of_lem : (t : ℕ) (rs : List Remembered) → count (remembers t) rs ≤ 1 → (time : ℕ)
    → time_of t rs ≡ some time ↔ RememberedWith rs t time
time_of_lem t rs once time = (recalled t rs time, there)
  where
    there : RememberedWith rs t time → time_of t rs ≡ some time
    there (r, m, n, e) = go (time_of t rs) refl
      where
        its_own : remembers t r ≡ true
        its_own = eq-eqb r.tunnel t n

        go : (o : Option ℕ) → time_of t rs ≡ o → o ≡ some time
        go none f = absurd (omega (arith, none_of t rs f, count_among (remembers t) rs r m its_own))
        go (some u) f =
            let p = recalled t rs u f in
            let q : p.0 ≡ r = only_one (remembers t) rs once p.0 r p.1 m (eq-eqb p.0.tunnel t p.2) its_own in
            ap some (sym p.3 ∙ ap (λ x. x.time) q ∙ e)

-- steps 1 and 2 change neither who is on the card nor how many, and later fewer are remembered
pub memory-later : (c : Card) (now : ℕ) → c.last ≤ now → Memory c.last c.vcpus c.remembered
    → Memory now (after_return c now) (kept now c.remembered)
memory-later c now h m =
    rw (each-stepped c now)
    (record {
      apart = λ t. omega (arith, same t, m.apart t, count-keep (remembers t) (is_kept now) c.remembered);
      few = omega (arith, length-map c.vcpus step, m.few, length-keep (is_kept now) c.remembered);
      range = among_all (Awaited now) (kept now c.remembered) to_come;
    })
  where
    step : Vcpu → Vcpu
    step = stepped c.last now c.running

    same : (t : ℕ) → count (named t) (map step c.vcpus) ≡ count (named t) c.vcpus
    same t =
        count_same (named t) (named t) step c.vcpus
        (all_every (λ v. ap (λ x. eqb x.tunnel t) (terms-stepped c.last now c.running v)) c.vcpus)

    to_come : (r : Remembered) → Among r (kept now c.remembered) → Awaited now r
    to_come r a =
        let p = among_keep (is_kept now) c.remembered r a in
        let q = all_among (Awaited c.last) c.remembered m.range r p.0 in
        (q.0, ltb-true now r.time p.1, omega (arith, q.2))

module _ (now : ℕ) (vs : List Vcpu) (rs : List Remembered) (s : All (Sound now) vs) (m : Memory now vs rs) where
  -- nobody leaves: of each identifier as many as were there, and of a newcomer one
  nobody-leaves : (new : List Vcpu) → ((t : ℕ) → count (named t) new + count (remembers t) rs ≤ 1) → length new + length rs ≤ most_vcpus
      → Memory now new (rs ++ [])
  nobody-leaves new a f =
      record {
        apart = λ t. omega (arith, count-append (remembers t) rs [], a t);
        few = omega (arith, length-append rs [], f);
        range = all_append (Awaited now) rs [] m.range tt;
      }

  marked : (t : ℕ) (b : Bool) → Memory now (to_named t (set_runnable b) vs) (rs ++ [])
  marked t b = nobody-leaves (to_named t (set_runnable b) vs) (λ u. omega (arith, same u, m.apart u)) (omega (arith, length-map vs mark, m.few))
    where
      mark : Vcpu → Vcpu
      mark v = cond (named t v) (set_runnable b v) v

      same : (u : ℕ) → count (named u) (map mark vs) ≡ count (named u) vs
      same u = count_same (named u) (named u) mark vs (all_every (λ v. go v (named t v)) vs)
        where
          go : (v : Vcpu) (x : Bool) → named u (cond x (set_runnable b v) v) ≡ named u v
          go v true = refl
          go v false = refl

  entered : (d : Description) → Admits vs rs d → Memory now (placed (admitted now d) vs) (rs ++ [])
  entered d a =
      nobody-leaves (placed (admitted now d) vs) (λ t. omega (arith, count-placed (named t) (admitted now d) vs, at_most_one t))
      (omega (arith, length-placed (admitted now d) vs, a.room))
    where
      nobody : count (named d.tunnel) vs + count (remembers d.tunnel) rs ≡ 0
      nobody =
          omega (
            arith,
            count_none (named d.tunnel) vs (any_false (named d.tunnel) vs a.not_there),
            none_of d.tunnel rs a.not-remembered,
          )

      at_most_one : (t : ℕ) → cond (eqb d.tunnel t) 1 0 + (count (named t) vs + count (remembers t) rs) ≤ 1
      at_most_one t = ⊎_elim new (λ e. rw e (omega (arith, m.apart t))) (cases (eqb d.tunnel t))
        where
          new : eqb d.tunnel t ≡ true → cond (eqb d.tunnel t) 1 0 + (count (named t) vs + count (remembers t) rs) ≤ 1
          new e =
              rw e
              (omega (
                arith,
                subst (λ (u : ℕ). count (named u) vs + count (remembers u) rs ≡ 0) (eqb-true d.tunnel t e) nobody,
              ))

  -- the one removed is remembered in place of its VCPU
  module _ (t : ℕ) where
    left : (o : Option Vcpu) → find t vs ≡ o → Memory now (keep (other t) vs) (rs ++ left_by o)
    left none e =
        nobody-leaves (keep (other t) vs) (λ u. omega (arith, fewer u, m.apart u)) (omega (arith, length_without (named t) vs, m.few))
      where
        fewer : (u : ℕ) → count (named u) (keep (other t) vs) ≤ count (named u) vs
        fewer u = count-keep (named u) (other t) vs
    left (some v) e = goes (leaves_until v) refl
      where
        there : Among v vs × (named t v ≡ true)
        there = found t vs v e

        its_name : v.terms.tunnel ≡ t
        its_name = named-says t v there.1

        one : 1 ≤ count (named t) vs
        one = count_among (named t) vs v there.0 there.1

        sound : Sound now v
        sound = all_among (Sound now) vs s v there.0

        goes : (u : Option ℕ) → leaves_until v ≡ u → Memory now (keep (other t) vs) (rs ++ remembering v.terms.tunnel u)
        goes none f =
            nobody-leaves (keep (other t) vs) (λ u. omega (arith, count-keep (named u) (other t) vs, m.apart u))
            (omega (arith, length_without (named t) vs, m.few))
        goes (some time) f =
            record {
              apart = λ u. omega (arith, count-append (remembers u) rs (r ∷ []), count_left t u vs, m.apart u, at_most_one u);
              few = omega (arith, length-append rs (r ∷ []), length_without (named t) vs, one, m.few);
              range = all_append (Awaited now) rs (r ∷ []) m.range
                  ((sound.range.tunnel-high, w.0, omega (arith, w.1, sound.range.period-high)), tt);
            }
          where
            r : Remembered
            r = record { tunnel = v.terms.tunnel; time = time }

            w : (now < time) × (time ≤ now + v.terms.period)
            w = leaves-within now v sound time f

            at_most_one : (u : ℕ)
                → cond (eqb u t) 0 (count (named u) vs) + (count (remembers u) rs + (cond (eqb v.terms.tunnel u) 1 0 + 0)) ≤ 1
            at_most_one u = ⊎_elim this that (cases (eqb u t))
              where
                Most : ℕ → Bool → Type 0
                Most k b = cond b 0 (count (named u) vs) + (count (remembers u) rs + (cond (eqb k u) 1 0 + 0)) ≤ 1

                this : eqb u t ≡ true → Most v.terms.tunnel (eqb u t)
                this g =
                    let q : u ≡ t = eqb-true u t g in
                    let z : count (remembers u) rs ≡ 0 =
                    omega (arith, m.apart u, subst (λ (x : ℕ). 1 ≤ count (named x) vs) (sym q) one) in
                    rw (g, eq-eqb v.terms.tunnel u (its_name ∙ sym q)) (omega arith)

                that : eqb u t ≡ false → Most v.terms.tunnel (eqb u t)
                that g =
                    rw (g, ne_eqb v.terms.tunnel u (λ x. eqb-false u t g (sym x ∙ its_name))) (omega (arith, m.apart u))

  pub memory-changed : (asked : Change) → call_rows vs rs asked ≡ none → Memory now (change now asked vs) (rs ++ leaving asked vs)
  memory-changed (admit d) e = entered d (admits vs rs d e)
  memory-changed (wake t) e = marked t true
  memory-changed (block t) e = marked t false
  memory-changed (remove t) e = left t (find t vs) refl
  memory-changed tick e = nobody-leaves vs m.apart m.few
