-- Who is remembered, as the code has it: what is written is shown again, a loop looks one slot further or keeps one more, and one that
-- leaves is remembered with the last time that something would have come to it. Assumes nothing.
use Prim.Native.Nat.{ℕ, zero, suc, ◌+◌, ◌-◌, ◌≤◌, ◌<◌, max}
use mathlib.Core.Path.{◌≡◌, refl, ap, sym, ◌∙◌}
use mathlib.Core.Bool.{Bool, true, false, cond, not}
use mathlib.Core.List.{List, [], ◌∷◌, ◌++◌, map, append-nil}
use mathlib.Core.Option.{none, some}
use mathlib.Core.Option.{Option as Maybe}
use Rattle.std.specs.Prelude.{Option, Some, None}
use Rattle.std.specs.List.{position, position_or_len}
use native.Mathlib.Omega.{arith}
use native.Mathlib.Numerals.{add-one}
use lib.Dec.{ltb, eqb}
use lib.ListN.{length, take, drop, get_or, set, length-append, length-map}
use lib.Seq.{drop-cons, take-suc, take_all, length-take-le}
use borrow.Author.Tests.{ltb-true, ltb-false, lt-ltb, le-ltb, eqb-true, eqb-false, eq-eqb, ne_eqb}
use Rattle.units.specs.Units.{moment, tunnel}
use Rattle.units.specs.declared.Moment.{Moment}
use Rattle.units.specs.declared.Tunnel.{Tunnel}
use Rattle.rules.specs.Lists.{keep}
use Rattle.rules.specs.Vcpu.{comes}
use Rattle.rules.specs.Vcpu.{Vcpu as Tenant}
use Rattle.rules.specs.Remember.{Remembered, latest, leaves_until, remembering, is_kept, kept, time_of}
use Rattle.rules.proofs.Lists.{length-keep}
use Rattle.turns.specs.declared.Memory.{Memory}
use Rattle.turns.specs.Laid.{laid}
use Rattle.turns.specs.Written.{never, nobody, written, timer_at, timer_of, moment_said, slots, memories, id_of, until_of, memory_of}
use Rattle.turns.specs.Steps.{latest_of}
use Rattle.turns.specs.Remembered.{Fixed, with_of, leaving_of}
use Rattle.turns.proofs.Laid.{laid-get, laid_end, laid-length, front-get, front_vacate, front-end, front-all}
use Rattle.turns.proofs.Choose.{Rises, Calm}
use Rattle.turns.specs.Tenants.{Formed, queue, refills}

slots-laid : (y : Tunnel) (z : Moment) (k : ℕ) (rs : List Remembered) → length rs ≤ k
    → slots (length rs) (laid k id_of y rs) (laid k until_of z rs) ≡ rs
unfolding laid
slots-laid y z k [] h = refl
slots-laid y z zero (r ∷ rs) h = absurd (omega arith)
slots-laid y z (suc k) (r ∷ rs) h = ap (λ (l : List Remembered). r ∷ l) (slots-laid y z k rs (omega arith))

-- what is written is shown again
pub memory-shown : (rs : List Remembered) → length rs ≤ 32 → memories (memory_of rs) ≡ rs
memory-shown rs h = slots-laid (tunnel nobody) (moment never) 32 rs h

pub memory-fixed : (rs : List Remembered) → length rs ≤ 32 → Fixed (memory_of rs)
memory-fixed rs h = record { few = h; written = ap memory_of (sym (memory-shown rs h)) }

-- those who are remembered still are written and shown again
pub kept_again : (now : ℕ) (m : Memory) → m.count ≤ 32
    → Fixed (memory_of (kept now (memories m))) × (memories (memory_of (kept now (memories m))) ≡ kept now (memories m))
kept_again now m h =
    let few : length (kept now (memories m)) ≤ 32 =
    omega (arith, h, shown-most m.count m.ids m.until, length-keep (is_kept now) (memories m)) in
    (memory-fixed (kept now (memories m)) few, memory-shown (kept now (memories m)) few)
  where
    shown-most : (n : ℕ) (ts : List Tunnel) (ms : List Moment) → length (slots n ts ms) ≤ n
    shown-most zero ts ms = omega arith
    shown-most (suc n) [] ms = omega arith
    shown-most (suc n) (t ∷ ts) [] = omega arith
    shown-most (suc n) (t ∷ ts) (x ∷ ms) = omega (arith, shown-most n ts ms)

pub fixed-length : (m : Memory) → Fixed m → (length m.ids ≡ 32) × (length m.until ≡ 32)
fixed-length m f = (
  ap (λ (x : Memory). length x.ids) f.written ∙ laid-length id_of (tunnel nobody) 32 (memories m),
  ap (λ (x : Memory). length x.until) f.written ∙ laid-length until_of (moment never) 32 (memories m),
)

-- one slot
abbrev pub slot_of : Tunnel → Moment → Remembered
slot_of t m = record { tunnel = t.0; time = m.0 }

-- the time in a slot, if it is one
abbrev pub told_at : List Moment → Option ℕ → Option Moment
told_at ms None = None
told_at ms (Some k) = Some (get_or ms k (moment 0))

both_more : (a n : ℕ) → ltb (suc a) (suc n) ≡ ltb a n
both_more a n = go (ltb a n) refl
  where
    go : (b : Bool) → ltb a n ≡ b → ltb (suc a) (suc n) ≡ ltb a n
    go true e = rw e (lt-ltb (suc a) (suc n) (omega (arith, ltb-true a n e)))
    go false e = rw e (le-ltb (suc a) (suc n) (omega (arith, ltb-false a n e)))

-- a search for an identifier finds its time
pub time-found : (t n : ℕ) (ts : List Tunnel) (ms : List Moment) → n ≤ length ts → n ≤ length ms
    → moment_said (time_of t (slots n ts ms)) ≡ told_at ms (position (λ (x : Tunnel). eqb x.0 t) (take n ts))
time-found t n ts ms h g =
    ap moment_said (at n ts ms h g)
    ∙ go (ltb (place n ts) n)
    ∙ ap (λ (l : ℕ). told_at ms (cond (ltb (place n ts) l) (Some (place n ts)) None)) (sym (length-take-le n ts h))
  where
    place : ℕ → List Tunnel → ℕ
    place n ts = position_or_len (λ (x : Tunnel). eqb x.0 t) (take n ts)

    go : (b : Bool) → moment_said (cond b (some (get_or ms (place n ts) (moment 0)).0) none) ≡ told_at ms (cond b (Some (place n ts)) None)
    go true = refl
    go false = refl

    at : (n : ℕ) (ts : List Tunnel) (ms : List Moment) → n ≤ length ts → n ≤ length ms
        → time_of t (slots n ts ms) ≡ cond (ltb (place n ts) n) (some (get_or ms (place n ts) (moment 0)).0) none
    at zero ts ms h g = refl
    at (suc n) [] ms h g = absurd (omega arith)
    at (suc n) (x ∷ ts) [] h g = absurd (omega arith)
    at (suc n) (x ∷ ts) (m ∷ ms) h g = one (eqb x.0 t) (at n ts ms (omega arith) (omega arith))
      where
        one : (b : Bool) → time_of t (slots n ts ms) ≡ cond (ltb (place n ts) n) (some (get_or ms (place n ts) (moment 0)).0) none
            → cond b (some m.0) (time_of t (slots n ts ms))
            ≡ cond (ltb (cond (not b) (1 + place n ts) 0) (suc n)) (some (get_or (m ∷ ms) (cond (not b) (1 + place n ts) 0) (moment 0)).0) none
        one true e = rw (lt-ltb 0 (suc n) (omega arith)) refl
        one false e = let s : 1 + place n ts ≡ suc (place n ts) = omega arith in rw (s, both_more (place n ts) n) e

keep-end : {A : Type 0} (test : A → Bool) (l : List A) (a : A) → keep test (l ++ a ∷ []) ≡ keep test l ++ cond (test a) (a ∷ []) []
keep-end test [] a = refl
keep-end {A} test (x ∷ l) a = go (test x) (keep-end test l a)
  where
    go : (b : Bool) → keep test (l ++ a ∷ []) ≡ keep test l ++ cond (test a) (a ∷ []) []
        → cond b (x ∷ keep test (l ++ a ∷ [])) (keep test (l ++ a ∷ [])) ≡ cond b (x ∷ keep test l) (keep test l) ++ cond (test a) (a ∷ []) []
    go true e = ap (λ (r : List A). x ∷ r) e
    go false e = e

-- those of the first k that are kept
abbrev pub so_far : ℕ → ℕ → List Remembered → List Remembered
so_far now k rs = kept now (take k rs)

-- one array of a memory while those kept move to its front: the first k slots are passed
abbrev Passing : {B : Type 0} → (Remembered → B) → B → ℕ → List Remembered → ℕ → List B → Type 0
Passing f z now rs k l = l ≡ laid k f z (so_far now k rs) ++ drop k (laid 32 f z rs)

pub short : (now k : ℕ) (rs : List Remembered) → k ≤ length rs → length (so_far now k rs) ≤ k
short now k rs h = omega (arith, length-keep (is_kept now) (take k rs), length-take-le k rs h)

module _ (now : ℕ) (rs : List Remembered) (k : ℕ) (i : k < length rs) (few : length rs ≤ 32) (none : Remembered) where
  abbrev here : Remembered
  here = get_or rs k none

  more : (b : Bool) → is_kept now here ≡ b → so_far now (suc k) rs ≡ so_far now k rs ++ cond b (here ∷ []) []
  more b e =
      ap (kept now) (take-suc rs k none i)
      ∙ keep-end (is_kept now) (take k rs) here
      ∙ ap (λ (x : Bool). so_far now k rs ++ cond x (here ∷ []) []) e

  module _ {B : Type 0} (f : Remembered → B) (z : B) (l : List B) (p : Passing f z now rs k l) where
    behind : drop k (laid 32 f z rs) ≡ f here ∷ drop (suc k) (laid 32 f z rs)
    behind =
        drop-cons (laid 32 f z rs) k z (omega (arith, laid-length f z 32 rs))
        ∙ ap (λ (x : B). x ∷ drop (suc k) (laid 32 f z rs)) (laid-get f z 32 rs k none z i few)

    split : l ≡ laid k f z (so_far now k rs) ++ f here ∷ drop (suc k) (laid 32 f z rs)
    split = p ∙ ap (λ (r : List B). laid k f z (so_far now k rs) ++ r) behind

    pub passing-get : (b : B) → get_or l k b ≡ f here
    passing-get b =
        ap (λ (r : List B). get_or r k b) split ∙ front-get f z k (so_far now k rs) (f here) (drop (suc k) (laid 32 f z rs)) b

    vacated : set l k z ≡ laid (suc k) f z (so_far now k rs) ++ drop (suc k) (laid 32 f z rs)
    vacated =
        ap (λ (r : List B). set r k z) split
        ∙ front_vacate f z k (so_far now k rs) (f here) (drop (suc k) (laid 32 f z rs)) (short now k rs (omega arith))

    pub passing-none : is_kept now here ≡ false → Passing f z now rs (k + 1) (set l k z)
    passing-none e =
        rw add-one
        (vacated
        ∙ ap (λ (q : List Remembered). laid (suc k) f z q ++ drop (suc k) (laid 32 f z rs))
        (sym (more false e ∙ append-nil (so_far now k rs))))

    pub passing-one : is_kept now here ≡ true → Passing f z now rs (k + 1) (set (set l k z) (length (so_far now k rs)) (f here))
    passing-one e =
        rw add-one
        (ap (λ (r : List B). set r (length (so_far now k rs)) (f here)) vacated
        ∙ front-end f z (suc k) (so_far now k rs) here (drop (suc k) (laid 32 f z rs)) (omega (arith, short now k rs (omega arith)))
        ∙ ap (λ (q : List Remembered). laid (suc k) f z q ++ drop (suc k) (laid 32 f z rs)) (sym (more true e)))

-- at the loop's head
pub record Keeping (now : Moment) (rs : List Remembered) (m : Memory) (left k : ℕ) : Type 0 where
  pub most : k ≤ length rs
  pub ids : Passing id_of (tunnel nobody) now.0 rs k m.ids
  pub until : Passing until_of (moment never) now.0 rs k m.until
  pub counted : left ≡ length (so_far now.0 k rs)
  pub within : left ≤ k

pub keeping_start : (now : Moment) (rs : List Remembered) → Keeping now rs (memory_of rs) 0 0
unfolding laid
keeping_start now rs = record { most = omega arith; ids = refl; until = refl; counted = refl; within = omega arith }

module _ (now : Moment) (rs : List Remembered) (m : Memory) (left k : ℕ) (p : Keeping now rs m left k) (few : length rs ≤ 32) where
  all : length rs ≤ k → so_far now.0 k rs ≡ kept now.0 rs
  all h = ap (kept now.0) (take_all k rs h)

  array_all : {B : Type 0} (f : Remembered → B) (z : B) (l : List B) → Passing f z now.0 rs k l → length rs ≤ k
      → l ≡ laid 32 f z (kept now.0 rs)
  array_all f z l q h =
      q
      ∙ front-all f z k 32 (so_far now.0 k rs) rs (short now.0 k rs p.most) h (omega (arith, p.most))
      ∙ ap (laid 32 f z) (all h)

  pub keeping-end : length rs ≤ k → ◌≡◌ {A = Memory} (record { until = m.until; ids = m.ids; count = left }) (memory_of (kept now.0 rs))
  keeping-end h =
      same m.until m.ids left (array_all until_of (moment never) m.until p.until h)
      (array_all id_of (tunnel nobody) m.ids p.ids h) (p.counted ∙ ap length (all h))
    where
      same : (u : List Moment) (i : List Tunnel) (n : ℕ) → u ≡ laid 32 until_of (moment never) (kept now.0 rs)
          → i ≡ laid 32 id_of (tunnel nobody) (kept now.0 rs) → n ≡ length (kept now.0 rs)
          → ◌≡◌ {A = Memory} (record { until = u; ids = i; count = n }) (memory_of (kept now.0 rs))
      same u i n a b c = rw (a, b, c)

  module _ (i : k < length rs) where
    abbrev it : Remembered
    it = get_or rs k (slot_of (tunnel 0) (moment 0))

    pub read-id : get_or m.ids k (tunnel 0) ≡ id_of it
    read-id = passing-get now.0 rs k i few (slot_of (tunnel 0) (moment 0)) id_of (tunnel nobody) m.ids p.ids (tunnel 0)

    pub read-until : get_or m.until k (moment 0) ≡ until_of it
    read-until = passing-get now.0 rs k i few (slot_of (tunnel 0) (moment 0)) until_of (moment never) m.until p.until (moment 0)

    -- it is passed, or kept
    pub keeping_none : (n : ℕ) → ltb now.0 (get_or m.until k (moment 0)).0 ≡ false
        → Keeping now rs (record { until = set m.until k (moment never); ids = set m.ids k (tunnel nobody); count = n }) left (k + 1)
    keeping_none n e =
        record {
          most = omega arith;
          ids = passing-none now.0 rs k i few (slot_of (tunnel 0) (moment 0)) id_of (tunnel nobody) m.ids p.ids test;
          until = passing-none now.0 rs k i few (slot_of (tunnel 0) (moment 0)) until_of (moment never) m.until p.until test;
          counted = p.counted ∙ ap length (sym (append-nil (so_far now.0 k rs)) ∙ sym grown);
          within = omega (arith, p.within);
        }
      where
        test : is_kept now.0 it ≡ false
        test = ap (λ (x : Moment). ltb now.0 x.0) (sym read-until) ∙ e

        grown : so_far now.0 (k + 1) rs ≡ so_far now.0 k rs ++ []
        grown = rw add-one (more now.0 rs k i few (slot_of (tunnel 0) (moment 0)) false test)

    pub keeping-one : (n : ℕ) → ltb now.0 (get_or m.until k (moment 0)).0 ≡ true
        → Keeping now rs
        (record {
          until = set (set m.until k (moment never)) left (get_or m.until k (moment 0));
          ids = set (set m.ids k (tunnel nobody)) left (get_or m.ids k (tunnel 0));
          count = n;
        })
        (left + 1) (k + 1)
    keeping-one n e =
        record {
          most = omega arith;
          ids =
              ap (λ (x : Tunnel). set (set m.ids k (tunnel nobody)) left x) read-id
              ∙ ap (λ (j : ℕ). set (set m.ids k (tunnel nobody)) j (id_of it)) p.counted
              ∙ passing-one now.0 rs k i few (slot_of (tunnel 0) (moment 0)) id_of (tunnel nobody) m.ids p.ids test;
          until =
              ap (λ (x : Moment). set (set m.until k (moment never)) left x) read-until
              ∙ ap (λ (j : ℕ). set (set m.until k (moment never)) j (until_of it)) p.counted
              ∙ passing-one now.0 rs k i few (slot_of (tunnel 0) (moment 0)) until_of (moment never) m.until p.until test;
          counted = omega (arith, p.counted, ap length grown, length-append (so_far now.0 k rs) (it ∷ []));
          within = omega (arith, p.within);
        }
      where
        test : is_kept now.0 it ≡ true
        test = ap (λ (x : Moment). ltb now.0 x.0) (sym read-until) ∙ e

        grown : so_far now.0 (k + 1) rs ≡ so_far now.0 k rs ++ it ∷ []
        grown = rw add-one (more now.0 rs k i few (slot_of (tunnel 0) (moment 0)) true test)

-- one more
with-written : (rs : List Remembered) (t u : ℕ) → length rs < 32
    → with_of (memory_of rs) (tunnel t) (moment u) ≡ memory_of (rs ++ record { tunnel = t; time = u } ∷ [])
with-written rs t u h =
    same _ _ _ (laid_end until_of (moment never) 32 rs r h) (laid_end id_of (tunnel nobody) 32 rs r h) (sym (length-append rs (r ∷ [])))
  where
    r : Remembered
    r = record { tunnel = t; time = u }

    same : (a : List Moment) (b : List Tunnel) (n : ℕ) → a ≡ laid 32 until_of (moment never) (rs ++ r ∷ [])
        → b ≡ laid 32 id_of (tunnel nobody) (rs ++ r ∷ []) → n ≡ length (rs ++ r ∷ [])
        → ◌≡◌ {A = Memory} (record { until = a; ids = b; count = n }) (memory_of (rs ++ r ∷ []))
    same a b n p q e = rw (p, q, e)

-- times in order: the last is the latest
rises-latest : (low t : ℕ) (ts : List ℕ) → Rises low (t ∷ ts)
    → (low ≤ timer_of (latest (t ∷ ts))) × (timer_of (latest (t ∷ ts)) ≡ get_or (t ∷ ts) (length ts) 0)
rises-latest low t [] r = (r.0, refl)
rises-latest low t (u ∷ ts) r = let p = rises-latest t u ts r.1 in (omega (arith, r.0), omega (arith, p))

-- the last of n slots in use, or the first where none counts as used, holds it
latest-laid : (n : ℕ) (ts : List ℕ) → n ≤ length ts → length ts ≤ max n 1 → length ts ≤ 8 → Rises 0 ts
    → cond (eqb n 0) (get_or (laid 8 moment (moment never) ts) 0 (moment 0)).0
    (get_or (laid 8 moment (moment never) ts) (n - 1) (moment 0)).0
    ≡ timer_of (latest ts)
unfolding laid
latest-laid n [] h g few r = rw (eq-eqb n 0 (omega arith))
latest-laid n (t ∷ ts) h g few r = go (eqb n 0) refl
  where
    at : (i : ℕ) → i ≡ length ts → (get_or (laid 8 moment (moment never) (t ∷ ts)) i (moment 0)).0 ≡ timer_of (latest (t ∷ ts))
    at i e =
        ap (λ (m : Moment). m.0) (laid-get moment (moment never) 8 (t ∷ ts) i 0 (moment 0) (omega arith) few)
        ∙ ap (λ (j : ℕ). get_or (t ∷ ts) j 0) e
        ∙ sym (rises-latest 0 t ts r).1

    go : (b : Bool) → eqb n 0 ≡ b
        → cond b (get_or (laid 8 moment (moment never) (t ∷ ts)) 0 (moment 0)).0
        (get_or (laid 8 moment (moment never) (t ∷ ts)) (n - 1) (moment 0)).0
        ≡ timer_of (latest (t ∷ ts))
    go true e = at 0 (omega (arith, eqb-true n 0 e))
    go false e = at (n - 1) (omega (arith, eqb-false n 0 e))

-- of a written record, of every kind
module _ (v : Tenant) (c : Calm v) (few : length v.pending ≤ 8) where
  how_many : (length v.pending ≤ length (comes v)) × (length (comes v) ≤ max (length v.pending) 1)
  how_many = go c.formed
    where
      go : Formed v → (length v.pending ≤ length (comes v)) × (length (comes v) ≤ max (length v.pending) 1)
      go (queue k e) =
          let l : length (comes v) ≡ length v.pending =
          rw e (length-append (map (λ f. f.due) v.pending) [] ∙ omega (arith, length-map v.pending (λ f. f.due))) in
          (omega arith, omega arith)
      go (refills k h p b e) = rw (p, e) (omega arith, omega arith)

  pub latest-written : latest_of (written v) ≡ timer_of (leaves_until v)
  unfolding written
  latest-written = latest-laid (length v.pending) (comes v) how_many.0 how_many.1 (omega (arith, how_many.1)) c.rises

  -- what it leaves behind; the time is one that a moment above all tells from none
  pub leaving-written : (rs : List Remembered) (t : Tunnel) → length rs < 32 → ((u : ℕ) → leaves_until v ≡ some u → u < never)
      → leaving_of (memory_of rs) t (written v) ≡ memory_of (rs ++ remembering t.0 (leaves_until v))
  unfolding leaving_of
  leaving-written rs t h below =
      rw latest-written (go (leaves_until v) below)
    where
      go : (o : Maybe ℕ) → ((u : ℕ) → o ≡ some u → u < never)
          → cond (eqb (timer_of o) never) (memory_of rs) (with_of (memory_of rs) t (moment (timer_of o))) ≡ memory_of (rs ++ remembering t.0 o)
      go none g = ap memory_of (sym (append-nil rs))
      go (some u) g = rw (ne_eqb u never (λ e. absurd (omega (arith, g u refl)))) (with-written rs t.0 u h)

-- the time that an identifier is remembered with, of times that lie below the one above all
pub time-back : (o : Maybe ℕ) → ((t : ℕ) → o ≡ some t → t < never) → timer_at (timer_of o) ≡ o
time-back none h = refl
time-back (some t) h = rw (ne_eqb t never (λ e. absurd (omega (arith, h t refl))))
