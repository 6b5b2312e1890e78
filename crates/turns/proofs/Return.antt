-- The return step on a written record: where the first n slots are due and the next is not, the record from the slot n on is as the rule
-- leaves it, and so is the whole record where nothing is due. Assumes nothing.
use Prim.Native.Nat.{ℕ, zero, suc, ◌+◌, ◌-◌, ◌≤◌, ◌<◌}
use mathlib.Core.Path.{◌≡◌, refl, ap, ap₂, sym, ◌∙◌, subst}
use mathlib.Core.Bool.{Bool, true, false}
use mathlib.Core.List.{List, [], ◌∷◌, ◌++◌, map}
use mathlib.Core.Option.{Option, none, some}
use native.Mathlib.Omega.{arith}
use lib.Dec.{leb}
use lib.ListN.{length, take, drop, get_or, length-drop}
use lib.Seq.{take_all, length-take-le}
use Rattle.std.specs.List.{prefix_len}
use Rattle.std.proofs.lemmas.List.Sums.{prefix_len-le-length, prefix_len_passes, prefix_len_stops, sum_by-cons}
use borrow.Author.Tests.{le-leb, lt-leb, leb-true, leb-false}
use Rattle.units.specs.Units.{moment, amount, total}
use Rattle.units.specs.declared.Moment.{Moment}
use Rattle.units.specs.declared.Amount.{Amount}
use Rattle.rules.specs.Lists.{sum}
use Rattle.rules.specs.Vcpu.{Entry, times, comes}
use Rattle.rules.specs.Vcpu.{Vcpu as Tenant}
use Rattle.rules.specs.Return.{is_due, returned, refill, brought_in, brought, still}
use Rattle.rules.proofs.Queue.{brought-all}
use Rattle.turns.specs.declared.Kind.{Kind}
use Rattle.turns.specs.declared.Kind.TheVariants.{Sporadic, Deferrable, Polling}
use Rattle.turns.specs.declared.Vcpu.{Vcpu}
use Rattle.turns.specs.Laid.{laid}
use Rattle.turns.specs.Written.{never, amount_of, paper_kind, kind_as, boundary_at, written, shown}
use Rattle.turns.specs.Steps.{has_queue, from_of, ticks_in, returned_first, due_count, head_of, bare, Returnable}
use Rattle.turns.proofs.Laid.{laid-drop}
use Rattle.turns.proofs.Written.{due_of, with_queue, as-queue, boundary-none}
use Rattle.turns.specs.Tenants.{Formed, queue, refills}

-- the first of some times, or the time above all
abbrev pub first : List ℕ → ℕ
first [] = never
first (t ∷ ts) = t

first-laid : (ts : List ℕ) → (get_or (laid 8 moment (moment never) ts) 0 (moment 0)).0 ≡ first ts
unfolding laid
first-laid [] = refl
first-laid (t ∷ ts) = refl

-- the head of a written record is the first that comes to its tenant, of every kind
pub head-written : (v : Tenant) → head_of (written v) ≡ first (comes v)
unfolding written
head-written v = first-laid (comes v)

-- a tenant with other usable ticks, another queue and another pending total
abbrev queued : Tenant → ℕ → List Entry → ℕ → Tenant
queued v u q t =
    record {
      terms = v.terms;
      runnable = v.runnable;
      usable = u;
      ended = v.ended;
      pending = q;
      boundary = v.boundary;
      pending_total = t;
      held_total = v.held_total;
    }

abbrev as_record : Tenant → List Moment → List Amount → ℕ → ℕ → ℕ → Vcpu
as_record v ds bs u t n =
    record {
      due = ds;
      ended = moment v.ended;
      held = total v.held_total;
      amount = bs;
      period = amount v.terms.period;
      capacity = amount v.terms.capacity;
      usable = amount u;
      pending = amount t;
      priority = v.terms.priority;
      runnable = v.runnable;
      count = n;
      kind = kind_as v.terms.kind;
    }

same-record : (v : Tenant) (ds ds' : List Moment) (bs bs' : List Amount) (u u' t t' n n' : ℕ)
    → ds ≡ ds' → bs ≡ bs' → u ≡ u' → t ≡ t' → n ≡ n' → as_record v ds bs u t n ≡ as_record v ds' bs' u' t' n'
same-record v ds ds' bs bs' u u' t t' n n' p q r o s = rw (p, q, r, o, s)

bring-none : (now : ℕ) (v : Tenant) → now < first (map (λ e. e.due) v.pending) → brought_in now v ≡ v
bring-none now v h = go v.pending refl h
  where
    go : (q : List Entry) → v.pending ≡ q → now < first (map (λ e. e.due) q)
        → queued v (v.usable + brought now v.pending) (still now v.pending) (v.pending_total - brought now v.pending) ≡ v
    go [] e g = rw e (ap₂ (λ (u t : ℕ). queued v u [] t) (omega arith) (omega arith))
    go (f ∷ q) e g = rw (e, lt-leb f.due now g) (ap₂ (λ (u t : ℕ). queued v u (f ∷ q) t) (omega arith) (omega arith))

refill-none : (now : ℕ) (o : Option ℕ) (v : Tenant) → now < first (times o) → refill now o v ≡ v
refill-none now none v h = refl
refill-none now (some b) v h = rw (lt-leb b now h)

first_dues : (q : List Entry) → first (map (λ e. e.due) q ++ []) ≡ first (map (λ e. e.due) q)
first_dues [] = refl
first_dues (e ∷ q) = refl

pub returned-none : (now : ℕ) (v : Tenant) → now < never → Formed v → now < first (comes v) → returned now v ≡ v
returned-none now v l f h =
    let a = apart f in
    ap (refill now v.boundary) (bring-none now v a.0) ∙ refill-none now v.boundary v a.1
  where
    apart : Formed v → (now < first (map (λ e. e.due) v.pending)) × (now < first (times v.boundary))
    apart (queue k e) = (
      subst (λ (n : ℕ). now < n) (ap (λ (o : Option ℕ). first (map (λ e. e.due) v.pending ++ times o)) e ∙ first_dues v.pending) h,
      rw e l,
    )
    apart (refills k m p b e) =
        (rw p l, subst (λ (q : List Entry). now < first (map (λ e. e.due) q ++ times v.boundary)) p h)

from-laid : {A : Type 0} (f : Entry → A) (z : A) (n : ℕ) (q : List Entry) → n ≤ length q → length q ≤ 8
    → from_of z n (laid 8 f z q) ≡ laid 8 f z (drop n q)
from-laid f z n q h l = sym (laid-drop f z 8 n q h l)

ticks-laid : (m n : ℕ) (q : List Entry) → n ≤ length q → length q ≤ m
    → ticks_in n (laid m amount_of (amount 0) q) ≡ sum (λ e. e.amount) (take n q)
unfolding laid
ticks-laid m zero q h l = refl
ticks-laid m (suc n) [] h l = absurd (omega arith)
ticks-laid zero (suc n) (e ∷ q) h l = absurd (omega arith)
ticks-laid (suc m) (suc n) (e ∷ q) h l =
    sum_by-cons (λ (a : Amount). a.0) (amount e.amount) (take n (laid m amount_of (amount 0) q))
    ∙ ap (λ (k : ℕ). e.amount + k) (ticks-laid m n q (omega arith) (omega arith))

-- the sum of a longer front
pub sum-longer : {A : Type 0} (f : A → ℕ) (l : List A) (i k : ℕ) → i ≤ k → sum f (take i l) ≤ sum f (take k l)
sum-longer f l zero k h = omega arith
sum-longer f l (suc i) zero h = absurd (omega arith)
sum-longer f [] (suc i) (suc k) h = omega arith
sum-longer f (x ∷ l) (suc i) (suc k) h = omega (arith, sum-longer f l i k (omega arith))

-- the first n of a queue are due, and the next is not: what the rule brings, and what it leaves
record Front (now n : ℕ) (q : List Entry) : Type 0 where
  ticks : brought now q ≡ sum (λ e. e.amount) (take n q)
  rest : still now q ≡ drop n q
  enough : n ≤ length q

abbrev slot : ℕ → List Entry → ℕ → ℕ
slot m q i = (get_or (laid m due_of (moment never) q) i (moment 0)).0

front : (now m n : ℕ) (q : List Entry) → now < never → length q ≤ m → n ≤ m → ((i : ℕ) → i < n → slot m q i ≤ now)
    → (n < m → now < slot m q n) → Front now n q
unfolding laid
front now m zero [] t l h d e = record { ticks = refl; rest = refl; enough = omega arith }
front now zero zero (f ∷ q) t l h d e = absurd (omega arith)
front now (suc m) zero (f ∷ q) t l h d e =
    let x : is_due now f ≡ false = lt-leb f.due now (e (omega arith)) in
    record { ticks = rw x; rest = rw x; enough = omega arith }
front now zero (suc n) q t l h d e = absurd (omega arith)
front now (suc m) (suc n) [] t l h d e = absurd (omega (arith, d 0 (omega arith)))
front now (suc m) (suc n) (f ∷ q) t l h d e =
    let x : is_due now f ≡ true = le-leb f.due now (d 0 (omega arith)) in
    let g = front now m n q t (omega arith) (omega arith) (λ i k. d (suc i) (omega arith)) (λ k. e (omega arith)) in
    record {
      ticks = rw x (ap (λ (k : ℕ). f.amount + k) g.ticks);
      rest = rw x g.rest;
      enough = omega (arith, g.enough);
    }

-- the time in a slot
abbrev pub due_at : Vcpu → ℕ → ℕ
due_at w i = (get_or w.due i (moment 0)).0

-- the first n slots are due
abbrev pub Due : Vcpu → Moment → ℕ → Type 0
Due w now n = (i : ℕ) → i < n → due_at w i ≤ now.0

-- .. as many as are counted, and the next is not
counted : (w : Vcpu) (now : Moment) → let n = due_count now w.due in
    (n ≤ length w.due) × Due w now n × (n < length w.due → now.0 < due_at w n)
counted w now =
    let p : Moment → Bool = λ d. leb d.0 now.0 in
    let h = prefix_len-le-length p w.due in
    let e : due_count now w.due ≡ prefix_len p w.due = length-take-le (prefix_len p w.due) w.due h in
    subst (λ (n : ℕ). (n ≤ length w.due) × Due w now n × (n < length w.due → now.0 < due_at w n)) (sym e) (
      h,
      (λ i k. leb-true (due_at w i) now.0 (prefix_len_passes p w.due i (moment 0) k)),
      (λ k. leb-false (due_at w (prefix_len p w.due)) now.0 (prefix_len_stops p w.due (moment 0) k)),
    )

-- n slots of a record that has a queue can be taken, and what is left is as the rule leaves it
pub record Swept (w : Vcpu) (now : Moment) (n : ℕ) : Type 0 where
  pub few : (n ≤ w.count) × (n ≤ 8)
  pub fits : w.usable.0 + ticks_in n w.amount < 4294967296
  pub owed : ticks_in n w.amount ≤ w.pending.0
  pub end : returned_first n w ≡ written (returned now.0 (bare w))

module _ (w : Vcpu) (now : Moment) (r : Returnable w now) (k : has_queue w.kind ≡ true) where
  alone : (bare w).boundary ≡ none
  unfolding shown
  alone = boundary-none w.kind (get_or w.due 0 (moment 0)) k

  abbrev q : List Entry
  q = (bare w).pending

  laid_out : w ≡ with_queue (bare w) q
  laid_out = r.written ∙ as-queue (bare w) alone

  ends : (n : ℕ) → Front now.0 n q → returned_first n w ≡ written (returned now.0 (bare w))
  unfolding returned_first written shown
  ends n f =
      ap (returned_first n) laid_out
      ∙ same-record (bare w)
      (from_of (moment never) n (laid 8 due_of (moment never) q)) (laid 8 due_of (moment never) (still now.0 q))
      (from_of (amount 0) n (laid 8 amount_of (amount 0) q)) (laid 8 amount_of (amount 0) (still now.0 q))
      ((bare w).usable + ticks_in n (laid 8 amount_of (amount 0) q)) ((bare w).usable + brought now.0 q)
      ((bare w).pending_total - ticks_in n (laid 8 amount_of (amount 0) q)) ((bare w).pending_total - brought now.0 q)
      (length q - n) (length (still now.0 q))
      (from-laid due_of (moment never) n q f.enough r.few ∙ ap (laid 8 due_of (moment never)) (sym f.rest))
      (from-laid amount_of (amount 0) n q f.enough r.few ∙ ap (laid 8 amount_of (amount 0)) (sym f.rest))
      (ap (λ (t : ℕ). (bare w).usable + t) (ticks-laid 8 n q f.enough r.few ∙ sym f.ticks))
      (ap (λ (t : ℕ). (bare w).pending_total - t) (ticks-laid 8 n q f.enough r.few ∙ sym f.ticks))
      (sym (ap length f.rest ∙ length-drop n q))
      ∙ sym (as-queue (brought_in now.0 (bare w)) alone)
      ∙ ap (λ (o : Option ℕ). written (refill now.0 o (brought_in now.0 (bare w)))) (sym alone)

  -- what the step takes was pending
  was-pending : brought now.0 q ≤ (bare w).pending_total
  was-pending = omega (arith, brought-all now.0 q, r.adds)

  swept : (n : ℕ) → n ≤ 8 → Due w now n → (n < 8 → now.0 < due_at w n) → Swept w now n
  unfolding shown
  swept n h d e =
      record {
        few = (subst (λ (c : ℕ). n ≤ c) (sym (ap (λ (x : Vcpu). x.count) laid_out)) f.enough, h);
        fits = subst (λ (t : ℕ). w.usable.0 + t < 4294967296) (sym ticks)
            (omega (
              arith,
              r.fits,
              rw (take_all (length q) q (omega arith)) at (sum-longer (λ e. e.amount) q n (length q) f.enough),
            ));
        owed = subst (λ (t : ℕ). t ≤ w.pending.0) (sym (ticks ∙ sym f.ticks)) was-pending;
        end = ends n f;
      }
    where
      dues : w.due ≡ laid 8 due_of (moment never) q
      dues = ap (λ (x : Vcpu). x.due) laid_out

      f : Front now.0 n q
      f = front now.0 8 n q (omega (arith, r.time)) r.few h
          (λ i j. subst (λ (ds : List Moment). (get_or ds i (moment 0)).0 ≤ now.0) dues (d i j))
          (λ j. subst (λ (ds : List Moment). now.0 < (get_or ds n (moment 0)).0) dues (e j))

      ticks : ticks_in n w.amount ≡ sum (λ e. e.amount) (take n q)
      ticks = ap (λ (x : Vcpu). ticks_in n x.amount) laid_out ∙ ticks-laid 8 n q f.enough r.few

  pub swept-due : length w.due ≡ 8 → Swept w now (due_count now w.due)
  swept-due l =
      let c = counted w now in
      subst (λ (k : ℕ). (due_count now w.due ≤ k) × Due w now (due_count now w.due) × (due_count now w.due < k → now.0 < due_at w (due_count now w.due))
      → Swept w now (due_count now w.due)) (sym l) (λ x. swept (due_count now w.due) x.0 x.1 x.2) c

-- where nothing is due, it is as it was
formed : (w : Vcpu) (now : Moment) → Returnable w now → Formed (bare w)
unfolding shown
formed w now r = go w.kind (r.no-queue) refl
  where
    go : (k : Kind) → (has_queue k ≡ false → (bare w).pending ≡ []) → w.kind ≡ k → Formed (bare w)
    go Sporadic n e = queue (ap paper_kind e) (ap (λ (x : Kind). boundary_at x (get_or w.due 0 (moment 0))) e)
    go Deferrable n e = refills (λ z. absurd (omega (arith, ap paper_kind e))) (omega (arith, ap paper_kind e)) (n refl) (head_of w) (ap (λ (x : Kind). boundary_at x (get_or w.due 0 (moment 0))) e)
    go Polling n e = refills (λ z. absurd (omega (arith, ap paper_kind e))) (omega (arith, ap paper_kind e)) (n refl) (head_of w) (ap (λ (x : Kind). boundary_at x (get_or w.due 0 (moment 0))) e)

pub rests : (w : Vcpu) (now : Moment) → Returnable w now → now.0 < head_of w → w ≡ written (returned now.0 (bare w))
rests w now r h =
    r.written
    ∙ ap written (sym (returned-none now.0 (bare w) (omega (arith, r.time)) (formed w now r)
    (subst (λ (n : ℕ). now.0 < n) (ap head_of r.written ∙ head-written (bare w)) h)))
