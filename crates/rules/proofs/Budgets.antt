-- Steps 1 and 2 mean what they say, of the three kinds: what becomes of each VCPU's usable ticks, queue and boundary in an accepted
-- call, whatever calls came before; and nothing of it is left open. Assumes nothing.
use mathlib.Core.Path.{◌≡◌, refl, ap, sym, ◌∙◌, subst}
use mathlib.Core.Bool.{Bool, true, false, cond, not}
use mathlib.Core.List.{List, [], ◌∷◌, ◌++◌}
use mathlib.Core.Logic.{◌⊎◌, inl, inr, ⊎_elim}
use mathlib.Core.Option.{Option, none, some}
use Prim.Native.Nat.{ℕ, suc, ◌+◌, ◌-◌, ◌*◌, ◌/◌, ◌≤◌, ◌<◌}
use native.Mathlib.Nat.{suc-mul, mul-le-mul_right}
use native.Mathlib.Omega.{arith}
use lib.Dec.{leb, eqb}
use lib.ListN.{length}
use borrow.Author.Tests.{leb-true, leb-false, le-leb, lt-leb, eqb-true, eq-eqb}
use Rattle.rules.specs.Limits.{most_pending}
use Rattle.rules.specs.Lists.{All, Among}
use Rattle.rules.specs.Vcpu.{Description, Entry, Vcpu, leaves, admitted, named}
use Rattle.rules.specs.Card.{Card, to_named}
use Rattle.rules.specs.Charge.{to_last, waiting, joins, full as isFull, posted, no_ticks, charged_some, charged}
use Rattle.rules.specs.Return.{brought, still, brought_in, boundary_after, refilled, refill, returned}
use Rattle.rules.specs.Change.{Change, admit, wake, block, remove, tick, set_runnable, change}
use Rattle.rules.specs.Refuse.{refusal}
use Rattle.rules.specs.Turn.{Call, settled, after_return, after_change}
use Rattle.rules.specs.History.{after, holds}
use Rattle.rules.specs.Rows.{AdmitOf, NoRow}
use Rattle.rules.specs.Budgets.{Loses, held, not-held, Joins, Posted, nothing, new, joined, folded, Queued}
use Rattle.rules.specs.Budgets.{FirstAfter, Refill, before, full, empty, Refilled, Budget, Budgets}
use Rattle.rules.proofs.Tests.{tests, clash, no-some, cases}
use Rattle.rules.proofs.Named.{not_named}
use Rattle.rules.proofs.Lists.{all_among, among_map, map_among, among_keep, keep_among}
use Rattle.rules.proofs.Queue.{total, Rising, joins-says, posts, brought-all, stays-behind}
use Rattle.rules.proofs.ThreeKinds.{is-sporadic, not-sporadic, by_kind, by-polling, leaves-most, leaves_all, leaves_none}
use Rattle.rules.proofs.ThreeKinds.{boundary-after, terms-returned, runnable-returned, held-returned, returned-none}
use Rattle.rules.proofs.Meaning.{rising-all}
use Rattle.rules.proofs.Sound.{Sound}
use Rattle.rules.proofs.Accepted.{passed, in_time}
use Rattle.rules.proofs.Advance.{stepped, is-there, was-there}
use Rattle.rules.proofs.Changed.{among_placed, placed_among}
use Rattle.rules.proofs.Reached.{reached, card-accepted}
use Rattle.rules.proofs.Rows.{same, not-given}

-- a queue that isn't empty has a last entry
ends : (q : List Entry) → waiting q ≡ true → (front : List Entry) × (e : Entry) × (q ≡ front ++ e ∷ [])
ends [] w = clash (sym w)
ends (e ∷ []) w = ([], e, refl)
ends (e ∷ f ∷ q) w = let p = ends (f ∷ q) refl in (e ∷ p.0, p.1, ap (λ (l : List Entry). e ∷ l) p.2)

to_end : (g : Entry → Entry) (q front : List Entry) (e : Entry) → q ≡ front ++ e ∷ [] → to_last g q ≡ front ++ g e ∷ []
to_end g q front e h = ap (to_last g) h ∙ go front
  where
    go : (front : List Entry) → to_last g (front ++ e ∷ []) ≡ front ++ g e ∷ []
    go [] = refl
    go (a ∷ []) = refl
    go (a ∷ b ∷ l) = ap (λ (l : List Entry). a ∷ l) (go (b ∷ l))

waits : (q : List Entry) → (q ≡ [] → ⊥) → waiting q ≡ true
waits [] n = absurd (n refl)
waits (e ∷ q) n = refl

module _ (last d : ℕ) (v : Vcpu) where
  is-joining : Joins last v → joins last v ≡ true
  is-joining p = rw (eq-eqb v.ended last p.0, waits v.pending p.1)

  joining : joins last v ≡ true → Joins last v
  joining j = let p = joins-says last v j in (p.0, λ z. clash (sym p.1 ∙ ap waiting z))

  not-joining : (Joins last v → ⊥) → joins last v ≡ false
  not-joining n = ⊎_elim (λ j. absurd (n (joining j))) (λ j. j) (cases (joins last v))

  at-end : (g : Entry → Entry) → waiting v.pending ≡ true
      → ((front : List Entry) (e : Entry) → v.pending ≡ front ++ e ∷ [] → Posted last d v (front ++ g e ∷ []))
      → Posted last d v (to_last g v.pending)
  at-end g w f =
      let p = ends v.pending w in
      subst (Posted last d v) (sym (to_end g v.pending p.0 p.1 p.2)) (f p.0 p.1 p.2)

  -- the queue that the rules post is one that fits
  posts_so : 0 < d → length v.pending ≤ most_pending → Posted last d v (posted last d v)
  unfolding posted
  posts_so h n = ⊎_elim join (λ j. ⊎_elim (fold j) (more j) (cases (isFull v))) (cases (joins last v))
    where
      join : joins last v ≡ true → Posted last d v (posted last d v)
      join j = rw j (at-end _ (joins-says last v j).1 (λ front e k. joined front e h (joining j) k))

      fold : joins last v ≡ false → isFull v ≡ true → Posted last d v (posted last d v)
      fold j f =
          let k : most_pending ≤ length v.pending = omega (arith, tests) in
          let w : waiting v.pending ≡ true = waits v.pending (λ z. omega (arith, ap length z)) in
          rw (j, f) (at-end _ w (λ front e q. folded front e h (λ p. clash (sym (is-joining p) ∙ j)) (omega arith) q))

      more : joins last v ≡ false → isFull v ≡ false → Posted last d v (posted last d v)
      more j f = rw (j, f) (new h (λ p. clash (sym (is-joining p) ∙ j)) (omega (arith, tests)))

  -- and no other fits
  fits : (q : List Entry) → Posted last d v q → (d ≡ 0 → q ≡ v.pending) × (0 < d → q ≡ posted last d v)
  unfolding posted
  fits q (nothing h) = (λ z. refl, λ z. absurd (omega arith))
  fits q (new h n k) = (λ z. absurd (omega arith), λ z. rw (not-joining n, lt-leb most_pending (length v.pending) k))
  fits q (joined front e h j k) = (λ z. absurd (omega arith), λ z. rw (is-joining j) (sym (to_end _ v.pending front e k)))
  fits q (folded front e h n m k) = (
    λ z. absurd (omega arith),
    λ z. rw (not-joining n, le-leb most_pending (length v.pending) (omega arith)) (sym (to_end _ v.pending front e k)),
  )

  pub one-queue : (p q : List Entry) → Posted last d v p → Posted last d v q → p ≡ q
  one-queue p q f g = ⊎_elim zero some (cases (eqb d 0))
    where
      zero : eqb d 0 ≡ true → p ≡ q
      zero z = (fits p f).0 (omega (arith, tests)) ∙ sym ((fits q g).0 (omega (arith, tests)))

      some : eqb d 0 ≡ false → p ≡ q
      some z = (fits p f).1 (omega (arith, tests)) ∙ sym ((fits q g).1 (omega (arith, tests)))

-- the front that is due, and what is left
splits : (now : ℕ) (q : List Entry)
    → (back : List Entry) × (q ≡ back ++ still now q) × All (λ e. e.due ≤ now) back × (brought now q ≡ total back)
splits now [] = ([], refl, tt, refl)
splits now (e ∷ q) = go (leb e.due now) refl (splits now q)
  where
    go : (t : Bool) → leb e.due now ≡ t
        → (back : List Entry) × (q ≡ back ++ still now q) × All (λ e. e.due ≤ now) back × (brought now q ≡ total back)
        → (back : List Entry) × (e ∷ q ≡ back ++ cond t (still now q) (e ∷ q)) × All (λ e. e.due ≤ now) back
        × (cond t (e.amount + brought now q) 0 ≡ total back)
    go true h p = (e ∷ p.0, ap (λ (l : List Entry). e ∷ l) p.1, (leb-true e.due now h, p.2), omega (arith, p.3))
    go false h p = ([], refl, tt, refl)

pub one_split : (now : ℕ) (back rest : List Entry) → All (λ e. e.due ≤ now) back → All (λ e. now < e.due) rest
    → (still now (back ++ rest) ≡ rest) × (brought now (back ++ rest) ≡ total back)
one_split now [] [] h k = (refl, refl)
one_split now [] (e ∷ rest) h k = rw (lt-leb e.due now k.0) (refl, refl)
one_split now (e ∷ back) rest h k =
    let p = one_split now back rest h.1 k in
    rw (le-leb e.due now h.0) (p.0, omega (arith, p.1))

-- of the boundaries b, b + T, .. only one comes after `now` and within one period
not_beyond : (now T b j k : ℕ) → now < b + j * T → b + k * T ≤ now + T → k ≤ j
not_beyond now T b j k h l = ⊎_elim (λ e. leb-true k j e) (λ e. absurd (far (leb-false k j e))) (cases (leb k j))
  where
    far : j < k → ⊥
    far m =
        let p : suc j * T ≤ k * T = mul-le-mul_right T m in
        let q : suc j * T ≡ j * T + T = suc-mul j T in
        omega arith

one-first-after : (now T b n m : ℕ) → FirstAfter now T b n → FirstAfter now T b m → n ≡ m
one-first-after now T b n m p q =
    let h = not_beyond now T b p.0 q.0 (omega (arith, p.1, p.2)) (omega (arith, q.1, q.3)) in
    let k = not_beyond now T b q.0 p.0 (omega (arith, q.1, q.2)) (omega (arith, p.1, p.3)) in
    let e : p.0 ≡ q.0 = omega arith in
    p.1 ∙ ap (λ (x : ℕ). b + x * T) e ∙ sym q.1

-- who keeps its ticks and who loses them: a polling VCPU that is not runnable
pub kept-or-taken : {A : Type 0} (d : Description) (runnable : Bool) → ((d.kind ≡ 2 → runnable ≡ true) → A)
    → (d.kind ≡ 2 → runnable ≡ false → A) → A
kept-or-taken d true f g = f (λ k. refl)
kept-or-taken d false f g = by-polling d (λ k. g k refl) (λ n. f (λ k. absurd (n k)))

module _ (now d : ℕ) (v : Vcpu) where
  same-boundary : (a b : ℕ) → v.boundary ≡ some a → v.boundary ≡ some b → a ≡ b
  same-boundary a b e f = same v.boundary a b e f

  not_both : {A : Type 0} (a b : ℕ) → v.boundary ≡ some a → v.boundary ≡ some b → now < a → b ≤ now → A
  not_both a b e f h k = let q = same-boundary a b e f in absurd (omega arith)

  same_next : (a b n m : ℕ) → v.boundary ≡ some a → v.boundary ≡ some b → FirstAfter now v.terms.period a n
      → FirstAfter now v.terms.period b m → n ≡ m
  same_next a b n m e f h k =
      one-first-after now v.terms.period b n m
      (subst (λ (x : ℕ). FirstAfter now v.terms.period x n) (same-boundary a b e f) h) k

  one-refill : (n g m h : ℕ) → Refill now d v n g → Refill now d v m h → (n ≡ m) × (g ≡ h)
  one-refill n g m h (before a e i) (before b f j) = (same-boundary a b e f, refl)
  one-refill n g m h (before a e i) (full b y f j p q) = not_both a b e f i j
  one-refill n g m h (before a e i) (empty b y f j p q r) = not_both a b e f i j
  one-refill n g m h (full a x e i p q) (before b f j) = not_both b a f e j i
  one-refill n g m h (full a x e i p q) (full b y f j r s) = (same_next a b x y e f p r, refl)
  one-refill n g m h (full a x e i p q) (empty b y f j r s t) = clash (sym (q s) ∙ t)
  one-refill n g m h (empty a x e i p q r) (before b f j) = not_both b a f e j i
  one-refill n g m h (empty a x e i p q r) (full b y f j s t) = clash (sym (t q) ∙ r)
  one-refill n g m h (empty a x e i p q r) (empty b y f j s t u) = (same_next a b x y e f p s, refl)

  -- a polling VCPU that was not runnable has no ticks then
  none-given : (n g : ℕ) → (v.terms.kind ≡ 2 → v.runnable ≡ false → v.usable ≡ 0) → Refill now d v n g → v.terms.kind ≡ 2
      → v.runnable ≡ false → g ≡ 0
  none-given n g f (before b e i) k r = omega (arith, f k r)
  none-given n g f (full b y e i p q) k r = clash (sym (q k) ∙ r)
  none-given n g f (empty b y e i p q s) k r = refl

  -- a refill by the rules is one that fits
  refills_so : (b : ℕ) → v.boundary ≡ some b → b ≤ now → 1 ≤ v.terms.period
      → Refill now d v (boundary_after now v.terms.period b) (leaves v.terms v.runnable v.terms.capacity)
  refills_so b e h T =
      kept-or-taken v.terms v.runnable
      (λ f. subst (Refill now d v (boundary_after now v.terms.period b))
      (sym (leaves_all v.terms v.runnable v.terms.capacity f)) (full b _ e h first f))
      (λ k r. subst (Refill now d v (boundary_after now v.terms.period b))
      (sym (ap (λ (x : Bool). leaves v.terms x v.terms.capacity) r ∙ leaves_none v.terms v.terms.capacity k))
      (empty b _ e h first k r))
    where
      first : FirstAfter now v.terms.period b (boundary_after now v.terms.period b)
      first =
          let p = boundary-after now v.terms.period b T h in
          ((now - b) / v.terms.period + 1, refl, p.0, p.1)

-- as it was, or with a mark
abbrev pub Marked : Vcpu → Vcpu → Type 0
Marked v w = (w ≡ v) ⊎ ((b : Bool) × (w ≡ set_runnable b v))

-- the same but for terms and mark
abbrev Same : Vcpu → Vcpu → Type 0
Same w u =
    (w.usable ≡ u.usable) × (w.ended ≡ u.ended) × (w.pending ≡ u.pending) × (w.boundary ≡ u.boundary)
    × (w.pending_total ≡ u.pending_total)

same-vcpu : (w u : Vcpu) → w.terms ≡ u.terms → w.runnable ≡ u.runnable → w.held_total ≡ u.held_total → Same w u → w ≡ u
same-vcpu w u t m h p =
    go w.terms w.runnable w.usable w.ended w.pending w.boundary w.pending_total w.held_total t m h p
  where
    go : (a : Description) (b : Bool) (x y : ℕ) (q : List Entry) (o : Option ℕ) (n k : ℕ) → a ≡ u.terms → b ≡ u.runnable
        → k ≡ u.held_total
        → (x ≡ u.usable) × (y ≡ u.ended) × (q ≡ u.pending) × (o ≡ u.boundary) × (n ≡ u.pending_total)
        → record { terms = a; runnable = b; usable = x; ended = y; pending = q; boundary = o; pending_total = n; held_total = k } ≡ u
    go a b x y q o n k e f g p = rw (e, f, g, p.0, p.1, p.2, p.3, p.4)

module _ (c : Card) (now : ℕ) (v : Vcpu) where
  -- `u` is `v` after the charge with `d` ticks, before the return
  record Charged (d low high : ℕ) (u : Vcpu) : Type 0 where
    same-terms : u.terms ≡ v.terms
    same_mark : u.runnable ≡ v.runnable
    same-boundary : u.boundary ≡ v.boundary
    usable : u.usable + d ≡ v.usable
    held-total : u.held_total ≡ v.held_total + d
    pending-total : v.terms.kind ≡ 0 → u.pending_total ≡ v.pending_total + d
    adds : u.pending_total ≡ total u.pending
    use_ends : v.terms.kind ≡ 0 → (0 < d → u.ended ≡ now) × (d ≡ 0 → u.ended ≡ v.ended)
    posted : v.terms.kind ≡ 0 → Posted c.last d v u.pending
    order : Rising low high u.pending
    no-queue : (v.terms.kind ≡ 0 → ⊥) → (u.pending ≡ []) × (u.ended ≡ 0) × (u.pending_total ≡ v.pending_total)

  -- of a deferrable or polling VCPU, after steps 1 and 2
  abbrev Filled : ℕ → Vcpu → Type 0
  Filled d u =
      (next : ℕ) × Refill now d v next u.usable × (u.boundary ≡ some next) × (u.pending ≡ []) × (u.ended ≡ 0)
      × (u.pending_total ≡ v.pending_total)

  -- `u` is `v` after steps 1 and 2
  record Stepped (u : Vcpu) : Type 0 where
    same-terms : u.terms ≡ v.terms
    same_mark : u.runnable ≡ v.runnable
    ticks : ℕ
    loses : Loses c now v ticks
    has_them : ticks ≤ v.usable
    held-total : u.held_total ≡ v.held_total + ticks
    sporadic : v.terms.kind ≡ 0 → Queued c.last now ticks v u
    refilled : (v.terms.kind ≡ 0 → ⊥) → Filled ticks u

  module _ (s : Sound c.last v) where
    step-returned : (u : Vcpu) (d low high : ℕ) → Loses c now v d → Charged d low high u → Stepped (returned now u)
    step-returned u d low high l k =
        record {
          same-terms = terms-returned now u ∙ k.same-terms;
          same_mark = runnable-returned now u ∙ k.same_mark;
          ticks = d;
          loses = l;
          has_them = omega (arith, k.usable);
          held-total = held-returned now u ∙ k.held-total;
          sporadic = λ z. let e : u.boundary ≡ none = k.same-boundary ∙ (s.sporadic z).0 in
              subst (Queued c.last now d v) (sym (returned-none now u e)) (queued e z);
          refilled = λ n. let r = s.refills n in
              let e : u.boundary ≡ some r.2 = k.same-boundary ∙ r.3 in
              subst (λ (o : Option ℕ). Filled d (refill now o (brought_in now u))) (sym e) (filled n r.2 e r.3 (leb r.2 now) refl);
        }
      where
        queued : u.boundary ≡ none → v.terms.kind ≡ 0 → Queued c.last now d v (brought_in now u)
        queued e z =
            let p = splits now u.pending in
            record {
              use_ends = (k.use_ends z).0;
              no_use = (k.use_ends z).1;
              back = p.0;
              posted = subst (Posted c.last d v) p.1 (k.posted z);
              are_due = p.2;
              to_come = rising-all _ high (still now u.pending) (stays-behind now low high u.pending k.order).order;
              usable = omega (arith, p.3, k.usable);
              pending-total = omega (arith, p.3, k.pending-total z, k.adds, brought-all now u.pending);
              no-boundary = e;
            }

        -- without a queue nothing returns
        none-less : (v.terms.kind ≡ 0 → ⊥) → u.pending_total - brought now u.pending ≡ u.pending_total
        none-less n = omega (arith, ap (brought now) (k.no-queue n).0)

        filled : (v.terms.kind ≡ 0 → ⊥) → (b : ℕ) → u.boundary ≡ some b → v.boundary ≡ some b → (t : Bool) → leb b now ≡ t
            → Filled d (cond t (refilled now b (brought_in now u)) (brought_in now u))
        filled n b e f true t = (
          boundary_after now u.terms.period b,
          rw (k.same-terms, k.same_mark) (refills_so now d v b f (leb-true b now t) s.range.period-low),
          refl,
          ap (still now) (k.no-queue n).0,
          (k.no-queue n).1,
          none-less n ∙ (k.no-queue n).2,
        )
        filled n b e f false t =
            let q : brought now u.pending ≡ 0 = ap (brought now) (k.no-queue n).0 in
            let g : v.usable - d ≡ u.usable + brought now u.pending = omega (arith, k.usable) in (
              b,
              subst (Refill now d v b) g (before b f (leb-false b now t)),
              e,
              ap (still now) (k.no-queue n).0,
              (k.no-queue n).1,
              none-less n ∙ (k.no-queue n).2,
            )

    -- no ticks are lost
    not-charged : (d : ℕ) → d ≡ 0 → Charged d (suc c.last) (c.last + v.terms.period) v
    not-charged d z =
        record {
          same-terms = refl;
          same_mark = refl;
          same-boundary = refl;
          usable = omega arith;
          held-total = omega arith;
          pending-total = λ e. omega arith;
          adds = s.adds;
          use_ends = λ e. (λ h. absurd (omega arith), λ h. refl);
          posted = λ e. nothing z;
          order = s.order;
          no-queue = λ n. ((s.refills n).0, (s.refills n).1, refl);
        }

    some-charged : 0 < now - c.last → now ≤ c.last + v.usable
        → Charged (now - c.last) (suc c.last) (c.last + v.terms.period) (charged_some c.last now v)
    some-charged h k =
        record {
          same-terms = refl;
          same_mark = refl;
          same-boundary = refl;
          usable = omega arith;
          held-total = refl;
          pending-total = λ e. rw (is-sporadic v.terms e);
          adds = by_kind v.terms
              (λ e. rw (is-sporadic v.terms e)
              (omega (arith, (posts c.last (now - c.last) v s.range.period-low s.order s.few).in_all, s.adds)))
              (λ n. rw (not-sporadic v.terms n) s.adds);
          use_ends = λ e. (λ z. rw (is-sporadic v.terms e), λ z. absurd (omega arith));
          posted = λ e. rw (is-sporadic v.terms e) (posts_so c.last (now - c.last) v h s.few);
          order = by_kind v.terms
              (λ e. rw (is-sporadic v.terms e)
              (posts c.last (now - c.last) v s.range.period-low s.order s.few).order)
              (λ n. rw (not-sporadic v.terms n) s.order);
          no-queue = λ n. rw (not-sporadic v.terms n) ((s.refills n).0, (s.refills n).1, refl);
        }

    waited : (c.running ≡ some v.terms.tunnel → ⊥) → Stepped (returned now v)
    waited n = step-returned v 0 _ _ (not-held n) (not-charged 0 refl)

    module _ (pace : holds v.terms.tunnel c.running ≡ true → now ≤ c.last + v.usable) where
      ran : c.running ≡ some v.terms.tunnel → Stepped (returned now (charged c.last now v))
      unfolding charged
      ran e = go (no_ticks c.last now) refl
        where
          k : now ≤ c.last + v.usable
          k =
              pace
              (subst (λ (o : Option ℕ). holds v.terms.tunnel o ≡ true) (sym e) (eq-eqb v.terms.tunnel v.terms.tunnel refl))

          go : (b : Bool) → no_ticks c.last now ≡ b → Stepped (returned now (cond b v (charged_some c.last now v)))
          go true z = step-returned v (now - c.last) _ _ (held e) (not-charged (now - c.last) (omega (arith, tests)))
          go false z =
              step-returned (charged_some c.last now v) (now - c.last) _ _ (held e) (some-charged (omega (arith, tests)) k)

      is-stepped : Stepped (stepped c.last now c.running v)
      is-stepped = go c.running refl
        where
          go : (o : Option ℕ) → c.running ≡ o → Stepped (stepped c.last now o v)
          go none e = waited (λ f. no-some (sym e ∙ f))
          go (some t) e = by (eqb v.terms.tunnel t) refl
            where
              by : (b : Bool) → eqb v.terms.tunnel t ≡ b → Stepped (returned now (cond b (charged c.last now v) v))
              by true h = ran (e ∙ ap some (sym (eqb-true v.terms.tunnel t h)))
              by false h =
                  waited (λ f. let q : t ≡ v.terms.tunnel = same c.running t v.terms.tunnel e f in
                  clash (sym (eq-eqb v.terms.tunnel t (sym q)) ∙ h))

    -- and step 3, where it leaves the VCPU there
    module _ (u : Vcpu) (k : Stepped u) where
      of-v : (n : ℕ) → u.terms.kind ≡ n → v.terms.kind ≡ n
      of-v n e = ap (λ x. x.kind) (sym k.same-terms) ∙ e

      -- without a mark of its own it is as if marked again: a polling VCPU that was not runnable had no ticks left to take
      marked-again : set_runnable u.runnable u ≡ u
      marked-again = same-vcpu (set_runnable u.runnable u) u refl refl refl (kept, refl, refl, refl, refl)
        where
          kept : leaves u.terms u.runnable u.usable ≡ u.usable
          kept =
              kept-or-taken u.terms u.runnable (leaves_all u.terms u.runnable u.usable)
              (λ p e. let z = of-v 2 p in
              let r = k.refilled (λ y. omega arith) in
              let g : u.usable ≡ 0 = none-given now k.ticks v r.0 u.usable s.polls r.1 z (sym k.same_mark ∙ e) in
              omega (arith, leaves-most u.terms u.runnable u.usable))

      marked : (b : Bool) → Budget c now v (set_runnable b u)
      marked b =
          record {
            same-terms = k.same-terms;
            ticks = k.ticks;
            loses = k.loses;
            has_them = k.has_them;
            held-total = k.held-total;
            sporadic = λ z. queued z (k.sporadic z);
            refilled = λ n. let r = k.refilled n in
                record {
                  next = r.0;
                  given = u.usable;
                  refill = r.1;
                  boundary = r.2;
                  taken = λ p q. ap (λ (x : Bool). leaves u.terms x u.usable) q ∙ leaves_none u.terms u.usable p;
                  usable = leaves_all u.terms b u.usable;
                  no-queue = r.3;
                  no_use = r.4;
                  same-pending-total = r.5;
                };
          }
        where
          queued : v.terms.kind ≡ 0 → Queued c.last now k.ticks v u → Queued c.last now k.ticks v (set_runnable b u)
          queued z q =
              record {
                use_ends = q.use_ends;
                no_use = q.no_use;
                back = q.back;
                posted = q.posted;
                are_due = q.are_due;
                to_come = q.to_come;
                usable = omega (
                  arith,
                  q.usable,
                  leaves_all u.terms b u.usable (λ e. let f = of-v 2 e in absurd (omega arith)),
                );
                pending-total = q.pending-total;
                no-boundary = q.no-boundary;
              }

      budget-of : (w : Vcpu) → Marked u w → Budget c now v w
      budget-of w (inl e) = subst (Budget c now v) (marked-again ∙ sym e) (marked u.runnable)
      budget-of w (inr p) = subst (Budget c now v) (sym p.1) (marked p.0)

  pub one_loss : (a b : ℕ) → Loses c now v a → Loses c now v b → a ≡ b
  one_loss a b (held e) (held f) = refl
  one_loss a b (held e) (not-held n) = absurd (n e)
  one_loss a b (not-held n) (held f) = absurd (n f)
  one_loss a b (not-held n) (not-held m) = refl

  same-queued : (d : ℕ) (w u : Vcpu) → Queued c.last now d v w → Queued c.last now d v u → Same w u
  same-queued d w u f g =
      let q : f.back ++ w.pending ≡ g.back ++ u.pending =
      one-queue c.last d v (f.back ++ w.pending) (g.back ++ u.pending) f.posted g.posted in
      let a = one_split now f.back w.pending f.are_due f.to_come in
      let b = one_split now g.back u.pending g.are_due g.to_come in (
        omega (arith, f.usable, g.usable, a.1, b.1, ap (brought now) q),
        ⊎_elim (λ z. f.no_use (omega (arith, tests)) ∙ sym (g.no_use (omega (arith, tests))))
            (λ z. f.use_ends (omega (arith, tests)) ∙ sym (g.use_ends (omega (arith, tests)))) (cases (eqb d 0)),
        sym a.0 ∙ ap (still now) q ∙ b.0,
        f.no-boundary ∙ sym g.no-boundary,
        omega (arith, f.pending-total, g.pending-total, a.1, b.1, ap (brought now) q),
      )

  same-refilled : (d : ℕ) (w u : Vcpu) → w.terms ≡ u.terms → w.runnable ≡ u.runnable → Refilled now d v w → Refilled now d v u
      → Same w u
  same-refilled d w u t m f g =
      let p = one-refill now d v f.next f.given g.next g.given f.refill g.refill in (
        kept-or-taken w.terms w.runnable (λ h. f.usable h ∙ p.1 ∙ sym (g.usable (λ k. sym m ∙ h (kind ∙ k))))
            (λ k e. f.taken k e ∙ sym (g.taken (sym kind ∙ k) (sym m ∙ e))),
        f.no_use ∙ sym g.no_use,
        f.no-queue ∙ sym g.no-queue,
        f.boundary ∙ ap some p.0 ∙ sym g.boundary,
        f.same-pending-total ∙ sym g.same-pending-total,
      )
    where
      kind : w.terms.kind ≡ u.terms.kind
      kind = ap (λ x. x.kind) t

  -- two that fit, with the same mark, are the same: the mark is step 3's, and nothing else is left open
  pub one-budget : (w u : Vcpu) → w.runnable ≡ u.runnable → Budget c now v w → Budget c now v u → w ≡ u
  one-budget w u m f g =
      same-vcpu w u terms m (omega (arith, f.held-total, g.held-total, d))
      (by_kind v.terms
      (λ z. same-queued g.ticks w u (subst (λ (k : ℕ). Queued c.last now k v w) d (f.sporadic z)) (g.sporadic z))
      (λ n. same-refilled g.ticks w u terms m (subst (λ (k : ℕ). Refilled now k v w) d (f.refilled n)) (g.refilled n)))
    where
      d : f.ticks ≡ g.ticks
      d = one_loss f.ticks g.ticks f.loses g.loses

      terms : w.terms ≡ u.terms
      terms = f.same-terms ∙ sym g.same-terms

-- step 3 leaves everybody whom it does not remove as it is, or with one mark or the other

left-marked : (t : ℕ) (mark : Bool) (vs : List Vcpu) (v : Vcpu) → Among v vs
    → (w : Vcpu) × Among w (to_named t (set_runnable mark) vs) × Marked v w
left-marked t mark vs v m = go (named t v) (map_among _ vs v m)
  where
    go : (x : Bool) → Among (cond x (set_runnable mark v) v) (to_named t (set_runnable mark) vs)
        → (w : Vcpu) × Among w (to_named t (set_runnable mark) vs) × Marked v w
    go true k = (set_runnable mark v, k, inr (mark, refl))
    go false k = (v, k, inl refl)

left : (now : ℕ) (asked : Change) (vs : List Vcpu) (v : Vcpu) → Among v vs → (asked ≡ remove v.terms.tunnel → ⊥)
    → (w : Vcpu) × Among w (change now asked vs) × Marked v w
left now (admit d) vs v m n = (v, placed_among (admitted now d) vs v m, inl refl)
left now (wake t) vs v m n = left-marked t true vs v m
left now (block t) vs v m n = left-marked t false vs v m
left now (remove t) vs v m n =
    (v, keep_among (λ v. not (named t v)) vs v m (rw (not_named t v (λ e. n (ap remove (sym e))))), inl refl)
left now tick vs v m n = (v, m, inl refl)

-- and everybody there whom it did not admit is one of these
known-marked : (t : ℕ) (mark : Bool) (vs : List Vcpu) (w : Vcpu) → Among w (to_named t (set_runnable mark) vs)
    → (v : Vcpu) × Among v vs × Marked v w
known-marked t mark vs w m =
    let p = among_map (λ v. cond (named t v) (set_runnable mark v) v) vs w m in
    (p.0, p.1, go p.0 (named t p.0) p.2)
  where
    go : (v : Vcpu) (x : Bool) → w ≡ cond x (set_runnable mark v) v → Marked v w
    go v true e = inr (mark, e)
    go v false e = inl e

pub known : (now : ℕ) (asked : Change) (vs : List Vcpu) (w : Vcpu) → Among w (change now asked vs) → (AdmitOf asked w.terms.tunnel → ⊥)
    → (v : Vcpu) × Among v vs × Marked v w
known now (admit d) vs w m n =
    ⊎_elim (λ e. absurd (n (d, refl, ap (λ x. x.terms.tunnel) (sym e)))) (λ k. (w, k, inl refl)) (among_placed (admitted now d) vs w m)
known now (wake t) vs w m n = known-marked t true vs w m
known now (block t) vs w m n = known-marked t false vs w m
known now (remove t) vs w m n = (w, (among_keep (λ v. not (named t v)) vs w m).0, inl refl)
known now tick vs w m n = (w, m, inl refl)

-- what steps 1 and 2 make of a VCPU fits, whatever mark step 3 gives it
module _ (calls : List Call) (call : Call) (e : refusal (after calls) call.now call.asked ≡ none) where
  pub fits-stepped : (v : Vcpu) → Among v (after calls).vcpus → (w : Vcpu)
      → Marked (stepped (after calls).last call.now (after calls).running v) w → Budget (after calls) call.now v w
  fits-stepped v m =
      let r = reached calls in
      let late = (passed (after calls) call.now call.asked e).not_late in
      let s = all_among (Sound (after calls).last) (after calls).vcpus r.lawful.sound v m in
      let pace = all_among _ (after calls).vcpus (in_time (after calls) call.now r.settled r.lawful.once late) v m in
      budget-of (after calls) call.now v s (stepped (after calls).last call.now (after calls).running v)
      (is-stepped (after calls) call.now v s pace)

  then : (v : Vcpu) → Among v (after calls).vcpus → (call.asked ≡ remove v.terms.tunnel → ⊥)
      → (w : Vcpu) × Among w (after_change (after calls) call) × Budget (after calls) call.now v w
  then v m n =
      let u = stepped (after calls).last call.now (after calls).running v in
      let p = left call.now call.asked (after_return (after calls) call.now) u (is-there (after calls) call.now v m)
      (λ e. n (e ∙ ap (λ x. remove x.tunnel) (fits-stepped v m u (inl refl)).same-terms)) in
      (p.0, p.1, fits-stepped v m p.0 p.2)

  was : (w : Vcpu) → Among w (after_change (after calls) call) → (AdmitOf call.asked w.terms.tunnel → ⊥)
      → (v : Vcpu) × Among v (after calls).vcpus × Budget (after calls) call.now v w
  was w m n =
      let p = known call.now call.asked (after_return (after calls) call.now) w m n in
      let q = was-there (after calls) call.now p.0 p.1 in
      (q.0, q.1, fits-stepped q.0 q.1 w (subst (λ (u : Vcpu). Marked u w) q.2 p.2))

pub budgets : (calls : List Call) (call : Call) → NoRow (after calls) call → Budgets (after calls) call (after (call ∷ calls)).vcpus
unfolding settled
budgets calls call h =
    let e = not-given (after calls) call h in
    subst (λ (d : Card). Budgets (after calls) call d.vcpus) (sym (card-accepted (after calls) call e))
    (record { then = then calls call e; was = was calls call e })
