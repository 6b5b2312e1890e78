-- What ties a sporadic VCPU's queue to the ticks that its stay held: of the slices begun less than T before a moment x to come, no more
-- ticks were held than are pending at x or later; the last return is due one period after the latest slice began; and while its slices
-- never made the queue fold, the recent ones are its pending returns, one for one. Assumes of a charge what Sound does.
use mathlib.Core.Path.{◌≡◌, refl, ap, sym, ◌∙◌, subst}
use mathlib.Core.Bool.{Bool, true, false, cond, ◌||◌}
use mathlib.Core.List.{List, [], ◌∷◌, ◌++◌}
use mathlib.Core.Logic.{⊎_elim}
use mathlib.Core.Option.{some}
use Prim.Native.Nat.{ℕ, zero, suc, ◌+◌, ◌-◌, ◌≤◌, ◌<◌}
use native.Mathlib.Omega.{arith}
use lib.Dec.{leb, ltb, eqb}
use lib.ListN.{length}
use borrow.Author.Tests.{leb-true, leb-false, ltb-true, eqb-true, eqb-false, eq-eqb, le-leb}
use Rattle.rules.specs.Limits.{most_pending}
use Rattle.rules.specs.Vcpu.{Entry, Vcpu}
use Rattle.rules.specs.Charge.{to_last, waiting, goes_on, joins, full, folds, posted, no_ticks, charged_some, charged}
use Rattle.rules.specs.Return.{still}
use Rattle.rules.specs.History.{ticks}
use Rattle.rules.specs.Slices.{Slice, slices, recent, returns_of, ever_folds}
use Rattle.rules.specs.Together.{returns_by}
use Rattle.rules.proofs.Tests.{tests, clash, cases, or-false, or_right, or-none}
use Rattle.rules.proofs.ThreeKinds.{is-sporadic}
use Rattle.rules.proofs.Slices.{going, begun, going-not, going-short, going-counted, More, more, begun-idle}
use Rattle.rules.proofs.Slices.{slices-apart, slices-idle, slices_begin, slices_on}
use Rattle.rules.proofs.Queue.{pend, pend-most, last_due, last-between, Rising, Posted, posts, due-there, joins-says}
use Rattle.rules.proofs.Queue.{posted_on, posted-new, stays-behind}
use Rattle.rules.proofs.Returns.{still-again, still-all, length_returns, still_returns, returns_on, returns_begin}
use Rattle.rules.proofs.Sound.{Sound}
use Rattle.rules.proofs.Window.{Within, within_held}

-- of one VCPU at `now`: the end of its latest use, its queue, and the ticks of its stay
pub record Tied (T now ended : ℕ) (q : List Entry) (m : List Bool) : Type 0 where
  pub at_most : (x : ℕ) → now < x → begun T x m ≤ pend x q
  pub one_for_one : ever_folds T (slices T m) ≡ false → still now q ≡ returns_of T (recent T now (slices T m))
  -- folded or not
  pub latest : waiting q ≡ true → returns_by T (slices T m) ≡ some (last_due q)
  -- a slice that a next tick would go on with is the last entry's, which is due one period after the slice's start
  pub still_going : 0 < going T m → (ended ≡ now) × (waiting q ≡ true) × (now < last_due q)
  pub since : ended ≡ now → waiting q ≡ true → now < last_due q → (0 < going T m) × (last_due q + going T m ≡ now + T)

pub tied-return : (T now ended low high : ℕ) (q : List Entry) (m : List Bool) → Rising low high q
    → Tied T now ended q m → Tied T now ended (still now q) m
tied-return T now ended low high q m r t =
    let s = stays-behind now low high q r in
    record {
      at_most = λ x h. omega (arith, s.counts x h, t.at_most x h);
      one_for_one = λ f. still-again now now q (omega arith) ∙ t.one_for_one f;
      latest = λ w. let l = s.same-last w in t.latest l.0 ∙ ap some (sym l.1);
      still_going = λ g. ((t.still_going g).0, s.waits (t.still_going g).1 (t.still_going g).2, again g);
      since = λ e w h. before e w h;
    }
  where
    again : 0 < going T m → now < last_due (still now q)
    again g =
        let s = stays-behind now low high q r in
        let p = t.still_going g in
        omega (arith, p.2, (s.same-last (s.waits p.1 p.2)).1)

    before : ended ≡ now → waiting (still now q) ≡ true → now < last_due (still now q)
        → (0 < going T m) × (last_due (still now q) + going T m ≡ now + T)
    before e w h =
        let s = (stays-behind now low high q r).same-last w in
        let p = t.since e s.0 (omega (arith, s.1)) in
        (p.0, omega (arith, s.1, p.1))

-- d ticks that it did not hold
pub tied-idle : (T last d ended : ℕ) (q : List Entry) (m : List Bool) → length m ≡ last → ended ≤ last
    → Tied T last ended q m → Tied T (last + d) ended q (ticks d false m)
tied-idle T last zero ended q m n h t =
    let e : last ≡ last + 0 = omega arith in
    subst (λ (n : ℕ). Tied T n ended q m) e t
tied-idle T last (suc d) ended q m n h t =
    record {
      at_most = λ x k. omega (arith, begun-idle T x (suc d) m, t.at_most x (omega arith));
      one_for_one = subst (λ (ss : List Slice). ever_folds T ss ≡ false → still (last + suc d) q ≡ returns_of T (recent T (last + suc d) ss))
          (sym (slices-idle T (suc d) m)) waited;
      latest = λ w. ap (returns_by T) (slices-idle T (suc d) m) ∙ t.latest w;
      still_going = λ g. absurd (omega (arith, going-not T (ticks d false m)));
      since = λ e w k. absurd (omega arith);
    }
  where
    waited : ever_folds T (slices T m) ≡ false → still (last + suc d) q ≡ returns_of T (recent T (last + suc d) (slices T m))
    waited f =
        sym (still-again last (last + suc d) q (omega arith))
        ∙ ap (still (last + suc d)) (t.one_for_one f)
        ∙ still_returns T last (last + suc d) (length m) (slices T m) (slices-apart T m) (omega arith)

module _ (last d : ℕ) (v : Vcpu) (m : List Bool) (n : length m ≡ last) (s : Sound last v) (u : d ≤ v.usable)
    (t : Tied v.terms.period last v.ended v.pending m) where
  abbrev T : ℕ
  T = v.terms.period

  -- the going slice's ticks are pending still, and d more fit
  fits : going T m + d ≤ T
  fits =
      let g = going-short T m in
      let l : going T m < T = g.1 s.range.period-low in
      omega (
        arith,
        going-counted T (suc last) m (omega (arith, g.0)),
        t.at_most (suc last) (omega arith),
        pend-most (suc last) v.pending,
        s.most,
        s.range.capacity-high,
      )

  -- the ticks join exactly where a slice goes on
  join_goes_on : joins last v ≡ true
      → (0 < going T m) × (last_due v.pending + going T m ≡ last + T)
  join_goes_on j =
      let p = joins-says last v j in
      t.since p.0 p.1 (last-between (suc last) (last + T) v.pending s.order p.1).0

  goes_on_joins : 0 < going T m → joins last v ≡ true
  goes_on_joins g = let e : goes_on last v ≡ true = omega (arith, eq-eqb, le-leb, (t.still_going g).0) in rw (e, (t.still_going g).1)

  by-going : {A : Type 0} → (0 < going T m → joins last v ≡ true → A)
      → (going T m ≡ 0 → joins last v ≡ false → A) → A
  by-going f g = ⊎_elim (λ j. f (join_goes_on j).0 j) (λ j. g (new j) j) (cases (joins last v))
    where
      new : joins last v ≡ false → going T m ≡ 0
      new j =
          ⊎_elim (λ z. clash (sym (goes_on_joins (ltb-true 0 (going T m) z)) ∙ j)) (λ z. omega (arith, tests))
          (cases (ltb 0 (going T m)))

  -- the d ticks land where the return of their slice is due
  lands-there : last_due (posted last d v) + going T m ≡ last + T
  lands-there =
      due-there last d (going T m) v (λ j. (join_goes_on j).1)
      (λ j. by-going (λ g k. clash (sym k ∙ j)) (λ g k. g))

  abbrev before : List Slice
  before = slices T m

  abbrev after : List Slice
  after = slices T (ticks d true m)

  -- while the slices never made the queue fold, its entries before the charge are the recent ones
  queue-slices : ever_folds T before ≡ false → v.pending ≡ returns_of T (recent T last before)
  queue-slices f = sym (still-all last (suc last) (last + T) v.pending s.order (omega arith)) ∙ t.one_for_one f

  begins : going T m ≡ 0 → 1 ≤ d → after ≡ record { start = last; long = d } ∷ before
  begins g h =
      slices_begin T d m g h (omega (arith, fits))
      ∙ ap (λ (k : ℕ). record { start = k; long = d } ∷ slices T m) n

  -- the slices make the queue fold exactly where the rule folds it
  pub folds-there : 1 ≤ d → ever_folds T after ≡ ever_folds T before || folds last v
  folds-there h = by-going on new
    where
      on : 0 < going T m → joins last v ≡ true → ever_folds T after ≡ ever_folds T before || folds last v
      on g j =
          let p = slices_on T d m g fits in
          let k : folds last v ≡ false = rw j in
          rw k (ap (ever_folds T) p.grows ∙ sym (ap (ever_folds T) p.is-latest) ∙ sym (or-none (ever_folds T before)))

      new : going T m ≡ 0 → joins last v ≡ false → ever_folds T after ≡ ever_folds T before || folds last v
      new g j =
          let k : folds last v ≡ full v = rw j in
          ap (ever_folds T) (begins g h) ∙ rw k (go (ever_folds T before) refl)
        where
          go : (b : Bool) → ever_folds T before ≡ b → leb most_pending (length (recent T last before)) || b ≡ b || full v
          go true e = or_right (leb most_pending (length (recent T last before)))
          go false e =
              or-none (leb most_pending (length (recent T last before)))
              ∙ ap (leb most_pending) (sym (ap length (queue-slices e) ∙ length_returns T (recent T last before)))

  -- the d ticks make the latest slice longer, or are one more
  posted-slices : 1 ≤ d → ever_folds T after ≡ false → posted last d v ≡ returns_of T (recent T last after)
  posted-slices h f = by-going on new
    where
      never : (ever_folds T before ≡ false) × (folds last v ≡ false)
      never = or-false (ever_folds T before) (folds last v) (sym (folds-there h) ∙ f)

      on : 0 < going T m → joins last v ≡ true → posted last d v ≡ returns_of T (recent T last after)
      on g j =
          let p = slices_on T d m g fits in
          let k : last < p.slice.start + T = omega (arith, p.begun-at, (going-short T m).1 s.range.period-low) in
          posted_on last d v j
          ∙ ap (to_last (λ e. record { due = e.due; amount = e.amount + d }))
          (queue-slices never.0 ∙ ap (λ ss. returns_of T (recent T last ss)) p.is-latest)
          ∙ returns_on T last d p.slice p.before k
          ∙ ap (λ ss. returns_of T (recent T last ss)) (sym p.grows)

      new : going T m ≡ 0 → joins last v ≡ false → posted last d v ≡ returns_of T (recent T last after)
      new g j =
          posted-new last d v j never.1
          ∙ ap (λ q. q ++ record { due = last + T; amount = d } ∷ []) (queue-slices never.0)
          ∙ returns_begin T last d before s.range.period-low
          ∙ ap (λ ss. returns_of T (recent T last ss)) (sym (begins g h))

  -- one period after the start of the latest slice
  latest-lands : 1 ≤ d → returns_by T after ≡ some (last_due (posted last d v))
  latest-lands h = by-going on new
    where
      on : 0 < going T m → joins last v ≡ true → returns_by T after ≡ some (last_due (posted last d v))
      on g j =
          let p = slices_on T d m g fits in
          ap (returns_by T) p.grows ∙ ap some (omega (arith, p.begun-at, lands-there))

      new : going T m ≡ 0 → joins last v ≡ false → returns_by T after ≡ some (last_due (posted last d v))
      new g j = ap (returns_by T) (begins g h) ∙ ap some (omega (arith, lands-there))

  tied-held : 1 ≤ d
      → Tied T (last + d) (last + d) (posted last d v) (ticks d true m)
  tied-held h =
      record {
        at_most = λ x k. by-landing x
            (λ z. omega (arith, M.counted x z, P.counts x z, t.at_most x (omega arith)))
            (λ z. omega (arith, M.uncounted x z, P.keeps x, t.at_most x (omega arith)));
        one_for_one = λ f. ap (still (last + d)) (posted-slices h f)
            ∙ still_returns T last (last + d) (length (ticks d true m)) (slices T (ticks d true m))
            (slices-apart T (ticks d true m)) (omega arith);
        latest = λ w. latest-lands h;
        still_going = λ g. (refl, P.waits, soon g);
        since = λ e w k. (
          omega (arith, M.still_going (omega (arith, lands-there))),
          omega (arith, lands-there, M.still_going (omega (arith, lands-there))),
        );
      }
    where
      M : More T d (last_due (posted last d v)) m
      M = more T d (last_due (posted last d v)) m (omega (arith, lands-there)) fits

      P : Posted (suc last) (last + T) d v.pending (posted last d v)
      P = posts last d v s.range.period-low s.order s.few

      by-landing : {A : Type 0} (x : ℕ) → (x ≤ last_due (posted last d v) → A) → (last_due (posted last d v) < x → A) → A
      by-landing x f g =
          ⊎_elim (λ z. f (leb-true x (last_due (posted last d v)) z)) (λ z. g (leb-false x (last_due (posted last d v)) z))
          (cases (leb x (last_due (posted last d v))))

      soon : 0 < going T (ticks d true m) → last + d < last_due (posted last d v)
      soon g =
          ⊎_elim (λ z. absurd (omega (arith, M.is_cut h (eqb-true (going T m + d) T z))))
          (λ z. omega (arith, lands-there, fits, eqb-false (going T m + d) T z))
          (cases (eqb (going T m + d) T))

  pub within-charged : Within T v.terms.capacity m
      → Within T v.terms.capacity (ticks d true m)
  within-charged w =
      within_held T v.terms.capacity d m s.range.period-low w
      (λ x k. omega (arith, t.at_most x (omega arith), pend-most x v.pending, s.most))

-- a charge of any d ticks, of a sporadic VCPU
pub tied-charged : (last d : ℕ) (v : Vcpu) (m : List Bool) → v.terms.kind ≡ 0 → length m ≡ last → Sound last v → d ≤ v.usable
    → Tied v.terms.period last v.ended v.pending m
    → Tied v.terms.period (last + d) (charged last (last + d) v).ended (charged last (last + d) v).pending (ticks d true m)
unfolding charged
tied-charged last d v m i n s u t = go (no_ticks last (last + d)) refl
  where
    go : (b : Bool) → no_ticks last (last + d) ≡ b
        → Tied v.terms.period (last + d) (cond b v (charged_some last (last + d) v)).ended
        (cond b v (charged_some last (last + d) v)).pending (ticks d true m)
    go true z =
        let k : d ≡ 0 = omega (arith, tests) in
        let q : last ≡ last + 0 = omega arith in
        rw k (subst (λ (k : ℕ). Tied v.terms.period k v.ended v.pending m) q t)
    go false z =
        let k : 1 ≤ d = omega (arith, tests) in
        let e : last + d - last ≡ d = omega arith in
        rw (e, is-sporadic v.terms i) (tied-held last d v m n s u t k)
