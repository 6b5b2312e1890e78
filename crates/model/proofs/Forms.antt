-- The least budgets of the two forms, by what `least` replies: the aligned one is never more than the ordinary one, it is ceil(P·D/L) with D
-- the demand over the last period L, and where 36 is not given 34 is given in both forms or in neither. Assumes nothing.
use Prim.Native.Nat.{ℕ, zero, suc, ◌*◌, ◌-◌, ◌≤◌, ◌<◌}
use mathlib.Core.Path.{◌≡◌, refl, sym, ap, subst}
use mathlib.Core.Bool.{Bool, true, false}
use mathlib.Core.List.{List, [], ◌∷◌}
use mathlib.Core.Logic.{◌⊎◌, inl, inr, ◌↔◌}
use native.Mathlib.Omega.{arith}
use native.Mathlib.Nat.{eq-zero-or-pos, mul-le-mul, mul-le-mul_right, div-mul-le_self, le_trans}
use lib.ListN.{length, get_or}
use Rattle.model.specs.Form.{ordinary, aligned, suits, takes}
use Rattle.model.specs.Supply.{supply_of}
use Rattle.model.specs.Demand.{ceil, demand_of}
use Rattle.model.specs.Share.{least_of}
use Rattle.model.specs.Reply.{gives, refuses}
use Rattle.model.specs.Rows.{unaligned}
use Rattle.model.specs.Meaning.{IsCeil, Pairwise, Multiples, Pass, IsLeast}
use Rattle.model.specs.Asked.{Work, least, reply_to}
use Rattle.model.specs.Table.{NotAligned, Row, row_30, row_31, row_32, row_33, row_34, row_35, row_36, rows, Accepted}
use Rattle.model.specs.Forms.{last_period, OverLast, Forms}
use Rattle.model.proofs.Tests.{Tells, below-or-from}
use Rattle.model.proofs.Supply.{supply-long, supply-means, supply-only, supply-most}
use Rattle.model.proofs.Demand.{ceil-means, demand-means, demand-only}
use Rattle.model.proofs.Divides.{suits-tells, takes-tells}
use Rattle.model.proofs.Meaning.{Whole, least-means, least-none}
use Rattle.model.proofs.Table.{unaligned-tells, some_out, some_fall, whole, of_36, table}
use Rattle.model.proofs.Replies.{lowest, least_34, least-given}
use Rattle.model.proofs.Aligned.{passes_too}
use Rattle.model.proofs.Exact.{exact}

module _ (w : Work) (P : ℕ) where
  abbrev ps : List ℕ
  ps = w.periods

  abbrev es : List ℕ
  es = w.costs

  -- rows 30 to 33 say nothing of the form
  same_row : (n d : ℕ) → (n ≡ 36 → ⊥) → (n ≡ 34 → ⊥) → Row (least aligned w P) n d → Row (least ordinary w P) n d
  same_row n d a b (row_30 x) = row_30 x
  same_row n d a b (row_31 k x) = row_31 k x
  same_row n d a b (row_32 k x) = row_32 k x
  same_row n d a b (row_33 x) = row_33 x
  same_row n d a b (row_36 x) = absurd (a refl)
  same_row n d a b (row_35 x) = absurd x
  same_row n d a b (row_34 x) = absurd (b refl)

  above : Accepted (least ordinary w P) → (p d : ℕ) → p < 4 → Row (least aligned w P) (get_or rows p 0) d → ⊥
  above ok p d l r = ok p d (omega arith) (same_row (get_or rows p 0) d (λ e. omega (arith, l, above-36 p e)) (λ e. omega (arith, l, lowest p e)) r)
    where
      above-36 : (p : ℕ) → get_or rows p 0 ≡ 36 → 4 ≤ p
      above-36 zero e = absurd (omega (arith, e))
      above-36 (suc zero) e = absurd (omega (arith, e))
      above-36 (suc (suc zero)) e = absurd (omega (arith, e))
      above-36 (suc (suc (suc zero))) e = absurd (omega (arith, e))
      above-36 (suc (suc (suc (suc p)))) e = omega arith

  passing : {B : ℕ} → IsLeast ordinary P ps es B → Pass aligned P B ps es
  passing {B} i = passes_too P B ps es (omega (arith, i.from_1, i.to_P)) i.to_P i.passing

  in_aligned : {B : ℕ} → Accepted (least ordinary w P) → IsLeast ordinary P ps es B → IsLeast aligned P ps es (least_of aligned P ps es)
  in_aligned {B} ok i = go (eq-zero-or-pos (least_of aligned P ps es))
    where
      fit : Whole ps
      fit = whole w (λ k x. ok 1 k (omega arith) (row_31 k x))

      go : (least_of aligned P ps es ≡ 0) ⊎ (0 < least_of aligned P ps es) → IsLeast aligned P ps es (least_of aligned P ps es)
      go (inl z) = absurd ((least-none aligned P ps es fit).0 z B i.from_1 i.to_P (passing i))
      go (inr p) = least-means aligned P ps es fit p

  never-more : (B : ℕ) → reply_to (least ordinary w P) ≡ gives (B ∷ [])
      → (reply_to (least aligned w P) ≡ refuses 36 0) ⊎ ((C : ℕ) × (reply_to (least aligned w P) ≡ gives (C ∷ [])) × (C ≤ B))
  never-more B e =
      let o = (least-given ordinary w P B).0 e in
      go o.0 o.1 (unaligned aligned P ps) (unaligned-tells w aligned P)
    where
      go : Accepted (least ordinary w P) → IsLeast ordinary P ps es B → (b : Bool) → Tells b (NotAligned (least aligned w P))
          → (reply_to (least aligned w P) ≡ refuses 36 0) ⊎ ((C : ℕ) × (reply_to (least aligned w P) ≡ gives (C ∷ [])) × (C ≤ B))
      go ok i true t =
          inl (((table (least aligned w P)).refused 36 0).1
          (record { place = 4; stands = refl; applies = row_36 (t.0 refl); none_above = above ok }))
      go ok i false t =
          let l = in_aligned ok i in
          inr (least_of aligned P ps es, (least-given aligned w P (least_of aligned P ps es)).1 (accepted, l), l.smallest B i.from_1 (passing i))
        where
          accepted : Accepted (least aligned w P)
          accepted p d l r = at (below-or-from p 4)
            where
              at : (p < 4) ⊎ (4 ≤ p) → ⊥
              at (inl l) = above ok p d l r
              at (inr h) =
                  let here : p ≡ 4 = omega arith in
                  t.1 refl (of_36 (least aligned w P) d (subst (λ (q : ℕ). Row (least aligned w P) (get_or rows q 0) d) here r))

  -- what rows 30 to 33 and 36 leave of an aligned question
  record Fit : Type 0 where
    n : ℕ
    count : length ps ≡ suc n
    periods : Whole ps
    rising : (k : ℕ) → suc k < length ps → get_or ps k 0 ≤ get_or ps (suc k) 0
    costs : (k : ℕ) → k < length ps → 1 ≤ get_or es k 0
    pair : Pairwise ps
    divided : Multiples P ps
    some_P : 1 ≤ P

  fit : Accepted (least aligned w P) → Fit
  fit ok =
      record {
        n = length ps - 1;
        count = omega (arith, some-task);
        periods = whole w (λ k x. ok 1 k (omega arith) (row_31 k x));
        rising = rising;
        costs = costs;
        pair = held (suits aligned ps) (suits-tells aligned ps) (λ x. ok 4 0 (omega arith) (row_36 (inl x)));
        divided = held (takes aligned P ps) (takes-tells aligned P ps) (λ x. ok 4 0 (omega arith) (row_36 (inr x)));
        some_P = at-least-1 P (λ z. ok 3 0 (omega arith) (row_33 (inl (omega (arith, z)))));
      }
    where
      at-least-1 : (x : ℕ) → (x ≡ 0 → ⊥) → 1 ≤ x
      at-least-1 zero h = absurd (h refl)
      at-least-1 (suc x) h = omega arith

      held : {A : Type 0} (b : Bool) → Tells b A → ((A → ⊥) → ⊥) → A
      held true t refuted = t.0 refl
      held false t refuted = absurd (refuted (t.1 refl))

      some-task : 1 ≤ length ps
      some-task = at-least-1 (length ps) (λ z. ok 0 0 (omega arith) (row_30 (inl z)))

      rising : (k : ℕ) → suc k < length ps → get_or ps k 0 ≤ get_or ps (suc k) 0
      rising k l = go (below-or-from (get_or ps (suc k) 0) (get_or ps k 0))
        where
          go : (get_or ps (suc k) 0 < get_or ps k 0) ⊎ (get_or ps k 0 ≤ get_or ps (suc k) 0) → get_or ps k 0 ≤ get_or ps (suc k) 0
          go (inl falls) =
              let a : suc (suc k) - 1 ≡ suc k = omega arith in
              let b : suc (suc k) - 2 ≡ k = omega arith in
              let f = some_fall w (suc (suc k)) (omega arith, l, rw (a, b) falls) in
              absurd (ok 2 _ (omega arith) (row_32 _ f))
          go (inr h) = h

      costs : (k : ℕ) → k < length ps → 1 ≤ get_or es k 0
      costs k l = at-least-1 (get_or es k 0) (λ z. ok 1 _ (omega arith) (row_31 _ (some_out w (suc k) (omega arith, l, inr (inl (none z))))))
        where
          none : get_or es k 0 ≡ 0 → get_or es (suc k - 1) 0 < 1
          none z = let e : suc k - 1 ≡ k = omega arith in rw e (omega (arith, z))

  -- a budget passes exactly where it has as large a part of P as the tasks have of their periods
  module _ (f : Fit) (D : ℕ) (over : OverLast w D) where
    part : (B : ℕ) → Pass aligned P B ps es ↔ (P * D ≤ B * last_period w)
    part B =
        let back : length ps - 1 ≡ f.n = omega (arith, f.count) in
        let whole-L : last_period w ≡ get_or ps f.n 0 = ap (λ (k : ℕ). get_or ps k 0) back in
        let is : demand_of ps es (suc f.n) (get_or ps f.n 0) ≡ D =
        subst (λ (k : ℕ). demand_of ps es k (get_or ps f.n 0) ≡ D) f.count
        (subst (λ (t : ℕ). demand_of ps es (length ps) t ≡ D) whole-L (demand-only ps es (length ps) (last_period w) D over)) in
        subst (λ (t : ℕ). Pass aligned P B ps es ↔ (P * D ≤ B * t)) (sym whole-L)
        (subst (λ (d : ℕ). Pass aligned P B ps es ↔ (P * d ≤ B * get_or ps f.n 0)) is
        (exact ps es f.periods f.pair f.rising P f.some_P f.divided f.n f.count B))

    some-D : 1 ≤ D
    some-D = go f.n f.count (omega (arith, f.count))
      where
        go : (n : ℕ) → length ps ≡ suc n → length ps - 1 ≡ n → 1 ≤ D
        go n count back =
            let p = get_or ps n 0 in
            let e = get_or es n 0 in
            let pos = f.periods n (omega arith) in
            let d = demand-only ps es (length ps) (last_period w) D over in
            let last : demand_of ps es (suc n) p ≡ D = rw (back, count) at d in
            let turns : 1 ≤ ceil p p = some_turn (ceil p p) p (ceil-means p p pos).0 pos in
            omega (arith, last, mul-le-mul turns (f.costs n (omega arith)))
          where
            some_turn : (c p : ℕ) → p ≤ c * p → 1 ≤ p → 1 ≤ c
            some_turn zero p h pos = absurd (omega (arith, h))
            some_turn (suc c) p h pos = omega arith

    -- so it is not 0
    some-part : (z : ℕ) → P * D ≤ z * last_period w → 1 ≤ z
    some-part zero h = absurd (omega (arith, h, mul-le-mul f.some_P some-D))
    some-part (suc z) h = omega arith

    exact-least : (B : ℕ) → IsLeast aligned P ps es B ↔ (IsCeil (P * D) (last_period w) B × (B ≤ P))
    exact-least B = (
      λ i. (((part B).0 i.passing, λ z h. i.smallest z (some-part z h) ((part z).1 h)), i.to_P),
      λ c.
          record {
            from_1 = some-part B c.0.0;
            to_P = c.1;
            passing = (part B).1 c.0.0;
            smallest = λ C p h. c.0.1 C ((part C).0 h);
          },
    )

    -- a budget of all of P passes in both forms where one passes in the aligned form
    all-passes : {B : ℕ} → B ≤ P → Pass aligned P B ps es → Pass ordinary P P ps es
    all-passes {B} fits pass i from to =
        let all = (part P).1 (le_trans ((part B).0 pass) (mul-le-mul_right (last_period w) fits)) i from to in
        let s = supply-only P P all.t aligned all.supply all.supplied in
        record {
          t = all.t;
          supply = supply_of ordinary P P all.t;
          demand = all.demand;
          from_1 = all.from_1;
          to_p = all.to_p;
          supplied = supply-means P P all.t ordinary f.some_P;
          demanded = all.demanded;
          enough = omega (arith, all.enough, s, supply-most aligned P P all.t (omega arith), all-of-it all.t);
        }
      where
        all-of-it : (t : ℕ) → supply_of ordinary P P t ≡ t
        all-of-it t =
            omega (arith, supply-long P P t (omega arith), div-mul-le_self (t - (P - P)) P)

  to_ordinary : Accepted (least aligned w P) → Accepted (least ordinary w P)
  to_ordinary ok p d l r = go (get_or rows p 0) d refl r
    where
      go : (n d : ℕ) → get_or rows p 0 ≡ n → Row (least ordinary w P) n d → ⊥
      go n d e (row_30 x) = ok p d l (subst (λ (m : ℕ). Row (least aligned w P) m d) (sym e) (row_30 x))
      go n d e (row_31 k x) = ok p d l (subst (λ (m : ℕ). Row (least aligned w P) m d) (sym e) (row_31 k x))
      go n d e (row_32 k x) = ok p d l (subst (λ (m : ℕ). Row (least aligned w P) m d) (sym e) (row_32 k x))
      go n d e (row_33 x) = ok p d l (subst (λ (m : ℕ). Row (least aligned w P) m d) (sym e) (row_33 x))
      go n d e (row_36 (inl x)) = x tt
      go n d e (row_36 (inr x)) = x tt
      go n d e (row_35 x) = x
      go n d e (row_34 x) = omega (arith, l, lowest p e)

  pub forms : Forms w P
  forms =
      record {
        never-more = never-more;
        exact = λ B D over. (
          λ e.
              let g = (least-given aligned w P B).0 e in
              let c = (exact-least (fit g.0) D over B).0 g.1 in
              (g.0, c.0, c.1),
          λ h. (least-given aligned w P B).1 (h.0, (exact-least (fit h.0) D over B).1 (h.1, h.2)),
        );
        both_34 = both;
      }
    where
      both : Accepted (least aligned w P) → (reply_to (least ordinary w P) ≡ refuses 34 0) ↔ (reply_to (least aligned w P) ≡ refuses 34 0)
      both ok = (
        λ e. (least_34 aligned w P).1 (ok, λ B p l pass. ((least_34 ordinary w P).0 e).1 P f.some_P (omega arith) (all-passes f D over l pass)),
        λ e. (least_34 ordinary w P).1 (to_ordinary ok, λ B p l pass. ((least_34 aligned w P).0 e).1 B p l (passes_too P B ps es f.some_P l pass)),
      )
        where
          f : Fit
          f = fit ok

          D : ℕ
          D = demand_of ps es (length ps) (last_period w)

          over : OverLast w D
          over = demand-means ps es (length ps) (last_period w) (λ k l. f.periods k l)
