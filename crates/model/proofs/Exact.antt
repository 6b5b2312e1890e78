-- The aligned least budget is ceil(P·Σ e/p): of periods that divide each other and are multiples of P, a budget passes exactly where it has
-- as large a part of P as the tasks have of their periods. Assumes nothing.
use Prim.Native.Nat.{ℕ, zero, suc, ◌+◌, ◌*◌, ◌-◌, ◌/◌, ◌%◌, ◌≤◌, ◌<◌}
use mathlib.Core.Path.{◌≡◌, sym, ap, ◌∙◌, subst}
use mathlib.Core.List.{List}
use mathlib.Core.Logic.{◌⊎◌, inl, inr, ◌↔◌}
use native.Mathlib.Omega.{arith}
use native.Mathlib.Nat.{div-add-mod', mod-lt, mul-le-mul_right, mul-le-mul_left, mul_assoc, mul_comm, mul_left_comm, add-mul, mul-add, mul-div_cancel}
use native.Mathlib.Nat.{suc-mul, le_of_mul-le-mul_left, le_of_mul-le-mul_right, le-suc_iff, le_trans}
use lib.ListN.{length, get_or}
use Rattle.model.specs.Form.{aligned}
use Rattle.model.specs.Supply.{supply_of}
use Rattle.model.specs.Demand.{ceil, demand_of}
use Rattle.model.specs.Meaning.{Multiple, Pairwise, Multiples, Pass}
use Rattle.model.proofs.Tests.{below-or-from}
use Rattle.model.proofs.Supply.{supply-short, supply-aligned, supply-means, supply-only}
use Rattle.model.proofs.Demand.{ceil-means, ceil-only, demand-means, demand-only}
use Rattle.model.proofs.Meaning.{Whole}

-- beside whole periods: g = P - B ticks are lost first, or none where B is above P
rest_part : (P B r : ℕ) → r < P → P * (r - (P - B)) ≤ r * B
rest_part P B r r-lt = go (below-or-from r (P - B)) (below-or-from P B)
  where
    go : (r < P - B) ⊎ (P - B ≤ r) → (P < B) ⊎ (B ≤ P) → P * (r - (P - B)) ≤ r * B
    go (inl short) _ = let none : r - (P - B) ≡ 0 = omega arith in rw none (omega arith)
    go (inr long) (inl above) =
        let all : r - (P - B) ≡ r = omega arith in
        rw all (omega (arith, mul_comm P r, mul-le-mul_left {m = P} {n = B} r (omega arith)))
    go (inr long) (inr within) = sum (P - B) (r - (P - B)) (omega arith) (omega arith) (omega arith)
      where
        sum : (g x : ℕ) → P ≡ g + B → r ≡ g + x → x ≤ B → P * x ≤ r * B
        sum g x p q l = rw (p, q) (omega (arith, add-mul g B x, add-mul g x B, mul-le-mul_left g l, mul_comm B x))

-- no length has a larger part of supply than the budget is of P
supply-part : (P B t : ℕ) → 1 ≤ P → P * supply_of aligned P B t ≤ t * B
supply-part P B t pos = go (below-or-from t (P - B))
  where
    go : (t < P - B) ⊎ (P - B ≤ t) → P * supply_of aligned P B t ≤ t * B
    go (inl h) = rw (supply-short aligned P B t h) (omega arith)
    go (inr h) =
        let y = t / P in
        let r = t % P in
        let is : t ≡ y * P + r = sym (div-add-mod' t P) in
        let s : supply_of aligned P B t ≡ y * B + (r - (P - B)) = supply-aligned P B t h ∙ omega (arith, is) in
        let whole : P * (y * B) ≡ y * P * B = sym (mul_assoc P y B) ∙ ap (λ (n : ℕ). n * B) (mul_comm P y) in
        let left : P * supply_of aligned P B t ≡ y * P * B + P * (r - (P - B)) =
        ap (λ (n : ℕ). P * n) s ∙ mul-add P (y * B) (r - (P - B)) ∙ ap (λ (n : ℕ). n + P * (r - (P - B))) whole in
        let right : t * B ≡ y * P * B + r * B = ap (λ (n : ℕ). n * B) is ∙ add-mul (y * P) r B in
        omega (arith, left, right, rest_part P B r (mod-lt t pos))

-- over a multiple of P the supply is as many budgets
supply-whole : (P B m : ℕ) → 1 ≤ P → P - B ≤ m * P → supply_of aligned P B (m * P) ≡ m * B
supply-whole P B m pos h =
    let q : m * P / P ≡ m = mul-div_cancel m pos in
    supply-aligned P B (m * P) h
    ∙ ap (λ (y : ℕ). y * B + (m * P - ((P - B) + y * P))) q
    ∙ omega arith

-- a multiple has its ceil
ceil-whole : (m p : ℕ) → 1 ≤ p → ceil (m * p) p ≡ m
ceil-whole m p pos = ceil-only (m * p) p m (omega arith, λ z h. le_of_mul-le-mul_right h pos)

swap : (c p m e : ℕ) → c * p * (m * e) ≡ c * e * (m * p)
swap c p m e =
    mul_assoc c p (m * e)
    ∙ ap (λ (n : ℕ). c * n) (mul_left_comm p m e ∙ ap (λ (n : ℕ). m * n) (mul_comm p e) ∙ mul_left_comm m e p)
    ∙ sym (mul_assoc c e (m * p))

-- demand over t and over a length L that the periods divide: as a part of the length it is no less, and the same where they divide t
abbrev Divide : List ℕ → ℕ → ℕ → Type 0
Divide ps i t = (k : ℕ) → k < i → (1 ≤ get_or ps k 0) × Multiple (get_or ps k 0) t

module _ (ps es : List ℕ) (L : ℕ) where
  one-part : (t p e m : ℕ) → 1 ≤ p → t * (m * e) ≤ ceil t p * e * (m * p)
  one-part t p e m pos =
      let c = ceil t p in
      let cover : t ≤ c * p = (ceil-means t p pos).0 in
      let a : t * (m * e) ≤ c * p * (m * e) = mul-le-mul_right (m * e) cover in
      omega (arith, a, swap c p m e)

  no_less : (i t : ℕ) → Divide ps i L → t * demand_of ps es i L ≤ demand_of ps es i t * L
  no_less zero t d = omega arith
  no_less (suc i) t d =
      let p = get_or ps i 0 in
      let e = get_or es i 0 in
      let last = d i (omega arith) in
      let m = last.1.0 in
      let is : L ≡ m * p = last.1.1 in
      let c : ceil L p ≡ m = ap (λ (n : ℕ). ceil n p) is ∙ ceil-whole m p last.0 in
      let one : t * (m * e) ≤ ceil t p * e * L = subst (λ (n : ℕ). t * (m * e) ≤ ceil t p * e * n) (sym is) (one-part t p e m last.0) in
      let early = no_less i t (λ k l. d k (omega arith)) in
      subst (λ (n : ℕ). t * (demand_of ps es i L + n * e) ≤ (demand_of ps es i t + ceil t p * e) * L) (sym c)
      (omega (arith, one, early, mul-add t (demand_of ps es i L) (m * e), add-mul (demand_of ps es i t) (ceil t p * e) L))

  no_more : (i t : ℕ) → Divide ps i L → Divide ps i t → demand_of ps es i t * L ≤ t * demand_of ps es i L
  no_more zero t d f = omega arith
  no_more (suc i) t d f =
      let p = get_or ps i 0 in
      let e = get_or es i 0 in
      let pos = (d i (omega arith)).0 in
      let m = (d i (omega arith)).1.0 in
      let n = (f i (omega arith)).1.0 in
      let L-is : L ≡ m * p = (d i (omega arith)).1.1 in
      let t-is : t ≡ n * p = (f i (omega arith)).1.1 in
      let cL : ceil L p ≡ m = ap (λ (x : ℕ). ceil x p) L-is ∙ ceil-whole m p pos in
      let ct : ceil t p ≡ n = ap (λ (x : ℕ). ceil x p) t-is ∙ ceil-whole n p pos in
      let early = no_more i t (λ k l. d k (omega arith)) (λ k l. f k (omega arith)) in
      let one : n * e * L ≡ t * (m * e) = ap (λ (x : ℕ). n * e * x) L-is ∙ sym (swap n p m e) ∙ ap (λ (x : ℕ). x * (m * e)) (sym t-is) in
      subst (λ (x : ℕ). (demand_of ps es i t + x * e) * L ≤ t * (demand_of ps es i L + ceil L p * e)) (sym ct)
      (subst (λ (x : ℕ). (demand_of ps es i t + n * e) * L ≤ t * (demand_of ps es i L + x * e)) (sym cL)
      (omega (arith, one, early, mul-add t (demand_of ps es i L) (m * e), add-mul (demand_of ps es i t) (n * e) L)))

-- d/p at most D/L, and D/L at most B/P, both as parts
scale : (P B L D p d : ℕ) → 1 ≤ L → d * L ≤ p * D → P * D ≤ B * L → P * d ≤ p * B
scale P B L D p d some a b =
    le_of_mul-le-mul_right {k = L}
    (omega (
      arith,
      mul_assoc P d L,
      mul-le-mul_left P a,
      mul_left_comm P p D,
      mul-le-mul_left p b,
      mul_assoc p B L,
    )) some

-- D/L at most d/t, d at most s, and s/t at most B/P
through : (P B L D t d s : ℕ) → 1 ≤ t → t * D ≤ d * L → d ≤ s → P * s ≤ t * B → P * D ≤ B * L
through P B L D t d s some a b c =
    le_of_mul-le-mul_left {k = t}
    (omega (
      arith,
      mul_left_comm t P D,
      mul-le-mul_left P a,
      mul-le-mul_left P (mul-le-mul_right L b),
      mul_assoc P s L,
      mul-le-mul_right L c,
      mul_assoc t B L,
    )) some

-- the tasks of a list of periods that divide each other, none below the one before
module _ (ps es : List ℕ) (whole : Whole ps) (pair : Pairwise ps)
    (rising : (k : ℕ) → suc k < length ps → get_or ps k 0 ≤ get_or ps (suc k) 0) where
  no_lower : (k i : ℕ) → k ≤ i → i < length ps → get_or ps k 0 ≤ get_or ps i 0
  no_lower k zero h l = let e : k ≡ 0 = omega arith in rw e (omega arith)
  no_lower k (suc i) h l = go (le-suc_iff.0 h) (λ below. no_lower k i below (omega arith))
    where
      go : (k ≤ i) ⊎ (k ≡ suc i) → (k ≤ i → get_or ps k 0 ≤ get_or ps i 0) → get_or ps k 0 ≤ get_or ps (suc i) 0
      go (inl below) early = le_trans (early below) (rising i l)
      go (inr here) early = rw here (omega arith)

  -- each divides every later one
  divides-later : (k i : ℕ) → k ≤ i → i < length ps → Multiple (get_or ps k 0) (get_or ps i 0)
  divides-later k i h l =
      let a : suc k - 1 ≡ k = omega arith in
      let b : suc i - 1 ≡ i = omega arith in
      go (rw (a, b) at (pair (suc k) (suc i) (omega arith) (omega arith) (omega arith) l))
    where
      one : (m a b : ℕ) → a ≡ m * b → a ≤ b → 1 ≤ a → b ≡ 1 * a
      one zero a b e le pos = absurd (omega arith)
      one (suc zero) a b e le pos = omega (arith, e)
      one (suc (suc m)) a b e le pos = absurd (omega (arith, e, suc-mul (suc m) b, suc-mul m b))

      go : Multiple (get_or ps k 0) (get_or ps i 0) ⊎ Multiple (get_or ps i 0) (get_or ps k 0) → Multiple (get_or ps k 0) (get_or ps i 0)
      go (inl m) = m
      go (inr m) = (1, one m.0 (get_or ps k 0) (get_or ps i 0) m.1 (no_lower k i h l) (whole k (omega arith)))

  module _ (P : ℕ) (pos : 1 ≤ P) (takes : Multiples P ps) (n : ℕ) (count : length ps ≡ suc n) where
    -- the last period, and what all tasks demand over it
    abbrev L : ℕ
    L = get_or ps n 0

    abbrev D : ℕ
    D = demand_of ps es (suc n) L

    all-divide : (i : ℕ) → i < length ps → Divide ps (suc i) (get_or ps i 0)
    all-divide i l k h = (whole k (omega arith), divides-later k i (omega arith) l)

    up_to : (i : ℕ) → i < length ps → Divide ps (suc i) L
    up_to i l k h = (whole k (omega arith), divides-later k n (omega arith) (omega arith))

    -- the first tasks' demand over the last period is a part of all tasks'
    fewer : (i j t : ℕ) → i ≤ j → demand_of ps es i t ≤ demand_of ps es j t
    fewer i zero t h = let e : i ≡ 0 = omega arith in rw e (omega arith)
    fewer i (suc j) t h = go (le-suc_iff.0 h) (λ below. fewer i j t below)
      where
        go : (i ≤ j) ⊎ (i ≡ suc j) → (i ≤ j → demand_of ps es i t ≤ demand_of ps es j t) → demand_of ps es i t ≤ demand_of ps es (suc j) t
        go (inl below) early = omega (arith, early below)
        go (inr here) early = rw here (omega arith)

    -- at its own period a task is met where the budget has as large a part
    enough-at : (B i : ℕ) → i < length ps → P * D ≤ B * L → demand_of ps es (suc i) (get_or ps i 0) ≤ supply_of aligned P B (get_or ps i 0)
    enough-at B i l h =
        let p = get_or ps i 0 in
        let m = takes (suc i) (omega arith) l in
        let back : suc i - 1 ≡ i = omega arith in
        let is : p ≡ m.0 * P = rw back at m.1 in
        let over-p = no_more ps es L (suc i) p (up_to i l) (all-divide i l) in
        let over-all = mul-le-mul_left p (fewer (suc i) (suc n) L (omega arith)) in
        let scaled : P * demand_of ps es (suc i) p ≤ p * B =
        scale P B L D p (demand_of ps es (suc i) p) (whole n (omega arith)) (le_trans over-p over-all) h in
        subst (λ (x : ℕ). demand_of ps es (suc i) p ≤ supply_of aligned P B x) (sym is)
        (subst (λ (x : ℕ). demand_of ps es (suc i) p ≤ x) (sym (supply-whole P B m.0 pos (room m.0 is (whole i l))))
        (least m.0 (demand_of ps es (suc i) p) (subst (λ (x : ℕ). P * demand_of ps es (suc i) p ≤ x * B) is scaled)))
      where
        room : (m : ℕ) → get_or ps i 0 ≡ m * P → 1 ≤ get_or ps i 0 → P - B ≤ m * P
        room zero e some = absurd (omega (arith, e))
        room (suc m) e some = omega (arith, suc-mul m P)

        least : (m d : ℕ) → P * d ≤ m * P * B → d ≤ m * B
        least m d h = le_of_mul-le-mul_left {k = P} (omega (arith, mul_assoc m P B, mul_left_comm m P B)) pos

    pub exact : (B : ℕ) → Pass aligned P B ps es ↔ (P * D ≤ B * L)
    exact B = (there, back)
      where
        there : Pass aligned P B ps es → P * D ≤ B * L
        there pass =
            let m = pass (suc n) (omega arith) (omega arith) in
            let t = m.t in
            let s = supply-only P B t aligned m.supply m.supplied in
            let d = demand-only ps es (suc n) t m.demand m.demanded in
            let enough : demand_of ps es (suc n) t ≤ supply_of aligned P B t = omega (arith, m.enough, s, d) in
            let of-all = no_less ps es L (suc n) t (up_to n (omega arith)) in
            let of-P = supply-part P B t pos in
            through P B L D t (demand_of ps es (suc n) t) (supply_of aligned P B t) m.from_1 of-all enough of-P

        back : P * D ≤ B * L → Pass aligned P B ps es
        back h zero from to = absurd (omega arith)
        back h (suc i) from to =
            let e : suc i - 1 ≡ i = omega arith in
            record {
              t = get_or ps i 0;
              supply = supply_of aligned P B (get_or ps i 0);
              demand = demand_of ps es (suc i) (get_or ps i 0);
              from_1 = whole i to;
              to_p = rw e (omega arith);
              supplied = supply-means P B (get_or ps i 0) aligned pos;
              demanded = demand-means ps es (suc i) (get_or ps i 0) (λ k l. whole k (omega arith));
              enough = enough-at B i to h;
            }
