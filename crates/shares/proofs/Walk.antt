-- The walk of `first_budget` over budgets, tasks and lengths: what it knows on the way, what each step keeps, and what it has found at
-- the end. In either form: it rests on the laws of supply and demand and not on their formulas. Assumes nothing.
use Prim.Native.Nat.{ℕ, zero, suc, ◌+◌, ◌-◌, ◌≤◌, ◌<◌}
use mathlib.Core.Path.{◌≡◌, sym}
use mathlib.Core.Bool.{true, false, ◌&&◌}
use mathlib.Core.List.{List}
use mathlib.Core.Logic.{◌⊎◌, inl, inr}
use native.Mathlib.Omega.{arith}
use native.Mathlib.Nat.{le_trans}
use lib.Dec.{leb}
use borrow.Author.Tests.{le-leb, lt-leb, leb-true}
use lib.ListN.{length, get_or}
use Rattle.model.specs.Search.{first}
use Rattle.model.specs.Form.{Form}
use Rattle.model.specs.Supply.{supply_of}
use Rattle.model.specs.Demand.{demand_of}
use Rattle.model.specs.Share.{enough, meets, passes}
use Rattle.model.proofs.Tests.{below-or-from, and-true, and_right, and_left}
use Rattle.model.proofs.Places.{somewhere-at, nowhere, everywhere-at, everywhere-all, somewhere-grows, first-at, first-none}
use Rattle.shares.specs.Private.{IsTaskList}
use Rattle.shares.proofs.SupplyCurve.{waited_of, reach_of, waited_grows, reached, reaches, supply-grows}
use Rattle.shares.proofs.DemandCurve.{demand-longer, demand-more, demand-some}

-- no length from t on and below v of the task at i has s ticks to spare
abbrev pub NoneBetween : List ℕ → List ℕ → ℕ → ℕ → ℕ → ℕ → Type 0
NoneBetween ps es i t v s = (u : ℕ) → 1 ≤ u → t ≤ u → u < v → u ≤ get_or ps i 0 → u < demand_of ps es (suc i) u + s

-- no length below t of the task at i has enough for it
abbrev pub TooShort : Form → ℕ → ℕ → List ℕ → List ℕ → ℕ → ℕ → Type 0
TooShort form P B ps es i t = (u : ℕ) → 1 ≤ u → u < t → u ≤ get_or ps i 0 → supply_of form P B u < demand_of ps es (suc i) u

module _ (form : Form) (P B : ℕ) (ps es : List ℕ) (tasks : IsTaskList ps es) (pos : 1 ≤ B) (fits : B ≤ P) (i : ℕ) (some-i : i < length ps) where
  -- from t on a length that has enough has as many ticks to spare as the demand at t waits
  spares : (t u : ℕ) → 1 ≤ t → t ≤ u → demand_of ps es (suc i) u ≤ supply_of form P B u
      → demand_of ps es (suc i) u + waited_of form P B (demand_of ps es (suc i) t) ≤ u
  spares t u some-t from ge =
      let c = demand_of ps es (suc i) t in
      let d = demand_of ps es (suc i) u in
      omega (
        arith,
        reaches form P B u d pos fits (demand-some ps es tasks i u some-i (omega arith)) ge,
        waited_grows form P B c d (demand-longer ps es (suc i) t u from),
      )

  -- so a length t that supplies too little is left for one below which none has so many to spare
  too_short : (t v : ℕ) → 1 ≤ t → TooShort form P B ps es i t → NoneBetween ps es i t v (waited_of form P B (demand_of ps es (suc i) t))
      → TooShort form P B ps es i v
  too_short t v some-t short none u some-u h last =
      go (below-or-from u t) (below-or-from (supply_of form P B u) (demand_of ps es (suc i) u))
    where
      go : (u < t) ⊎ (t ≤ u) → (supply_of form P B u < demand_of ps es (suc i) u) ⊎ (demand_of ps es (suc i) u ≤ supply_of form P B u)
          → supply_of form P B u < demand_of ps es (suc i) u
      go (inl below) _ = short u some-u below last
      go (inr from) (inl lt) = lt
      go (inr from) (inr ge) = absurd (omega (arith, spares t u some-t from ge, none u some-u from h last))

  met-here : (t : ℕ) → 1 ≤ t → t ≤ get_or ps i 0 → reach_of form P B (demand_of ps es (suc i) t) ≤ t → meets form P B ps es (suc i) ≡ true
  unfolding meets
  met-here t some-t within h =
      let e : suc i - 1 ≡ i = omega arith in
      somewhere-at (λ t. enough form P B ps es (suc i) t) (get_or ps (suc i - 1) 0) t some-t (rw e within)
      (le-leb _ _ (reached form P B t (demand_of ps es (suc i) t) pos fits (demand-some ps es tasks i t some-i some-t) h))

  not-met : (u : ℕ) → TooShort form P B ps es i u → get_or ps i 0 < u → meets form P B ps es (suc i) ≡ false
  unfolding meets
  not-met u short h =
      let e : suc i - 1 ≡ i = omega arith in
      nowhere (λ t. enough form P B ps es (suc i) t) (get_or ps (suc i - 1) 0)
      (λ t some-t within. lt-leb _ _ (short t some-t (omega (arith, rw e at within)) (rw e at within)))

  fails : meets form P B ps es (suc i) ≡ false → passes form P ps es B ≡ false
  unfolding passes
  fails h = everywhere-at (λ i. meets form P B ps es i) (length ps) (suc i) (omega arith) some-i h

-- a task that a budget meets, a larger one meets too
pub meets-grows : (form : Form) (P B C : ℕ) (ps es : List ℕ) → IsTaskList ps es → 1 ≤ B → B ≤ C → C ≤ P → (i : ℕ) → i < length ps
    → meets form P B ps es (suc i) ≡ true → meets form P C ps es (suc i) ≡ true
unfolding meets
meets-grows form P B C ps es tasks pos h fits i some-i =
    somewhere-grows (λ t. enough form P B ps es (suc i) t) (λ t. enough form P C ps es (suc i) t) (get_or ps (suc i - 1) 0)
    (λ t some-t e.
    le-leb _ _
    (supply-grows form P B C t (demand_of ps es (suc i) t) pos h fits (demand-some ps es tasks i t some-i some-t) (leb-true _ _ e)))

passes-all : (form : Form) (P B : ℕ) (ps es : List ℕ) → ((k : ℕ) → k < length ps → meets form P B ps es (suc k) ≡ true)
    → passes form P ps es B ≡ true
unfolding passes
passes-all form P B ps es h = everywhere-all (λ i. meets form P B ps es i) (length ps) at
  where
    at : (t : ℕ) → 1 ≤ t → t ≤ length ps → meets form P B ps es t ≡ true
    at zero some-t within = absurd (omega arith)
    at (suc t) some-t within = h t within

-- the budgets before b fail, b meets the tasks before i, and no length below t has enough for the task at i
pub record Walk (form : Form) (ps es : List ℕ) (P from b i t : ℕ) : Type 0 where
  pub begun : from ≤ b
  pub failed : (x : ℕ) → from ≤ x → x < b → passes form P ps es x ≡ false
  pub some-length : 1 ≤ t
  pub within : i < length ps → t ≤ get_or ps i 0
  pub met : b ≤ P → (k : ℕ) → k < i → meets form P b ps es (suc k) ≡ true
  pub short : TooShort form P b ps es i t

module _ (form : Form) (ps es : List ℕ) (tasks : IsTaskList ps es) (P from : ℕ) (pos : 1 ≤ from) where
  pub walk_start : Walk form ps es P from from 0 1
  walk_start =
      record {
        begun = omega arith;
        failed = λ x l h. absurd (omega arith);
        some-length = omega arith;
        within = λ h. tasks.period-least 0 h;
        met = λ f k h. absurd (omega arith);
        short = λ s p h. absurd (omega arith);
      }

  module _ (b i t : ℕ) (fits : b ≤ P) (some-i : i < length ps) (w : Walk form ps es P from b i t) where
    pub walk-met : reach_of form P b (demand_of ps es (suc i) t) ≤ t → Walk form ps es P from b (i + 1) t
    walk-met h =
        record {
          begun = w.begun;
          failed = w.failed;
          some-length = w.some-length;
          within = λ more. later more;
          met = λ f k l. step k (below-or-from k i) l;
          short = λ s p l last. next s p l;
        }
      where
        later : i + 1 < length ps → t ≤ get_or ps (i + 1) 0
        later more =
            let e : i + 1 ≡ suc i = omega arith in
            rw e (le_trans (w.within some-i) (tasks.rising i (omega arith)))

        here : meets form P b ps es (suc i) ≡ true
        here = met-here form P b ps es tasks (omega (arith, w.begun)) fits i some-i t w.some-length (w.within some-i) h

        step : (k : ℕ) → (k < i) ⊎ (i ≤ k) → k < i + 1 → meets form P b ps es (suc k) ≡ true
        step k (inl below) l = w.met fits k below
        step k (inr from) l = let e : k ≡ i = omega arith in rw e here

        next : (s : ℕ) → 1 ≤ s → s < t → supply_of form P b s < demand_of ps es (suc (i + 1)) s
        next s p l =
            let e : i + 1 ≡ suc i = omega arith in
            rw e (omega (arith, w.short s p l (omega (arith, w.within some-i)), demand-more ps es (suc i) s))

    module _ (v : ℕ) (none : NoneBetween ps es i t v (waited_of form P b (demand_of ps es (suc i) t))) where
      short : TooShort form P b ps es i v
      short = too_short form P b ps es tasks (omega (arith, w.begun)) fits i some-i t v w.some-length w.short none

      pub walk-jump : v ≤ get_or ps i 0 → t ≤ v → Walk form ps es P from b i v
      walk-jump h l =
          record {
            begun = w.begun;
            failed = w.failed;
            some-length = le_trans w.some-length l;
            within = λ some-i. h;
            met = w.met;
            short = short;
          }

      pub walk-fails : get_or ps i 0 < v → Walk form ps es P from (b + 1) i 1
      walk-fails h =
          record {
            begun = omega (arith, w.begun);
            failed = λ x l k. step x (below-or-from x b) l k;
            some-length = omega arith;
            within = λ some-i. tasks.period-least i some-i;
            met = λ f k l. again f k l;
            short = λ s p l. absurd (omega arith);
          }
        where
          again : b + 1 ≤ P → (k : ℕ) → k < i → meets form P (b + 1) ps es (suc k) ≡ true
          again f k l =
              meets-grows form P b (b + 1) ps es tasks (omega (arith, w.begun)) (omega arith) f k (omega arith) (w.met fits k l)

          gone : passes form P ps es b ≡ false
          gone =
              fails form P b ps es tasks (omega (arith, w.begun)) fits i some-i
              (not-met form P b ps es tasks (omega (arith, w.begun)) fits i some-i v short h)

          step : (x : ℕ) → (x < b) ⊎ (b ≤ x) → from ≤ x → x < b + 1 → passes form P ps es x ≡ false
          step x (inl below) l k = w.failed x l below
          step x (inr at) l k = let e : x ≡ b = omega arith in rw e gone

  -- at the end of the budgets, and at the end of the tasks
  module _ (to b i t : ℕ) (w : Walk form ps es P from b i t) where
    pub walk_none : to < b → 0 ≡ first (λ b. leb from b && passes form P ps es b) to
    walk_none h = sym (first-none (λ b. leb from b && passes form P ps es b) to (λ x p l. none x l (below-or-from x from)))
      where
        none : (x : ℕ) → x ≤ to → (x < from) ⊎ (from ≤ x) → (leb from x && passes form P ps es x) ≡ false
        none x l (inl before) = and_left (leb from x) (passes form P ps es x) (lt-leb _ _ before)
        none x l (inr after) = and_right (leb from x) (passes form P ps es x) (w.failed x after (omega arith))

    pub walk-found : b ≤ to → to ≤ P → length ps ≤ i → b ≡ first (λ b. leb from b && passes form P ps es b) to
    walk-found h most all =
        sym
        (first-at (λ b. leb from b && passes form P ps es b) to b (omega (arith, w.begun)) h
        (and-true (leb from b) (passes form P ps es b) (le-leb _ _ w.begun)
        (passes-all form P b ps es (λ k l. w.met (omega arith) k (omega arith))))
        (λ x p l. none x l (below-or-from x from)))
      where
        none : (x : ℕ) → x < b → (x < from) ⊎ (from ≤ x) → (leb from x && passes form P ps es x) ≡ false
        none x l (inl before) = and_left (leb from x) (passes form P ps es x) (lt-leb _ _ before)
        none x l (inr after) = and_right (leb from x) (passes form P ps es x) (w.failed x after l)
