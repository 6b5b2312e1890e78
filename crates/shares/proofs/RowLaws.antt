-- The rows of model's specs/Rows.antt at the place that a loop looks at, and what lists are like that no row refuses.
-- Assumes nothing.
use Prim.Native.Nat.{ℕ, zero, suc, ◌+◌, ◌-◌, ◌≤◌, ◌<◌}
use Rattle.std.specs.Prelude.{Some, None}
use mathlib.Core.Path.{◌≡◌, refl, ap, sym, ◌∙◌}
use mathlib.Core.Bool.{Bool, true, false}
use mathlib.Core.List.{List}
use native.Mathlib.Omega.{arith}
use lib.Dec.{ltb, eqb}
use borrow.Author.Tests.{lt-ltb, eq-eqb, ne_eqb, eqb-true, eqb-false, ltb-false, not-false}
use lib.ListN.{length, get_or}
use Rattle.model.specs.Search.{first}
use Rattle.model.specs.Rows.{miscounted, out_of_range, falls, first_fall}
use Rattle.model.proofs.Places.{first-at, first-none, first-smallest}
use Rattle.model.proofs.Replies.{in_range_lem}
use Rattle.model.proofs.TaskRows.{counts, NoTasksRow}
use Rattle.shares.specs.Private.{IsTaskList, out_of_range_at, falls_after, place_of}

-- the model counts places from 1, and 0 is none; a search from 0 finds the same
-- row 32 of the task at k
abbrev fall_before : List ℕ → ℕ → Bool
fall_before ps zero = false
fall_before ps (suc k) = falls_after ps k

module _ (f g : ℕ → Bool) (n : ℕ) (same : (k : ℕ) → f (k + 1) ≡ g k) where
  at : (m : ℕ) → ((k : ℕ) → k < m → g k ≡ false) → (s : ℕ) → 1 ≤ s → s < m + 1 → f s ≡ false
  at m none s p h =
      let e : s - 1 + 1 ≡ s = omega arith in
      rw e at (same (s - 1) ∙ none (s - 1) (omega arith))

  pub first_place : (i : ℕ) → i < n → g i ≡ true → ((k : ℕ) → k < i → g k ≡ false) → first f n ≡ i + 1
  first_place i l e none = first-at f n (i + 1) (omega arith) (omega arith) (same i ∙ e) (λ s p h. at i none s p h)

  pub first_nowhere : ((k : ℕ) → k < n → g k ≡ false) → first f n ≡ 0
  first_nowhere none = first-none f n (λ s p h. at n none s p (omega arith))

pub range_at : (ps es : List ℕ) (k : ℕ) → out_of_range ps es (k + 1) ≡ out_of_range_at ps es k
range_at ps es k = let e : k + 1 - 1 ≡ k = omega arith in rw e

-- the first task has none before it
fall_at : (ps : List ℕ) (k : ℕ) → falls ps (k + 1) ≡ fall_before ps k
fall_at ps zero = refl
fall_at ps (suc k) =
    let e : suc k + 1 - 1 ≡ k + 1 = omega arith in
    let d : suc k + 1 - 2 ≡ k = omega arith in
    let t : ltb 1 (suc k + 1) ≡ true = lt-ltb 1 (suc k + 1) (omega arith) in
    rw (t, e, d)

module _ (ps : List ℕ) where
  pub fall_place : (i : ℕ) → i < length ps - 1 → falls_after ps i ≡ true → ((k : ℕ) → k < i → falls_after ps k ≡ false)
      → first_fall ps ≡ i + 2
  fall_place i l e none =
      let n : suc i + 1 ≡ i + 2 = omega arith in
      rw n at (first_place (falls ps) (fall_before ps) (length ps) (fall_at ps) (suc i) (omega arith) e
      (λ k h. before k h none))
    where
      before : (k : ℕ) → k < suc i → ((k : ℕ) → k < i → falls_after ps k ≡ false) → fall_before ps k ≡ false
      before zero h none = refl
      before (suc k) h none = none k (omega arith)

  pub fall_nowhere : ((k : ℕ) → k < length ps - 1 → falls_after ps k ≡ false) → first_fall ps ≡ 0
  fall_nowhere none = first_nowhere (falls ps) (fall_before ps) (length ps) (fall_at ps) (λ k h. before k h)
    where
      before : (k : ℕ) → k < length ps → fall_before ps k ≡ false
      before zero h = refl
      before (suc k) h = none k (omega arith)

-- a place that is none, and one that is
pub place_none : (n : ℕ) → n ≡ 0 → place_of n ≡ None
place_none n e = rw (eq-eqb n 0 e)

pub place_some : (n : ℕ) → 1 ≤ n → place_of n ≡ Some n
place_some n h = rw (ne_eqb n 0 (λ e. omega arith))

pub place_is : (b n : ℕ) → 1 ≤ b → b ≡ n → Some b ≡ place_of n
place_is b n h e = ap Some e ∙ sym (place_some n (omega arith))

pub place_zero : (n : ℕ) → None ≡ place_of n → n ≡ 0
place_zero n e = go (eqb n 0) refl
  where
    go : (t : Bool) → eqb n 0 ≡ t → n ≡ 0
    go true z = eqb-true n 0 z
    go false z = let some : place_of n ≡ Some n = place_some n (omega (arith, eqb-false n 0 z)) in cc

pub place_at : (b n : ℕ) → Some b ≡ place_of n → (n ≡ b) × (1 ≤ b)
place_at b n e = go (eqb n 0) refl
  where
    go : (t : Bool) → eqb n 0 ≡ t → (n ≡ b) × (1 ≤ b)
    go true z = let none : place_of n ≡ None = place_none n (eqb-true n 0 z) in cc
    go false z =
        let pos : 1 ≤ n = omega (arith, eqb-false n 0 z) in
        let some : place_of n ≡ Some n = place_some n pos in
        let same : n ≡ b = cc in
        (same, omega (arith, pos, same))

-- lists that no row refuses
module _ (ps es : List ℕ) (m : miscounted ps es ≡ false)
    (r : (s : ℕ) → 1 ≤ s → s ≤ length ps → out_of_range ps es s ≡ false) (f : (s : ℕ) → 1 ≤ s → s ≤ length ps → falls ps s ≡ false) where
  ranges : (i : ℕ) → i < length ps → ((1 ≤ get_or ps i 0) × (get_or ps i 0 ≤ 2000)) × ((1 ≤ get_or es i 0) × (get_or es i 0 ≤ get_or ps i 0))
  ranges i h = in_range_lem _ _ (not-false _ (sym (range_at ps es i) ∙ r (i + 1) (omega arith) (omega arith)))

  as-tasks : IsTaskList ps es
  as-tasks =
      let count = counts ps es m in
      record {
        some-task = count.0;
        few = count.1;
        paired = sym count.2;
        period-least = λ i h. (ranges i h).0.0;
        period-most = λ i h. (ranges i h).0.1;
        cost-least = λ i h. (ranges i h).1.0;
        cost-most = λ i h. (ranges i h).1.1;
        rising = λ i h. no_fall i h;
      }
    where
      no_fall : (i : ℕ) → suc i < length ps → get_or ps i 0 ≤ get_or ps (suc i) 0
      no_fall i h =
          let e : i + 1 ≡ suc i = omega arith in
          ltb-false _ _ (rw e at (sym (fall_at ps (suc i)) ∙ f (suc i + 1) (omega arith) (omega arith)))

pub tasks-fit : (ps es : List ℕ) → NoTasksRow ps es → IsTaskList ps es
tasks-fit ps es ok =
    as-tasks ps es ok.counted ((first-smallest (out_of_range ps es) (length ps)).none ok.none_out)
    ((first-smallest (falls ps) (length ps)).none ok.no_fall)
