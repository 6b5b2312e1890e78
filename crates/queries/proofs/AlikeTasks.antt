-- Task lists whose numbers are alike get the same reply: a number above every limit is refused by row 31, whatever it is, and the first
-- such task has the same place. Row 36 stands behind the rows that refuse such numbers, so that it sees equal ones. Assumes nothing.
use Prim.Native.Nat.{ℕ, ◌+◌, ◌-◌, ◌≤◌, ◌<◌}
use mathlib.Core.Path.{◌≡◌, refl, ap, sym, ◌∙◌}
use mathlib.Core.Bool.{Bool, true, false}
use mathlib.Core.List.{List}
use mathlib.Core.Logic.{◌⊎◌, inl, inr}
use native.Mathlib.Omega.{arith}
use native.Mathlib.Nat.{eq-zero-or-pos}
use lib.ListN.{length, get_or}
use lib.Seq.{ext_get_or}
use Rattle.model.specs.Search.{first}
use Rattle.model.specs.Form.{Form}
use Rattle.model.specs.Reply.{Reply, refuses}
use Rattle.model.specs.Rows.{miscounted, out_of_range, first_out, tasks_rows, demand_reply, check_reply, least_reply, best_reply}
use Rattle.model.proofs.Places.{first-smallest, first_agrees}
use Rattle.model.proofs.TaskRows.{counts, by_30, by_31}
use Rattle.queries.proofs.Alike.{Alike, bad-share, share_large, budget_large, share-alike, period-alike, length-alike}

module _ (ps es ps' es' : List ℕ) (lp : length ps ≡ length ps') (le : length es ≡ length es')
    (ap₁ : (i : ℕ) → Alike 3000 (get_or ps i 0) (get_or ps' i 0)) (ap₂ : (i : ℕ) → Alike 3000 (get_or es i 0) (get_or es' i 0)) where
  counted : miscounted ps es ≡ miscounted ps' es'
  counted = rw (lp, le)

  out-alike : (k : ℕ) → out_of_range ps es k ≡ out_of_range ps' es' k
  out-alike k = go (ap₁ (k - 1)) (ap₂ (k - 1))
    where
      go : Alike 3000 (get_or ps (k - 1) 0) (get_or ps' (k - 1) 0) → Alike 3000 (get_or es (k - 1) 0) (get_or es' (k - 1) 0)
          → out_of_range ps es k ≡ out_of_range ps' es' k
      go (inl p) (inl q) = rw (p, q)
      go (inl p) (inr q) =
          budget_large (get_or ps (k - 1) 0) (get_or es (k - 1) 0) q.0
          ∙ sym (budget_large (get_or ps' (k - 1) 0) (get_or es' (k - 1) 0) q.1)
      go (inr p) e =
          share_large (get_or ps (k - 1) 0) (get_or es (k - 1) 0) p.0 ∙ sym (share_large (get_or ps' (k - 1) 0) (get_or es' (k - 1) 0) p.1)

  firsts : first_out ps es ≡ first_out ps' es'
  firsts =
      first_agrees (out_of_range ps es) (out_of_range ps' es') (length ps) (λ k p l. out-alike k) ∙ ap (first (out_of_range ps' es')) lp

  -- a task in range is the same in both
  period-same : (P P' B : ℕ) → bad-share P B ≡ false → Alike 3000 P P' → P ≡ P'
  period-same P P' B e (inl p) = p
  period-same P P' B e (inr p) = let q = share_large P B p.0 in let z : ◌≡◌ {A = ℕ} 0 1 = cc in absurd (omega arith)

  budget-same : (P B B' : ℕ) → bad-share P B ≡ false → Alike 3000 B B' → B ≡ B'
  budget-same P B B' e (inl p) = p
  budget-same P B B' e (inr p) = let q = budget_large P B p.0 in let z : ◌≡◌ {A = ℕ} 0 1 = cc in absurd (omega arith)

  module _ (eq : length ps ≡ length es) (z : first_out ps es ≡ 0) where
    shares_fit : (i : ℕ) → i < length ps → bad-share (get_or ps i 0) (get_or es i 0) ≡ false
    shares_fit i h =
        let e : i + 1 - 1 ≡ i = omega arith in
        rw e at ((first-smallest (out_of_range ps es) (length ps)).none z (i + 1) (omega arith) (omega arith))

    pub periods-same : ps ≡ ps'
    periods-same = ext_get_or 0 ps ps' lp (λ i h. period-same (get_or ps i 0) (get_or ps' i 0) (get_or es i 0) (shares_fit i h) (ap₁ i))

    pub costs-same : es ≡ es'
    costs-same = ext_get_or 0 es es' le (λ i h. budget-same (get_or ps i 0) (get_or es i 0) (get_or es' i 0) (shares_fit i (omega arith)) (ap₂ i))

pub record Alikes (xs xs' : List ℕ) : Type 0 where
  pub sizes : length xs ≡ length xs'
  pub each : (i : ℕ) → Alike 3000 (get_or xs i 0) (get_or xs' i 0)

pub tasks-alike : (ps es ps' es' : List ℕ) → Alikes ps ps' → Alikes es es' → (X X' : Reply)
    → (length ps ≤ 16 → ps ≡ ps' → es ≡ es' → X ≡ X') → tasks_rows ps es X ≡ tasks_rows ps' es' X'
tasks-alike ps es ps' es' a b X X' r = go (miscounted ps es) refl (eq-zero-or-pos (first_out ps es))
  where
    same_count : miscounted ps es ≡ miscounted ps' es'
    same_count = counted ps es ps' es' a.sizes b.sizes a.each b.each

    same_first : first_out ps es ≡ first_out ps' es'
    same_first = firsts ps es ps' es' a.sizes b.sizes a.each b.each

    go : (s : Bool) → miscounted ps es ≡ s → (first_out ps es ≡ 0) ⊎ (0 < first_out ps es) → tasks_rows ps es X ≡ tasks_rows ps' es' X'
    go true m o = by_30 ps es m X ∙ sym (by_30 ps' es' (sym same_count ∙ m) X')
    go false m (inr out) =
        by_31 ps es m out X ∙ ap (refuses 31) same_first ∙ sym (by_31 ps' es' (sym same_count ∙ m) (omega (arith, same_first)) X')
    go false m (inl z) =
        let c = counts ps es m in
        let ep : ps ≡ ps' = periods-same ps es ps' es' a.sizes b.sizes a.each b.each c.2 z in
        let ee : es ≡ es' = costs-same ps es ps' es' a.sizes b.sizes a.each b.each c.2 z in
        rw (ep, ee, r c.1 ep ee)

module _ (ps es ps' es' : List ℕ) (a : Alikes ps ps') (b : Alikes es es') (x x' : ℕ) (p : Alike 3000 x x') where
  pub demand-alike : (t t' : ℕ) → Alike 3000 t t' → demand_reply ps es x t ≡ demand_reply ps' es' x' t'
  unfolding demand_reply
  demand-alike t t' q =
      tasks-alike ps es ps' es' a b _ _
      (λ few e f. rw (← e, ← f) (length-alike (length ps) x x' t t' (omega arith) p q _ _ (λ g h. rw (g, h))))

  pub check-alike : (form : Form) (B B' : ℕ) → Alike 3000 B B' → check_reply form ps es x B ≡ check_reply form ps' es' x' B'
  unfolding check_reply
  check-alike form B B' q = tasks-alike ps es ps' es' a b _ _ (λ few e f. rw (← e, ← f) (share-alike x x' B B' p q _ _ (λ g h. rw (g, h))))

  pub least-alike : (form : Form) → least_reply form ps es x ≡ least_reply form ps' es' x'
  unfolding least_reply
  least-alike form = tasks-alike ps es ps' es' a b _ _ (λ few e f. rw (← e, ← f) (period-alike x x' p _ _ (λ g. rw g)))

  pub best-alike : (form : Form) → best_reply form ps es x ≡ best_reply form ps' es' x'
  unfolding best_reply
  best-alike form = tasks-alike ps es ps' es' a b _ _ (λ few e f. rw (← e, ← f) (period-alike x x' p _ _ (λ g. rw g)))
