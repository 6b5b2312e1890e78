-- Rows 30 to 32, one by one: what a task list gets by each, whatever the rows below them say. For proofs of code and of lists that are read
-- alike. Assumes nothing.
use Prim.Native.Nat.{ℕ, ◌≤◌, ◌<◌}
use mathlib.Core.Path.{◌≡◌, refl}
use mathlib.Core.Bool.{Bool, true, false}
use mathlib.Core.List.{List}
use mathlib.Core.Logic.{◌⊎◌, inl, inr}
use native.Mathlib.Omega.{arith}
use native.Mathlib.Nat.{eq-zero-or-pos}
use lib.Dec.{leb}
use borrow.Author.Tests.{lt-ltb, leb-true, eqb-true, not-false}
use lib.ListN.{length}
use Rattle.model.specs.Reply.{Reply, refuses}
use Rattle.model.specs.Rows.{miscounted, first_out, first_fall, tasks_rows}
use Rattle.model.proofs.Tests.{and_both, or_neither}

-- what is known of the counts where row 30 does not apply
pub counts : (ps es : List ℕ) → miscounted ps es ≡ false → (1 ≤ length ps) × (length ps ≤ 16) × (length ps ≡ length es)
counts ps es m =
    let parts = or_neither _ _ m in
    let count = and_both (leb 1 (length ps)) (leb (length ps) 16) (not-false _ parts.0) in
    (leb-true _ _ count.0, leb-true _ _ count.1, eqb-true _ _ (not-false _ parts.1))

-- none of the three applies
pub record NoTasksRow (ps es : List ℕ) : Type 0 where
  pub counted : miscounted ps es ≡ false
  pub none_out : first_out ps es ≡ 0
  pub no_fall : first_fall ps ≡ 0

-- one of them does: this refusal is given, and its number is not 0
pub record TasksRow (ps es : List ℕ) : Type 0 where
  pub number : ℕ
  pub detail : ℕ
  pub not_0 : 0 < number
  pub given : (rest : Reply) → tasks_rows ps es rest ≡ refuses number detail

module _ (ps es : List ℕ) where
  pub by_30 : miscounted ps es ≡ true → (rest : Reply) → tasks_rows ps es rest ≡ refuses 30 0
  unfolding tasks_rows
  by_30 m rest = rw m

  pub by_31 : miscounted ps es ≡ false → 0 < first_out ps es → (rest : Reply) → tasks_rows ps es rest ≡ refuses 31 (first_out ps es)
  unfolding tasks_rows
  by_31 m out rest = rw (m, lt-ltb 0 (first_out ps es) out)

  pub by_32 : miscounted ps es ≡ false → first_out ps es ≡ 0 → 0 < first_fall ps
      → (rest : Reply) → tasks_rows ps es rest ≡ refuses 32 (first_fall ps)
  unfolding tasks_rows
  by_32 m none fall rest = rw (m, none, lt-ltb 0 (first_fall ps) fall)

  pub by-none : NoTasksRow ps es → (rest : Reply) → tasks_rows ps es rest ≡ rest
  unfolding tasks_rows
  by-none ok rest = rw (ok.counted, ok.none_out, ok.no_fall)

  pub one-or-none : NoTasksRow ps es ⊎ TasksRow ps es
  one-or-none = go (miscounted ps es) refl (eq-zero-or-pos (first_out ps es)) (eq-zero-or-pos (first_fall ps))
    where
      go : (b : Bool) → miscounted ps es ≡ b → (first_out ps es ≡ 0) ⊎ (0 < first_out ps es) → (first_fall ps ≡ 0) ⊎ (0 < first_fall ps)
          → NoTasksRow ps es ⊎ TasksRow ps es
      go true m out fall = inr (record { number = 30; detail = 0; not_0 = omega arith; given = by_30 m })
      go false m (inr out) fall = inr (record { number = 31; detail = first_out ps es; not_0 = omega arith; given = by_31 m out })
      go false m (inl none) (inr fall) = inr (record { number = 32; detail = first_fall ps; not_0 = omega arith; given = by_32 m none fall })
      go false m (inl none) (inl no_fall) = inl (record { counted = m; none_out = none; no_fall = no_fall })
