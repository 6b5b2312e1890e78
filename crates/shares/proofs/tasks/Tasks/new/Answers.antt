-- The first of rows 30 to 32 that applies, with its detail; and what no row refuses. Its places are named once. Assumes nothing.
use mathlib.Core.Path.{◌≡◌, ap, sym, ◌∙◌}
use mathlib.Core.Bool.{false}
use mathlib.Core.List.{List}
use Prim.Native.Nat.{ℕ}
use native.Mathlib.Omega.{arith}
use lib.ListN.{length}
use Rattle.model.specs.Reply.{refuses}
use Rattle.model.specs.Rows.{miscounted, out_of_range, first_out}
use Rattle.model.proofs.TaskRows.{NoTasksRow, by_30, by_31, by_32, by-none}
use Rattle.shares.specs.Private.{out_of_range_at}
use Rattle.shares.proofs.RowLaws.{first_place, first_nowhere, range_at, fall_place, fall_nowhere, tasks-fit}
use Rattle.shares.proofs.tasks.Tasks.new.Goals as goal
use Rattle.shares.proofs.tasks.Tasks.new.Goals.{Else-is_miscounted, In_default, In_default-first_fall}

-- the tasks are counted, and then no row 30
abbrev ps : Else-is_miscounted → List ℕ
ps c = c.args.periods.now

abbrev es : Else-is_miscounted → List ℕ
es c = c.args.costs.now

well-counted : (c : Else-is_miscounted) → miscounted (ps c) (es c) ≡ false
well-counted c = sym c.is_miscounted.ensures ∙ c.if-is_miscounted.false

pub returns-then-is_miscounted-clause-rows : goal.returns-then-is_miscounted-clause-rows
returns-then-is_miscounted-clause-rows c =
    λ rest. sym (by_30 c.args.periods.now c.args.costs.now (sym c.is_miscounted.ensures ∙ c.if-is_miscounted.true) rest)

pub returns-in-Some-clause-rows : goal.returns-in-Some-clause-rows
returns-in-Some-clause-rows c =
    let k = (goal.at.returns-in-Some-clause-rows c).Else-is_miscounted in
    let found = c.in-Some.ensures in
    let e = first_place (out_of_range (ps k) (es k)) (out_of_range_at (ps k) (es k)) (length (ps k)) (range_at (ps k) (es k)) _
    found.0 found.1 found.2 in
    λ rest. ap (refuses 31) (sym e) ∙ sym (by_31 (ps k) (es k) (well-counted k) (omega (arith, e)) rest)

-- no row 31
all-fit : (c : In_default) → first_out (ps (goal.at.In_default c).Else-is_miscounted) (es (goal.at.In_default c).Else-is_miscounted) ≡ 0
all-fit c =
    let k = (goal.at.In_default c).Else-is_miscounted in
    first_nowhere (out_of_range (ps k) (es k)) (out_of_range_at (ps k) (es k)) (length (ps k)) (range_at (ps k) (es k)) c.in_default.ensures

pub returns-in-Some-first_fall-clause-rows : goal.returns-in-Some-first_fall-clause-rows
returns-in-Some-first_fall-clause-rows c =
    let n = (goal.at.returns-in-Some-first_fall-clause-rows c).In_default in
    let k = (goal.at.In_default n).Else-is_miscounted in
    let found = c.in-Some-first_fall.ensures in
    let e = fall_place (ps k) _ found.0 found.1 found.2 in
    λ rest. ap (refuses 32) (sym e) ∙ sym (by_32 (ps k) (es k) (well-counted k) (all-fit n) (omega (arith, e)) rest)

-- none of the rows
no_row : (c : In_default-first_fall) → NoTasksRow (ps (goal.at.In_default (goal.at.In_default-first_fall c).In_default).Else-is_miscounted) (es (goal.at.In_default (goal.at.In_default-first_fall c).In_default).Else-is_miscounted)
no_row c =
    let n = (goal.at.In_default-first_fall c).In_default in
    let k = (goal.at.In_default n).Else-is_miscounted in
    record { counted = well-counted k; none_out = all-fit n; no_fall = fall_nowhere (ps k) c.in_default-first_fall.ensures }

pub invariant_of-result : goal.invariant_of-result
invariant_of-result c = record { accepted = tasks-fit _ _ (no_row (goal.at.invariant_of-result c).In_default-first_fall) }

pub returns-clause-rows : goal.returns-clause-rows
returns-clause-rows c =
    λ rest. sym (by-none _ _ (no_row (goal.at.returns-clause-rows c).In_default-first_fall) rest)
