-- What a `Sheet` of the code keeps: tasks, and zeros behind them. No other tasks are kept in the same fields, so a sheet is its tasks.
-- Assumes nothing.
use Rattle.std.specs.Prelude.{ℕ, ◌-◌, ◌≤◌, ◌≡◌, List, ◌++◌, length, get_or, take, drop, replicate}
use Rattle.std.proofs.Common.{ap, ◌∙◌, arith, take-append-drop}
use Rattle.std.proofs.lemmas.List.{length-take-le}
use Rattle.model.specs.Asked.{Work}
use Rattle.sheets.specs.declared.sheet.Sheet.TheInside.{Inside}

-- the tasks
abbrev pub work_of : Inside → Work
work_of s = record { periods = take s.count s.periods; costs = take s.count s.costs }

-- at most 16 tasks of numbers up to 9,999, and zeros behind them
pub record ValidSheet (s : Inside) : Type 0 where
  pub few : s.count ≤ 16
  pub sized_periods : length s.periods ≡ 16
  pub sized_costs : length s.costs ≡ 16
  pub small-periods : (i : ℕ) → get_or s.periods i 0 ≤ 9999
  pub small-costs : (i : ℕ) → get_or s.costs i 0 ≤ 9999
  pub no-more-periods : drop s.count s.periods ≡ replicate (16 - s.count) 0
  pub no-more-costs : drop s.count s.costs ≡ replicate (16 - s.count) 0

-- the fields that keep these tasks
abbrev pub filled : Work → Inside
filled w = record {
  count = length w.periods;
  periods = w.periods ++ replicate (16 - length w.periods) 0;
  costs = w.costs ++ replicate (16 - length w.costs) 0;
}

-- so they are the fields that kept them
whole_list : (l : List ℕ) (n : ℕ) → n ≤ length l → drop n l ≡ replicate (16 - n) 0 → take n l ++ replicate (16 - length (take n l)) 0 ≡ l
whole_list l n inside none = rw (length-take-le n l inside, ← none) (take-append-drop n l)

pub whole_sheet : (s : Inside) → ValidSheet s → filled (work_of s) ≡ s
whole_sheet s v =
    ap (λ (n : ℕ). made n (filled (work_of s)).periods (filled (work_of s)).costs) (length-take-le s.count s.periods within)
    ∙ ap (λ (l : List ℕ). made s.count l (filled (work_of s)).costs) (whole_list s.periods s.count within v.no-more-periods)
    ∙ ap (made s.count s.periods) (whole_list s.costs s.count (omega (arith, v.few, v.sized_costs)) v.no-more-costs)
  where
    made : ℕ → List ℕ → List ℕ → Inside
    made n ps es = record { count = n; periods = ps; costs = es }

    within : s.count ≤ length s.periods
    within = omega (arith, v.few, v.sized_periods)
