-- Document 01, "Supply, demand, least share": when tasks pass with (P, B), the least budget for P, and the best interface up to P_max.
-- Each in the form that is asked for. A budget of 0 stands for none, since budgets begin at 1. Assumes nothing.
use Rattle.std.specs.Prelude.{ℕ, zero, suc, ◌-◌, ◌*◌, Bool, cond, List, leb, eqb, length, get_or}
use Rattle.model.specs.Search.{somewhere, everywhere, first}
use Rattle.model.specs.Form.{Form, takes}
use Rattle.model.specs.Supply.{supply_of}
use Rattle.model.specs.Demand.{demand_of}

-- a resource period and the budget that is had in each of them
pub record Share : Type 0 where
  pub period : ℕ
  pub budget : ℕ

-- the test of one length: supply is at least the demand of the first i tasks
abbrev pub enough : Form → ℕ → ℕ → List ℕ → List ℕ → ℕ → ℕ → Bool
enough form P B periods costs i t = leb (demand_of periods costs i t) (supply_of form P B t)

-- task i is met: there is a whole t from 1 to p_i with supply at least demand
unfoldable pub meets : Form → ℕ → ℕ → List ℕ → List ℕ → ℕ → Bool
meets form P B periods costs i = somewhere (λ t. enough form P B periods costs i t) (get_or periods (i - 1) 0)

-- the tasks pass with (P, B): every task is met
unfoldable pub passes : Form → ℕ → List ℕ → List ℕ → ℕ → Bool
passes form P periods costs B = everywhere (λ i. meets form P B periods costs i) (length periods)

-- the smallest B from 1 to P that passes
unfoldable pub least_of : Form → ℕ → List ℕ → List ℕ → ℕ
least_of form P periods costs = first (passes form P periods costs) P

-- of an earlier share and one of a larger period: the smaller B/P, compared as fractions; at a tie the larger P
unfoldable pub better : Share → Share → Share
better old new =
    cond (eqb new.budget 0) old
    (cond (eqb old.budget 0) new
    (cond (leb (new.budget * old.period) (old.budget * new.period)) new old))

-- the best of the shares (P, least budget for P), P from 1 to n; a P that the form does not take is skipped
unfoldable pub best_of : Form → List ℕ → List ℕ → ℕ → Share
best_of form periods costs zero = record { period = 0; budget = 0 }
best_of form periods costs (suc n) =
    cond (takes form (suc n) periods)
    (better (best_of form periods costs n) (record { period = suc n; budget = least_of form (suc n) periods costs }))
    (best_of form periods costs n)
