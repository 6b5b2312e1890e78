-- Document 01, "Supply, demand, least share": what the first i tasks of a list demand over a length t.
-- Periods and costs stand in two lists; task k, counted from 1, is at k - 1 in both. Assumes nothing.
use Rattle.std.specs.Prelude.{ℕ, zero, suc, ◌+◌, ◌*◌, ◌-◌, ◌/◌, List, get_or}

-- ceil(t / p)
abbrev pub ceil : ℕ → ℕ → ℕ
ceil t p = (t + (p - 1)) / p

-- the sum over k from 1 to i of ceil(t / p_k)·e_k
abbrev pub demand_of : List ℕ → List ℕ → ℕ → ℕ → ℕ
demand_of periods costs zero t = 0
demand_of periods costs (suc i) t = demand_of periods costs i t + ceil t (get_or periods i 0) * get_or costs i 0
