-- What private functions of this crate promise each other: lists that no row refuses, what rows reply, the gaps of a form, and the tables
-- that the search reads. Nothing public cites it. Assumes nothing.
use Rattle.std.specs.Prelude.{ℕ, suc, ◌+◌, ◌-◌, ◌*◌, ◌/◌, ◌%◌, ◌≤◌, ◌<◌, max, ◌≡◌, Bool, true, false, not, cond, ltb, eqb, List, length, get_or, Option, Some, None, IfSome, MatchOption, Result, Ok, Err}
use Rattle.model.specs.Form.{Form, ordinary, aligned}
use Rattle.model.specs.Demand.{demand_of}
use Rattle.model.specs.Share.{Share as PaperShare, passes}
use Rattle.model.specs.Reply.{Reply}
use Rattle.model.specs.Rows.{in_range}
use Rattle.shares.specs.declared.answers.Refusal.{Refusal}
use Rattle.shares.specs.declared.answers.Share.{Share}
use Rattle.shares.specs.Paper.{paper_refusal, paper_share}

-- 1 to 16 tasks, each of a period from 1 to 2,000 and a cost from 1 to its period, no period below the one before
pub record IsTaskList (periods costs : List ℕ) : Type 0 where
  pub some-task : 1 ≤ length periods
  pub few : length periods ≤ 16
  pub paired : length costs ≡ length periods
  pub period-least : (i : ℕ) → i < length periods → 1 ≤ get_or periods i 0
  pub period-most : (i : ℕ) → i < length periods → get_or periods i 0 ≤ 2000
  pub cost-least : (i : ℕ) → i < length periods → 1 ≤ get_or costs i 0
  pub cost-most : (i : ℕ) → i < length periods → get_or costs i 0 ≤ get_or periods i 0
  pub rising : (i : ℕ) → suc i < length periods → get_or periods i 0 ≤ get_or periods (suc i) 0

-- the smallest number below n at which a test holds, if there is one
abbrev pub IsFirst : (ℕ → Bool) → ℕ → Option ℕ → Type 0
IsFirst f n found =
    MatchOption found ((k : ℕ) → k < n → f k ≡ false) (λ i. (i < n) × (f i ≡ true) × ((k : ℕ) → k < i → f k ≡ false))

-- rows 31 and 32 of the task at i, and of the one behind it
abbrev pub out_of_range_at : List ℕ → List ℕ → ℕ → Bool
out_of_range_at periods costs i = not (in_range (get_or periods i 0) (get_or costs i 0))

abbrev pub falls_after : List ℕ → ℕ → Bool
falls_after periods i = ltb (get_or periods (i + 1) 0) (get_or periods i 0)

-- each period divides the next
abbrev pub EachDivides : List ℕ → Type 0
EachDivides periods = (k : ℕ) → k + 1 < length periods → get_or periods (k + 1) 0 % get_or periods k 0 ≡ 0

-- how many gaps the first tick waits for at the least
abbrev pub gaps_of : Form → ℕ
gaps_of ordinary = 2
gaps_of aligned = 1

-- what is replied where some rows of the table were tested: the row that applies, or what the rows below it give
abbrev pub judged : {A : Type 0} → Result A Refusal → Reply → Reply
judged (Ok a) rest = rest
judged (Err r) rest = paper_refusal r

-- the longest length that a task looks at: the last task's period
abbrev pub longest : List ℕ → ℕ
longest periods = get_or periods (length periods - 1) 0

-- the cells before m hold the demand of the first i + 1 tasks at t, at t·16 + i
abbrev pub Cells : List ℕ → List ℕ → List ℕ → ℕ → Type 0
Cells periods costs cells m =
    (k : ℕ) → k < m → k % 16 < length periods → get_or cells k 0 ≡ demand_of periods costs (suc (k % 16)) (k / 16)

-- the table, filled as far as m
pub record Filled (periods costs cells : List ℕ) (m : ℕ) : Type 0 where
  pub size : length cells ≡ 32016
  pub right : Cells periods costs cells m

-- no length below t of the task at i has s ticks to spare
abbrev pub NoneSpares : List ℕ → List ℕ → ℕ → ℕ → ℕ → Type 0
NoneSpares periods costs i t s = (u : ℕ) → 1 ≤ u → u < t → u ≤ get_or periods i 0 → u < demand_of periods costs (suc i) u + s

-- the table of leaps, right as far as m: at i·2001 + s a length below which none of the task at i has s ticks to spare
pub record Leaps (periods costs leaps : List ℕ) (m : ℕ) : Type 0 where
  pub size : length leaps ≡ 32016
  pub right : (k : ℕ) → k < m → NoneSpares periods costs (k / 2001) (get_or leaps k 0) (k % 2001)

-- on the way: the task at i is being entered, s is the fewest ticks to spare that no length below t has
pub record Entering (periods costs leaps : List ℕ) (i t s : ℕ) : Type 0 where
  pub task : i < length periods
  pub few : s ≤ 2000
  pub done : Leaps periods costs leaps (i * 2001 + s)
  pub none : NoneSpares periods costs i t s

-- where a task's search goes on that asks for s ticks to spare beside a demand of d
unfoldable pub leap_of : List ℕ → ℕ → ℕ → ℕ → ℕ
leap_of leaps i d s = cond (ltb 2000 s) 2001 (max (d + s) (get_or leaps (i * 2001 + s) 0))

-- no budget up to b passes
abbrev pub NoneUpTo : Form → ℕ → List ℕ → List ℕ → ℕ → Type 0
NoneUpTo form P periods costs b = (x : ℕ) → 1 ≤ x → x ≤ b → passes form P periods costs x ≡ false

-- the model's 0 for none
abbrev pub place_of : ℕ → Option ℕ
place_of n = cond (eqb n 0) None (Some n)

-- the best share so far as the paper's: a budget of 0 where there is none
abbrev pub paper_best : Option Share → PaperShare
paper_best None = record { period = 0; budget = 0 }
paper_best (Some s) = paper_share s

-- a share that was offered, or none: some budget, at most its period, and that in range
abbrev pub IsOffered : Option Share → Type 0
IsOffered best = IfSome best (λ s. (1 ≤ s.budget) × (s.budget ≤ s.period) × (s.period ≤ 2000))

-- the largest budget with which the period P is no worse than the share s: all of P where s is none
unfoldable pub cap_of : PaperShare → ℕ → ℕ
cap_of s P = cond (eqb s.budget 0) P (s.budget * P / s.period)
