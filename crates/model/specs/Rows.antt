-- Document 01, "Reply numbers", rows 30 to 35, in the table's order, with document 02's details and its row 36, and the complete reply of
-- each public function of `shares`. Assumes nothing.
use Rattle.std.specs.Prelude.{ℕ, ◌-◌, Bool, true, false, cond, not, ◌&&◌, ◌||◌, List, [], ◌∷◌, leb, ltb, eqb, length, get_or}
use Rattle.model.specs.Search.{first}
use Rattle.model.specs.Form.{Form, suits, takes}
use Rattle.model.specs.Supply.{supply_of}
use Rattle.model.specs.Demand.{demand_of}
use Rattle.model.specs.Share.{passes, least_of, best_of}
use Rattle.model.specs.Reply.{Reply, gives, refuses}

-- x from 1 to n
abbrev pub within : ℕ → ℕ → Bool
within x n = leb 1 x && leb x n

-- a row of the table: where it applies its number and detail, else the rows below it
abbrev pub row : Bool → ℕ → ℕ → Reply → Reply
row true number detail rest = refuses number detail
row false number detail rest = rest

-- a period from 1 to 2,000 and an amount from 1 to the period: a task's cost, a budget
abbrev pub in_range : ℕ → ℕ → Bool
in_range P B = within P 2000 && within B P

-- 30: no tasks, more than 16, or as many periods as costs don't stand
abbrev pub miscounted : List ℕ → List ℕ → Bool
miscounted periods costs = not (within (length periods) 16) || not (eqb (length periods) (length costs))

-- 31, of the task at place k: its period is out of range, or its cost is not 1 to its period
abbrev pub out_of_range : List ℕ → List ℕ → ℕ → Bool
out_of_range periods costs k = not (in_range (get_or periods (k - 1) 0) (get_or costs (k - 1) 0))

-- 32, of the task at place k: its period is below the one before
abbrev pub falls : List ℕ → ℕ → Bool
falls periods k = ltb 1 k && ltb (get_or periods (k - 1) 0) (get_or periods (k - 2) 0)

-- the place of the first such task, counted from 1; 0 where there is none
abbrev pub first_out : List ℕ → List ℕ → ℕ
first_out periods costs = first (out_of_range periods costs) (length periods)

abbrev pub first_fall : List ℕ → ℕ
first_fall periods = first (falls periods) (length periods)

-- rows 30, 31 on all tasks, 32, and the rows below them. "For 31 and 32" the detail is "the first such task's place, counted from 1"
unfoldable pub tasks_rows : List ℕ → List ℕ → Reply → Reply
tasks_rows periods costs rest =
    row (miscounted periods costs) 30 0
    (row (ltb 0 (first_out periods costs)) 31 (first_out periods costs)
    (row (ltb 0 (first_fall periods)) 32 (first_fall periods)
    rest))

-- rows 33, 35
unfoldable pub supply_reply : Form → ℕ → ℕ → ℕ → Reply
supply_reply form P B t =
    row (not (in_range P B)) 33 0
    (row (ltb 2000 t) 35 0
    (gives (supply_of form P B t ∷ [])))

-- rows 30 to 32, 35
unfoldable pub demand_reply : List ℕ → List ℕ → ℕ → ℕ → Reply
demand_reply periods costs i t =
    tasks_rows periods costs
    (row (ltb 2000 t || not (within i (length periods))) 35 0
    (gives (demand_of periods costs i t ∷ [])))

-- 36: "periods not aligned", of the form and P
abbrev pub unaligned : Form → ℕ → List ℕ → Bool
unaligned form P periods = not (suits form periods && takes form P periods)

-- rows 30 to 33, 36
unfoldable pub check_reply : Form → List ℕ → List ℕ → ℕ → ℕ → Reply
check_reply form periods costs P B =
    tasks_rows periods costs
    (row (not (in_range P B)) 33 0
    (row (unaligned form P periods) 36 0
    (gives (cond (passes form P periods costs B) 1 0 ∷ []))))

-- rows 30 to 33, 36, 34
unfoldable pub least_reply : Form → List ℕ → List ℕ → ℕ → Reply
least_reply form periods costs P =
    tasks_rows periods costs
    (row (not (within P 2000)) 33 0
    (row (unaligned form P periods) 36 0
    (row (eqb (least_of form P periods costs) 0) 34 0
    (gives (least_of form P periods costs ∷ [])))))

-- rows 30 to 33, 36 only where the periods "don't divide each other", 34
unfoldable pub best_reply : Form → List ℕ → List ℕ → ℕ → Reply
best_reply form periods costs P-max =
    tasks_rows periods costs
    (row (not (within P-max 2000)) 33 0
    (row (not (suits form periods)) 36 0
    (row (eqb (best_of form periods costs P-max).budget 0) 34 0
    (gives ((best_of form periods costs P-max).period ∷ (best_of form periods costs P-max).budget ∷ [])))))
