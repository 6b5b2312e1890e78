-- Document 02, No. 13: "read the old tool's sheet, at most 16 lines of period, one space, cost and newline, each number one to four decimal
-- digits without leading zeros (0 alone stands), and write it back in the same bytes", and 37, the "first bad line or a 17th, with its
-- number". specs/Meaning.antt says the same with no test in it. Assumes nothing.
use Rattle.std.specs.Prelude.{ℕ, zero, suc, Bool, false, cond, not, ◌&&◌, ◌||◌, List, [], ◌∷◌, ◌++◌, leb, eqb, length, get_or, drop}
use Rattle.text.specs.Text.{decimal, number}
use Rattle.model.specs.Asked.{Work}
use Rattle.model.specs.Rows.{within}

-- what reading gives: the tasks of a sheet, or the number of the first bad line
pub data Read : Type 0 where
  sheet : Work → Read
  bad : ℕ → Read

abbrev pub is_digit : ℕ → Bool
is_digit b = leb 48 b && leb b 57

-- the decimal digits that bytes begin with, and what stands behind them
abbrev pub digits : List ℕ → List ℕ
digits [] = []
digits (b ∷ bs) = cond (is_digit b) (b ∷ digits bs) []

abbrev pub behind_digits : List ℕ → List ℕ
behind_digits bs = drop (length (digits bs)) bs

-- one to four digits without leading zeros (0 alone stands)
unfoldable pub is_number : List ℕ → Bool
is_number ds = within (length ds) 4 && (eqb (length ds) 1 || not (eqb (get_or ds 0 0) 48))

-- the bytes begin with b
abbrev pub starts : ℕ → List ℕ → Bool
starts b [] = false
starts b (x ∷ xs) = eqb x b

-- what stands behind the space
abbrev pub cost_at : List ℕ → List ℕ
cost_at bs = drop 1 (behind_digits bs)

-- the bytes begin with period, one space, cost and newline
unfoldable pub is_line : List ℕ → Bool
is_line bs =
    (is_number (digits bs) && starts 32 (behind_digits bs))
    && (is_number (digits (cost_at bs)) && starts 10 (behind_digits (cost_at bs)))

-- what stands behind the newline
abbrev pub behind_line : List ℕ → List ℕ
behind_line bs = drop 1 (behind_digits (cost_at bs))

-- no tasks, and a task before those of the lines behind it
abbrev pub no_tasks : Work
no_tasks = record { periods = []; costs = [] }

abbrev pub before : ℕ → ℕ → Read → Read
before p e (sheet w) = sheet (record { periods = p ∷ w.periods; costs = e ∷ w.costs })
before p e (bad k) = bad k

-- the lines from the k-th on, of which n may stand
unfoldable pub read_from : ℕ → ℕ → List ℕ → Read
read_from zero k [] = sheet no_tasks
read_from zero k (b ∷ bs) = bad k
read_from (suc n) k [] = sheet no_tasks
read_from (suc n) k (b ∷ bs) =
    cond (is_line (b ∷ bs))
    (before (number (digits (b ∷ bs))) (number (digits (cost_at (b ∷ bs)))) (read_from n (suc k) (behind_line (b ∷ bs))))
    (bad k)

abbrev pub read_of : List ℕ → Read
read_of bytes = read_from 16 1 bytes

-- the line of a task, and those of tasks
abbrev pub line_of : ℕ → ℕ → List ℕ
line_of p e = decimal p ++ (32 ∷ (decimal e ++ (10 ∷ [])))

abbrev pub written : List ℕ → List ℕ → List ℕ
written [] es = []
written (p ∷ ps) [] = []
written (p ∷ ps) (e ∷ es) = line_of p e ++ written ps es
