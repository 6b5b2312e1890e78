-- Sheets, computed: two tasks and no task, the smallest and the largest number, and each way in which a line can be bad.
-- Assumes nothing.
use Prim.Native.Nat.{ℕ, zero, suc}
use mathlib.Core.Path.{◌≡◌, refl}
use mathlib.Core.List.{List, [], ◌∷◌, ◌++◌}
use Rattle.text.specs.Text.{figures}
use Rattle.sheets.specs.Sheet.{sheet, bad, is_number, is_line, no_tasks, read_from, read_of, written}

-- "5 1\n10 3\n", both ways
abbrev two_tasks : List ℕ
two_tasks = 53 ∷ 32 ∷ 49 ∷ 10 ∷ 49 ∷ 48 ∷ 32 ∷ 51 ∷ 10 ∷ []

pub reads_two : read_of two_tasks ≡ sheet (record { periods = 5 ∷ 10 ∷ []; costs = 1 ∷ 3 ∷ [] })
unfolding read_from is_line is_number
reads_two = refl

pub writes_two : written (5 ∷ 10 ∷ []) (1 ∷ 3 ∷ []) ≡ two_tasks
unfolding figures
writes_two = refl

-- ""
pub reads_nothing : read_of [] ≡ sheet no_tasks
unfolding read_from
reads_nothing = refl

-- "0 9999\n"
pub reads-ends : read_of (48 ∷ 32 ∷ 57 ∷ 57 ∷ 57 ∷ 57 ∷ 10 ∷ []) ≡ sheet (record { periods = 0 ∷ []; costs = 9999 ∷ [] })
unfolding read_from is_line is_number
reads-ends = refl

-- a leading zero: "05 1\n", "00 1\n"
pub leading_zero : read_of (48 ∷ 53 ∷ 32 ∷ 49 ∷ 10 ∷ []) ≡ bad 1
unfolding read_from is_line is_number
leading_zero = refl

pub two-zeros : read_of (48 ∷ 48 ∷ 32 ∷ 49 ∷ 10 ∷ []) ≡ bad 1
unfolding read_from is_line is_number
two-zeros = refl

-- a last line without a newline: "5 1\n10 3"
pub no_newline : read_of (53 ∷ 32 ∷ 49 ∷ 10 ∷ 49 ∷ 48 ∷ 32 ∷ 51 ∷ []) ≡ bad 2
unfolding read_from is_line is_number
no_newline = refl

-- two spaces: "5  1\n"
pub two_spaces : read_of (53 ∷ 32 ∷ 32 ∷ 49 ∷ 10 ∷ []) ≡ bad 1
unfolding read_from is_line is_number
two_spaces = refl

-- a carriage return: "5 1\r\n"
pub carriage_return : read_of (53 ∷ 32 ∷ 49 ∷ 13 ∷ 10 ∷ []) ≡ bad 1
unfolding read_from is_line is_number
carriage_return = refl

-- five digits: "5 10000\n"
pub five-digits : read_of (53 ∷ 32 ∷ 49 ∷ 48 ∷ 48 ∷ 48 ∷ 48 ∷ 10 ∷ []) ≡ bad 1
unfolding read_from is_line is_number
five-digits = refl

-- an empty line, behind a good one: "5 1\n\n"
pub empty-line : read_of (53 ∷ 32 ∷ 49 ∷ 10 ∷ 10 ∷ []) ≡ bad 2
unfolding read_from is_line is_number
empty-line = refl

-- no cost: "5 \n", no period: " 1\n", a letter: "5 x\n"
pub no-cost : read_of (53 ∷ 32 ∷ 10 ∷ []) ≡ bad 1
unfolding read_from is_line is_number
no-cost = refl

pub no-period : read_of (32 ∷ 49 ∷ 10 ∷ []) ≡ bad 1
unfolding read_from is_line is_number
no-period = refl

pub letter : read_of (53 ∷ 32 ∷ 120 ∷ 10 ∷ []) ≡ bad 1
unfolding read_from is_line is_number
letter = refl

-- so many lines "5 1\n": 16 are read, a 17th is bad, and so is what stands behind 16
abbrev times : ℕ → List ℕ → List ℕ
times zero l = []
times (suc n) l = l ++ times n l

abbrev repeated : ℕ → ℕ → List ℕ
repeated zero n = []
repeated (suc k) n = n ∷ repeated k n

pub sixteen_lines : read_of (times 16 (53 ∷ 32 ∷ 49 ∷ 10 ∷ [])) ≡ sheet (record { periods = repeated 16 5; costs = repeated 16 1 })
unfolding read_from is_line is_number
sixteen_lines = refl

pub seventeen_lines : read_of (times 17 (53 ∷ 32 ∷ 49 ∷ 10 ∷ [])) ≡ bad 17
unfolding read_from is_line is_number
seventeen_lines = refl

pub more-behind : read_of (times 16 (53 ∷ 32 ∷ 49 ∷ 10 ∷ []) ++ (120 ∷ [])) ≡ bad 17
unfolding read_from is_line is_number
more-behind = refl
