-- What private functions of this crate promise each other. Nothing public cites it.
-- Assumes nothing.
use Rattle.std.specs.Prelude.{ℕ, ◌≤◌, ◌<◌, ◌≡◌, cond, List, [], ◌∷◌, ◌++◌, eqb, length, get_or, Option, Some, None, option_map}
use Rattle.std.specs.Borrow.{Bor}
use Rattle.text.specs.Text.{number}
use Rattle.model.specs.Asked.{Work}
use Rattle.sheets.specs.Sheet.{Read, sheet, bad, digits, behind_digits, is_number}

-- the number that bytes begin with, and what stands behind it
unfoldable pub number_read : List ℕ → Option (ℕ × List ℕ)
number_read bs = cond (is_number (digits bs)) (Some (number (digits bs), behind_digits bs)) None

abbrev pub number_seen : Option (ℕ × Bor (List ℕ)) → Option (ℕ × List ℕ)
number_seen r = option_map (λ p. (p.0, p.1.now)) r

-- what stands behind a byte that bytes begin with
abbrev pub after : ℕ → List ℕ → Option (List ℕ)
after b [] = None
after b (x ∷ xs) = cond (eqb x b) (Some xs) None

abbrev pub ending : ℕ → Option (ℕ × List ℕ) → Option (ℕ × ℕ × List ℕ)
ending p None = None
ending p (Some e) = option_map (λ xs. (p, e.0, xs)) (after 10 e.1)

abbrev pub cost_read : ℕ → Option (List ℕ) → Option (ℕ × ℕ × List ℕ)
cost_read p None = None
cost_read p (Some xs) = ending p (number_read xs)

abbrev pub behind_period : Option (ℕ × List ℕ) → Option (ℕ × ℕ × List ℕ)
behind_period None = None
behind_period (Some p) = cost_read p.0 (after 32 p.1)

-- the period and the cost of the line that bytes begin with, and what stands behind it
unfoldable pub line_read : List ℕ → Option (ℕ × ℕ × List ℕ)
line_read bs = behind_period (number_read bs)

abbrev pub line_seen : Option (ℕ × ℕ × Bor (List ℕ)) → Option (ℕ × ℕ × List ℕ)
line_seen r = option_map (λ p. (p.0, p.1, p.2.now)) r

-- a task behind the others, where they are fewer than 16
abbrev pub and_task : Work → ℕ → ℕ → Work
and_task w p e = record { periods = w.periods ++ (p ∷ []); costs = w.costs ++ (e ∷ []) }

abbrev pub Pushed : Work → ℕ → ℕ → Work → Option (Unit {0}) → Type 0
Pushed before p e after None = (length before.periods ≡ 16) × (after ≡ before)
Pushed before p e after (Some u) = (length before.periods < 16) × (after ≡ and_task before p e)

-- tasks before what is read behind them
abbrev pub behind : List ℕ → List ℕ → Read → Read
behind ps es (sheet w) = sheet (record { periods = ps ++ w.periods; costs = es ++ w.costs })
behind ps es (bad k) = bad k

-- numbers of one to four digits
abbrev pub Small : List ℕ → Type 0
Small ns = (i : ℕ) → get_or ns i 0 ≤ 9999
