-- Document 01, "Reply numbers", rows 30 to 35, with document 02's details and row 36, as plain facts: where each applies and what its
-- detail is, that the first from the top that does is given, and what is given where none does. Proved of everything that can be asked in proofs/Table.
-- Assumes nothing.
use Rattle.std.specs.Prelude.{ℕ, ◌-◌, ◌≤◌, ◌<◌, ◌≡◌, ◌⊎◌, ◌↔◌, List, [], ◌∷◌, length, get_or}
use Rattle.model.specs.Share.{Share}
use Rattle.model.specs.Reply.{refuses, gives}
use Rattle.model.specs.Meaning.{IsSupply, IsDemand, Suits, Takes, Pass, IsLeast, NoBudget, IsBest, NoShare}
use Rattle.model.specs.Asked.{Work, Asked, supply, demand, check, least, best, reply_to}

-- n is not low to high
abbrev pub Outside : ℕ → ℕ → ℕ → Type 0
Outside low high n = (n < low) ⊎ (high < n)

-- a period is 1 to 2,000, an amount 1 to its period; one of them is not
abbrev pub OutOfRange : ℕ → ℕ → Type 0
OutOfRange P B = Outside 1 2000 P ⊎ Outside 1 P B

-- "no tasks, more than 16, or as many periods as costs don't stand"
abbrev pub Miscounted : Work → Type 0
Miscounted w = (length w.periods ≡ 0) ⊎ (16 < length w.periods) ⊎ (length w.periods ≡ length w.costs → ⊥)

-- "a task period out of range, or a cost not 1 to its period": of the task at place k, counted from 1
abbrev pub TaskOut : Work → ℕ → Type 0
TaskOut w k = (1 ≤ k) × (k ≤ length w.periods) × OutOfRange (get_or w.periods (k - 1) 0) (get_or w.costs (k - 1) 0)

-- "a task's period is below the one before": of the task at place k, whichever but the first
abbrev pub PeriodFalls : Work → ℕ → Type 0
PeriodFalls w k = (2 ≤ k) × (k ≤ length w.periods) × (get_or w.periods (k - 1) 0 < get_or w.periods (k - 2) 0)

-- "the first such task's place": so it is with the task at place k, and with none before it. Where there is such a task there is a first
abbrev pub FirstTask : (Work → ℕ → Type 0) → ℕ → Work → Type 0
FirstTask Such k w = Such w k × ((j : ℕ) → j < k → Such w j → ⊥)

-- said of the tasks; a supply has none
abbrev pub OfTasks : (Work → Type 0) → Asked → Type 0
OfTasks Said (supply form P B t) = ⊥
OfTasks Said (demand w i t) = Said w
OfTasks Said (check form w P B) = Said w
OfTasks Said (least form w P) = Said w
OfTasks Said (best form w P-max) = Said w

-- "resource period, P_max or budget out of range (budget 1 to period)"; a demand has none of them
abbrev pub ShareOut : Asked → Type 0
ShareOut (supply form P B t) = OutOfRange P B
ShareOut (demand w i t) = ⊥
ShareOut (check form w P B) = OutOfRange P B
ShareOut (least form w P) = Outside 1 2000 P
ShareOut (best form w P-max) = Outside 1 2000 P-max

-- "periods not aligned": these "don't divide each other", or P does not divide them; best skips such a P, supply and demand have no such row
abbrev pub NotAligned : Asked → Type 0
NotAligned (supply form P B t) = ⊥
NotAligned (demand w i t) = ⊥
NotAligned (check form w P B) = (Suits form w.periods → ⊥) ⊎ (Takes form P w.periods → ⊥)
NotAligned (least form w P) = (Suits form w.periods → ⊥) ⊎ (Takes form P w.periods → ⊥)
NotAligned (best form w P-max) = Suits form w.periods → ⊥

-- "length asked is above 2,000, or task place isn't in the list"; only supply and demand ask for a length
abbrev pub LengthOut : Asked → Type 0
LengthOut (supply form P B t) = 2000 < t
LengthOut (demand w i t) = (2000 < t) ⊎ Outside 1 (length w.periods) i
LengthOut (check form w P B) = ⊥
LengthOut (least form w P) = ⊥
LengthOut (best form w P-max) = ⊥

-- "no budget passes"; only least and best look for one
abbrev pub NonePasses : Asked → Type 0
NonePasses (supply form P B t) = ⊥
NonePasses (demand w i t) = ⊥
NonePasses (check form w P B) = ⊥
NonePasses (least form w P) = NoBudget form P w.periods w.costs
NonePasses (best form w P-max) = NoShare form P-max w.periods w.costs

-- the row with this number concerns what is asked, applies, and has this detail: for 31 and 32 "the first such task's place, counted from 1"
pub data Row (asked : Asked) : ℕ → ℕ → Type 0 where
  row_30 : OfTasks Miscounted asked → Row asked 30 0
  row_31 : (k : ℕ) → OfTasks (FirstTask TaskOut k) asked → Row asked 31 k
  row_32 : (k : ℕ) → OfTasks (FirstTask PeriodFalls k) asked → Row asked 32 k
  row_33 : ShareOut asked → Row asked 33 0
  row_36 : NotAligned asked → Row asked 36 0
  row_35 : LengthOut asked → Row asked 35 0
  row_34 : NonePasses asked → Row asked 34 0

-- the table from the top
abbrev pub rows : List ℕ
rows = 30 ∷ 31 ∷ 32 ∷ 33 ∷ 36 ∷ 35 ∷ 34 ∷ []

-- "the first from the top that applies is given, whatever its number"; places in the table are counted from 0
pub record First (asked : Asked) (number detail : ℕ) : Type 0 where
  pub place : ℕ
  pub stands : get_or rows place 0 ≡ number
  pub applies : Row asked number detail
  pub none_above : (p d : ℕ) → p < place → Row asked (get_or rows p 0) d → ⊥

abbrev pub NoRow : Asked → Type 0
NoRow asked = (number detail : ℕ) → Row asked number detail → ⊥

-- these values are the result: "passes" is 1, "doesn't" is 0
abbrev pub Result : Asked → List ℕ → Type 0
Result (supply form P B t) values = (s : ℕ) × (values ≡ s ∷ []) × IsSupply P B t s form
Result (demand w i t) values = (d : ℕ) × (values ≡ d ∷ []) × IsDemand w.periods w.costs i t d
Result (check form w P B) values =
    ((values ≡ 1 ∷ []) × Pass form P B w.periods w.costs) ⊎ ((values ≡ 0 ∷ []) × (Pass form P B w.periods w.costs → ⊥))
Result (least form w P) values = (B : ℕ) × (values ≡ B ∷ []) × IsLeast form P w.periods w.costs B
Result (best form w P-max) values = (s : Share) × (values ≡ s.period ∷ s.budget ∷ []) × IsBest form P-max w.periods w.costs s

-- "Given exactly when", with the row's detail; and there is a result exactly when no row applies
pub record Table (asked : Asked) : Type 0 where
  pub refused : (number detail : ℕ) → reply_to asked ≡ refuses number detail ↔ First asked number detail
  pub given : (values : List ℕ) → reply_to asked ≡ gives values ↔ NoRow asked × Result asked values
  pub answered : ((values : List ℕ) × (reply_to asked ≡ gives values)) ↔ NoRow asked

-- rows 30 to 33 and 36, those above 35 and 34, do not apply
abbrev pub Accepted : Asked → Type 0
Accepted asked = (place detail : ℕ) → place < 5 → Row asked (get_or rows place 0) detail → ⊥
