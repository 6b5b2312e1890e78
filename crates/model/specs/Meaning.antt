-- Document 01's sentences on shares, and document 02's on the aligned form, as plain statements of numbers, with no test and no search in
-- them, and none of the definitions that they are there to check. proofs/Supply.antt, Demand.antt, Divides.antt and Meaning.antt show that
-- the definitions of Supply, Demand, Form and Share say the same, proofs/Table.antt and Replies.antt that the replies do. Assumes nothing.
use Rattle.std.specs.Prelude.{ℕ, zero, suc, ◌+◌, ◌-◌, ◌*◌, ◌≤◌, ◌<◌, ◌≡◌, List, ◌⊎◌, length, get_or}
use Rattle.model.specs.Form.{Form, ordinary, aligned}
use Rattle.model.specs.Share.{Share}

-- y = floor(x / p)
abbrev pub IsFloor : ℕ → ℕ → ℕ → Type 0
IsFloor x p y = (y * p ≤ x) × (x < (y + 1) * p)

-- y = ceil(x / p): so many times p is at least x, and fewer times is not
abbrev pub IsCeil : ℕ → ℕ → ℕ → Type 0
IsCeil x p y = (x ≤ y * p) × ((z : ℕ) → x ≤ z * p → y ≤ z)

-- "0 if t < g. Otherwise y = floor((t - g)/P), and supply = y·B + max(0, t - 2g - y·P)", g = P - B; ℕ's minus stops at 0 by itself
-- aligned: "y = floor(t/P), supply = y·B + max(0, t - g - y·P) for t ≥ g, else 0"
pub data IsSupply (P B t supply : ℕ) : Form → Type 0 where
  short : (form : Form) → t < P - B → supply ≡ 0 → IsSupply P B t supply form
  long : (y : ℕ) → P - B ≤ t → IsFloor (t - (P - B)) P y → supply ≡ y * B + (t - 2 * (P - B) - y * P) → IsSupply P B t supply ordinary
  long-aligned : (y : ℕ) → P - B ≤ t → IsFloor t P y → supply ≡ y * B + (t - (P - B) - y * P) → IsSupply P B t supply aligned

-- b is a multiple of a
abbrev pub Multiple : ℕ → ℕ → Type 0
Multiple a b = (m : ℕ) × (b ≡ m * a)

-- "pairwise divisible periods"
abbrev pub Pairwise : List ℕ → Type 0
Pairwise periods =
    (j k : ℕ) → 1 ≤ j → j ≤ length periods → 1 ≤ k → k ≤ length periods
    → Multiple (get_or periods (j - 1) 0) (get_or periods (k - 1) 0) ⊎ Multiple (get_or periods (k - 1) 0) (get_or periods (j - 1) 0)

-- "all multiples of P"
abbrev pub Multiples : ℕ → List ℕ → Type 0
Multiples P periods = (k : ℕ) → 1 ≤ k → k ≤ length periods → Multiple P (get_or periods (k - 1) 0)

-- the form can be had for these periods; and P is one that it can have with them
abbrev pub Suits : Form → List ℕ → Type 0
Suits ordinary periods = Unit
Suits aligned periods = Pairwise periods

abbrev pub Takes : Form → ℕ → List ℕ → Type 0
Takes ordinary P periods = Unit
Takes aligned P periods = Multiples P periods

-- "the sum over k from 1 to i of ceil(t / p_k)·e_k": the sum of the tasks before the last, and the last one's ceil and cost
abbrev pub IsDemand : List ℕ → List ℕ → ℕ → ℕ → ℕ → Type 0
IsDemand periods costs zero t demand = demand ≡ 0
IsDemand periods costs (suc i) t demand =
    (before y : ℕ) × IsDemand periods costs i t before × IsCeil t (get_or periods i 0) y × (demand ≡ before + y * get_or costs i 0)

-- there is a whole t from 1 to p_i with supply at least demand
pub record Met (form : Form) (P B : ℕ) (periods costs : List ℕ) (i : ℕ) : Type 0 where
  pub t : ℕ
  pub supply : ℕ
  pub demand : ℕ
  pub from_1 : 1 ≤ t
  pub to_p : t ≤ get_or periods (i - 1) 0
  pub supplied : IsSupply P B t supply form
  pub demanded : IsDemand periods costs i t demand
  pub enough : demand ≤ supply

-- the tasks pass with (P, B): so it is for every i
abbrev pub Pass : Form → ℕ → ℕ → List ℕ → List ℕ → Type 0
Pass form P B periods costs = (i : ℕ) → 1 ≤ i → i ≤ length periods → Met form P B periods costs i

-- B is the smallest from 1 to P that passes
pub record IsLeast (form : Form) (P : ℕ) (periods costs : List ℕ) (B : ℕ) : Type 0 where
  pub from_1 : 1 ≤ B
  pub to_P : B ≤ P
  pub passing : Pass form P B periods costs
  pub smallest : (C : ℕ) → 1 ≤ C → Pass form P C periods costs → B ≤ C

-- no budget from 1 to P passes
abbrev pub NoBudget : Form → ℕ → List ℕ → List ℕ → Type 0
NoBudget form P periods costs = (B : ℕ) → 1 ≤ B → B ≤ P → Pass form P B periods costs → ⊥

-- Q is a period from 1 to n that the form takes
abbrev pub Offers : Form → ℕ → List ℕ → ℕ → Type 0
Offers form n periods Q = (1 ≤ Q) × (Q ≤ n) × Takes form Q periods

-- (P, B), P from 1 to n and one that the form takes, B least for P, has the smallest B/P as a fraction, and at a tie the larger P
pub record IsBest (form : Form) (n : ℕ) (periods costs : List ℕ) (best : Share) : Type 0 where
  pub offered : Offers form n periods best.period
  pub least : IsLeast form best.period periods costs best.budget
  pub smallest : (Q C : ℕ) → Offers form n periods Q → 1 ≤ C → C ≤ Q → Pass form Q C periods costs → best.budget * Q ≤ C * best.period
  pub tie : (Q C : ℕ) → Offers form n periods Q → 1 ≤ C → C ≤ Q → Pass form Q C periods costs
      → best.budget * Q ≡ C * best.period → Q ≤ best.period

-- no period from 1 to n that the form takes has a budget that passes
abbrev pub NoShare : Form → ℕ → List ℕ → List ℕ → Type 0
NoShare form n periods costs = (Q : ℕ) → Offers form n periods Q → NoBudget form Q periods costs
