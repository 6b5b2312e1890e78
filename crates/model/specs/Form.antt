-- Document 02, No. 13: which form of supply is asked for. For the aligned one every task's period has to be a multiple of P, and of any two
-- of them one a multiple of the other; that the tasks are released at starts of a resource period no list can say. Assumes nothing.
use Rattle.std.specs.Prelude.{ℕ, ◌-◌, ◌%◌, Bool, true, ◌||◌, List, eqb, length, get_or}
use Rattle.model.specs.Search.{everywhere}

-- the non-harmonic form of document 000, and its harmonic one
pub data Form : Type 0 where
  ordinary : Form
  aligned : Form

-- b is a multiple of a
abbrev pub divides : ℕ → ℕ → Bool
divides a b = eqb (b % a) 0

-- "pairwise divisible periods": of any two one is a multiple of the other
unfoldable pub pairwise : List ℕ → Bool
pairwise periods =
    everywhere (λ j.
    everywhere (λ k. divides (get_or periods (j - 1) 0) (get_or periods (k - 1) 0) || divides (get_or periods (k - 1) 0) (get_or periods (j - 1) 0))
    (length periods)) (length periods)

-- "all multiples of P"
unfoldable pub multiples : ℕ → List ℕ → Bool
multiples P periods = everywhere (λ k. divides P (get_or periods (k - 1) 0)) (length periods)

-- the form can be had for these periods, whatever P
abbrev pub suits : Form → List ℕ → Bool
suits ordinary periods = true
suits aligned periods = pairwise periods

-- and P is one that it can have with them
abbrev pub takes : Form → ℕ → List ℕ → Bool
takes ordinary P periods = true
takes aligned P periods = multiples P periods
