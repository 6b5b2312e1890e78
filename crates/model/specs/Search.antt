-- Tests over whole numbers counted from 1: somewhere, everywhere, and the smallest place at which a test holds.
-- Assumes nothing.
use Rattle.std.specs.Prelude.{ℕ, zero, suc, Bool, true, false, cond, ◌&&◌, ◌||◌}

-- f holds at some number from 1 to n
abbrev pub somewhere : (ℕ → Bool) → ℕ → Bool
somewhere f zero = false
somewhere f (suc n) = somewhere f n || f (suc n)

-- f holds at each number from 1 to n
abbrev pub everywhere : (ℕ → Bool) → ℕ → Bool
everywhere f zero = true
everywhere f (suc n) = everywhere f n && f (suc n)

-- the first of two places, 0 standing for none
abbrev pub or_else : ℕ → ℕ → ℕ
or_else zero b = b
or_else (suc a) b = suc a

-- the smallest number from 1 to n at which f holds; 0 where there is none
abbrev pub first : (ℕ → Bool) → ℕ → ℕ
first f zero = 0
first f (suc n) = or_else (first f n) (cond (f (suc n)) (suc n) 0)
