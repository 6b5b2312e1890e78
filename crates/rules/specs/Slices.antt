-- "A slice is an unbroken run of ticks held by one VCPU within one stay, cut T ticks after its start if it gets so far."
-- Ticks are those of one stay; ticks and slices have the latest first. Assumes nothing.
use Rattle.std.specs.Prelude.{ℕ, ◌+◌, Bool, true, false, cond, ◌&&◌, ◌||◌, List, [], ◌∷◌, map, reverse, leb, ltb, eqb, length}
use Rattle.rules.specs.Limits.{most_pending}
use Rattle.rules.specs.Lists.{keep, sum}
use Rattle.rules.specs.Vcpu.{Entry}

pub record Slice : Type 0 where
  pub start : ℕ
  pub long : ℕ

-- it has fewer than T ticks
abbrev pub uncut : ℕ → Slice → Bool
uncut T s = ltb s.long T

-- a tick held at `now` goes on with a slice that ends there and is not cut
abbrev pub goes_on : ℕ → ℕ → Slice → Bool
goes_on T now s = eqb (s.start + s.long) now && uncut T s

-- a tick held at `now` goes on with the latest slice, or else begins one
abbrev pub grow : ℕ → ℕ → List Slice → List Slice
grow T now [] = record { start = now; long = 1 } ∷ []
grow T now (s ∷ ss) =
    cond (goes_on T now s) (record { start = s.start; long = s.long + 1 } ∷ ss) (record { start = now; long = 1 } ∷ s ∷ ss)

-- the slices of a stay
abbrev pub slices : ℕ → List Bool → List Slice
slices T [] = []
slices T (true ∷ before) = grow T (length before) (slices T before)
slices T (false ∷ before) = slices T before

-- begun less than one period before `now`
abbrev pub is_recent : ℕ → ℕ → Slice → Bool
is_recent T now s = ltb now (s.start + T)

abbrev pub recent : ℕ → ℕ → List Slice → List Slice
recent T now ss = keep (is_recent T now) ss

abbrev pub ticks_of : List Slice → ℕ
ticks_of ss = sum (λ s. s.long) ss

-- a slice returns its ticks one period after its start; the oldest comes first
abbrev pub returns_of : ℕ → List Slice → List Entry
returns_of T ss = reverse (map (λ s. record { due = s.start + T; amount = s.long }) ss)

-- The return queue has room for eight slices: it has to fold when a slice begins less than one period after eight others.
abbrev pub ever_folds : ℕ → List Slice → Bool
ever_folds T [] = false
ever_folds T (s ∷ before) = leb most_pending (length (recent T s.start before)) || ever_folds T before
