-- Boundaries of a stay: its admission's time plus T, 2T, 3T .. (document 02, No. 1); the ticks that it held between two moments; and
-- whether a polling one has its refill, read off what a host hears. Ticks are those of one stay, the latest first. Assumes nothing.
use Rattle.std.specs.Prelude.{ℕ, ◌+◌, ◌-◌, ◌*◌, ◌/◌, Bool, false, cond, ◌&&◌, List, [], ◌∷◌, leb, ltb, length}
use Rattle.rules.specs.History.{Exchange, told, time, is_runnable}
use Rattle.rules.specs.Stays.{Stay}

-- held ticks that begin at `low` or later, and before `high`
abbrev pub held_between : ℕ → ℕ → List Bool → ℕ
held_between low high [] = 0
held_between low high (held ∷ before) =
    cond (held && leb low (length before) && ltb (length before) high) 1 0 + held_between low high before

-- the admission's time (k is 0), and the boundaries after it
abbrev pub boundary : Stay → ℕ → ℕ
boundary s k = s.from + k * s.terms.period

-- the latest of them at or before `now`; before its admission the admission's time, so that no boundary passes there
abbrev pub latest : Stay → ℕ → ℕ
latest s now = boundary s ((now - s.from) / s.terms.period)

-- from the call at `last` to the one at `now` a boundary passes
abbrev pub passes : Stay → ℕ → ℕ → Bool
passes s last now = ltb (latest s last) (latest s now)

-- it was runnable just before the call that passed its latest boundary, and neither that call nor any since has left it not runnable
abbrev pub has_refill : Stay → List Exchange → Bool
has_refill s [] = false
has_refill s (x ∷ before) =
    told x.reply
    (λ r. cond (passes s (time before) r.time) (is_runnable before s.terms.tunnel) (has_refill s before)
    && is_runnable (x ∷ before) s.terms.tunnel)
    (has_refill s before)
