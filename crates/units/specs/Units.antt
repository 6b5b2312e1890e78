-- The four units as made from their number, and the two sums that are offered.
-- Assumes nothing.
use Rattle.std.specs.Prelude.{ℕ, ◌+◌, min}
use Rattle.units.specs.declared.Moment.{Moment}
use Rattle.units.specs.declared.Amount.{Amount}
use Rattle.units.specs.declared.Total.{Total}
use Rattle.units.specs.declared.Tunnel.{Tunnel}

-- the moment, the amount, the total and the tunnel identifier of a number
abbrev pub moment : ℕ → Moment
moment n = record { 0 = n }

abbrev pub amount : ℕ → Amount
amount n = record { 0 = n }

abbrev pub total : ℕ → Total
total n = record { 0 = n }

abbrev pub tunnel : ℕ → Tunnel
tunnel n = record { 0 = n }

-- the largest number that a moment, or a total, can hold
abbrev pub last_moment : ℕ
last_moment = 18446744073709551615

-- a moment plus an amount, held to the largest moment
abbrev pub later : Moment → Amount → Moment
later m a = moment (min (m.0 + a.0) last_moment)

-- two totals, held to the largest
abbrev pub together : Total → Total → Total
together a b = total (min (a.0 + b.0) last_moment)
