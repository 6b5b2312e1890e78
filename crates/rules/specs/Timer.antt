-- Document 01, step 5: the timer; with the boundaries of document 02, No. 1.
-- Assumes nothing.
use Rattle.std.specs.Prelude.{ℕ, ◌+◌, min, Bool, ◌&&◌, List, [], ◌∷◌, ◌++◌}
use Rattle.std.proofs.Math.Option.{Option, none, some}
use Rattle.rules.specs.Lists.{keep}
use Rattle.rules.specs.Vcpu.{Vcpu, times, comes, more_urgent}

abbrev pub earlier : ℕ → Option ℕ → ℕ
earlier a none = a
earlier a (some b) = min a b

abbrev pub earliest : List ℕ → Option ℕ
earliest [] = none
earliest (t ∷ ts) = some (earlier t (earliest ts))

-- the next time that something comes to it
abbrev pub next : Vcpu → Option ℕ
next v = earliest (comes v)

-- .., and to each of these VCPUs
abbrev pub nexts : List Vcpu → List ℕ
nexts [] = []
nexts (v ∷ vs) = times (next v) ++ nexts vs

abbrev pub runnable : Vcpu → Bool
runnable w = w.runnable

-- runnable, and more urgent than `v`
abbrev pub above : Vcpu → Vcpu → Bool
above v w = w.runnable && more_urgent w.terms v.terms

unfoldable pub timer : ℕ → List Vcpu → Option Vcpu → Option ℕ
-- "In idle: the earliest pending return of any runnable VCPU. If nobody is runnable, there is no timer."
timer now vs none = earliest (nexts (keep runnable vs))
-- "The earlier of `now` + the chosen one's usable ticks and the earliest pending return of any runnable VCPU more urgent than it.";
-- "the next boundary where it looked at the earliest return, and also at the running VCPU's own next boundary"
timer now vs (some v) = some (earlier (now + v.usable) (earliest (times v.boundary ++ nexts (keep (above v) vs))))
