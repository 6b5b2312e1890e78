-- Stays of one identifier, read off what a host hears: the time from which its ticks no longer count, and which stays are alike. Ticks
-- are the latest first. Assumes nothing.
use Rattle.std.specs.Prelude.{ℕ, ◌+◌, Bool, cond, ◌&&◌, List, [], ◌∷◌, eqb}
use Rattle.std.proofs.Math.Option.{Option, none, some}
use Rattle.rules.specs.Lists.{keep}
use Rattle.rules.specs.Vcpu.{is_sporadic}
use Rattle.rules.specs.Stays.{Stay, held}
use Rattle.rules.specs.Slices.{Slice, slices}
use Rattle.rules.specs.Boundaries.{latest}

-- one period after the start of the latest slice
abbrev pub returns_by : ℕ → List Slice → Option ℕ
returns_by T [] = none
returns_by T (s ∷ before) = some (s.start + T)

-- for a stay that ended at `end`: one period after the start of its latest slice, none where it held nothing; for a deferrable or polling
-- one its next boundary, the first one after its end
abbrev pub owes_until : List (Option ℕ) → Stay → ℕ → Option ℕ
owes_until past s end =
    cond (is_sporadic s.terms) (returns_by s.terms.period (slices s.terms.period (held s past)))
    (some (latest s end + s.terms.period))

-- the same identifier, period, capacity and kind; the priorities may differ
abbrev pub is_alike : Stay → Stay → Bool
is_alike s r =
    eqb r.terms.tunnel s.terms.tunnel
    && eqb r.terms.period s.terms.period
    && eqb r.terms.capacity s.terms.capacity
    && eqb r.terms.kind s.terms.kind

-- all the stays like this one, itself and ended ones included
abbrev pub alike : Stay → List Stay → List Stay
alike s ss = keep (is_alike s) ss
