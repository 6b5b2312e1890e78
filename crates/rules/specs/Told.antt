-- Document 02, No. 5: what the return step reports of each VCPU, the total that it brought, and the timer worked out from the reported
-- times, which is that of Timer (proofs/Told, `timer-from-told`). Assumes nothing.
use Rattle.std.specs.Prelude.{ℕ, ◌+◌, ◌-◌, cond, List, [], ◌∷◌, ◌++◌, map, leb}
use Rattle.std.proofs.Math.Option.{Option, none, some}
use Rattle.rules.specs.Lists.{keep, sum}
use Rattle.rules.specs.Vcpu.{Vcpu, is_sporadic, leaves, named, times}
use Rattle.rules.specs.Return.{brought, returned}
use Rattle.rules.specs.Timer.{earlier, earliest, next, runnable, above}

-- "reports, for its VCPU, how many ticks it brought and the earliest time still pending, or that there is none"
pub record Told : Type 0 where
  pub who : ℕ
  pub ticks : ℕ
  pub next : Option ℕ

-- "A refill reports the ticks it adds": what the VCPU has then, less what was left
abbrev pub adds : ℕ → Option ℕ → Vcpu → ℕ
adds now none v = 0
adds now (some b) v = cond (leb b now) (leaves v.terms v.runnable v.terms.capacity - v.usable) 0

-- of a VCPU after the charge: the ticks of the entries that are due, or those that a refill adds; then "the earliest time still pending",
-- or "the next boundary"
abbrev pub tells : ℕ → Vcpu → Told
tells now v =
    record {
      who = v.terms.tunnel;
      ticks = brought now v.pending + adds now v.boundary v;
      next = next (returned now v);
    }

-- every VCPU reports, due or not
abbrev pub tell : ℕ → List Vcpu → List Told
tell now vs = map (tells now) vs

-- "the total brought, over all VCPUs"
abbrev pub total : List Told → ℕ
total ts = sum (λ t. t.ticks) ts

-- the time reported of a VCPU, found by its identifier, all 24 bits of it
-- (of one that the call admits nothing is reported)
abbrev pub time_told : List Told → Vcpu → Option ℕ
time_told [] v = none
time_told (t ∷ ts) v = cond (named t.who v) t.next (time_told ts v)

abbrev pub times_told : List Told → List Vcpu → List ℕ
times_told ts [] = []
times_told ts (v ∷ vs) = times (time_told ts v) ++ times_told ts vs

-- the boundary reported of a VCPU, which a sporadic one has not
abbrev pub boundary_told : List Told → Vcpu → Option ℕ
boundary_told ts v = cond (is_sporadic v.terms) none (time_told ts v)

-- "the timer is worked out from the reported times"
unfoldable pub timer_told : ℕ → List Told → List Vcpu → Option Vcpu → Option ℕ
timer_told now ts vs none = earliest (times_told ts (keep runnable vs))
timer_told now ts vs (some v) =
    some (earlier (now + v.usable) (earliest (times (boundary_told ts v) ++ times_told ts (keep (above v) vs))))
