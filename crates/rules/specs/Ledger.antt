-- Document 02, No. 6: what the card keeps beside its VCPUs, so that all totals add up to its time: the ticks that removed tenants held,
-- and the idle ticks. The totals of a VCPU move in Charge and Return; no reply depends on any of them. Assumes nothing.
use Rattle.std.specs.Prelude.{ℕ, ◌+◌, ◌-◌, List}
use Rattle.std.proofs.Math.Option.{Option, none, some}
use Rattle.rules.specs.Vcpu.{Vcpu}
use Rattle.rules.specs.Card.{find}
use Rattle.rules.specs.Change.{Change, admit, wake, block, remove, tick}

-- the ticks from `last` to `now` are idle ones where nobody held the core; they are counted, and never what others leave over
abbrev pub idled : ℕ → ℕ → Option ℕ → ℕ → ℕ
idled last now none ticks = ticks + (now - last)
idled last now (some tunnel) ticks = ticks

abbrev pub held_of : Option Vcpu → ℕ
held_of none = 0
held_of (some v) = v.held_total

-- what the VCPU removed held goes to those of removed tenants; `vs` are the VCPUs after steps 1 and 2, so this call's charge is in it
abbrev pub handed_over : Change → List Vcpu → ℕ
handed_over (admit d) vs = 0
handed_over (wake tunnel) vs = 0
handed_over (block tunnel) vs = 0
handed_over (remove tunnel) vs = held_of (find tunnel vs)
handed_over tick vs = 0
