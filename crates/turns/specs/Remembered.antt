-- What the parts of a call that look at who is remembered, or change it, ask and answer. Assumes nothing.
use Rattle.std.specs.Prelude.{◌+◌, ◌≤◌, ◌≡◌, cond, eqb, set}
use Rattle.units.specs.Units.{moment}
use Rattle.units.specs.declared.Moment.{Moment}
use Rattle.units.specs.declared.Tunnel.{Tunnel}
use Rattle.rules.specs.Limits.{most_vcpus}
use Rattle.turns.specs.declared.Memory.{Memory}
use Rattle.turns.specs.declared.Roster.{Roster}
use Rattle.turns.specs.declared.Vcpu.{Vcpu}
use Rattle.turns.specs.Written.{never, memories, memory_of}
use Rattle.turns.specs.Steps.{latest_of}

-- a memory that is written: what it shows fixes it to the last slot
pub record Fixed (m : Memory) : Type 0 where
  pub few : m.count ≤ most_vcpus
  pub written : m ≡ memory_of (memories m)

-- what the rows ask of the table: its count and its memory
pub record Judges (x : Roster) : Type 0 where
  pub few : x.n ≤ most_vcpus
  pub fixed : Fixed x.memory

-- one more
abbrev pub with_of : Memory → Tunnel → Moment → Memory
with_of m id time =
    record { until = set m.until m.count time; ids = set m.ids m.count id; count = m.count + 1 }

-- what a VCPU that is removed leaves behind
unfoldable pub leaving_of : Memory → Tunnel → Vcpu → Memory
leaving_of m id v = cond (eqb (latest_of v) never) m (with_of m id (moment (latest_of v)))
