-- Document 01, "What a call does": a call, its reply, and the state handed back.
-- Assumes nothing.
use Rattle.std.specs.Prelude.{ℕ, ◌+◌, List}
use Rattle.std.proofs.Math.Option.{Option, none, some}
use Rattle.rules.specs.Vcpu.{Vcpu}
use Rattle.rules.specs.Remember.{Remembered}
use Rattle.rules.specs.Card.{Card}
use Rattle.rules.specs.Charge.{charge}
use Rattle.rules.specs.Return.{bring}
use Rattle.rules.specs.Change.{Change, change, remember}
use Rattle.rules.specs.Ledger.{idled, handed_over}
use Rattle.rules.specs.Choose.{choose, runs, usable_of}
use Rattle.rules.specs.Timer.{timer}
use Rattle.rules.specs.Told.{Told, tell, total}
use Rattle.rules.specs.Refuse.{Refusal, refusal}

pub record Call : Type 0 where
  pub now : ℕ
  pub asked : Change

-- time, who runs (none in idle), its usable ticks (0 in idle), timer, and the ticks that this call's step 2 brought, over all VCPUs
pub record Report : Type 0 where
  pub time : ℕ
  pub run : Option ℕ
  pub usable : ℕ
  pub timer : Option ℕ
  pub brought : ℕ

pub data Reply : Type 0 where
  ok : Report → Reply
  refused : Refusal → Reply

pub record Answer : Type 0 where
  pub reply : Reply
  pub card : Card

-- the VCPUs after steps 1, 2 and 3
abbrev pub after_charge : Card → ℕ → List Vcpu
after_charge c now = charge c.last now c.running c.vcpus

abbrev pub after_return : Card → ℕ → List Vcpu
after_return c now = bring now (after_charge c now)

abbrev pub after_change : Card → Call → List Vcpu
after_change c call = change call.now call.asked (after_return c call.now)

-- who is remembered then
abbrev pub remembered_then : Card → Call → List Remembered
remembered_then c call = remember call.now call.asked (after_return c call.now) c.remembered

-- the ticks that removed tenants held, and the idle ones, then
abbrev pub removed_then : Card → Call → ℕ
removed_then c call = c.removed + handed_over call.asked (after_return c call.now)

abbrev pub idle_then : Card → ℕ → ℕ
idle_then c now = idled c.last now c.running c.idle

-- steps 4 and 5: choose and timer
unfoldable pub settled : ℕ → List Vcpu → List Remembered → ℕ → ℕ → Card
settled now vs rs removed idle =
    record {
      last = now;
      running = runs (choose vs);
      timer = timer now vs (choose vs);
      vcpus = vs;
      remembered = rs;
      removed = removed;
      idle = idle;
    }

-- what step 2 reports, of every VCPU on the card after the charge, those that step 3 then blocks or removes among them
abbrev pub told_by : Card → ℕ → List Told
told_by c now = tell now (after_charge c now)

abbrev pub report : ℕ → Card → Report
report ticks c =
    record { time = c.last; run = c.running; usable = usable_of (choose c.vcpus); timer = c.timer; brought = ticks }

abbrev pub accepted : Card → Call → Card
accepted c call =
    settled call.now (after_change c call) (remembered_then c call) (removed_then c call) (idle_then c call.now)

abbrev pub reported : Card → Call → Report
reported c call = report (total (told_by c call.now)) (accepted c call)

-- "A refusal returns the number and the detail and no result; the state handed back equals the state handed in."
abbrev pub answered : Card → Call → Option Refusal → Answer
answered c call (some r) = record { reply = refused r; card = c }
answered c call none = record { reply = ok (reported c call); card = accepted c call }

unfoldable pub turn : Card → Call → Answer
turn c call = answered c call (refusal c call.now call.asked)
