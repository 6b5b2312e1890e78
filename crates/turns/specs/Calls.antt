-- What the public calls promise: the rules' call that a call is, and the rules' answer written as the answer.
-- Assumes nothing.
use Rattle.std.specs.Prelude.{ℕ, ◌≡◌, Bool, true, false, cond, if◌then◌else◌, eqb, ltb, Result, Ok, Err}
use Rattle.std.proofs.Math.Option.{Option, none, some}
use Rattle.units.specs.Units.{moment, amount}
use Rattle.units.specs.declared.Moment.{Moment}
use Rattle.rules.specs.Limits.{largest_kind}
use Rattle.rules.specs.Vcpu.{Description as Terms}
use Rattle.rules.specs.Vcpu.{Vcpu as Tenant}
use Rattle.rules.specs.Card.{Card}
use Rattle.rules.specs.Refuse.{Refusal as Row}
use Rattle.rules.specs.Change.{admit, wake, block, remove, tick}
use Rattle.rules.specs.Change.{Change as Asked}
use Rattle.rules.specs.Turn.{Call, ok, refused, turn}
use Rattle.rules.specs.Turn.{Report as ReportRule}
use Rattle.rules.specs.Turn.{Reply as Said}
use Rattle.rules.specs.Turn.{Answer as Given}
use Rattle.turns.specs.declared.Description.{Description}
use Rattle.turns.specs.declared.Change.{Change}
use Rattle.turns.specs.declared.Change.TheVariants.{Admit, Wake, Block, Remove, Tick}
use Rattle.turns.specs.declared.Refusal.{Refusal}
use Rattle.turns.specs.declared.Refusal.TheVariants.{BadTime, BeforeLast, PastTimer, BadTunnel, BadPeriod}
use Rattle.turns.specs.declared.Refusal.TheVariants.{NotOnCard, Full, BadKind, NoCapacity, CapacityAbovePeriod}
use Rattle.turns.specs.declared.Refusal.TheVariants.{OnCard as IsOnCard, Remembered as IsRemembered}
use Rattle.turns.specs.declared.Report.{Report}
use Rattle.turns.specs.declared.Answer.{Answer}
use Rattle.turns.specs.declared.Kind.{Kind}
use Rattle.turns.specs.declared.Presence.{Presence}
use Rattle.turns.specs.declared.Presence.TheVariants.{OnCard, Remembered, Absent}
use Rattle.turns.specs.declared.Vcpu.{Vcpu}
use Rattle.turns.specs.Written.{written, no_tenant, kind_as, number_in, moment_in, number_said, moment_said}

abbrev pub described : Description → Terms
described d = record { tunnel = d.tunnel.0; period = d.period.0; capacity = d.capacity.0; priority = d.priority; kind = d.kind }

abbrev pub asked : Change → Asked
asked (Admit d) = admit (described d)
asked (Wake t) = wake t.0
asked (Block t) = block t.0
asked (Remove t) = remove t.0
asked Tick = tick

abbrev pub call_of : Moment → Change → Call
call_of now change = record { now = now.0; asked = asked change }

-- the paper's number of each row, and what it tells beside it
abbrev pub number_of : Refusal → ℕ
number_of BadTime = 1
number_of BeforeLast = 2
number_of (PastTimer t) = 3
number_of BadTunnel = 4
number_of BadPeriod = 5
number_of IsOnCard = 6
number_of NotOnCard = 7
number_of Full = 8
number_of (IsRemembered t) = 9
number_of BadKind = 10
number_of NoCapacity = 11
number_of CapacityAbovePeriod = 12

abbrev pub detail_of : Refusal → ℕ
detail_of BadTime = 0
detail_of BeforeLast = 0
detail_of (PastTimer t) = t.0
detail_of BadTunnel = 0
detail_of BadPeriod = 0
detail_of IsOnCard = 0
detail_of NotOnCard = 0
detail_of Full = 0
detail_of (IsRemembered t) = t.0
detail_of BadKind = 0
detail_of NoCapacity = 0
detail_of CapacityAbovePeriod = 0

abbrev pub paper_refusal : Refusal → Row
paper_refusal x = record { number = number_of x; detail = detail_of x }

-- the paper's number and values of each answer, as the promises use them; none is idle, or no timer
abbrev pub paper_reply : Result Report Refusal → Said
paper_reply (Ok r) =
    ok (record {
      time = r.time.0;
      run = number_in r.run;
      usable = r.usable.0;
      timer = moment_in r.timer;
      brought = r.brought.0;
    })
paper_reply (Err x) = refused (paper_refusal x)

-- the identifier is on the card
abbrev pub paper_presence : Presence → Bool
paper_presence OnCard = true
paper_presence (Remembered m) = false
paper_presence Absent = false

-- the time that it is remembered with, if it is
abbrev pub paper_remembered : Presence → Option ℕ
paper_remembered OnCard = none
paper_remembered (Remembered m) = some m.0
paper_remembered Absent = none

-- the other way: the answer that has the paper's number and values
abbrev pub refusal_said : Row → Refusal
refusal_said r =
    cond (eqb r.number 1) BadTime
    (cond (eqb r.number 2) BeforeLast
    (cond (eqb r.number 3) (PastTimer (moment r.detail))
    (cond (eqb r.number 4) BadTunnel
    (cond (eqb r.number 5) BadPeriod
    (cond (eqb r.number 6) IsOnCard
    (cond (eqb r.number 7) NotOnCard
    (cond (eqb r.number 8) Full
    (cond (eqb r.number 9) (IsRemembered (moment r.detail))
    (cond (eqb r.number 10) BadKind
    (cond (eqb r.number 11) NoCapacity CapacityAbovePeriod))))))))))

abbrev pub report_said : ReportRule → Report
report_said r =
    record {
      time = moment r.time;
      run = number_said r.run;
      usable = amount r.usable;
      timer = moment_said r.timer;
      brought = amount r.brought;
    }

abbrev pub reply_said : Said → Result Report Refusal
reply_said (ok r) = Ok (report_said r)
reply_said (refused r) = Err (refusal_said r)

abbrev pub answer_of : Given → Answer
answer_of a = record { core = a.card; reply = reply_said a.reply }

-- the whole answer of a call at `now`: the rules' turn of the card that the core shows
unfoldable pub turned : Card → Moment → Change → Answer
turned c now change = answer_of (turn c (call_of now change))

-- everything of a VCPU; where there is none, the record of a vacant place
abbrev pub looked : Option Tenant → Vcpu
looked none = written no_tenant
looked (some v) = written v

-- the next boundary of the VCPU found; none of a sporadic one, and where there is none
abbrev pub boundary_of : Option Tenant → Option ℕ
boundary_of none = none
boundary_of (some v) = v.boundary

-- the kind that a byte asks for, of the three that there are; row 10 for any other
abbrev pub kind_gives : ℕ → Result Kind Refusal → Type 0
kind_gives n r = r ≡ if ltb largest_kind n then Err BadKind else Ok (kind_as n)
