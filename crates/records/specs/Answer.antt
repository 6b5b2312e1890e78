-- The paper's number and values of what reading answers; and, the other way, the answer that says them, which the definitions of `lines`
-- cite. proofs/Paper shows that it undoes the one, and proofs/Exactly that the one undoes it of
-- what reading gives. Assumes nothing.
use Rattle.std.specs.Prelude.{ℕ, cond, List, eqb, Result, Ok, Err}
use Rattle.units.specs.Units.{moment, amount, tunnel}
use Rattle.rules.specs.Change.{Change, admit, wake, block, remove, tick}
use Rattle.rules.specs.Refuse.{Refusal}
use Rattle.rules.specs.Turn.{Call}
use Rattle.turns.specs.declared.Change.{Change as Asking}
use Rattle.turns.specs.declared.Change.TheVariants.{Admit, Wake, Block, Remove, Tick}
use Rattle.turns.specs.Calls.{call_of}
use Rattle.records.specs.declared.answers.Event.{Event}
use Rattle.records.specs.declared.answers.BadRecord.{BadRecord}
use Rattle.records.specs.declared.answers.BadRecord.TheVariants.{CutShort, UnknownTag, BadLength}
use Rattle.records.specs.Record.{Reading, event, refused, reading}

-- the call that an event asks for
abbrev pub paper_event : Event → Call
paper_event e = call_of e.time e.change

-- "header short 20 (no bytes at all too), tag 21, length 22, payload short 20"
abbrev pub bad_number : BadRecord → ℕ
bad_number (CutShort offset) = 20
bad_number (UnknownTag offset) = 21
bad_number (BadLength offset) = 22

abbrev pub bad_detail : BadRecord → ℕ
bad_detail (CutShort offset) = offset
bad_detail (UnknownTag offset) = offset
bad_detail (BadLength offset) = offset

abbrev pub paper_bad : BadRecord → Refusal
paper_bad b = record { number = bad_number b; detail = bad_detail b }

-- the event of an answer, or its number and detail
abbrev pub paper_read : Result Event BadRecord → Reading
paper_read (Ok e) = event (paper_event e)
paper_read (Err b) = refused (paper_bad b)

-- the other way
abbrev pub change_said : Change → Asking
change_said (admit d) =
    Admit (record {
      tunnel = tunnel d.tunnel;
      period = amount d.period;
      capacity = amount d.capacity;
      priority = d.priority;
      kind = d.kind;
    })
change_said (wake t) = Wake (tunnel t)
change_said (block t) = Block (tunnel t)
change_said (remove t) = Remove (tunnel t)
change_said tick = Tick

abbrev pub event_said : ℕ → Change → Event
event_said now a = record { time = moment now; change = change_said a }

-- reading gives no other number than 20, 21 and 22
abbrev pub bad_said : ℕ → ℕ → BadRecord
bad_said number offset =
    cond (eqb number 20) (CutShort offset) (cond (eqb number 21) (UnknownTag offset) (BadLength offset))

abbrev pub read_said : Reading → Result Event BadRecord
read_said (event c) = Ok (event_said c.now c.asked)
read_said (refused r) = Err (bad_said r.number r.detail)

-- the answer for the record that begins the bytes, at this offset from the start of input
unfoldable pub read_spec : ℕ → List ℕ → Result Event BadRecord
read_spec offset s = read_said (reading offset s)
