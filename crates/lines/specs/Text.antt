-- Document 01, "Event records and lines": the line of a reply, byte for byte. Assumes nothing.
use Rattle.std.specs.Prelude.{ℕ, cond, List, [], ◌∷◌, ◌++◌, ltb, length, Result, Ok, Err, None, Some}
use Rattle.std.specs.Prelude.{Option as Perhaps}
use Rattle.std.proofs.Math.Option.{Option, none, some}
use Rattle.rules.specs.Refuse.{Refusal as RefusalRule}
use Rattle.rules.specs.Turn.{Report as ReportRule}
use Rattle.rules.specs.Turn.{Reply as Said}
use Rattle.rules.specs.Turn.{ok as accepted, refused}
use Rattle.text.specs.Text.{decimal, ok, no, fields}
use Rattle.turns.specs.declared.Report.{Report}
use Rattle.turns.specs.declared.Refusal.{Refusal}
use Rattle.turns.specs.Calls.{number_of, detail_of, paper_reply}
use Rattle.records.specs.declared.answers.BadRecord.{BadRecord}
use Rattle.records.specs.Answer.{bad_number, bad_detail}
use Rattle.lines.specs.declared.line.Row.{Row}

-- "-"
abbrev pub dash : List ℕ
dash = 45 ∷ []

-- RUN and TIMER, `-` for idle and for none
abbrev pub or_dash : Option ℕ → List ℕ
or_dash none = dash
or_dash (some n) = decimal n

-- between private functions: the same of the code's Option
abbrev pub dashed : Perhaps ℕ → List ℕ
dashed None = dash
dashed (Some n) = decimal n

-- `ok TIME RUN USABLE TIMER BROUGHT`
abbrev pub report_text : ReportRule → List ℕ
report_text r =
    ok ++ fields (decimal r.time ∷ or_dash r.run ∷ decimal r.usable ∷ or_dash r.timer ∷ decimal r.brought ∷ [])

-- `no NUMBER DETAIL`
abbrev pub refusal_text : RefusalRule → List ℕ
refusal_text r = no ++ fields (decimal r.number ∷ decimal r.detail ∷ [])

-- the line of a reply's number and values on paper, and that of a reply
abbrev pub line_said : Said → List ℕ
line_said (accepted r) = report_text r
line_said (refused r) = refusal_text r

abbrev pub line_of : Result Report Refusal → List ℕ
line_of reply = line_said (paper_reply reply)

-- the row of a call's refusal, and that of a record's
abbrev pub row_of : Refusal → Row
row_of x = record { number = number_of x; detail = detail_of x }

abbrev pub record_row : BadRecord → Row
record_row b = record { number = bad_number b; detail = bad_detail b }

-- the number and values on paper of any reply that a line tells: a refusal may have any number and detail
abbrev pub row_said : Result Report Row → Said
row_said (Ok r) = paper_reply (Ok r)
row_said (Err x) = refused (record { number = x.number; detail = x.detail })

-- no line is longer: two letters, five fields of at most 20 digits, each behind a space, and a newline
abbrev pub longest : ℕ
longest = 108

-- the line of any such reply, where a longest one has room
abbrev pub line_in : Result Report Row → List ℕ → List ℕ
line_in reply out = cond (ltb (length out) longest) [] (line_said (row_said reply))

-- .., and that of any refusal by its numbers alone
abbrev pub refusal_in : ℕ → ℕ → List ℕ → List ℕ
refusal_in number detail out = cond (ltb (length out) longest) [] (refusal_text (record { number = number; detail = detail }))
