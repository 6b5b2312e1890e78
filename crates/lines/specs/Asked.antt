-- Document 01, "Event records and lines", with document 02's offset: the calls that an input's records ask for, the refusal at which
-- reading ends, the replies of the calls from the empty core on, and their lines. Calls and replies are listed with the latest first.
-- Assumes nothing.
use Rattle.std.specs.Prelude.{ℕ, zero, suc, ◌+◌, ◌≤◌, ◌≡◌, cond, List, [], ◌∷◌, ◌++◌, eqb, length, drop}
use Rattle.std.specs.Prelude.{Option, None, Some, Result, Ok, Err}
use Rattle.turns.specs.declared.Report.{Report}
use Rattle.turns.specs.declared.Refusal.{Refusal}
use Rattle.turns.specs.Calls.{call_of, turned}
use Rattle.turns.specs.State.{Asking, made}
use Rattle.records.specs.declared.answers.Event.{Event}
use Rattle.records.specs.declared.answers.BadRecord.{BadRecord}
use Rattle.records.specs.Answer.{paper_bad, read_spec}
use Rattle.records.specs.Encode.{size_of, record_of}
use Rattle.lines.specs.Text.{line_of, refusal_text}

-- the call that an event asks for
abbrev pub asking_of : Event → Asking
asking_of e = record { now = e.time; change = e.change }

-- the calls that were read, and the refusal at which reading ended; none where the bytes ended
pub record Asked : Type 0 where
  pub calls : List Asking
  pub refusal : Option BadRecord

-- "At the end of input the program asks for no further record."
abbrev pub ends : List Asking → Asked
ends before = record { calls = before; refusal = None }

-- an event's call, and what `next` reads behind its record; "on a refusal reading ends there"
abbrev pub reads : (List Asking → ℕ → List ℕ → Asked) → List Asking → ℕ → List ℕ → Result Event BadRecord → Asked
reads next before offset s (Ok e) = next (asking_of e ∷ before) (offset + size_of e) (drop (size_of e) s)
reads next before offset s (Err b) = record { calls = before; refusal = Some b }

-- the records at the front of s, which begins at this offset from the start of input, at most `fuel` of them, behind the calls before
unfoldable pub asks : ℕ → List Asking → ℕ → List ℕ → Asked
asks zero before offset s = ends before
asks (suc fuel) before offset s =
    cond (eqb (length s) 0) (ends before) (reads (asks fuel) before offset s (read_spec offset s))

-- all the records of s: each has a byte, so there are no more of them than bytes
unfoldable pub asked_after : List Asking → ℕ → List ℕ → Asked
asked_after before offset s = asks (length s) before offset s

-- what the whole input asks for
abbrev pub asked : List ℕ → Asked
asked input = asked_after [] 0 input

-- the records of calls, in their order
abbrev pub sent : List Asking → List ℕ
sent [] = []
sent (a ∷ before) = sent before ++ record_of (call_of a.now a.change)

-- what is left where reading ended, at this offset: no byte, or a record that is refused
abbrev pub Ended : ℕ → List ℕ → Option BadRecord → Type 0
Ended offset rest None = rest ≡ []
Ended offset rest (Some b) = (1 ≤ length rest) × (read_spec offset rest ≡ Err b)

-- one record for each call, and the refused one if there is one
abbrev pub refused_records : Option BadRecord → ℕ
refused_records None = 0
refused_records (Some b) = 1

abbrev pub records : Asked → ℕ
records a = length a.calls + refused_records a.refusal

-- the reply to each call, from the core that the calls before it made
abbrev pub replies : List Asking → List (Result Report Refusal)
replies [] = []
replies (a ∷ before) = (turned (made before) a.now a.change).reply ∷ replies before

-- the lines of the replies, in the order of the calls
abbrev pub lines_of : List (Result Report Refusal) → List ℕ
lines_of [] = []
lines_of (r ∷ before) = lines_of before ++ line_of r

-- the line of the refusal, if there is one
abbrev pub last_line : Option BadRecord → List ℕ
last_line None = []
last_line (Some b) = refusal_text (paper_bad b)
