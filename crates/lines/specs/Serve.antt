-- Document 01, "Event records and lines", with document 02's offset: the records of a part of the input, each with its line, and where
-- serving ends. Assumes nothing.
use Rattle.std.specs.Prelude.{ℕ, zero, suc, ◌+◌, ◌-◌, Bool, true, false, cond, not, ◌&&◌, ◌||◌, List, [], ◌++◌, ltb, eqb, length, drop}
use Rattle.std.specs.Prelude.{Option, None, Some, is_some, Result, Ok, Err}
use Rattle.rules.specs.Card.{Card}
use Rattle.turns.specs.declared.Answer.{Answer}
use Rattle.turns.specs.State.{made}
use Rattle.turns.specs.Calls.{turned}
use Rattle.records.specs.declared.answers.Event.{Event}
use Rattle.records.specs.declared.answers.BadRecord.{BadRecord}
use Rattle.records.specs.Answer.{bad_number, paper_bad, read_spec}
use Rattle.records.specs.Encode.{size_of}
use Rattle.lines.specs.declared.serving.Served.{Served}
use Rattle.lines.specs.Text.{line_of, refusal_text, longest}

-- what serving gives: the core, by its card, the bytes of the records answered, the lines, and how the input was refused, if it was
pub record Run : Type 0 where
  pub core : Card
  pub used : ℕ
  pub lines : List ℕ
  pub refused : Option BadRecord

abbrev pub stopped : Run → Bool
stopped r = is_some r.refused

-- nothing more is answered for now: the next record waits for its rest, or its line for room, or there is none
abbrev pub rests : Card → Run
rests core = record { core = core; used = 0; lines = []; refused = None }

-- "After 20, 21 or 22 the program stops."
abbrev pub stops : Card → BadRecord → Run
stops core b = record { core = core; used = 0; lines = refusal_text (paper_bad b); refused = Some b }

-- a record that is cut short waits for the rest, unless no more input will come
abbrev pub waits_for : BadRecord → Bool → Bool
waits_for b last = eqb (bad_number b) 20 && not last

abbrev pub refuses : Card → Bool → BadRecord → Run
refuses core last b = cond (waits_for b last) (rests core) (stops core b)

-- a record's line, then what comes behind it
abbrev pub behind : ℕ → List ℕ → Run → Run
behind size line rest = record { core = rest.core; used = size + rest.used; lines = line ++ rest.lines; refused = rest.refused }

-- whether a longest line has no room, and the room that a line leaves; `None` is room for all
abbrev pub full : Option ℕ → Bool
full None = false
full (Some room) = ltb room longest

abbrev pub less : Option ℕ → ℕ → Option ℕ
less None n = None
less (Some room) n = Some (room - n)

-- an event's line and what `next` gives for the bytes behind its record, or the refusal
abbrev pub answers : (Card → ℕ → List ℕ → Bool → Option ℕ → Run) → Card → ℕ → List ℕ → Bool → Option ℕ → Result Event BadRecord → Run
answers next core offset s last room (Ok e) =
    let a : Answer = turned core e.time e.change in
    behind (size_of e) (line_of a.reply)
    (next a.core (offset + size_of e) (drop (size_of e) s) last (less room (length (line_of a.reply))))
answers next core offset s last room (Err b) = refuses core last b

-- the records at the front of s, which begins at this offset from the start of input, at most `fuel` of them. "At the end of input the
-- program asks for no further record": where no byte is left, or no room for a longest line, nothing is read
unfoldable pub served : ℕ → Card → ℕ → List ℕ → Bool → Option ℕ → Run
served zero core offset s last room = rests core
served (suc fuel) core offset s last room =
    cond (eqb (length s) 0 || full room) (rests core) (answers (served fuel) core offset s last room (read_spec offset s))

-- all the records at the front of s that can be answered: each has a byte, so there are no more of them than bytes
unfoldable pub serve_of : Card → ℕ → List ℕ → Bool → Option ℕ → Run
serve_of core offset s last room = served (length s) core offset s last room

-- what the program writes for the whole of its input, from the core before any call
abbrev pub card_lines : List ℕ → List ℕ
card_lines input = (serve_of (made []) 0 input true None).lines

-- what `serve` answers: the lines stand in the room, and their length is told
abbrev pub handed : Run → Served
handed r = record { used = r.used; written = length r.lines; refused = r.refused }
