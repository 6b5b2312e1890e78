-- What the bytes sent to the program and the lines that it writes say of the calls: the core is made by the calls of the records, the
-- lines are those of their replies, and all that is promised of calls, demand 3 among it, holds of these. Proved of every input in
-- proofs/Answers. Assumes nothing.
use Rattle.std.specs.Prelude.{ℕ, ◌+◌, ◌≡◌, Bool, true, false, List, [], ◌∷◌, ◌++◌, map, eqb, length, drop}
use Rattle.std.specs.Prelude.{Option, None, Some}
use Rattle.rules.specs.Lists.{count, All, Among}
use Rattle.turns.specs.Calls.{paper_reply}
use Rattle.turns.specs.State.{Asking, made, calls_of}
use Rattle.turns.specs.Promised.{exchanges, Promised}
use Rattle.records.specs.declared.answers.BadRecord.{BadRecord}
use Rattle.records.specs.Answer.{bad_number, bad_detail}
use Rattle.records.specs.Bytes.{AreBytes}
use Rattle.records.specs.Encode.{InRange}
use Rattle.records.specs.Rows.{Detail}
use Rattle.lines.specs.Serve.{Run, waits_for, serve_of, card_lines}
use Rattle.lines.specs.Parts.{Part, one_piece, in_parts}
use Rattle.lines.specs.Asked.{asked_after, asked, sent, Ended, records, replies, lines_of, last_line}

abbrev pub newlines : List ℕ → ℕ
newlines text = count (eqb 10) text

-- reading ends only at these
abbrev pub stops_at : List ℕ
stops_at = 20 ∷ 21 ∷ 22 ∷ []

-- a part of the input that begins at this offset, served with any room for lines from the core that the calls before made
pub record Answered (before : List Asking) (offset : ℕ) (s : List ℕ) (last : Bool) (run : Run) : Type 0 where
  -- the calls before and those of the records answered, and the refusal at which it stopped
  pub calls : List Asking
  pub stop : Option BadRecord
  pub core_is : run.core ≡ made calls
  pub refused_is : run.refused ≡ stop
  pub lines_are : lines_of (replies before) ++ run.lines ≡ lines_of (replies calls) ++ last_line stop
  -- the bytes used are those of the records answered
  pub used-is : length (sent before) + run.used ≡ length (sent calls)
  -- the bytes that are left ask for the rest
  pub rest-asks : asked_after before offset s ≡ asked_after calls (offset + run.used) (drop run.used s)
  pub refused : (b : BadRecord) → stop ≡ Some b
      → (waits_for b last ≡ false) × (asked_after before offset s ≡ record { calls = calls; refusal = Some b })
  -- the detail is where the bad record begins: behind the bytes used, whatever the part's offset
  pub stops_where : (b : BadRecord) → stop ≡ Some b → Among (bad_number b) stops_at × Detail (offset + run.used) (bad_detail b)

-- the whole input, from the empty core
pub record Answers (input : List ℕ) : Type 0 where
  -- where they are bytes, they are the records of the calls, in their order, and then what reading ended at
  pub input-is : AreBytes input
      → (rest : List ℕ) × (input ≡ sent (asked input).calls ++ rest)
      × Ended (length (sent (asked input).calls)) rest (asked input).refusal
  -- and the other way: whatever calls a host sends as records, with whatever behind them, these are the calls that are asked for
  pub calls_are : (calls : List Asking) (rest : List ℕ) (o : Option BadRecord) → All InRange (calls_of calls)
      → Ended (length (sent calls)) rest o → input ≡ sent calls ++ rest → asked input ≡ record { calls = calls; refusal = o }
  -- the calls of the records make the core, and the bytes used are those of these records
  pub core_is : (serve_of (made []) 0 input true None).core ≡ made (asked input).calls
  pub used-is : (serve_of (made []) 0 input true None).used ≡ length (sent (asked input).calls)
  -- all that is written: the lines of the replies, in the order of the records, then the line of the refusal
  pub lines_are : card_lines input ≡ lines_of (replies (asked input).calls) ++ last_line (asked input).refusal
  pub a_line_each : newlines (card_lines input) ≡ records (asked input)
  pub empty-none : input ≡ [] → card_lines input ≡ []
  -- and the same in whatever parts the input comes, with whatever room for lines
  pub in_any_parts : (ps : List Part) → one_piece ps ≡ input → in_parts (made []) 0 [] ps ≡ serve_of (made []) 0 input true None
  -- the detail is where the bad record begins: behind the bytes of the records before it
  pub stops_where : (b : BadRecord) → (asked input).refusal ≡ Some b
      → Among (bad_number b) stops_at × Detail (length (sent (asked input).calls)) (bad_detail b)
  -- these replies are those that demand 3 is told by, and all that a host may rely on holds of these calls
  pub replies_are : map paper_reply (replies (asked input).calls) ≡ map (λ x. x.reply) (exchanges (asked input).calls)
  pub promised : Promised (asked input).calls
