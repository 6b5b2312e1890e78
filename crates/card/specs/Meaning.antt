-- What a run of the program means, in plain facts: of what it ends with and of its reads, the latest first. Assumes nothing.
use Rattle.std.specs.Prelude.{ℕ, ◌^◌, ◌≤◌, ◌≡◌, true, false, List, [], ◌∷◌, ◌++◌, ◌⊎◌, length, Some, None}
use Rattle.reads.specs.declared.machine.End.TheVariants.{EndOfInput, Refused, ReadFailed, WriteFailed, ByteLimit}
use Rattle.reads.specs.Reads.{Read, brought, came, at_end, has_failed}
use Rattle.reads.specs.Machine.{Round}
use Rattle.turns.specs.State.{made}
use Rattle.records.specs.Bytes.{AreBytes}
use Rattle.records.specs.Rows.{Detail}
use Rattle.records.specs.declared.answers.BadRecord.{BadRecord}
use Rattle.records.specs.Answer.{bad_detail}
use Rattle.lines.specs.Serve.{Run, stopped, serve_of, card_lines}
use Rattle.lines.specs.Asked.{asked, sent}
use Rattle.lines.specs.Answers.{Answers}
use Rattle.card.specs.declared.Teller.{Teller}

-- all bytes that came, served in one piece from the core before any call
abbrev pub whole : List Read → Run
whole reads = serve_of (made []) 0 (came reads) (at_end reads) None

pub record Meaning (r : Round Teller) (reads : List Read) : Type 0 where
  -- a read that answers k brings k bytes
  pub all-brought : (x : Read) (k : ℕ) → x.got ≡ Some k → length (brought x) ≡ k
  -- every byte that came is served
  pub every_byte : (r.standing ≡ Some WriteFailed → ⊥) → (r.machine.core ≡ (whole reads).core) × (r.offset ≡ (whole reads).used)
  -- "After 20, 21 or 22 the program stops": exactly when serving all that came stops
  pub refused : (r.standing ≡ Some WriteFailed → ⊥)
      → (r.standing ≡ Some Refused → stopped (whole reads) ≡ true) × (stopped (whole reads) ≡ true → r.standing ≡ Some Refused)
  -- the end of input: exactly when a read answered 0 and nothing was refused; all bytes that came are used then
  pub end_of_input : r.standing ≡ Some EndOfInput → (at_end reads ≡ true) × (stopped (whole reads) ≡ false) × (r.offset ≡ length (came reads))
  pub at_the_end : (r.standing ≡ Some WriteFailed → ⊥) → at_end reads ≡ true → stopped (whole reads) ≡ false → r.standing ≡ Some EndOfInput
  -- a failed read: exactly when the latest read failed
  pub read-failed : (r.standing ≡ Some WriteFailed → ⊥)
      → (r.standing ≡ Some ReadFailed → has_failed reads ≡ true) × (has_failed reads ≡ true → r.standing ≡ Some ReadFailed)
  -- the byte limit is beyond what any run uses, and there is no other reason to end
  pub byte_limit : r.standing ≡ Some ByteLimit → 2 ^ 63 ≤ r.offset
  pub a_reason : r.standing ≡ None → ⊥
  -- no read comes after a refusal, after the end of input, or after a read that failed
  pub no-more-reads : (later : List Read) (x : Read) (before : List Read) → reads ≡ later ++ (x ∷ before)
      → (stopped (whole before) ≡ false) × (at_end before ≡ false) × (has_failed before ≡ false)
  -- the bytes used are those of the records of the calls; where the program is refused it hands back the input's refusal, whose detail is
  -- where the bad record begins: behind them
  pub used-is : (r.standing ≡ Some WriteFailed → ⊥) → r.offset ≡ length (sent (asked (came reads)).calls)
  pub refused-at : r.standing ≡ Some Refused
      → (b : BadRecord) × (r.machine.refused ≡ Some b) × ((asked (came reads)).refusal ≡ Some b) × Detail r.offset (bad_detail b)
  -- from bytes to demand 3: the calls of the records that came make the core, where the input ended or was refused the lines served are
  -- those of the whole input, and what is promised of an input and its calls holds of the bytes that came
  pub calls-made : (r.standing ≡ Some WriteFailed → ⊥) → r.machine.core ≡ made (asked (came reads)).calls
  pub lines-served : (r.standing ≡ Some EndOfInput) ⊎ (r.standing ≡ Some Refused) → (whole reads).lines ≡ card_lines (came reads)
  pub are_bytes : AreBytes (came reads)
  pub answers : Answers (came reads)
