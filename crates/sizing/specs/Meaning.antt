-- What a run of the program means, in plain facts: of what it ends with and of its reads, the latest first. Assumes nothing.
use Rattle.std.specs.Prelude.{ℕ, suc, ◌+◌, ◌^◌, ◌≤◌, ◌≡◌, true, false, cond, List, [], ◌∷◌, ◌++◌, length, drop, Some, None}
use Rattle.reads.specs.declared.machine.End.TheVariants.{EndOfInput, Refused, ReadFailed, WriteFailed, ByteLimit}
use Rattle.reads.specs.Reads.{Bytes, Read, brought, came, is_zero, at_end, has_failed}
use Rattle.reads.specs.Machine.{Round, ended}
use Rattle.queries.specs.Meaning.{until, behind, is_long, lines_mean, input_means}
use Rattle.sizing.specs.declared.Sizer.{Sizer}
use Rattle.sizing.specs.Program.{Run, serve_of, newline}

-- of the line l and those behind it: all but the last, and the last
abbrev pub all_but_last : List ℕ → List (List ℕ) → List (List ℕ)
all_but_last l [] = []
all_but_last l (m ∷ ms) = l ∷ all_but_last m ms

abbrev pub last_of : List ℕ → List (List ℕ) → List ℕ
last_of l [] = l
last_of l (m ∷ ms) = last_of m ms

-- of some bytes: the lines that have ended, and the one that has begun
abbrev pub ended_lines : List ℕ → List (List ℕ)
ended_lines s = all_but_last (until 10 s) (behind 10 s)

abbrev pub begun_line : List ℕ → List ℕ
begun_line s = last_of (until 10 s) (behind 10 s)

-- b begins with a
pub record Begins (a b : List ℕ) : Type 0 where
  pub rest : List ℕ
  pub is : b ≡ a ++ rest

-- all bytes that came, served in one piece; the end of the input ends the last line
abbrev pub whole : List Read → Run
whole reads = serve_of false (ended newline (at_end reads) (came reads))

-- the answers of the rounds, one after the other: to the bytes that waited and those that the read brought
abbrev pub in_rounds : List Read → List ℕ
in_rounds [] = []
in_rounds (x ∷ before) =
    in_rounds before
    ++ (serve_of (whole before).long (ended newline (is_zero x.got) (drop (whole before).used (came before) ++ brought x))).text

pub record Meaning (r : Round Sizer) (reads : List Read) : Type 0 where
  -- a read that answers k brings k bytes, and these are bytes
  pub all-brought : (x : Read) (k : ℕ) → x.got ≡ Some k → length (brought x) ≡ k
  pub are_bytes : Bytes (came reads)
  -- every byte that came is served
  pub every_byte : (r.standing ≡ Some WriteFailed → ⊥) → (r.machine.long ≡ (whole reads).long) × (r.offset ≡ (whole reads).used)
  -- before the end of input the line that has begun is held, unless it is too long; every other byte is used
  pub line-held : (r.standing ≡ Some WriteFailed → ⊥) → at_end reads ≡ false
      → (r.machine.long ≡ is_long (begun_line (came reads)))
      × (r.held ≡ cond (is_long (begun_line (came reads))) 0 (length (begun_line (came reads))))
      × (r.offset + r.held ≡ length (came reads))
  -- the end of input: exactly when a read answered 0; nothing is held then, and all is used, with the newline put behind it
  pub end_of_input : r.standing ≡ Some EndOfInput → (at_end reads ≡ true) × (r.held ≡ 0) × (r.offset ≡ suc (length (came reads)))
  pub at_the_end : (r.standing ≡ Some WriteFailed → ⊥) → at_end reads ≡ true → r.standing ≡ Some EndOfInput
  -- a failed read: exactly when the latest read failed
  pub read-failed : (r.standing ≡ Some WriteFailed → ⊥)
      → (r.standing ≡ Some ReadFailed → has_failed reads ≡ true) × (has_failed reads ≡ true → r.standing ≡ Some ReadFailed)
  -- the byte limit is beyond what any run uses, and there is no other reason to end
  pub byte_limit : r.standing ≡ Some ByteLimit → 2 ^ 63 ≤ r.offset
  pub a_reason : r.standing ≡ None → ⊥
  pub never-refused : r.standing ≡ Some Refused → ⊥
  -- no read comes after the end of input, or after a read that failed
  pub no-more-reads : (later : List Read) (x : Read) (before : List Read) → reads ≡ later ++ (x ∷ before)
      → (at_end before ≡ false) × (has_failed before ≡ false)
  -- the answers of the rounds are those of serving all in one piece
  pub seen_in_rounds : in_rounds reads ≡ (whole reads).text
  -- the answers served are those of the lines that have ended, and stand whatever comes; at the end of input, those of the whole input
  pub lines-answered : at_end reads ≡ false → (whole reads).text ≡ lines_mean (ended_lines (came reads))
  pub answers-stand : at_end reads ≡ false → (later : List ℕ) → Begins (whole reads).text (input_means (came reads ++ later))
  pub input-answered : at_end reads ≡ true → (whole reads).text ≡ input_means (came reads)
