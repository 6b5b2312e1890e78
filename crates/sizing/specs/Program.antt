-- What the program makes of its reads: each line is answered when its newline has come, and the last one at the end of the input. A run
-- of it is `Ran program`, as crate `reads` has it for every program. Assumes nothing.
use Rattle.std.specs.Prelude.{ℕ, suc, ◌+◌, Bool, false, cond, ◌||◌, List, [], ◌∷◌, ◌++◌, length, Option, Some, None}
use Rattle.reads.specs.Machine.{Serving, Round, program_of}
use Rattle.reads.specs.Program.{Program}
use Rattle.queries.specs.Text.{said, bad_line}
use Rattle.queries.specs.Meaning.{until, behind, is_long, line_means}
use Rattle.sizing.specs.declared.Sizer.{Sizer}

-- what serving some bytes gives: whether the line that has begun is too long already, how many bytes are used, and the answers
pub record Run : Type 0 where
  pub long : Bool
  pub used : ℕ
  pub text : List ℕ

-- one run and then another
abbrev pub further : Run → Run → Run
further a b = record { long = b.long; used = a.used + b.used; text = a.text ++ b.text }

-- a line that has not ended waits, and none of it is used; one that is too long is let go as it comes
abbrev pub rests : Bool → List ℕ → Run
rests long l = record { long = long || is_long l; used = cond (long || is_long l) (length l) 0; text = [] }

-- the answer to a line that has ended, of which l are the bytes that were not let go
abbrev pub line_answer : Bool → List ℕ → List ℕ
line_answer long l = cond long (said bad_line []) (line_means l)

-- the line l and those behind it, of which all but the last have ended
abbrev pub served : Bool → List ℕ → List (List ℕ) → Run
served long l [] = rests long l
served long l (m ∷ ms) = further (record { long = false; used = suc (length l); text = line_answer long l }) (served false m ms)

-- the bytes s; `long` says whether the line to which the first belong is too long already
abbrev pub serve_of : Bool → List ℕ → Run
serve_of long s = served long (until 10 s) (behind 10 s)

-- what the machine makes of the bytes s, wherever they begin
abbrev pub run_of : Serving Sizer
run_of m offset s last =
    record {
      machine = record { long = (serve_of m.long s).long };
      used = (serve_of m.long s).used;
      text = (serve_of m.long s).text;
      end = None;
    }

-- before any line
abbrev pub begun : Sizer
begun = record { long = false }

-- the end of the input is a newline to it
abbrev pub newline : Option ℕ
newline = Some 10

abbrev pub program : Program (Round Sizer)
program = program_of run_of newline begun
