-- What the program makes of its reads: it holds every byte that comes, and answers them all where the input has ended or is too long. A run
-- of it is `Ran program`, as crate `reads` has it for every program. Assumes nothing.
use Rattle.std.specs.Prelude.{ℕ, cond, ◌||◌, List, length, Option, Some, None}
use Rattle.reads.specs.declared.machine.End.{End}
use Rattle.reads.specs.declared.machine.End.TheVariants.{ByteLimit}
use Rattle.reads.specs.Machine.{Run, unserved, Serving, Round, program_of}
use Rattle.reads.specs.Program.{Program}
use Rattle.queries.specs.Meaning.{is_long}
use Rattle.sales.specs.declared.Sale.{Sale}
use Rattle.sales.specs.Sales.{answer_to}

-- too many bytes are a reason to end
abbrev pub end_of : List ℕ → Option End
end_of s = cond (is_long s) (Some ByteLimit) None

-- the end, with the bytes s: their answer is served, and the reason is the byte limit where they are too many
abbrev pub ended : List ℕ → Run Sale
ended s = record { machine = record { served = length (answer_to s) }; used = 0; text = answer_to s; end = end_of s }

-- what is made of the bytes s, all that came: nothing while more may come
abbrev pub run_of : Serving Sale
run_of m offset s last = cond (last || is_long s) (ended s) (unserved m)

-- before any answer
abbrev pub unasked_yet : Sale
unasked_yet = record { served = 0 }

abbrev pub program : Program (Round Sale)
program = program_of run_of None unasked_yet
