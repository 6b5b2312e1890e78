-- Document 01, "Program": what the program makes of its reads. A run of it is `Ran program`, as crate `reads` has it for every program.
-- Assumes nothing.
use Rattle.std.specs.Prelude.{[], Option, Some, None}
use Rattle.std.specs.Option.{option_or}
use Rattle.reads.specs.declared.machine.End.{End}
use Rattle.reads.specs.declared.machine.End.TheVariants.{Refused}
use Rattle.reads.specs.Machine.{Run, Serving, Round, program_of}
use Rattle.reads.specs.Program.{Program}
use Rattle.turns.specs.State.{made}
use Rattle.records.specs.declared.answers.BadRecord.{BadRecord}
use Rattle.lines.specs.Serve.{Run as Served, serve_of}
use Rattle.card.specs.declared.Teller.{Teller}

-- "After 20, 21 or 22 the program stops."
abbrev pub end_of : Option BadRecord → Option End
end_of (Some b) = Some Refused
end_of None = None

-- what serving gives, as the machine tells it
abbrev pub told : Option BadRecord → Served → Run Teller
told before r =
    record {
      machine = record { core = r.core; refused = option_or r.refused before };
      used = r.used;
      text = r.lines;
      end = end_of r.refused;
    }

-- the bytes s, which begin at `offset`, are served; those of a record that is not whole yet wait
abbrev pub run_of : Serving Teller
run_of m offset s last = told m.refused (serve_of m.core offset s last None)

-- the core before any call
abbrev pub uncalled : Teller
uncalled = record { core = made []; refused = None }

abbrev pub program : Program (Round Teller)
program = program_of run_of None uncalled
