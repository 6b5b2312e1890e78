-- `known_asked` reads the fields of a word, and asks. Assumes nothing.
use native.Mathlib.Omega.{arith}
use Rattle.queries.specs.Private.{pieces}
use Rattle.queries.proofs.Meaning.{heads-there}
use Rattle.queries.proofs.ask.known_asked.Goals as goal

pub asked-requires : goal.asked-requires
asked-requires c =
    let read = c.in_ok-fields_of.ensures in
    omega (arith, read.1, heads-there c.args.word (pieces 32 c.args.line.now) read.0)

pub returns : goal.returns
returns c =
    let read = c.in_ok-fields_of.ensures in
    rw read.0 (c.asked.ensures (pieces 32 c.args.line.now) read.2 read.1)
