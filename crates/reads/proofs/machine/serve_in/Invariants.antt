-- `serve_in` ends: each round that goes on reads a byte, and the measure is what may still be read. The invariant: what the rounds so far left
-- is what serving all bytes that came gives. Assumes nothing.
use Rattle.std.proofs.Common.{◌≡◌, ◌+◌, ◌-◌, ◌≤◌, length}
use Rattle.reads.specs.Machine.{round_at}
use Rattle.reads.proofs.Runs.{Under}
use Rattle.reads.proofs.machine.serve_in.Given as goal

abbrev pub invariant-loop-n : goal.invariant-loop-n
invariant-loop-n g l =
    (65536 ≡ length l.input) × (4096 ≤ length l.room)
    × Under g.M.Machine.run g.M.Machine.ending g.met.M.Machine.run_nil g.met.M.Machine.run_more g.met.M.Machine.few_wait l.fn.machine (g.R.Read.remaining l.fn.from) (g.R.Read.remaining l.from)
    (g.W.Write.contents l.fn.output) (g.W.Write.contents l.output) (round_at l.machine l.stand) l.input

abbrev pub decreases-loop-n : goal.decreases-loop-n
decreases-loop-n g l = 18446744073709065536 - (l.stand.offset + l.stand.held)
