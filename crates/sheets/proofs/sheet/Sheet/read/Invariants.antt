-- `read` gathers the tasks line by line: they and what the lines left give are what all of them give. Assumes nothing.
use mathlib.Core.Path.{◌≡◌}
use lib.ListN.{length}
use Rattle.sheets.specs.Sheet.{read_of}
use Rattle.sheets.proofs.Tasks.{so_far}
use Rattle.sheets.proofs.sheet.Sheet.read.Given as goal

abbrev pub invariant-loop-rest : goal.invariant-loop-rest
invariant-loop-rest l = read_of l.bytes ≡ so_far l.sheet l.rest

abbrev pub decreases-loop-rest : goal.decreases-loop-rest
decreases-loop-rest l = length l.rest
