-- A table of zeros passes over nothing. Assumes nothing.
use Rattle.std.proofs.Common.{ℕ, replicate}
use Rattle.shares.proofs.LeapLaws.{leaps-zero, zeros}
use lib.ListN.{length-replicate}
use Rattle.shares.proofs.calls.check.Goals as goal

pub invariant_of-search : goal.invariant_of-search
invariant_of-search c =
    record { filled = c.fill.ensures; leapt = leaps-zero _ _ (replicate {A = ℕ} 32016 0) _ (length-replicate {A = ℕ} 32016 0) (zeros 32016) }
