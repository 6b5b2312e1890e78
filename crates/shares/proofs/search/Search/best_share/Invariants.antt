-- The best so far is the best of the periods passed, and one that was offered. Assumes nothing.
use Rattle.model.specs.Share.{best_of}
use Rattle.shares.specs.Paper.{paper_form}
use Rattle.shares.specs.Private.{IsOffered, paper_best}
use mathlib.Core.Path.{◌≡◌}
use Prim.Native.Nat.{◌-◌}
use Rattle.shares.proofs.search.Search.best_share.Given as goal

abbrev pub invariant-loop-p : goal.invariant-loop-p
invariant-loop-p l =
    (paper_best l.best ≡ best_of (paper_form l.self.form) l.self.tasks.periods.now l.self.tasks.costs.now (l.p - 1)) × IsOffered l.best
