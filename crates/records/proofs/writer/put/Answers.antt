-- `records::writer::put` meets its contract: the part is copied. Assumes nothing.
use native.Mathlib.Omega.{arith}
use Rattle.records.proofs.Laid.{copied}
use Rattle.records.proofs.writer.put.Goals as goal

pub returns : goal.returns
returns c = copied _ _ _ _ _ c.copy_from_slice.ensures.after (omega arith) c.requires
