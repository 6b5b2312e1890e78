-- `is_too_long` is its two tests. Assumes nothing.
use mathlib.Core.Path.{refl}
use Rattle.sizing.proofs.is_too_long.Goals as goal

pub returns : goal.returns
returns c = rw c.if-long.false refl
