-- `turns::Core::empty` meets its contract: its fields are the empty card written, which no call has made yet.
-- Assumes nothing.
use mathlib.Core.Path.{refl}
use mathlib.Core.List.{[]}
use Rattle.rules.specs.Card.{empty}
use Rattle.turns.specs.Laid.{laid}
use Rattle.turns.specs.Written.{core_of}
use Rattle.turns.proofs.Made.{core-written}
use Rattle.turns.proofs.Core.empty.Goals as goal

pub invariant_of-result : goal.invariant_of-result
unfolding core_of laid
invariant_of-result c =
    (core-written _ empty [] refl
    (rw (c.new-4.ensures, c.new-3.ensures, c.new-2.ensures, c.blank.ensures, c.new.ensures, c.vacant.ensures) refl)).1

pub returns : goal.returns
unfolding core_of laid
returns c =
    (core-written _ empty [] refl
    (rw (c.new-4.ensures, c.new-3.ensures, c.new-2.ensures, c.blank.ensures, c.new.ensures, c.vacant.ensures) refl)).0
