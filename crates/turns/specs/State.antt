-- The states of the core: "Only the empty card and the calls make a state, and the promises speak of such states."
-- Assumes nothing.
use Rattle.std.specs.Prelude.{◌≡◌, List, [], ◌∷◌, map}
use Rattle.units.specs.declared.Moment.{Moment}
use Rattle.rules.specs.Card.{Card, empty}
use Rattle.rules.specs.Turn.{Call}
use Rattle.turns.specs.declared.Change.{Change}
use Rattle.turns.specs.declared.Core.TheInside.{Inside}
use Rattle.turns.specs.Written.{card, core_of}
use Rattle.turns.specs.Calls.{call_of, turned}

-- a call as a host makes it
pub record Asking : Type 0 where
  pub now : Moment
  pub change : Change

-- the core after any calls, refused ones among them, from the empty one, as a contract sees it: its card; the newest call first
abbrev pub made : List Asking → Card
made [] = empty
made (a ∷ calls) = (turned (made calls) a.now a.change).core

-- the invariant of a core: its fields are what its card is written as, and the empty card and the calls make that card
pub record IsCore (c : Inside) : Type 0 where
  pub written : c ≡ core_of (card c)
  pub calls : List Asking
  pub made_by : card c ≡ made calls

-- the same calls as the rules have them
abbrev pub calls_of : List Asking → List Call
calls_of l = map (λ a. call_of a.now a.change) l
