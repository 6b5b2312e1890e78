-- Document 02, No. 5, computed: the ticks that come back to three kinds at one call, whatever that call does to one of them; refills of a
-- part, of all and of nothing; and what comes back at the very call that charges it. Assumes nothing.
use Prim.Native.Nat.{ℕ}
use mathlib.Core.Path.{◌≡◌, refl}
use mathlib.Core.List.{List, [], ◌∷◌}
use mathlib.Core.Option.{Option, some, none}
use Rattle.rules.specs.Vcpu.{more_urgent}
use Rattle.rules.specs.Card.{Card, empty}
use Rattle.rules.specs.Charge.{posted, charged}
use Rattle.rules.specs.Change.{Change, admit, wake, block, remove, tick}
use Rattle.rules.specs.Timer.{timer}
use Rattle.rules.specs.Refuse.{refusal}
use Rattle.rules.specs.Choose.{choose}
use Rattle.rules.specs.Told.{timer_told}
use Rattle.rules.specs.Turn.{Call, turn, settled, after_change, told_by}
use Rattle.rules.specs.History.{after}
use Rattle.rules.proofs.Case.{replies, says}
use Rattle.rules.proofs.Examples.{at}

abbrev admits : ℕ → ℕ → ℕ → ℕ → ℕ → Change
admits id T C priority k = admit (record { tunnel = id; period = T; capacity = C; priority = priority; kind = k })

-- 7 is sporadic and held 4 ticks from 0 on, 9 deferrable and held its 5 ticks, 5 polling and without ticks; the latest call first
abbrev before : List Call
before =
    at 9 tick
    ∷ at 6 (block 7)
    ∷ at 4 tick
    ∷ at 0 (wake 5)
    ∷ at 0 (wake 9)
    ∷ at 0 (wake 7)
    ∷ at 0 (admits 5 20 6 3 2)
    ∷ at 0 (admits 9 20 5 2 1)
    ∷ at 0 (admits 7 10 4 1 0)
    ∷ []

-- 4, 5 and 6 ticks come back at 20, to the runnable ones and the one that is not; also where this very call blocks the polling one, whose 6
-- ticks it then takes away, removes the deferrable one, or admits another, which has 4 of its own
pub whatever_it_does :
    (replies (after before) (at 20 tick ∷ []) ≡ says 20 (some 9) 5 (some 25) 15 ∷ [])
    × (replies (after before) (at 20 (block 5) ∷ []) ≡ says 20 (some 9) 5 (some 25) 15 ∷ [])
    × (replies (after before) (at 20 (remove 9) ∷ []) ≡ says 20 (some 5) 6 (some 26) 15 ∷ [])
    × (replies (after before) (at 20 (wake 7) ∷ []) ≡ says 20 (some 7) 4 (some 24) 15 ∷ [])
    × (replies (after before) (at 20 (admits 8 10 4 9 1) ∷ []) ≡ says 20 (some 9) 5 (some 25) 15 ∷ [])
unfolding turn refusal settled timer more_urgent charged posted
whatever_it_does = (refl, refl, refl, refl, refl)

-- the timer from the times reported there: 9 runs, whose boundary is 40 by now and was 20 before; and where 7 has 90 ticks it runs up to
-- 90, whatever the less urgent 9, with a boundary at 20, reports
abbrev roomy : List Call
roomy = at 0 (wake 7) ∷ at 0 (admits 9 20 5 2 1) ∷ at 0 (admits 7 100 90 1 0) ∷ []

abbrev from_told : Card → Call → Option ℕ
from_told c call = timer_told call.now (told_by c call.now) (after_change c call) (choose (after_change c call))

pub told_timers : (from_told (after before) (at 20 tick) ≡ some 25) × (from_told (after roomy) (at 0 (wake 9)) ≡ some 90)
unfolding turn refusal settled timer timer_told more_urgent charged posted
told_timers = (refl, refl)

-- at 20 a refill adds 3 to 2 left, of 5, and all 6 to a polling one; at 40 it adds nothing to a full one, and nothing to a polling one that
-- is not runnable, and the 10 ticks that 7 held of its period of 10 come back at the call that charges them
pub parts :
    replies empty
    (at 0 (admits 9 20 5 2 1)
    ∷ at 0 (admits 5 20 6 3 2)
    ∷ at 0 (admits 7 10 10 4 0)
    ∷ at 0 (wake 5)
    ∷ at 0 (wake 9)
    ∷ at 3 (block 9)
    ∷ at 20 tick
    ∷ at 24 (block 5)
    ∷ at 30 (wake 7)
    ∷ at 40 tick
    ∷ [])
    ≡ says 0 none 0 none 0
    ∷ says 0 none 0 none 0
    ∷ says 0 none 0 none 0
    ∷ says 0 none 0 (some 20) 0
    ∷ says 0 (some 9) 5 (some 5) 0
    ∷ says 3 none 0 (some 20) 0
    ∷ says 20 (some 5) 6 (some 26) 9
    ∷ says 24 none 0 none 0
    ∷ says 30 (some 7) 10 (some 40) 0
    ∷ says 40 (some 7) 10 (some 50) 10
    ∷ []
unfolding turn refusal settled timer more_urgent charged posted
parts = refl
