-- Small histories of deferrable and polling tenants, computed: what a stay held from each boundary to the next, whether a polling one has
-- its refill, that the bound of 2C in a window is met, and timers. Each says what another reading of the rule would give. Assumes nothing.
use mathlib.Core.Path.{◌≡◌, refl}
use mathlib.Core.Bool.{Bool, true, false}
use mathlib.Core.List.{List, [], ◌∷◌, map}
use mathlib.Core.Option.{some}
use Prim.Native.Nat.{ℕ, ◌*◌}
use Rattle.rules.specs.Vcpu.{more_urgent}
use Rattle.rules.specs.Charge.{posted, charged}
use Rattle.rules.specs.Change.{admit, wake, block, remove, tick}
use Rattle.rules.specs.Timer.{timer}
use Rattle.rules.specs.Refuse.{refusal}
use Rattle.rules.specs.Turn.{Call, turn, settled}
use Rattle.rules.specs.History.{after, heard, past}
use Rattle.rules.specs.Stays.{stays, held, held_ticks, window}
use Rattle.rules.specs.Boundaries.{held_between, boundary, has_refill}
use Rattle.rules.specs.Demand3.{held_since}
use Rattle.rules.proofs.Examples.{at, server, usable_ticks, boundaries, burst, pause}

-- of each stay, the ticks that it held: from its admission to the first boundary, from this to the second, and since its latest
abbrev spent : List Call → List (List ℕ)
spent calls =
    map (λ s. held_between (boundary s 0) (boundary s 1) (held s (past (heard calls)))
    ∷ held_between (boundary s 1) (boundary s 2) (held s (past (heard calls))) ∷ held_since (heard calls) s ∷ []) (stays (heard calls))

abbrev refills : List Call → List Bool
refills calls = map (λ s. has_refill s (heard calls)) (stays (heard calls))

-- T 10, C 3, deferrable, woken at 7: C up to the boundary at 10 and C from there on, so 2C in the window that ends at 13. Both bounds are
-- met, and no smaller ones would do.
pub burst-spent : spent (burst 1) ≡ (3 ∷ 3 ∷ 3 ∷ []) ∷ []
unfolding turn refusal settled timer more_urgent charged posted
burst-spent = refl

pub burst-twice : map (λ s. held_ticks (window 10 0 (held s (past (heard (burst 1)))))) (stays (heard (burst 1))) ≡ 2 * 3 ∷ []
unfolding turn refusal settled timer more_urgent charged posted
burst-twice = refl

-- polling, runnable from 7 on: it has its refill at 10, and nothing before
pub polled-spent : (spent (burst 2) ≡ (0 ∷ 3 ∷ 3 ∷ []) ∷ []) × (refills (burst 2) ≡ true ∷ [])
unfolding turn refusal settled timer more_urgent charged posted
polled-spent = (refl, refl)

-- polling, woken at the boundary at 10 or after it: it was not runnable just before the call that passes, and holds nothing up to 20, and
-- 3 from there on. Were it enough to be runnable after that call, it would hold 3 from 10 on.
abbrev late : ℕ → List Call
late woken = at 19 tick ∷ at woken (wake 2) ∷ at 0 (admit (server 2 10 3)) ∷ []

abbrev later : ℕ → List Call
later woken = at 23 tick ∷ at 20 tick ∷ late woken

pub late-spent : (spent (later 10) ≡ (0 ∷ 0 ∷ 3 ∷ []) ∷ []) × (spent (later 14) ≡ (0 ∷ 0 ∷ 3 ∷ []) ∷ [])
unfolding turn refusal settled timer more_urgent charged posted
late-spent = (refl, refl)

pub late-refilled :
    (refills (late 10) ≡ false ∷ []) × (refills (at 20 tick ∷ late 10) ≡ true ∷ [])
    × (usable_ticks (late 10) ≡ 0 ∷ [])
    × (usable_ticks (at 20 tick ∷ late 10) ≡ 3 ∷ [])
unfolding turn refusal settled timer more_urgent charged posted
late-refilled = (refl, refl, refl, refl)

-- polling, blocked at 11 after one tick of its refill: the rest is gone, and its wake at 12 does not bring it back. A refill that lasts up
-- to the next boundary would leave 2 usable.
pub pause-spent : (spent (pause 2) ≡ (0 ∷ 1 ∷ 1 ∷ []) ∷ []) × (refills (pause 2) ≡ false ∷ [])
unfolding turn refusal settled timer more_urgent charged posted
pause-spent = (refl, refl)

-- deferrable, woken at 9: while it runs its timer is its boundary, at 10, and a call at 12 is refused. By its usable ticks alone the
-- timer would be 12: it would hold 2 after the boundary, then 3 of a refill at 12, so 5 of C 3 from 10 to 20.
abbrev across : List Call
across = at 15 tick ∷ at 12 tick ∷ at 9 (wake 2) ∷ at 0 (admit (server 1 10 3)) ∷ []

pub across-spent : ((after across).timer ≡ some 10) × (spent across ≡ (0 ∷ 0 ∷ 0 ∷ []) ∷ [])
unfolding turn refusal settled timer more_urgent charged posted
across-spent = (refl, refl)

-- T 10, C 3, one tick held from 0 on, woken again at 9 with 2 usable: a deferrable one's timer is its own boundary, 10 and not 11; a
-- sporadic one's own return, due at 10, is not looked at, and its timer is 11
abbrev resumed : ℕ → List Call
resumed kind = at 9 (wake 2) ∷ at 1 (block 2) ∷ at 0 (wake 2) ∷ at 0 (admit (server kind 10 3)) ∷ []

pub resumed-timer : ((after (resumed 1)).timer ≡ some 10) × ((after (resumed 0)).timer ≡ some 11)
unfolding turn refusal settled timer more_urgent charged posted
resumed-timer = (refl, refl)

-- a more urgent one, of any kind, has nothing usable from 3 on: while the other runs the timer is what comes to it, at 10. By the usable
-- ticks of the other alone it would be 18, or 15 beside a polling one, which holds nothing up to 10.
abbrev beside : ℕ → List Call
beside kind =
    at 3 tick
    ∷ at 0 (wake 2)
    ∷ at 0 (wake 1)
    ∷ at 0 (admit (record { tunnel = 1; period = 10; capacity = 3; priority = 1; kind = kind }))
    ∷ at 0 (admit (server 0 20 15))
    ∷ []

pub beside-timer :
    (map (λ kind. (after (beside kind)).running) (0 ∷ 1 ∷ 2 ∷ []) ≡ some 2 ∷ some 2 ∷ some 2 ∷ [])
    × (map (λ kind. (after (beside kind)).timer) (0 ∷ 1 ∷ 2 ∷ []) ≡ some 10 ∷ some 10 ∷ some 10 ∷ [])
unfolding turn refusal settled timer more_urgent charged posted
beside-timer = (refl, refl)

-- the timer cannot know that the call at that boundary blocks the more urgent one: the refill of a polling one is gone at once, and the
-- boundary brought nothing; a deferrable one keeps it
pub beside-blocked : (usable_ticks (at 10 (block 1) ∷ beside 2) ≡ 0 ∷ 5 ∷ []) × (usable_ticks (at 10 (block 1) ∷ beside 1) ≡ 3 ∷ 8 ∷ [])
unfolding turn refusal settled timer more_urgent charged posted
beside-blocked = (refl, refl)

-- deferrable, admitted at 4: its boundaries are at 14, 24 .. Counted from 0, it would have 3 more at 10, and hold 6 up to its first.
abbrev shifted : List Call
shifted = at 17 tick ∷ at 14 tick ∷ at 10 tick ∷ at 7 tick ∷ at 4 (wake 2) ∷ at 4 (admit (server 1 10 3)) ∷ []

pub shifted-spent : spent shifted ≡ (3 ∷ 3 ∷ 3 ∷ []) ∷ []
unfolding turn refusal settled timer more_urgent charged posted
shifted-spent = refl

pub shifted_next : (boundaries (at 4 (admit (server 1 10 3)) ∷ []) ≡ some 14 ∷ []) × (boundaries shifted ≡ some 24 ∷ [])
unfolding turn refusal settled timer more_urgent charged posted
shifted_next = (refl, refl)

-- polling, removed at 12, while it has its refill, and admitted again at 20, its next boundary, and no sooner: the new stay has none
-- before its own first boundary, at 30
abbrev again : List Call
again =
    at 29 tick
    ∷ at 20 (wake 2)
    ∷ at 20 (admit (server 2 10 3))
    ∷ at 12 (remove 2)
    ∷ at 10 tick
    ∷ at 9 (wake 2)
    ∷ at 0 (admit (server 2 10 3))
    ∷ []

pub again-spent : spent again ≡ (0 ∷ 0 ∷ 0 ∷ []) ∷ (0 ∷ 2 ∷ 0 ∷ []) ∷ []
unfolding turn refusal settled timer more_urgent charged posted
again-spent = refl

pub again-usable : (usable_ticks again ≡ 0 ∷ []) × (usable_ticks (at 30 tick ∷ again) ≡ 3 ∷ [])
unfolding turn refusal settled timer more_urgent charged posted
again-usable = (refl, refl)
