-- Document 02, No. 3, has content: under document 01's rule, with nobody remembered, a tenant that leaves and comes back holds the core for
-- 2C in a window of T; now the call that brings it back is refused until its ticks have come back. And small histories of who is
-- remembered, with which time, and which call is refused for it. Computed. Assumes nothing.
use mathlib.Core.Path.{◌≡◌, refl}
use mathlib.Core.Bool.{Bool}
use mathlib.Core.List.{List, [], ◌∷◌, map}
use mathlib.Core.Option.{Option, none, some}
use Prim.Native.Nat.{ℕ, zero, suc, ◌+◌, ◌*◌}
use lib.ListN.{length}
use Rattle.rules.specs.Lists.{any}
use Rattle.rules.specs.Vcpu.{more_urgent}
use Rattle.rules.specs.Remember.{Remembered}
use Rattle.rules.specs.Card.{Card, empty}
use Rattle.rules.specs.Charge.{posted, charged}
use Rattle.rules.specs.Change.{admit, wake, block, remove, tick}
use Rattle.rules.specs.Timer.{timer}
use Rattle.rules.specs.Refuse.{refusal}
use Rattle.rules.specs.Turn.{Call, Reply, turn, settled}
use Rattle.rules.specs.History.{Exchange, after, heard, past}
use Rattle.rules.specs.Stays.{Stay, stays, owns, held_ticks, window}
use Rattle.rules.specs.Together.{alike}
use Rattle.rules.proofs.Examples.{at, server, eight}
use Rattle.rules.proofs.Case.{says, no'}

-- document 01's rule: nobody is remembered when a call comes
abbrev forgetting : Card → Card
forgetting c =
    record {
      last = c.last;
      running = c.running;
      timer = c.timer;
      vcpus = c.vcpus;
      remembered = [];
      removed = c.removed;
      idle = c.idle;
    }

abbrev after01 : List Call → Card
after01 [] = empty
after01 (call ∷ calls) = (turn (forgetting (after01 calls)) call).card

abbrev heard01 : List Call → List Exchange
heard01 [] = []
heard01 (call ∷ calls) = record { call = call; reply = (turn (forgetting (after01 calls)) call).reply } ∷ heard01 calls

-- for each tick of the past, whether one of these stays held it
abbrev held_by_one_of : List Stay → List (Option ℕ) → List Bool
held_by_one_of ss [] = []
held_by_one_of ss (holder ∷ before) = any (λ s. owns s holder (length before)) ss ∷ held_by_one_of ss before

-- for each stay, the ticks that it and those like it held in the latest window of its period. A tick has one owner, so this is the sum of
-- demand 3, and takes 3 s less to compute.
abbrev together : List Exchange → List ℕ
together xs = map (λ s. held_ticks (window s.terms.period 0 (held_by_one_of (alike s (stays xs)) (past xs)))) (stays xs)

-- the replies, the latest first
abbrev replies : List Call → List Reply
replies calls = map (λ x. x.reply) (heard calls)

-- T 10, C 3: it holds its C up to 3, leaves and comes back at that moment, and holds its C again up to 6
abbrev leaves : List Call
leaves = at 3 (remove 2) ∷ at 0 (wake 2) ∷ at 0 (admit (server 0 10 3)) ∷ []

abbrev rejoins : List Call
rejoins = at 6 tick ∷ at 3 (wake 2) ∷ at 3 (admit (server 0 10 3)) ∷ leaves

pub double : together (heard01 rejoins) ≡ 2 * 3 ∷ 2 * 3 ∷ []
unfolding turn refusal settled timer more_urgent charged posted
double = refl

-- now its three ticks are on their way until 10: the admit is refused with that time, the wake since it is not on the card
pub not-here :
    (together (heard rejoins) ≡ 3 ∷ [])
    × (replies rejoins
    ≡ says 6 none 0 none 0
    ∷ no' 7 0
    ∷ no' 9 10
    ∷ says 3 none 0 none 0
    ∷ says 0 (some 2) 3 (some 3) 0
    ∷ says 0 none 0 none 0
    ∷ [])
unfolding turn refusal settled timer more_urgent charged posted
not-here = (refl, refl)

-- the reply to the admit that brings it back at each of these moments
abbrev back_at : List ℕ → ℕ → List Call → List Reply
back_at nows kind calls = map (λ now. (turn (after calls) (at now (admit (server kind 10 3)))).reply) nows

-- .. and at that very time it comes back, though no call came to clear it away
pub in_time : back_at (3 ∷ 9 ∷ 10 ∷ []) 0 leaves ≡ no' 9 10 ∷ no' 9 10 ∷ says 10 none 0 none 0 ∷ []
unfolding turn refusal settled timer more_urgent charged posted
in_time = refl

-- .. so that of the window from 1 to 11 it held 2 in its first stay and 1 in the second, with another priority: C together, and no more
pub across :
    together (heard (at 11 tick
    ∷ at 10 (wake 2)
    ∷ at 10 (admit (record { tunnel = 2; period = 10; capacity = 3; priority = 9; kind = 0 }))
    ∷ leaves))
    ≡ (2 + 1) ∷ (2 + 1) ∷ []
unfolding turn refusal settled timer more_urgent charged posted
across = refl

-- deferrable, T 10, C 3: C from 7 on, C from its boundary at 10 on, and under document 01's rule C again from 13 on: 3C in a window of T,
-- where the bound is 2C. Now it comes back at its next boundary, 20.
abbrev leaves_full : List Call
leaves_full = at 13 (remove 2) ∷ at 10 tick ∷ at 7 (wake 2) ∷ at 0 (admit (server 1 10 3)) ∷ []

pub triple : together (heard01 (at 16 tick ∷ at 13 (wake 2) ∷ at 13 (admit (server 1 10 3)) ∷ leaves_full)) ≡ 3 * 3 ∷ 3 * 3 ∷ []
unfolding turn refusal settled timer more_urgent charged posted
triple = refl

pub at_its_boundary : back_at (13 ∷ 19 ∷ 20 ∷ []) 1 leaves_full ≡ no' 9 20 ∷ no' 9 20 ∷ says 20 none 0 none 0 ∷ []
unfolding turn refusal settled timer more_urgent charged posted
at_its_boundary = refl

-- who is remembered, with which time

abbrev until : ℕ → List Remembered
until time = record { tunnel = 2; time = time } ∷ []

-- "until an accepted call at or after that time": not one before it, and not a refused one, here a wake of nobody on the card
pub cleared :
    ((after leaves).remembered ≡ until 10) × ((after (at 9 tick ∷ leaves)).remembered ≡ until 10)
    × ((after (at 12 (wake 3) ∷ leaves)).remembered ≡ until 10)
    × ((after (at 10 tick ∷ leaves)).remembered ≡ [])
unfolding turn refusal settled timer more_urgent charged posted
cleared = (refl, refl, refl, refl)

-- so after that refused call, at 12, the card's time is still 3, and an admit at 9 is refused
pub not-cleared : back_at (9 ∷ 10 ∷ []) 0 (at 12 (wake 3) ∷ leaves) ≡ no' 9 10 ∷ says 10 none 0 none 0 ∷ []
unfolding turn refusal settled timer more_urgent charged posted
not-cleared = refl

-- T 10, C 3, a tick from 0 and one from 4 on, removed at 5, while it runs: the charge of that call counts, and the time is that of the
-- latest return, 14, not 10. Removed at 14 or later it has nothing pending, and is forgotten at once.
abbrev two_slices : List Call
two_slices = at 4 (wake 2) ∷ at 1 (block 2) ∷ at 0 (wake 2) ∷ at 0 (admit (server 0 10 3)) ∷ []

pub latest :
    ((after (at 5 (remove 2) ∷ two_slices)).remembered ≡ until 14)
    × ((after (at 13 (remove 2) ∷ at 5 (block 2) ∷ two_slices)).remembered ≡ until 14)
    × ((after (at 14 (remove 2) ∷ at 5 (block 2) ∷ two_slices)).remembered ≡ [])
unfolding turn refusal settled timer more_urgent charged posted
latest = (refl, refl, refl)

-- T 20, C 9, nine ticks apart: the ninth, from 16 on, folds, and the last entry's time becomes 36. By the eighth's time it would be 34.
pub folded : (after (at 17 (remove 2) ∷ at 16 (wake 2) ∷ eight)).remembered ≡ until 36
unfolding turn refusal settled timer more_urgent charged posted
folded = refl

-- nothing pending: removed at the moment of its admission, or when all is back, it may come back at once; a deferrable or polling one may
-- not, whose next boundary is 10
abbrev briefly : ℕ → List Call
briefly kind = at 0 (remove 2) ∷ at 0 (admit (server kind 10 3)) ∷ []

pub at_once :
    (back_at (0 ∷ []) 0 (briefly 0) ≡ says 0 none 0 none 0 ∷ [])
    × (back_at (10 ∷ []) 0 (at 10 (remove 2) ∷ at 3 (block 2) ∷ at 0 (wake 2) ∷ at 0 (admit (server 0 10 3)) ∷ [])
    ≡ says 10 none 0 none 0 ∷ [])
    × (back_at (0 ∷ 9 ∷ 10 ∷ []) 1 (briefly 1) ≡ no' 9 10 ∷ no' 9 10 ∷ says 10 none 0 none 0 ∷ [])
    × (back_at (0 ∷ 9 ∷ 10 ∷ []) 2 (briefly 2) ≡ no' 9 10 ∷ no' 9 10 ∷ says 10 none 0 none 0 ∷ [])
unfolding turn refusal settled timer more_urgent charged posted
at_once = (refl, refl, refl, refl)

-- removed just before its boundary, and exactly at it: the one after it
pub at_a_boundary :
    ((after (at 9 (remove 2) ∷ at 0 (admit (server 1 10 3)) ∷ [])).remembered ≡ until 10)
    × ((after (at 10 (remove 2) ∷ at 0 (admit (server 1 10 3)) ∷ [])).remembered ≡ until 20)
    × ((after (at 10 (remove 2) ∷ at 0 (admit (server 2 10 3)) ∷ [])).remembered ≡ until 20)
unfolding turn refusal settled timer more_urgent charged posted
at_a_boundary = (refl, refl, refl)

-- the detail may lie above the largest time
pub beyond : back_at (1_000_000_000_000 ∷ []) 1 (at 999_999_999_999 (remove 2) ∷ at 999_999_999_999 (admit (server 1 10 3)) ∷ [])
    ≡ no' 9 1_000_000_000_009 ∷ []
unfolding turn refusal settled timer more_urgent charged posted
beyond = refl

-- all 24 bits: 65793 is remembered, 257, with the same last 16, is admitted; and 65793 is refused before it and after
abbrev asks : ℕ → Call
asks tunnel = at 0 (admit (record { tunnel = tunnel; period = 10; capacity = 3; priority = 1; kind = 1 }))

pub two_keys :
    replies (at 0 (remove 65793) ∷ at 0 (wake 257) ∷ asks 65793 ∷ asks 257 ∷ asks 65793 ∷ at 0 (remove 65793) ∷ asks 65793 ∷ [])
    ≡ no' 7 0
    ∷ says 0 (some 257) 3 (some 3) 0
    ∷ no' 9 10
    ∷ says 0 none 0 none 0
    ∷ no' 9 10
    ∷ says 0 none 0 none 0
    ∷ says 0 none 0 none 0
    ∷ []
unfolding turn refusal settled timer more_urgent charged posted
two_keys = refl

-- n tenants, 100 and up, are admitted, or removed
abbrev each : (ℕ → Call) → ℕ → List Call → List Call
each f zero calls = calls
each f (suc n) calls = f (100 + n) ∷ each f n calls

-- 32 places: 20 tenants on the card, and 12 remembered until 10. A newcomer has no place before that, and one at 10, when no call has
-- cleared them away; one of the remembered has its own row, 9, first; and with 31 together the newcomer has a place.
abbrev mixed : ℕ → List Call
mixed n = each (λ tunnel. at 0 (remove tunnel)) 12 (each asks n [])

pub places :
    (back_at (0 ∷ 9 ∷ 10 ∷ []) 0 (mixed 32) ≡ no' 8 0 ∷ no' 8 0 ∷ says 10 none 0 none 0 ∷ [])
    × ((turn (after (mixed 32)) (asks 100)).reply ≡ no' 9 10)
    × (back_at (0 ∷ []) 0 (mixed 31) ≡ says 0 none 0 none 0 ∷ [])
unfolding turn refusal settled timer more_urgent charged posted
places = (refl, refl, refl)
