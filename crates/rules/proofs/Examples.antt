-- Small histories, computed: the stays, what each held in the latest window of its period, and the usable ticks. Each has a line of the
-- rules whose breach it shows: what would be held or usable then stands beside it. Assumes nothing.
use mathlib.Core.Path.{◌≡◌, refl}
use mathlib.Core.Bool.{Bool, true, false}
use mathlib.Core.List.{List, [], ◌∷◌, map}
use mathlib.Core.Option.{Option, none, some}
use Prim.Native.Nat.{ℕ, zero, suc, ◌+◌}
use Rattle.rules.specs.Vcpu.{Description, more_urgent}
use Rattle.rules.specs.Charge.{posted, charged}
use Rattle.rules.specs.Change.{Change, admit, wake, block, remove, tick}
use Rattle.rules.specs.Timer.{timer}
use Rattle.rules.specs.Refuse.{refusal}
use Rattle.rules.specs.Turn.{Call, turn, settled}
use Rattle.rules.specs.History.{after, heard, past, idle_ticks}
use Rattle.rules.specs.Stays.{stays, held, held_ticks, window}
use Rattle.rules.specs.Slices.{ticks_of, ever_folds}
use Rattle.rules.specs.Demand3.{slices_of, recent_of}

abbrev pub at : ℕ → Change → Call
at now asked = record { now = now; asked = asked }

-- of each stay: begun, removed, folded, the ticks held in the latest window, and those of its slices begun less than one period before
record Figures : Type 0 where
  from : ℕ
  until : Option ℕ
  folded : Bool
  latest : ℕ
  recent : ℕ

abbrev figures : ℕ → Option ℕ → Bool → ℕ → ℕ → Figures
figures from until folded latest recent =
    record { from = from; until = until; folded = folded; latest = latest; recent = recent }

abbrev figures_of : List Call → List Figures
figures_of calls =
    map (λ s. figures s.from s.until (ever_folds s.terms.period (slices_of (heard calls) s))
    (held_ticks (window s.terms.period 0 (held s (past (heard calls))))) (ticks_of (recent_of (heard calls) s))) (stays (heard calls))

abbrev pub usable_ticks : List Call → List ℕ
usable_ticks calls = map (λ v. v.usable) (after calls).vcpus

abbrev pub server : ℕ → ℕ → ℕ → Description
server kind period capacity = record { tunnel = 2; period = period; capacity = capacity; priority = 2; kind = kind }

abbrev tenant : ℕ → ℕ → Description
tenant = server 0

-- T 10, C 3, from 0 to 3, asked at 10: the return is due one period after the slice's start. From its end, none would be usable.
abbrev back : List Call
back = at 10 tick ∷ at 3 tick ∷ at 0 (wake 2) ∷ at 0 (admit (tenant 10 3)) ∷ []

pub back-held : figures_of back ≡ figures 0 none false 3 0 ∷ []
unfolding turn refusal settled timer more_urgent charged posted
back-held = refl

pub back-usable : usable_ticks back ≡ 3 ∷ []
unfolding turn refusal settled timer more_urgent charged posted
back-usable = refl

-- of a window that ends eight ticks before the last call the first two ticks lie in it
pub earlier-held : map (λ s. held_ticks (window s.terms.period 8 (held s (past (heard back))))) (stays (heard back)) ≡ 2 ∷ []
unfolding turn refusal settled timer more_urgent charged posted
earlier-held = refl

-- the same with a call at each moment: calls do not break a slice. With a new entry at each call, 1 would be usable.
abbrev steady : List Call
steady = at 10 tick ∷ at 3 tick ∷ at 2 tick ∷ at 1 tick ∷ at 0 (wake 2) ∷ at 0 (admit (tenant 10 3)) ∷ []

pub steady-usable : usable_ticks steady ≡ 3 ∷ []
unfolding turn refusal settled timer more_urgent charged posted
steady-usable = refl

-- T 10, C 3, one tick at 0 and, after a gap, two from 7 on. Joined to the first entry these would be back at 10, and 5 held in a window.
abbrev gap : List Call
gap =
    at 13 tick
    ∷ at 11 tick
    ∷ at 10 tick
    ∷ at 9 tick
    ∷ at 7 (wake 2)
    ∷ at 1 (block 2)
    ∷ at 0 (wake 2)
    ∷ at 0 (admit (tenant 10 3))
    ∷ []

pub gap-held : figures_of gap ≡ figures 0 none false 3 3 ∷ []
unfolding turn refusal settled timer more_urgent charged posted
gap-held = refl

-- T 20, C 9, one tick at each even moment: eight have room in the queue. Were it to fold with seven pending, (b) would be silent here.
abbrev short : ℕ → List Call → List Call
short now calls = at (now + 1) (block 2) ∷ at now (wake 2) ∷ calls

abbrev pub eight : List Call
eight = short 14 (short 12 (short 10 (short 8 (short 6 (short 4 (short 2 (short 0 (at 0 (admit (tenant 20 9)) ∷ []))))))))

pub eight-held : figures_of eight ≡ figures 0 none false 8 8 ∷ []
unfolding turn refusal settled timer more_urgent charged posted
eight-held = refl

-- a tick at each moment, from one on
abbrev ticking : ℕ → ℕ → List Call → List Call
ticking from zero calls = calls
ticking from (suc n) calls = at (from + n) tick ∷ ticking from n calls

-- the ninth, at 16, folds. Where the last entry kept its time, 10 would be held in a window.
abbrev fold : List Call
fold = ticking 21 16 (at 20 (wake 2) ∷ short 16 eight)

pub fold-held : figures_of fold ≡ figures 0 none true 8 7 ∷ []
unfolding turn refusal settled timer more_urgent charged posted
fold-held = refl

-- T 20, C 9, five such ticks, asked at 26: the first four are back, and nothing folded. Where four pending made the queue fold, the
-- fourth would be back at 28 with the fifth: 7 usable.
abbrev five : List Call
five = at 26 tick ∷ short 8 (short 6 (short 4 (short 2 (short 0 (at 0 (admit (tenant 20 9)) ∷ [])))))

pub five-held : figures_of five ≡ figures 0 none false 2 1 ∷ []
unfolding turn refusal settled timer more_urgent charged posted
five-held = refl

pub five-usable : usable_ticks five ≡ 8 ∷ []
unfolding turn refusal settled timer more_urgent charged posted
five-usable = refl

-- T = C = 3, eight ticks in a row: a slice is cut three ticks after its start, so the latest is two long and 1 is usable. Cut a tick
-- later, two slices of four would leave none.
abbrev cut : List Call
cut = at 8 tick ∷ at 6 tick ∷ at 3 tick ∷ at 0 (wake 2) ∷ at 0 (admit (tenant 3 3)) ∷ []

pub cut-slices : map (λ s. map (λ p. p.long) (slices_of (heard cut) s)) (stays (heard cut)) ≡ (2 ∷ 3 ∷ 3 ∷ []) ∷ []
unfolding turn refusal settled timer more_urgent charged posted
cut-slices = refl

pub cut-usable : usable_ticks cut ≡ 1 ∷ []
unfolding turn refusal settled timer more_urgent charged posted
cut-usable = refl

-- T = C = 2, removed at 2, while it ran: its two ticks are back at that moment, so it is forgotten at once, and admitted again with T 10,
-- C 3. Two stays, whose ticks are counted apart; the other four ticks were idle. Where a stay owned the tick before its admission, the
-- second would hold 4 of C 3.
abbrev again : List Call
again =
    at 9 tick
    ∷ at 5 tick
    ∷ at 2 (wake 2)
    ∷ at 2 (admit (tenant 10 3))
    ∷ at 2 (remove 2)
    ∷ at 0 (wake 2)
    ∷ at 0 (admit (tenant 2 2))
    ∷ []

pub again-held : figures_of again ≡ figures 2 none false 3 3 ∷ figures 0 (some 2) false 0 0 ∷ []
unfolding turn refusal settled timer more_urgent charged posted
again-held = refl

pub again-idle : idle_ticks (past (heard again)) ≡ 4
unfolding turn refusal settled timer more_urgent charged posted
again-idle = refl

-- T 10, C 3, deferrable, woken at 7: its ticks are kept until then, and the boundary at 10 gives 3 more: 2C in a window of T, and no more
-- usable until the next boundary.
abbrev pub burst : ℕ → List Call
burst kind = at 13 tick ∷ at 10 tick ∷ at 7 (wake 2) ∷ at 0 (admit (server kind 10 3)) ∷ []

pub burst-held : figures_of (burst 1) ≡ figures 0 none false 6 6 ∷ []
unfolding turn refusal settled timer more_urgent charged posted
burst-held = refl

abbrev pub boundaries : List Call → List (Option ℕ)
boundaries calls = map (λ v. v.boundary) (after calls).vcpus

pub burst-next : (usable_ticks (burst 1) ≡ 0 ∷ []) × (boundaries (burst 1) ≡ some 20 ∷ []) × ((after (burst 1)).timer ≡ some 20)
unfolding turn refusal settled timer more_urgent charged posted
burst-next = (refl, refl, refl)

-- the same, polling: nothing is usable before the boundary, at which it is runnable. Refilled at its wake it would hold 6.
pub polled-held : figures_of (burst 2) ≡ figures 0 none false 3 3 ∷ []
unfolding turn refusal settled timer more_urgent charged posted
polled-held = refl

-- polling, blocked for a moment: its ticks are gone until the boundary at 20. A deferrable one has kept 2.
abbrev pub pause : ℕ → List Call
pause kind = at 12 (wake 2) ∷ at 11 (block 2) ∷ at 10 tick ∷ at 9 (wake 2) ∷ at 0 (admit (server kind 10 3)) ∷ []

pub pause-usable : (usable_ticks (pause 2) ≡ 0 ∷ []) × (usable_ticks (pause 1) ≡ 2 ∷ [])
unfolding turn refusal settled timer more_urgent charged posted
pause-usable = (refl, refl)

-- one call passes two boundaries, at 10 and 20: one refill, to C, and the next boundary is that at 30. A polling one that is not runnable
-- has none, and the wake at 21 comes too late for it.
abbrev passing : ℕ → List Call
passing kind = at 21 (wake 2) ∷ at 1 (block 2) ∷ at 0 (wake 2) ∷ at 0 (admit (server kind 10 3)) ∷ []

pub passing-next : (boundaries (passing 1) ≡ some 30 ∷ []) × (boundaries (passing 2) ≡ some 30 ∷ []) × (boundaries (passing 0) ≡ none ∷ [])
unfolding turn refusal settled timer more_urgent charged posted
passing-next = (refl, refl, refl)

pub passing-usable : (usable_ticks (passing 1) ≡ 3 ∷ []) × (usable_ticks (passing 2) ≡ 0 ∷ [])
unfolding turn refusal settled timer more_urgent charged posted
passing-usable = (refl, refl)
