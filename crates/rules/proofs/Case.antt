-- Document 01's whole case, through the rules: nine of its ten records reach the card, and what each of them gives, with the ticks that
-- came back (02, No. 5); and the numbers
-- of the card, each at its limit and one beyond; and the rows of admit, where several apply. Assumes nothing.
use Prim.Native.Nat.{ℕ}
use mathlib.Core.Path.{◌≡◌, refl}
use mathlib.Core.List.{List, [], ◌∷◌}
use mathlib.Core.Option.{Option, none, some}
use Rattle.rules.specs.Vcpu.{Description, Vcpu, admitted, more_urgent}
use Rattle.rules.specs.Remember.{Remembered}
use Rattle.rules.specs.Card.{Card, empty}
use Rattle.rules.specs.Charge.{posted, charged}
use Rattle.rules.specs.Change.{admit, wake, block, remove, tick}
use Rattle.rules.specs.Timer.{timer}
use Rattle.rules.specs.Refuse.{admit_rows, refusal}
use Rattle.rules.specs.Turn.{Call, Reply, ok, refused, turn, settled}
use Rattle.rules.specs.History.{ticks}
use Rattle.rules.proofs.Examples.{at}

abbrev pub replies : Card → List Call → List Reply
replies c [] = []
replies c (call ∷ calls) = (turn c call).reply ∷ replies (turn c call).card calls

abbrev pub says : ℕ → Option ℕ → ℕ → Option ℕ → ℕ → Reply
says time run usable timer brought =
    ok (record { time = time; run = run; usable = usable; timer = timer; brought = brought })

abbrev pub no' : ℕ → ℕ → Reply
no' number detail = refused (record { number = number; detail = detail })

pub case :
    replies empty
    (at 0 (admit (record { tunnel = 65793; period = 10; capacity = 3; priority = 1; kind = 0 }))
    ∷ at 0 (admit (record { tunnel = 257; period = 8; capacity = 8; priority = 2; kind = 0 }))
    ∷ at 0 (wake 65793)
    ∷ at 0 (wake 257)
    ∷ at 3 tick
    ∷ at 11 tick
    ∷ at 10 tick
    ∷ at 11 (block 65793)
    ∷ at 11 (remove 65537)
    ∷ [])
    ≡ says 0 none 0 none 0
    ∷ says 0 none 0 none 0
    ∷ says 0 (some 65793) 3 (some 3) 0
    ∷ says 0 (some 65793) 3 (some 3) 0
    ∷ says 3 (some 257) 8 (some 10) 0
    ∷ no' 3 10
    ∷ says 10 (some 65793) 3 (some 13) 3
    ∷ says 11 (some 257) 8 (some 19) 7
    ∷ no' 7 0
    ∷ []
unfolding turn refusal settled timer more_urgent charged posted
case = refl

-- "Tick times 0 to 1,000,000,000,000", "0 to 16,777,215", "1 to 1,000,000", "1 to T"; and the kinds 0 to 2
pub limits :
    replies empty
    (at 1_000_000_000_001 tick
    ∷ at 0 (admit (record { tunnel = 16_777_216; period = 10; capacity = 3; priority = 1; kind = 0 }))
    ∷ at 0 (admit (record { tunnel = 1; period = 1_000_001; capacity = 1; priority = 1; kind = 0 }))
    ∷ at 0 (admit (record { tunnel = 1; period = 1_000_000; capacity = 1_000_001; priority = 1; kind = 0 }))
    ∷ at 0 (admit (record { tunnel = 1; period = 0; capacity = 0; priority = 1; kind = 0 }))
    ∷ at 0 (admit (record { tunnel = 1; period = 1; capacity = 0; priority = 1; kind = 0 }))
    ∷ at 0 (admit (record { tunnel = 1; period = 10; capacity = 3; priority = 1; kind = 3 }))
    ∷ at 0 (admit (record { tunnel = 16_777_215; period = 1_000_000; capacity = 1_000_000; priority = 255; kind = 0 }))
    ∷ at 0 (admit (record { tunnel = 0; period = 1; capacity = 1; priority = 0; kind = 2 }))
    ∷ at 1_000_000_000_000 tick
    ∷ [])
    ≡ no' 1 0
    ∷ no' 4 0
    ∷ no' 5 0
    ∷ no' 12 0
    ∷ no' 5 0
    ∷ no' 11 0
    ∷ no' 10 0
    ∷ says 0 none 0 none 0
    ∷ says 0 none 0 none 0
    ∷ says 1_000_000_000_000 none 0 none 0
    ∷ []
unfolding turn refusal settled timer more_urgent charged posted
limits = refl

-- admit's rows from the top, 4, 5, 11, 12, 10, 6: where several apply, the first is given. 7 is on the card, 8 is not.
abbrev asks : ℕ → ℕ → ℕ → ℕ → Call
asks tunnel period capacity kind =
    at 0 (admit (record { tunnel = tunnel; period = period; capacity = capacity; priority = 1; kind = kind }))

pub first_rows :
    replies empty
    (asks 7 10 3 0
    -- 4 beside 5, beside 11, beside 12, beside 10
    ∷ asks 16_777_216 0 3 0
    ∷ asks 16_777_216 10 0 0
    ∷ asks 16_777_216 10 11 0
    ∷ asks 16_777_216 10 3 3
    -- 5 beside 11, beside 12, beside 10, beside 6
    ∷ asks 8 1_000_001 0 0
    ∷ asks 8 0 1 0
    ∷ asks 8 1_000_001 3 3
    ∷ asks 7 1_000_001 3 0
    -- 11 alone, for a small period and the largest, beside 10, beside 6
    ∷ asks 8 10 0 0
    ∷ asks 8 1_000_000 0 0
    ∷ asks 8 10 0 3
    ∷ asks 7 10 0 0
    -- 12 alone, beside 10, beside 6
    ∷ asks 8 10 11 0
    ∷ asks 8 10 11 3
    ∷ asks 7 10 11 0
    -- 10 beside 6; 6; and none
    ∷ asks 7 10 3 3
    ∷ asks 7 10 3 0
    ∷ asks 8 10 3 0
    ∷ [])
    ≡ says 0 none 0 none 0
    ∷ no' 4 0
    ∷ no' 4 0
    ∷ no' 4 0
    ∷ no' 4 0
    ∷ no' 5 0
    ∷ no' 5 0
    ∷ no' 5 0
    ∷ no' 5 0
    ∷ no' 11 0
    ∷ no' 11 0
    ∷ no' 11 0
    ∷ no' 11 0
    ∷ no' 12 0
    ∷ no' 12 0
    ∷ no' 12 0
    ∷ no' 10 0
    ∷ no' 6 0
    ∷ says 0 none 0 none 0
    ∷ []
unfolding turn refusal settled timer more_urgent charged posted
first_rows = refl

-- "up to 32 VCPUs": one more has a place beside 31 others, and none beside 32; those remembered take a place too
abbrev others : ℕ → List Vcpu
others n = ticks n (admitted 0 (record { tunnel = 1; period = 10; capacity = 3; priority = 1; kind = 0 })) []

abbrev newcomer : Description
newcomer = record { tunnel = 2; period = 10; capacity = 3; priority = 1; kind = 0 }

abbrev left : ℕ → List Remembered
left n = ticks n (record { tunnel = 3; time = 10 }) []

pub room :
    (admit_rows (others 31) [] newcomer ≡ none) × (admit_rows (others 32) [] newcomer ≡ some (record { number = 8; detail = 0 }))
    × (admit_rows (others 20) (left 11) newcomer ≡ none)
    × (admit_rows (others 20) (left 12) newcomer ≡ some (record { number = 8; detail = 0 }))
room = (refl, refl, refl, refl)
