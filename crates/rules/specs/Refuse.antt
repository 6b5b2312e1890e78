-- Document 01, "Reply numbers", rows 1 to 8, with rows 9 to 12 of document 02, Nos. 1 to 3: the first row from the top that applies.
-- Rows states the same in plain facts. Assumes nothing.
use Rattle.std.specs.Prelude.{ℕ, ◌+◌, Bool, cond, not, List, leb, ltb, eqb, length}
use Rattle.std.proofs.Math.Option.{Option, none, some}
use Rattle.rules.specs.Limits.{largest_time, largest_tunnel, largest_kind, most_vcpus, in_range}
use Rattle.rules.specs.Vcpu.{Description, Vcpu}
use Rattle.rules.specs.Remember.{Remembered, kept, time_of}
use Rattle.rules.specs.Card.{Card, on_card}
use Rattle.rules.specs.Change.{Change, admit, wake, block, remove, tick}

pub record Refusal : Type 0 where
  pub number : ℕ
  pub detail : ℕ

-- a row of the table: where its test applies, its number and detail; else the rows below
abbrev pub row : Bool → ℕ → ℕ → Option Refusal → Option Refusal
row applies number detail below = cond applies (some (record { number = number; detail = detail })) below

-- the tests of rows 1, 2 and 3
abbrev pub above_largest : ℕ → Bool
above_largest now = ltb largest_time now

abbrev pub below_last : ℕ → ℕ → Bool
below_last last now = ltb now last

abbrev pub is_late : ℕ → ℕ → Bool
is_late t now = ltb t now

-- "there is a timer and the time is later than it", with the timer as the detail
abbrev pub row_late : Option ℕ → ℕ → Option Refusal → Option Refusal
row_late none now below = below
row_late (some t) now below = row (is_late t now) 3 t below

abbrev pub time_rows : ℕ → Option ℕ → ℕ → Option Refusal → Option Refusal
time_rows last timer now below = row (above_largest now) 1 0 (row (below_last last now) 2 0 (row_late timer now below))

-- row 4
abbrev pub above24_bits : ℕ → Bool
above24_bits tunnel = ltb largest_tunnel tunnel

-- "9, identifier is remembered, with that time as the detail, after 6"
abbrev pub row_remembered : Option ℕ → Option Refusal → Option Refusal
row_remembered none below = below
row_remembered (some time) below = some (record { number = 9; detail = time })

-- "5 for the period, 11 for a capacity of 0, 12 for a capacity above the period"; "11 then 12, straight after 5 and before 10";
-- "8 now counts remembered places". `rs` are those remembered at the call's time
abbrev pub admit_rows : List Vcpu → List Remembered → Description → Option Refusal
admit_rows vs rs d =
    row (above24_bits d.tunnel) 4 0
    (row (not (in_range d.period)) 5 0
    (row (eqb d.capacity 0) 11 0
    (row (ltb d.period d.capacity) 12 0
    (row (ltb largest_kind d.kind) 10 0
    (row (on_card d.tunnel vs) 6 0
    (row_remembered (time_of d.tunnel rs)
    (row (leb most_vcpus (length vs + length rs)) 8 0
    none)))))))

-- wake, block, remove
abbrev pub naming_rows : List Vcpu → ℕ → Option Refusal
naming_rows vs tunnel = row (above24_bits tunnel) 4 0 (row (not (on_card tunnel vs)) 7 0 none)

abbrev pub call_rows : List Vcpu → List Remembered → Change → Option Refusal
call_rows vs rs (admit d) = admit_rows vs rs d
call_rows vs rs (wake tunnel) = naming_rows vs tunnel
call_rows vs rs (block tunnel) = naming_rows vs tunnel
call_rows vs rs (remove tunnel) = naming_rows vs tunnel
call_rows vs rs tick = none

-- "Both are judged at the call's time."
unfoldable pub refusal : Card → ℕ → Change → Option Refusal
refusal c now asked = time_rows c.last c.timer now (call_rows c.vcpus (kept now c.remembered) asked)
