-- Document 01, "Event records and lines" with rows 20 to 22 of "Reply numbers" and document 02's kind and offset, as plain facts of the
-- bytes: where each check applies, that the first that does is given, and which call is read where none does. Proved of all bytes and
-- offsets in proofs/Rows. Assumes nothing.
use Rattle.std.specs.Prelude.{ℕ, ◌+◌, ◌-◌, ◌*◌, ◌^◌, ◌≤◌, ◌<◌, ◌≡◌, List, [], ◌∷◌, ◌++◌, ◌↔◌, length}
use Rattle.rules.specs.Vcpu.{Description}
use Rattle.rules.specs.Change.{admit, wake, block, remove, tick}
use Rattle.rules.specs.Turn.{Call}
use Rattle.records.specs.Record.{event, refused, reading}

-- "all big-endian": the first byte counts most
abbrev pub big_endian : List ℕ → ℕ
big_endian [] = 0
big_endian (b ∷ bytes) = b * 256 ^ length bytes + big_endian bytes

-- the bytes begin with these numbers, each with how many bytes it takes, as in "time 8, identifier 3"
abbrev pub Begins : List ℕ → List (ℕ × ℕ) → Type 0
Begins s [] = Unit {0}
Begins s (field ∷ fields) =
    (bytes : List ℕ)
    × (rest : List ℕ)
    × (s ≡ bytes ++ rest)
    × (length bytes ≡ field.1)
    × (big_endian bytes ≡ field.0)
    × Begins rest fields

-- the bytes of a tag's payload: "Admit records become 21 bytes", "2 wake, 3 block, 4 remove, 11 bytes each", "5 tick, 8 bytes"; 6 and 7
-- have none here
pub data Layout : ℕ → ℕ → Type 0 where
  admit-has : Layout 1 21
  wake-has : Layout 2 11
  block-has : Layout 3 11
  remove-has : Layout 4 11
  tick-has : Layout 5 8

-- the check at this place of the order applies, and has this number:
-- "header short 20 (no bytes at all too), tag 21, length 22, payload short 20"
pub data Check (s : List ℕ) : ℕ → ℕ → Type 0 where
  header-short : length s < 3 → Check s 1 20
  tag-unknown : (tag : ℕ) → Begins s ((tag, 1) ∷ []) → ((n : ℕ) → Layout tag n → ⊥) → Check s 2 21
  length-other : (tag n : ℕ) → Begins s ((tag, 1) ∷ (n, 2) ∷ []) → (Layout tag n → ⊥) → Check s 3 22
  payload-short : (tag n : ℕ) → Begins s ((tag, 1) ∷ (n, 2) ∷ []) → length s < 3 + n → Check s 4 20

-- a check with this number applies, and none before it
pub record First (s : List ℕ) (number : ℕ) : Type 0 where
  pub place : ℕ
  pub applies : Check s place number
  pub none_before : (p n : ℕ) → p < place → Check s p n → ⊥

abbrev pub NoCheck : List ℕ → Type 0
NoCheck s = (place number : ℕ) → Check s place number → ⊥

-- the bytes begin with a whole record, and it says this call; what lies behind it is not looked at
pub data Says (s : List ℕ) (c : Call) : Type 0 where
  -- "time 8, identifier 3, period 4, capacity 4, priority 1", "21 bytes with the kind last"
  says-admit : (d : Description) → c.asked ≡ admit d
      → Begins s
      ((1, 1) ∷ (21, 2) ∷ (c.now, 8) ∷ (d.tunnel, 3) ∷ (d.period, 4) ∷ (d.capacity, 4) ∷ (d.priority, 1) ∷ (d.kind, 1) ∷ [])
      → Says s c
  -- "2 wake, 3 block, 4 remove, 11 bytes each: time 8, identifier 3"
  says-wake : (tunnel : ℕ) → c.asked ≡ wake tunnel → Begins s ((2, 1) ∷ (11, 2) ∷ (c.now, 8) ∷ (tunnel, 3) ∷ []) → Says s c
  says-block : (tunnel : ℕ) → c.asked ≡ block tunnel → Begins s ((3, 1) ∷ (11, 2) ∷ (c.now, 8) ∷ (tunnel, 3) ∷ []) → Says s c
  says-remove : (tunnel : ℕ) → c.asked ≡ remove tunnel → Begins s ((4, 1) ∷ (11, 2) ∷ (c.now, 8) ∷ (tunnel, 3) ∷ []) → Says s c
  -- "5 tick, 8 bytes: time"
  says-tick : c.asked ≡ tick → Begins s ((5, 1) ∷ (8, 2) ∷ (c.now, 8) ∷ []) → Says s c

-- the detail of a refusal: "the byte offset, from the start of input, at which the bad record begins"; the largest number of 64 bits
-- where the offset has more of them
pub data Detail (offset : ℕ) : ℕ → Type 0 where
  is_offset : offset < 2 ^ 64 → Detail offset offset
  is_largest : 2 ^ 64 ≤ offset → Detail offset (2 ^ 64 - 1)

-- "Given exactly when", with the offset of the record that is read; an event is the call that the bytes say, wherever they begin, and there
-- is one exactly when no check applies
pub record Table (offset : ℕ) (s : List ℕ) : Type 0 where
  pub refuses : (number detail : ℕ) → reading offset s ≡ refused (record { number = number; detail = detail })
      ↔ First s number × Detail offset detail
  pub gives : (c : Call) → reading offset s ≡ event c ↔ Says s c
  pub reads : ((c : Call) × (reading offset s ≡ event c)) ↔ NoCheck s
