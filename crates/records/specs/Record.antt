-- Document 01, "Event records and lines", with document 02's kind and offset: what a record says, in plain numbers, and the checks in
-- their order. Assumes nothing.
use Rattle.std.specs.Prelude.{ℕ, ◌+◌, min, Bool, cond, not, ◌&&◌, ◌||◌, List, ltb, eqb, length, get_or}
use Rattle.std.specs.Prelude.{Option, None, Some, is_some, unwrap_or}
use Rattle.rules.specs.Vcpu.{Description}
use Rattle.rules.specs.Change.{Change, admit, wake, block, remove, tick}
use Rattle.rules.specs.Refuse.{Refusal}
use Rattle.rules.specs.Turn.{Call}
use Rattle.records.specs.Bytes.{number}

-- "Reading a record either gives an event, or a refusal"
pub data Reading : Type 0 where
  event : Call → Reading
  refused : Refusal → Reading

-- the bytes of a tag's payload: "Admit records become 21 bytes", "2 wake, 3 block, 4 remove, 11 bytes each", "5 tick, 8 bytes"; no other
-- is known
unfoldable pub payload_of : ℕ → Option ℕ
payload_of tag =
    cond (eqb tag 1) (Some 21)
    (cond (eqb tag 2) (Some 11)
    (cond (eqb tag 3) (Some 11)
    (cond (eqb tag 4) (Some 11)
    (cond (eqb tag 5) (Some 8)
    None))))

unfoldable pub known : ℕ → Bool
known tag = is_some (payload_of tag)

-- the bytes of a known tag's payload
unfoldable pub payload : ℕ → ℕ
payload tag = unwrap_or (payload_of tag) 0

-- "A record is a tag byte, a two-byte length and the payload"
abbrev pub tag : List ℕ → ℕ
tag s = get_or s 0 0

abbrev pub length_said : List ℕ → ℕ
length_said s = number s 1 2

-- "time 8, identifier 3, period 4, capacity 4, priority 1", "with the kind last"
abbrev pub time : List ℕ → ℕ
time s = number s 3 8

abbrev pub identifier : List ℕ → ℕ
identifier s = number s 11 3

abbrev pub description : List ℕ → Description
description s =
    record { tunnel = identifier s; period = number s 14 4; capacity = number s 18 4; priority = get_or s 22 0; kind = get_or s 23 0 }

abbrev pub asked : ℕ → List ℕ → Change
asked tag s =
    cond (eqb tag 1) (admit (description s))
    (cond (eqb tag 2) (wake (identifier s))
    (cond (eqb tag 3) (block (identifier s))
    (cond (eqb tag 4) (remove (identifier s))
    tick)))

-- the call that a whole record asks for
unfoldable pub call : List ℕ → Call
call s = record { now = time s; asked = asked (tag s) s }

-- a detail has 64 bits: an offset that is larger than all of these is told as the largest
abbrev pub largest_detail : ℕ
largest_detail = 18_446_744_073_709_551_615

abbrev pub told : ℕ → ℕ
told offset = min offset largest_detail

-- a refusal with that number, of the record that begins at this offset from the start of input: "the detail becomes the byte offset, from
-- the start of input, at which the bad record begins"
abbrev pub no : ℕ → ℕ → Reading
no offset number = refused (record { number = number; detail = told offset })

-- a check: where its test applies, its number; else the checks after it
abbrev pub row : ℕ → Bool → ℕ → Reading → Reading
row offset applies number after = cond applies (no offset number) after

-- the record that begins at this offset: "header short 20 (no bytes at all too), tag 21, length 22, payload short 20"
unfoldable pub reading : ℕ → List ℕ → Reading
reading offset s =
    row offset (ltb (length s) 3) 20
    (row offset (not (known (tag s))) 21
    (row offset (not (eqb (length_said s) (payload (tag s)))) 22
    (row offset (ltb (length s) (3 + payload (tag s))) 20
    (event (call s)))))

-- more bytes can change the answer: there are fewer than three, or a known tag with its length has a short payload
unfoldable pub waits : List ℕ → Bool
waits s =
    ltb (length s) 3
    || (known (tag s) && (eqb (length_said s) (payload (tag s)) && ltb (length s) (3 + payload (tag s))))
