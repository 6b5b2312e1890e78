-- The bytes of an event, and what `size` and `write` promise.
-- Assumes nothing.
use Rattle.std.specs.Prelude.{ℕ, ◌+◌, ◌^◌, ◌<◌, ◌≡◌, Bool, true, cond, ◌&&◌, List, [], ◌++◌, leb, length, drop}
use Rattle.std.proofs.lemmas.List.Edits.{sets}
use Rattle.rules.specs.Limits.{largest_tunnel}
use Rattle.rules.specs.Change.{Change, admit, wake, block, remove, tick}
use Rattle.rules.specs.Turn.{Call}
use Rattle.records.specs.declared.answers.Event.{Event}
use Rattle.records.specs.Bytes.{bytes_of}
use Rattle.records.specs.Record.{payload}
use Rattle.records.specs.Answer.{paper_event}

-- "1 admit, 2 wake, 3 block, 4 remove, 5 tick"
abbrev pub tag_of : Change → ℕ
tag_of (admit d) = 1
tag_of (wake t) = 2
tag_of (block t) = 3
tag_of (remove t) = 4
tag_of tick = 5

-- the payload behind its time: "identifier 3, period 4, capacity 4, priority 1", and the kind
abbrev pub fields_of : Change → List ℕ
fields_of (admit d) =
    bytes_of 3 d.tunnel
    ++ (bytes_of 4 d.period ++ (bytes_of 4 d.capacity ++ (bytes_of 1 d.priority ++ bytes_of 1 d.kind)))
fields_of (wake t) = bytes_of 3 t
fields_of (block t) = bytes_of 3 t
fields_of (remove t) = bytes_of 3 t
fields_of tick = []

-- tag 1, length 2, time 8
unfoldable pub head : ℕ → ℕ → ℕ → List ℕ
head tag length time = bytes_of 1 tag ++ (bytes_of 2 length ++ bytes_of 8 time)

-- the whole record of a call
unfoldable pub record_of : Call → List ℕ
record_of c = head (tag_of c.asked) (payload (tag_of c.asked)) c.now ++ fields_of c.asked

-- the bytes of an event's whole record
unfoldable pub size_of : Event → ℕ
size_of e = 3 + payload (tag_of (paper_event e).asked)

-- "identifier 3": a wider one would not read back
abbrev pub has24_bits : Change → Bool
has24_bits (admit d) = leb d.tunnel largest_tunnel
has24_bits (wake t) = leb t largest_tunnel
has24_bits (block t) = leb t largest_tunnel
has24_bits (remove t) = leb t largest_tunnel
has24_bits tick = true

-- what the declared types guarantee of an admit's terms: period 32 bits, capacity 32, priority 8, kind 8
abbrev pub TermsOfTheirTypes : Change → Type 0
TermsOfTheirTypes (admit d) = (d.period < 2 ^ 32) × (d.capacity < 2 ^ 32) × (d.priority < 2 ^ 8) × (d.kind < 2 ^ 8)
TermsOfTheirTypes (wake t) = Unit {0}
TermsOfTheirTypes (block t) = Unit {0}
TermsOfTheirTypes (remove t) = Unit {0}
TermsOfTheirTypes tick = Unit {0}

-- what the declared types guarantee: that, and time 64 bits
abbrev pub OfItsTypes : Call → Type 0
OfItsTypes c = (c.now < 2 ^ 64) × TermsOfTheirTypes c.asked

-- what a record can hold
abbrev pub InRange : Call → Type 0
InRange c = OfItsTypes c × (has24_bits c.asked ≡ true)

-- the record would read back, and there is room for it
unfoldable pub is_written : Event → List ℕ → Bool
is_written e out = has24_bits (paper_event e).asked && leb (size_of e) (length out)

-- how many bytes are written: the whole record or nothing
unfoldable pub written_size : Event → List ℕ → ℕ
written_size e out = cond (is_written e out) (size_of e) 0

-- what `out` holds then: the record at its front, and the rest as it was
unfoldable pub out_after : Event → List ℕ → List ℕ
out_after e out = cond (is_written e out) (record_of (paper_event e) ++ drop (size_of e) out) out

-- `s` with `xs` laid over it from `at` on; only the promises of private functions cite it
unfoldable pub laid : List ℕ → ℕ → List ℕ → List ℕ
laid s at xs = sets s at xs
