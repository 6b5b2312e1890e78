-- What is written reads back, whatever lies behind it; and its bytes are bytes.
-- Assumes nothing.
use Prim.Native.Nat.{ℕ, ◌+◌, ◌%◌, ◌^◌, ◌≤◌, ◌<◌}
use native.Mathlib.Omega.{arith}
use mathlib.Core.Path.{◌≡◌, refl, ap, sym, ◌∙◌}
use mathlib.Core.Bool.{Bool, true, false}
use mathlib.Core.List.{List, [], ◌∷◌, ◌++◌}
use Rattle.std.specs.Prelude.{Ok}
use lib.ListN.{length, take, drop, length-append, take-append-drop}
use lib.Seq.{length-take-le}
use lib.Dec.{leb}
use borrow.Author.Tests.{leb-true, leb-false}
use Rattle.rules.proofs.Tests.{and-true}
use Rattle.rules.specs.Limits.{largest_tunnel}
use Rattle.rules.specs.Vcpu.{Description}
use Rattle.rules.specs.Change.{Change, admit, wake, block, remove, tick}
use Rattle.rules.specs.Turn.{Call}
use Rattle.records.specs.declared.answers.Event.{Event}
use Rattle.records.specs.Bytes.{AreBytes, number, bytes_of}
use Rattle.records.specs.Record.{event, no, known, payload_of, payload, reading, waits}
use Rattle.records.specs.Record.{tag, length_said, time, identifier, description, asked, call}
use Rattle.records.specs.Answer.{paper_event, read_said, read_spec}
use Rattle.records.specs.Encode.{tag_of, fields_of, head, record_of, size_of, is_written, written_size, out_after}
use Rattle.records.specs.Encode.{has24_bits, TermsOfTheirTypes, OfItsTypes, InRange}
use Rattle.records.proofs.Digits.{number-field, bytes_below, bytes-then}
use Rattle.records.proofs.Paper.{same-call, same-terms, said-again}
use Rattle.records.proofs.Cases.{whole-record, answers}
use Rattle.records.proofs.Written.{length-record, record-tag, record-known, record-said}
use Rattle.records.proofs.Behind.{tag-append, said-append, waits-header, waits-short, read-waits}

three_bytes : (i : ℕ) → leb i largest_tunnel ≡ true → i < 256 ^ 3
three_bytes i n = omega (arith, leb-true i largest_tunnel n)

module _ (now : ℕ) (t : List ℕ) where
  whole : Change → List ℕ
  whole a = record_of (record { now = now; asked = a }) ++ t

  time-back : (a : Change) → now < 256 ^ 8 → time (whole a) ≡ now
  unfolding whole record_of head payload payload_of
  time-back (admit d) h = number-field (1 ∷ 0 ∷ 21 ∷ []) (fields_of (admit d) ++ t) 8 now h
  time-back (wake i) h = number-field (2 ∷ 0 ∷ 11 ∷ []) (fields_of (wake i) ++ t) 8 now h
  time-back (block i) h = number-field (3 ∷ 0 ∷ 11 ∷ []) (fields_of (block i) ++ t) 8 now h
  time-back (remove i) h = number-field (4 ∷ 0 ∷ 11 ∷ []) (fields_of (remove i) ++ t) 8 now h
  time-back tick h = number-field (5 ∷ 0 ∷ 8 ∷ []) t 8 now h

  -- the identifier that follows the head
  named_back : (tag long i : ℕ) (b : List ℕ) → i < 256 ^ 3 → identifier (head tag long now ++ (bytes_of 3 i ++ b)) ≡ i
  unfolding head
  named_back tag long i b h = number-field (head tag long now) b 3 i h

  described-back : (d : Description) → d.tunnel < 256 ^ 3 → TermsOfTheirTypes (admit d) → description (whole (admit d)) ≡ d
  unfolding whole record_of head payload payload_of
  described-back d n h =
      let a : List ℕ = head 1 21 now in
      let p : List ℕ = bytes_of 4 d.period in
      let c : List ℕ = bytes_of 4 d.capacity in
      let u : List ℕ = bytes_of 1 d.priority in
      let r : List ℕ = u ++ (bytes_of 1 d.kind ++ t) in
      let i : identifier (whole (admit d)) ≡ d.tunnel = number-field a (p ++ (c ++ r)) 3 d.tunnel n in
      let e : number (whole (admit d)) 14 4 ≡ d.period = number-field (a ++ bytes_of 3 d.tunnel) (c ++ r) 4 d.period h.0 in
      let f : number (whole (admit d)) 18 4 ≡ d.capacity =
      number-field (a ++ (bytes_of 3 d.tunnel ++ p)) r 4 d.capacity h.1 in
      let g : d.priority % 256 ≡ d.priority = omega (arith, h.2) in
      let k : d.kind % 256 ≡ d.kind = omega (arith, h.3) in
      same-terms d i e f g k

  asked-back : (a : Change) → has24_bits a ≡ true → TermsOfTheirTypes a → asked (tag_of a) (whole a) ≡ a
  unfolding whole record_of head payload payload_of
  asked-back (admit d) n h = ap admit (described-back d (three_bytes d.tunnel n) h)
  asked-back (wake i) n h = ap wake (named_back 2 11 i t (three_bytes i n))
  asked-back (block i) n h = ap block (named_back 3 11 i t (three_bytes i n))
  asked-back (remove i) n h = ap remove (named_back 4 11 i t (three_bytes i n))
  asked-back tick n h = refl

-- what is encoded reads back, whatever lies behind it
pub reads-back : (offset : ℕ) (c : Call) → InRange c → (t : List ℕ) → reading offset (record_of c ++ t) ≡ event c
unfolding call whole
reads-back offset c h t =
    let s : List ℕ = whole c.now t c.asked in
    let long : 3 ≤ length (record_of c) = omega (arith, length-record c) in
    let g : tag s ≡ tag_of c.asked = tag-append (record_of c) t long ∙ record-tag c in
    let k : known (tag s) ≡ true = ap known g ∙ record-known c in
    let l : length_said s ≡ payload (tag s) = said-append (record_of c) t long ∙ record-said c ∙ ap payload (sym g) in
    let p : 3 + payload (tag s) ≤ length s = omega (arith, ap payload g, length-record c, length-append (record_of c) t) in
    let a : asked (tag s) s ≡ c.asked = ap (λ (n : ℕ). asked n s) g ∙ asked-back c.now t c.asked h.1 h.0.1 in
    whole-record offset s k l p ∙ ap event (same-call (time-back c.now t c.asked h.0.0) a)

pub event-reads-back : (offset : ℕ) (e : Event) → InRange (paper_event e) → (t : List ℕ)
    → read_spec offset (record_of (paper_event e) ++ t) ≡ Ok e
event-reads-back offset e h t =
    let c = paper_event e in
    answers offset (record_of c ++ t) (event c) (reads-back offset c h t) ∙ ap Ok (said-again e)

fields-below : (a : Change) → AreBytes (fields_of a)
fields-below (admit d) =
    let u : List ℕ = bytes_of 1 d.priority ++ bytes_of 1 d.kind in
    let c : List ℕ = bytes_of 4 d.capacity ++ u in
    let p : List ℕ = bytes_of 4 d.period ++ c in
    bytes-then 3 d.tunnel p
    (bytes-then 4 d.period c
    (bytes-then 4 d.capacity u (bytes-then 1 d.priority (bytes_of 1 d.kind) (bytes_below 1 d.kind))))
fields-below (wake i) = bytes_below 3 i
fields-below (block i) = bytes_below 3 i
fields-below (remove i) = bytes_below 3 i
fields-below tick = tt

-- the bytes of a record are bytes
pub record-bytes : (c : Call) → AreBytes (record_of c)
unfolding record_of head
record-bytes c =
    let n : ℕ = tag_of c.asked in
    let f : List ℕ = fields_of c.asked in
    bytes-then 1 n (bytes_of 2 (payload n) ++ (bytes_of 8 c.now ++ f))
    (bytes-then 2 (payload n) (bytes_of 8 c.now ++ f) (bytes-then 8 c.now f (fields-below c.asked)))

-- what `write` wrote reads back as the event
pub written-reads-back : (offset : ℕ) (e : Event) (out : List ℕ) → OfItsTypes (paper_event e) → is_written e out ≡ true
    → (written_size e out ≡ size_of e) × (read_spec offset (out_after e out) ≡ Ok e)
unfolding is_written written_size out_after
written-reads-back offset e out h g =
    let n : has24_bits (paper_event e).asked ≡ true = (and-true (has24_bits (paper_event e).asked) (leb (size_of e) (length out)) g).0 in
    (rw g, rw g (event-reads-back offset e (h, n) (drop (size_of e) out)))

-- a proper part of a record waits for the rest
pub part-waits : (c : Call) (k : ℕ) → k < length (record_of c) → waits (take k (record_of c)) ≡ true
part-waits c k h = go (leb 3 k) refl
  where
    r : List ℕ
    r = record_of c

    s : List ℕ
    s = take k r

    t : List ℕ
    t = drop k r

    size : length s ≡ k
    size = length-take-le k r (omega arith)

    go : (b : Bool) → leb 3 k ≡ b → waits s ≡ true
    go false b = waits-header s (omega (arith, size, leb-false 3 k b))
    go true b =
        let long : 3 ≤ length s = omega (arith, size, leb-true 3 k b) in
        let same : s ++ t ≡ r = take-append-drop k r in
        let g : tag s ≡ tag_of c.asked = sym (tag-append s t long) ∙ ap tag same ∙ record-tag c in
        let e : length_said s ≡ payload (tag s) = sym (said-append s t long) ∙ ap length_said same ∙ record-said c ∙ ap payload (sym g) in
        waits-short s long (ap known g ∙ record-known c) e (omega (arith, size, ap payload g, length-record c))

-- a proper part of a record is answered by 20
pub part-read : (offset : ℕ) (c : Call) (k : ℕ) → k < length (record_of c) → read_spec offset (take k (record_of c)) ≡ read_said (no offset 20)
part-read offset c k h = read-waits offset (take k (record_of c)) (part-waits c k h)
