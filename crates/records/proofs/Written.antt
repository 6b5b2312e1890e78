-- Laws of what `write` leaves: the record at the front and the rest as it was, or all as it was.
-- Assumes nothing.
use Prim.Native.Nat.{ℕ, ◌+◌, ◌≤◌, ◌<◌}
use native.Mathlib.Nat.{zero-add}
use native.Mathlib.Omega.{arith}
use mathlib.Core.Path.{◌≡◌, refl, ap, sym, ◌∙◌, subst}
use mathlib.Core.Bool.{Bool, true, false, ◌&&◌}
use mathlib.Core.List.{List, ◌++◌}
use lib.ListN.{length, drop}
use lib.Seq.{sets-eq}
use borrow.Author.Tests.{le-leb, lt-leb}
use Rattle.rules.specs.Change.{Change, admit, wake, block, remove, tick}
use Rattle.rules.specs.Turn.{Call}
use Rattle.records.specs.declared.answers.Event.{Event}
use Rattle.records.specs.Record.{known, payload_of, payload, tag, length_said}
use Rattle.records.specs.Answer.{paper_event}
use Rattle.records.specs.Encode.{tag_of, fields_of, head, record_of, size_of, has24_bits, is_written, written_size, out_after, laid}

-- "admit, 21 bytes; wake, block, remove, 11 bytes each; tick, 8 bytes"
record-says : (c : Call)
    → (length (record_of c) ≡ 3 + payload (tag_of c.asked))
    × (tag (record_of c) ≡ tag_of c.asked)
    × (length_said (record_of c) ≡ payload (tag_of c.asked))
    × (known (tag_of c.asked) ≡ true)
unfolding record_of head payload payload_of known
record-says c = go c.asked
  where
    whole : Change → List ℕ
    whole a = head (tag_of a) (payload (tag_of a)) c.now ++ fields_of a

    go : (a : Change)
        → (length (whole a) ≡ 3 + payload (tag_of a))
        × (tag (whole a) ≡ tag_of a)
        × (length_said (whole a) ≡ payload (tag_of a))
        × (known (tag_of a) ≡ true)
    go (admit d) = (refl, refl, refl, refl)
    go (wake t) = (refl, refl, refl, refl)
    go (block t) = (refl, refl, refl, refl)
    go (remove t) = (refl, refl, refl, refl)
    go tick = (refl, refl, refl, refl)

pub length-record : (c : Call) → length (record_of c) ≡ 3 + payload (tag_of c.asked)
length-record c = (record-says c).0

pub record-tag : (c : Call) → tag (record_of c) ≡ tag_of c.asked
record-tag c = (record-says c).1

pub record-said : (c : Call) → length_said (record_of c) ≡ payload (tag_of c.asked)
record-said c = (record-says c).2

pub record-known : (c : Call) → known (tag_of c.asked) ≡ true
record-known c = (record-says c).3

module _ (e : Event) (out : List ℕ) where
  pub kept : is_written e out ≡ false → (0 ≡ written_size e out) × (out ≡ out_after e out)
  unfolding written_size out_after
  kept h = (rw h, rw h)

  pub too_wide : has24_bits (paper_event e).asked ≡ false → is_written e out ≡ false
  unfolding is_written
  too_wide h = rw h

  pub no_room : length out < size_of e → is_written e out ≡ false
  unfolding is_written
  no_room h = rw (lt-leb (size_of e) (length out) h) (go (has24_bits (paper_event e).asked))
    where
      go : (b : Bool) → b && false ≡ false
      go true = refl
      go false = refl

  is-written : has24_bits (paper_event e).asked ≡ true → size_of e ≤ length out → is_written e out ≡ true
  unfolding is_written
  is-written n h = rw (n, le-leb (size_of e) (length out) h)

  pub put_whole : (e' : Event) (r : ℕ) (out' : List ℕ) → e ≡ e' → r ≡ size_of e
      → has24_bits (paper_event e).asked ≡ true → size_of e ≤ length out
      → out' ≡ laid out 0 (record_of (paper_event e')) → (r ≡ written_size e out) × (out' ≡ out_after e out)
  unfolding written_size out_after laid size_of
  put_whole e' r out' same size w room p =
      let h : is_written e out ≡ true = is-written w room in
      let x : List ℕ = record_of (paper_event e) in
      let n : 0 + length x ≡ size_of e = zero-add _ ∙ length-record (paper_event e) in
      let q : out' ≡ laid out 0 x = subst (λ (y : Event). out' ≡ laid out 0 (record_of (paper_event y))) (sym same) p in
      (rw h size, rw h (q ∙ sets-eq x out 0 (omega arith) ∙ ap (λ (k : ℕ). x ++ drop k out) n))
