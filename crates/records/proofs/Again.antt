-- An event that was read is in range, and encoded again it is the very bytes that were read: an event has one record.
-- Assumes nothing.
use Prim.Native.Nat.{ℕ, zero, suc, ◌+◌, ◌-◌, ◌*◌, ◌/◌, ◌%◌, ◌^◌, ◌≤◌, ◌<◌}
use native.Mathlib.Nat.{zero-add, pow-suc}
use native.Mathlib.Omega.{arith}
use mathlib.Core.Path.{◌≡◌, refl, ap, sym, ◌∙◌, subst}
use mathlib.Core.Bool.{true}
use mathlib.Core.List.{List, [], ◌∷◌, ◌++◌}
use Rattle.std.specs.Prelude.{Ok}
use lib.ListN.{length, get_or, take, drop}
use lib.Seq.{take-add, drop-drop}
use lib.Dec.{leb}
use borrow.Author.Tests.{le-leb}
use Rattle.rules.specs.Limits.{largest_tunnel}
use Rattle.rules.specs.Change.{admit}
use Rattle.records.specs.declared.answers.Event.{Event}
use Rattle.records.specs.Bytes.{AreBytes, number, bytes_of}
use Rattle.records.specs.Record.{known, payload, tag, length_said, time, identifier, description, asked, call}
use Rattle.records.specs.Answer.{paper_event, read_spec}
use Rattle.records.specs.Rows.{Layout, admit-has, wake-has, block-has, remove-has, tick-has}
use Rattle.records.specs.Encode.{tag_of, fields_of, head, record_of, size_of, InRange}
use Rattle.records.proofs.Digits.{take_more}
use Rattle.records.proofs.Tags.{known-layout, payload_bounds}
use Rattle.records.proofs.Exactly.{Whole, read_whole, asked-tag, read-size}

byte_at : (s : List ℕ) (i : ℕ) → AreBytes s → get_or s i 0 < 256
byte_at [] i h = omega arith
byte_at (b ∷ s) zero h = h.0
byte_at (b ∷ s) (suc i) h = byte_at s i h.1

cat : {a b c d : List ℕ} → a ≡ c → b ≡ d → a ++ b ≡ c ++ d
cat e f = rw (e, f)

module _ (s : List ℕ) where
  -- two parts, one behind the other
  part : (at a b : ℕ) → take a (drop at s) ++ take b (drop (at + a) s) ≡ take (a + b) (drop at s)
  part at a b = ap (λ (l : List ℕ). take a (drop at s) ++ take b l) (sym (drop-drop a at s)) ∙ sym (take-add a b (drop at s))

module _ (s : List ℕ) (h : AreBytes s) where
  number-below : (w at : ℕ) → number s at w < 256 ^ w
  number-below zero at = omega arith
  number-below (suc w) at = omega (arith, number-below w at, byte_at s (at + w) h, pow-suc 256 w)

  bytes-number : (w at : ℕ) → at + w ≤ length s → bytes_of w (number s at w) ≡ take w (drop at s)
  bytes-number zero at p = refl
  bytes-number (suc w) at p =
      let n : ℕ = number s at w in
      let b : ℕ = get_or s (at + w) 0 in
      let small : b < 256 = byte_at s (at + w) h in
      let front : (n * 256 + b) / 256 ≡ n = omega arith in
      let last : (n * 256 + b) % 256 ≡ b = omega arith in
      rw (front, last, bytes-number w at (omega arith)) (sym (take_more s at w p))

  -- one byte at a fixed place
  byte_number : (at n : ℕ) → number s at 1 ≡ n → at + 1 ≤ length s → bytes_of 1 n ≡ take 1 (drop at s)
  byte_number at n e p = ap (bytes_of 1) (sym e) ∙ bytes-number 1 at p

  head-again : 11 ≤ length s → head (tag s) (length_said s) (time s) ≡ take 11 s
  unfolding head
  head-again p =
      cat (byte_number 0 (tag s) (zero-add (tag s)) (omega arith)) (cat (bytes-number 2 1 (omega arith)) (bytes-number 8 3 (omega arith)))
      ∙ ap (λ (l : List ℕ). take 1 s ++ l) (part s 1 2 8)
      ∙ part s 0 1 10

  admit-again : 24 ≤ length s → fields_of (admit (description s)) ≡ take 13 (drop 11 s)
  admit-again p =
      cat (bytes-number 3 11 (omega arith))
      (cat (bytes-number 4 14 (omega arith))
      (cat (bytes-number 4 18 (omega arith))
      (cat (byte_number 22 (get_or s 22 0) (zero-add (get_or s 22 0)) (omega arith))
      (byte_number 23 (get_or s 23 0) (zero-add (get_or s 23 0)) (omega arith))
      ∙ part s 22 1 1)
      ∙ part s 18 4 2)
      ∙ part s 14 4 6)
      ∙ part s 11 3 10

  fields-again : (k n m : ℕ) → Layout k n → 3 + n ≤ length s → 11 + m ≡ 3 + n → fields_of (asked k s) ≡ take m (drop 11 s)
  fields-again k n m admit-has p q = let e : m ≡ 13 = omega arith in rw e (admit-again (omega arith))
  fields-again k n m wake-has p q = let e : m ≡ 3 = omega arith in rw e (bytes-number 3 11 (omega arith))
  fields-again k n m block-has p q = let e : m ≡ 3 = omega arith in rw e (bytes-number 3 11 (omega arith))
  fields-again k n m remove-has p q = let e : m ≡ 3 = omega arith in rw e (bytes-number 3 11 (omega arith))
  fields-again k n m tick-has p q = let e : m ≡ 0 = omega arith in rw e

  record-again : known (tag s) ≡ true → length_said s ≡ payload (tag s) → 3 + payload (tag s) ≤ length s
      → record_of (call s) ≡ take (3 + payload (tag s)) s
  unfolding record_of call
  record-again k l p =
      let l' : Layout (tag s) (payload (tag s)) = known-layout (tag s) k in
      let g : tag_of (asked (tag s) s) ≡ tag s = asked-tag (tag s) (payload (tag s)) s l' in
      let m : ℕ = payload (tag s) - 8 in
      let sum : 11 + m ≡ 3 + payload (tag s) = omega (arith, payload_bounds (tag s) k) in
      let front : head (tag_of (asked (tag s) s)) (payload (tag_of (asked (tag s) s))) (time s) ≡ take 11 s =
      ap (λ (n : ℕ). head n (payload n) (time s)) g
      ∙ ap (λ (n : ℕ). head (tag s) n (time s)) (sym l)
      ∙ head-again (omega (arith, payload_bounds (tag s) k)) in
      cat front (fields-again (tag s) (payload (tag s)) m l' p sum) ∙ part s 0 11 m ∙ ap (λ (n : ℕ). take n s) sum

  identifier-again : leb (identifier s) largest_tunnel ≡ true
  identifier-again = le-leb (identifier s) largest_tunnel (omega (arith, number-below 3 11))

  in_range_again : (k n : ℕ) → Layout k n → InRange (record { now = time s; asked = asked k s })
  in_range_again k n admit-has =
      ((number-below 8 3, (number-below 4 14, number-below 4 18, byte_at s 22 h, byte_at s 23 h)), identifier-again)
  in_range_again k n wake-has = ((number-below 8 3, tt), identifier-again)
  in_range_again k n block-has = ((number-below 8 3, tt), identifier-again)
  in_range_again k n remove-has = ((number-below 8 3, tt), identifier-again)
  in_range_again k n tick-has = ((number-below 8 3, tt), refl)

-- what was read is in range, and its record is the bytes that were read
pub read_again : (offset : ℕ) (s : List ℕ) (e : Event) → AreBytes s → read_spec offset s ≡ Ok e
    → InRange (paper_event e) × (record_of (paper_event e) ≡ take (size_of e) s)
unfolding call
read_again offset s e h r =
    let w : Whole s e = read_whole offset s e r in
    let n : size_of e ≡ 3 + payload (tag s) = (read-size offset s e r).0 in (
      subst InRange (sym w.same) (in_range_again s h (tag s) (payload (tag s)) (known-layout (tag s) w.known-tag)),
      ap record_of w.same ∙ record-again s h w.known-tag w.said w.fits ∙ ap (λ (k : ℕ). take k s) (sym n),
    )
