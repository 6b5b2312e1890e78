-- When more bytes can change the answer: bytes behind a whole record, an unknown tag or another length are not looked at; a header or
-- a payload that is short gives 20 and waits, and there more bytes do change it. Assumes nothing.
use Prim.Native.Nat.{ℕ, zero, suc, ◌+◌, ◌≤◌, ◌<◌}
use native.Mathlib.Omega.{arith}
use mathlib.Core.Path.{◌≡◌, refl, ap, sym, ◌∙◌}
use mathlib.Core.Bool.{Bool, true, false}
use mathlib.Core.List.{List, [], ◌∷◌, ◌++◌}
use mathlib.Core.Logic.{◌↔◌}
use lib.Dec.{ltb, eqb}
use lib.ListN.{length, get_or, replicate, length-append, get_or-append}
use borrow.Author.Tests.{ltb-true, ltb-false, eqb-true, eqb-false, lt-ltb, le-ltb, eq-eqb, ne_eqb}
use Rattle.rules.proofs.Tests.{clash}
use Rattle.rules.specs.Change.{admit, wake, block, remove}
use Rattle.std.specs.Prelude.{Result, Ok, Err}
use Rattle.records.specs.declared.answers.Event.{Event}
use Rattle.records.specs.declared.answers.BadRecord.{BadRecord}
use Rattle.records.specs.Bytes.{AreBytes}
use Rattle.records.specs.Record.{event, no, known, payload, reading, waits}
use Rattle.records.specs.Record.{tag, length_said, time, identifier, description, asked, call}
use Rattle.records.specs.Answer.{bad_number, read_said, read_spec}
use Rattle.records.specs.Rows.{Layout, admit-has, wake-has, block-has, remove-has, tick-has}
use Rattle.records.proofs.Paper.{same-call}
use Rattle.records.proofs.Digits.{number_append}
use Rattle.records.proofs.Tags.{known-layout, payload_bounds}
use Rattle.records.proofs.Cases.{short-header, unknown-tag, other_length, short-payload, whole-record, answers}

-- the five cases, told apart by what the first bytes are
pub data Case (s : List ℕ) : Type 0 where
  header : length s < 3 → Case s
  unknown : 3 ≤ length s → known (tag s) ≡ false → Case s
  other : 3 ≤ length s → known (tag s) ≡ true → (length_said s ≡ payload (tag s) → ⊥) → Case s
  short : 3 ≤ length s → known (tag s) ≡ true → length_said s ≡ payload (tag s) → length s < 3 + payload (tag s) → Case s
  whole : 3 ≤ length s → known (tag s) ≡ true → length_said s ≡ payload (tag s) → 3 + payload (tag s) ≤ length s → Case s

pub case : (s : List ℕ) → Case s
case s = first (ltb (length s) 3) refl
  where
    fourth : 3 ≤ length s → known (tag s) ≡ true → length_said s ≡ payload (tag s)
        → (b : Bool) → ltb (length s) (3 + payload (tag s)) ≡ b → Case s
    fourth h k e true f = short h k e (ltb-true (length s) (3 + payload (tag s)) f)
    fourth h k e false f = whole h k e (ltb-false (length s) (3 + payload (tag s)) f)

    third : 3 ≤ length s → known (tag s) ≡ true → (b : Bool) → eqb (length_said s) (payload (tag s)) ≡ b → Case s
    third h k true f = fourth h k (eqb-true (length_said s) (payload (tag s)) f) (ltb (length s) (3 + payload (tag s))) refl
    third h k false f = other h k (eqb-false (length_said s) (payload (tag s)) f)

    second : 3 ≤ length s → (b : Bool) → known (tag s) ≡ b → Case s
    second h true f = third h f (eqb (length_said s) (payload (tag s))) refl
    second h false f = unknown h f

    first : (b : Bool) → ltb (length s) 3 ≡ b → Case s
    first true f = header (ltb-true (length s) 3 f)
    first false f = second (ltb-false (length s) 3 f) (known (tag s)) refl

-- where more bytes can change the answer, and where not
module _ (s : List ℕ) where
  pub waits-header : length s < 3 → waits s ≡ true
  unfolding waits
  waits-header h = rw (lt-ltb (length s) 3 h)

  pub waits-short : 3 ≤ length s → known (tag s) ≡ true → length_said s ≡ payload (tag s) → length s < 3 + payload (tag s) → waits s ≡ true
  unfolding waits
  waits-short h k e p = rw (le-ltb (length s) 3 h, k, eq-eqb (length_said s) (payload (tag s)) e, lt-ltb (length s) (3 + payload (tag s)) p)

  settled-unknown : 3 ≤ length s → known (tag s) ≡ false → waits s ≡ false
  unfolding waits
  settled-unknown h k = rw (le-ltb (length s) 3 h, k)

  settled-other : 3 ≤ length s → known (tag s) ≡ true → (length_said s ≡ payload (tag s) → ⊥) → waits s ≡ false
  unfolding waits
  settled-other h k n = rw (le-ltb (length s) 3 h, k, ne_eqb (length_said s) (payload (tag s)) n)

  settled-whole : 3 ≤ length s → known (tag s) ≡ true → length_said s ≡ payload (tag s) → 3 + payload (tag s) ≤ length s → waits s ≡ false
  unfolding waits
  settled-whole h k e p =
      rw (le-ltb (length s) 3 h, k, eq-eqb (length_said s) (payload (tag s)) e, le-ltb (length s) (3 + payload (tag s)) p)

module _ (s t : List ℕ) where
  pub tag-append : 3 ≤ length s → tag (s ++ t) ≡ tag s
  tag-append h = get_or-append s t 0 0 (omega arith)

  pub said-append : 3 ≤ length s → length_said (s ++ t) ≡ length_said s
  said-append h = number_append 2 1 s t (omega arith)

  described-append : 24 ≤ length s → description (s ++ t) ≡ description s
  described-append h =
      rw (
        number_append 3 11 s t (omega arith),
        number_append 4 14 s t (omega arith),
        number_append 4 18 s t (omega arith),
        get_or-append s t 0 22 (omega arith),
        get_or-append s t 0 23 (omega arith),
      )

  named-append : 14 ≤ length s → identifier (s ++ t) ≡ identifier s
  named-append h = number_append 3 11 s t (omega arith)

  asked-append : (k n : ℕ) → Layout k n → 3 + n ≤ length s → asked k (s ++ t) ≡ asked k s
  asked-append k n admit-has p = ap admit (described-append (omega arith))
  asked-append k n wake-has p = ap wake (named-append (omega arith))
  asked-append k n block-has p = ap block (named-append (omega arith))
  asked-append k n remove-has p = ap remove (named-append (omega arith))
  asked-append k n tick-has p = refl

  call-append : known (tag s) ≡ true → 3 + payload (tag s) ≤ length s → call (s ++ t) ≡ call s
  unfolding call
  call-append k p =
      let g : tag (s ++ t) ≡ tag s = tag-append (omega arith) in
      let m : time (s ++ t) ≡ time s = number_append 8 3 s t (omega (arith, payload_bounds (tag s) k)) in
      same-call m (ap (λ (n : ℕ). asked n (s ++ t)) g ∙ asked-append (tag s) (payload (tag s)) (known-layout (tag s) k) p)

  append-case : (offset : ℕ) → Case s → waits s ≡ false → reading offset (s ++ t) ≡ reading offset s
  append-case offset (header h) w = clash (sym (waits-header s h) ∙ w)
  append-case offset (unknown h k) w =
      unknown-tag offset (s ++ t) (omega (arith, length-append s t)) (ap known (tag-append h) ∙ k) ∙ sym (unknown-tag offset s h k)
  append-case offset (other h k n) w =
      let g : tag (s ++ t) ≡ tag s = tag-append h in
      other_length offset (s ++ t) (omega (arith, length-append s t)) (ap known g ∙ k) (λ e. n (sym (said-append h) ∙ e ∙ ap payload g))
      ∙ sym (other_length offset s h k n)
  append-case offset (short h k e p) w = clash (sym (waits-short s h k e p) ∙ w)
  append-case offset (whole h k e p) w =
      let g : tag (s ++ t) ≡ tag s = tag-append h in
      whole-record offset (s ++ t) (ap known g ∙ k) (said-append h ∙ e ∙ ap payload (sym g))
      (omega (arith, ap payload g, length-append s t))
      ∙ ap event (call-append k p)
      ∙ sym (whole-record offset s k e p)

zeros : (n : ℕ) → AreBytes (replicate n 0)
zeros zero = tt
zeros (suc n) = (omega arith, zeros n)

-- the number of an answer, 0 of an event
unfoldable pub number_of : Result Event BadRecord → ℕ
number_of (Ok e) = 0
number_of (Err b) = bad_number b

third_zero : (s : List ℕ) → length s < 3 → get_or (s ++ replicate 21 0) 2 0 ≡ 0
third_zero [] h = refl
third_zero (a ∷ []) h = refl
third_zero (a ∷ b ∷ []) h = refl
third_zero (a ∷ b ∷ c ∷ s) h = absurd (omega arith)

-- of the record that begins at any offset
module _ (offset : ℕ) where
  -- "Bytes behind a whole record aren't looked at", nor behind an unknown tag or another length
  pub behind : (s t : List ℕ) → waits s ≡ false → reading offset (s ++ t) ≡ reading offset s
  behind s t w = append-case s t offset (case s) w

  pub read_behind : (s t : List ℕ) → waits s ≡ false → read_spec offset (s ++ t) ≡ read_spec offset s
  unfolding read_spec
  read_behind s t w = ap read_said (behind s t w)

  waits_20 : (s : List ℕ) → Case s → waits s ≡ true → reading offset s ≡ no offset 20
  waits_20 s (header h) w = short-header offset s h
  waits_20 s (unknown h k) w = clash (sym w ∙ settled-unknown s h k)
  waits_20 s (other h k n) w = clash (sym w ∙ settled-other s h k n)
  waits_20 s (short h k e p) w = short-payload offset s h k e p
  waits_20 s (whole h k e p) w = clash (sym w ∙ settled-whole s h k e p)

  -- what waits is answered by 20
  pub read-waits : (s : List ℕ) → waits s ≡ true → read_spec offset s ≡ read_said (no offset 20)
  read-waits s w = answers offset s _ (waits_20 s (case s) w)

  header_changes : (s : List ℕ) → length s < 3 → number_of (read_spec offset (s ++ replicate 21 0)) ≡ 20 → ⊥
  unfolding number_of
  header_changes s h = go (known (tag x)) refl
    where
      x : List ℕ
      x = s ++ replicate 21 0

      long : 3 ≤ length x
      long = omega (arith, length-append s (replicate 21 0))

      other-said : known (tag x) ≡ true → length_said x ≡ payload (tag x) → ⊥
      other-said k e = omega (arith, third_zero s h, payload_bounds (tag x) k)

      go : (k : Bool) → known (tag x) ≡ k → number_of (read_spec offset x) ≡ 20 → ⊥
      go true k n = omega (arith, ap number_of (answers offset x _ (other_length offset x long k (other-said k))))
      go false k n = omega (arith, ap number_of (answers offset x _ (unknown-tag offset x long k)))

  waits_changes : (s : List ℕ) → Case s → waits s ≡ true → number_of (read_spec offset (s ++ replicate 21 0)) ≡ 20 → ⊥
  unfolding number_of
  waits_changes s (header h) w n = header_changes s h n
  waits_changes s (unknown h k) w n = clash (sym w ∙ settled-unknown s h k)
  waits_changes s (other h k d) w n = clash (sym w ∙ settled-other s h k d)
  waits_changes s (short h k e p) w n =
      let t : List ℕ = replicate 21 0 in
      let x : List ℕ = s ++ t in
      let g : tag x ≡ tag s = tag-append s t h in
      let l : 3 + payload (tag x) ≤ length x = omega (arith, ap payload g, payload_bounds (tag s) k, length-append s t) in
      let r = whole-record offset x (ap known g ∙ k) (said-append s t h ∙ e ∙ ap payload (sym g)) l in
      omega (arith, ap number_of (answers offset x _ r))
  waits_changes s (whole h k e p) w n = clash (sym w ∙ settled-whole s h k e p)

  -- the answer waits exactly where bytes exist that change it
  pub waits-exactly : (s : List ℕ) → waits s ≡ true ↔ ((t : List ℕ) × AreBytes t × (read_spec offset (s ++ t) ≡ read_spec offset s → ⊥))
  unfolding number_of
  waits-exactly s = (
    (λ w. (replicate 21 0, zeros 21, λ e. waits_changes s (case s) w (ap number_of (e ∙ read-waits s w)))),
    λ x. go (waits s) refl x,
  )
    where
      go : (b : Bool) → waits s ≡ b → ((t : List ℕ) × AreBytes t × (read_spec offset (s ++ t) ≡ read_spec offset s → ⊥)) → b ≡ true
      go true w x = refl
      go false w x = absurd (x.2 (read_behind s x.0 w))
