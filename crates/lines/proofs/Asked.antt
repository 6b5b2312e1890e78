-- Reading record by record: the cases of `asked_after`, with no word of fuel, and the refusals at which it ends, each with its offset.
-- Assumes nothing.
use Prim.Native.Nat.{ℕ, zero, suc, ◌+◌, ◌≤◌}
use mathlib.Core.Path.{◌≡◌, refl, ap, sym, ◌∙◌, subst}
use mathlib.Core.Bool.{Bool, true, false}
use mathlib.Core.Logic.{inl, inr}
use Rattle.std.specs.Prelude.{Some, Result, Ok, Err}
use mathlib.Core.List.{List, ◌∷◌}
use native.Mathlib.Omega.{arith}
use lib.Dec.{eqb}
use lib.ListN.{length, drop, length-drop, length-append}
use borrow.Author.Tests.{eq-eqb, ne_eqb}
use Rattle.rules.specs.Lists.{Among}
use Rattle.records.specs.declared.answers.BadRecord.{BadRecord}
use Rattle.turns.specs.State.{Asking}
use Rattle.records.specs.declared.answers.Event.{Event}
use Rattle.records.specs.Record.{told}
use Rattle.records.specs.Answer.{bad_number, bad_detail, paper_event, read_spec}
use Rattle.records.specs.Encode.{size_of, record_of}
use Rattle.records.specs.Rows.{Detail}
use Rattle.records.proofs.Offset.{told-detail}
use Rattle.records.proofs.Written.{length-record}
use Rattle.records.proofs.Cases.{short-header, unknown-tag, other_length, short-payload, whole-record, answers}
use Rattle.records.proofs.Behind.{Case, header, unknown, other, short, whole, case}
use Rattle.lines.specs.Asked.{asking_of, ends, reads, asks, asked_after, sent}
use Rattle.lines.specs.Answers.{stops_at}
use Rattle.lines.proofs.Reading.{some_bytes}

asks-end : (k : ℕ) (before : List Asking) (offset : ℕ) (s : List ℕ) → eqb (length s) 0 ≡ true → asks k before offset s ≡ ends before
unfolding asks
asks-end zero before offset s h = refl
asks-end (suc k) before offset s h = rw h

asks-reads : (k : ℕ) (before : List Asking) (offset : ℕ) (s : List ℕ) → eqb (length s) 0 ≡ false
    → asks (suc k) before offset s ≡ reads (asks k) before offset s (read_spec offset s)
unfolding asks
asks-reads k before offset s h = rw h

-- more fuel than bytes changes nothing
fuel : (k j : ℕ) (before : List Asking) (offset : ℕ) (s : List ℕ) → length s ≤ k → length s ≤ j
    → asks k before offset s ≡ asks j before offset s
fuel zero j before offset s h g =
    let e : eqb (length s) 0 ≡ true = eq-eqb (length s) 0 (omega arith) in
    asks-end zero before offset s e ∙ sym (asks-end j before offset s e)
fuel (suc k) zero before offset s h g =
    let e : eqb (length s) 0 ≡ true = eq-eqb (length s) 0 (omega arith) in
    asks-end (suc k) before offset s e ∙ sym (asks-end zero before offset s e)
fuel (suc k) (suc j) before offset s h g =
    go (eqb (length s) 0) refl
    (λ e. fuel k j (asking_of e ∷ before) (offset + size_of e) (drop (size_of e) s) (omega (arith, some_bytes e, length-drop (size_of e) s))
    (omega (arith, some_bytes e, length-drop (size_of e) s)))
  where
    go : (t : Bool) → eqb (length s) 0 ≡ t
        → ((e : Event) →
        asks k (asking_of e ∷ before) (offset + size_of e) (drop (size_of e) s)
        ≡ asks j (asking_of e ∷ before) (offset + size_of e) (drop (size_of e) s))
        → asks (suc k) before offset s ≡ asks (suc j) before offset s
    go true t ih = asks-end (suc k) before offset s t ∙ sym (asks-end (suc j) before offset s t)
    go false t ih = asks-reads k before offset s t ∙ each (read_spec offset s) ∙ sym (asks-reads j before offset s t)
      where
        each : (r : Result Event BadRecord) → reads (asks k) before offset s r ≡ reads (asks j) before offset s r
        each (Ok e) = ih e
        each (Err r) = refl

module _ (before : List Asking) (offset : ℕ) (s : List ℕ) where
  pub asked-end : length s ≡ 0 → asked_after before offset s ≡ ends before
  unfolding asked_after
  asked-end h = asks-end (length s) before offset s (eq-eqb (length s) 0 h)

  asked-reads : 1 ≤ length s → asked_after before offset s ≡ reads (asks (length s)) before offset s (read_spec offset s)
  unfolding asked_after
  asked-reads some_left =
      fuel (length s) (suc (length s)) before offset s (omega arith) (omega arith)
      ∙ asks-reads (length s) before offset s (ne_eqb (length s) 0 (λ z. absurd (omega arith)))

  -- a record's call, then those of the bytes behind it
  pub asked-event : (e : Event) → 1 ≤ length s → read_spec offset s ≡ Ok e
      → asked_after before offset s ≡ asked_after (asking_of e ∷ before) (offset + size_of e) (drop (size_of e) s)
  unfolding asked_after
  asked-event e some_left h =
      asked-reads some_left
      ∙ ap (reads (asks (length s)) before offset s) h
      ∙ fuel (length s) (length (drop (size_of e) s)) (asking_of e ∷ before) (offset + size_of e) (drop (size_of e) s)
      (omega (arith, length-drop (size_of e) s)) (omega arith)

  -- "on a refusal reading ends there"
  pub asked-no : (r : BadRecord) → 1 ≤ length s → read_spec offset s ≡ Err r
      → asked_after before offset s ≡ record { calls = before; refusal = Some r }
  asked-no r some_left h = asked-reads some_left ∙ ap (reads (asks (length s)) before offset s) h

no-at : (offset : ℕ) (s : List ℕ) (r : BadRecord) → Case s → read_spec offset s ≡ Err r
    → Among (bad_number r) stops_at × (bad_detail r ≡ told offset)
no-at offset s r (header h) e = let x = answers offset s _ (short-header offset s h) in (inl cc, cc)
no-at offset s r (unknown h k) e = let x = answers offset s _ (unknown-tag offset s h k) in (inr (inl cc), cc)
no-at offset s r (other h k n) e = let x = answers offset s _ (other_length offset s h k n) in (inr (inr (inl cc)), cc)
no-at offset s r (short h k l p) e = let x = answers offset s _ (short-payload offset s h k l p) in (inl cc, cc)
no-at offset s r (whole h k l p) e =
    let x = answers offset s _ (whole-record offset s k l p) in
    let z : ◌≡◌ {A = ℕ} 0 1 = cc in
    absurd (omega arith)

-- a record is refused with 20, 21 or 22, and its offset
pub refused-at : (offset : ℕ) (s : List ℕ) (r : BadRecord) → read_spec offset s ≡ Err r → Among (bad_number r) stops_at × Detail offset (bad_detail r)
refused-at offset s r h =
    let n = no-at offset s r (case s) h in
    (n.0, subst (Detail offset) (sym n.1) (told-detail offset))

-- its record stands behind those of the calls before
pub sent-size : (e : Event) (before : List Asking) → length (sent (asking_of e ∷ before)) ≡ length (sent before) + size_of e
unfolding size_of
sent-size e before =
    length-append (sent before) (record_of (paper_event e)) ∙ ap (λ (n : ℕ). length (sent before) + n) (length-record (paper_event e))
