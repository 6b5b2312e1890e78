-- 20 is given exactly where reading waits; and where an event is read its whole record is there, of as many bytes as `size` says.
-- Assumes nothing.
use Prim.Native.Nat.{ℕ, ◌+◌, ◌≤◌}
use native.Mathlib.Omega.{arith}
use mathlib.Core.Path.{◌≡◌, refl, ap, sym, ◌∙◌}
use mathlib.Core.Bool.{true}
use mathlib.Core.List.{List}
use Rattle.std.specs.Prelude.{Result, Ok, Err}
use mathlib.Core.Logic.{◌↔◌}
use lib.ListN.{length}
use Rattle.rules.specs.Turn.{Call}
use Rattle.records.specs.declared.answers.Event.{Event}
use Rattle.records.specs.declared.answers.BadRecord.{BadRecord}
use Rattle.records.specs.Record.{Reading, event, no, known, payload, tag, length_said, asked, call, reading, waits}
use Rattle.records.specs.Answer.{paper_event, paper_read, event_said, read_said, read_spec}
use Rattle.records.specs.Encode.{tag_of, size_of}
use Rattle.records.specs.Rows.{Layout, admit-has, wake-has, block-has, remove-has, tick-has}
use Rattle.records.proofs.Paper.{values-again}
use Rattle.records.proofs.Tags.{known-layout}
use Rattle.records.proofs.Cases.{short-header, unknown-tag, other_length, short-payload, whole-record, answers}
use Rattle.records.proofs.Behind.{Case, header, unknown, other, short, whole, case, number_of, waits-header, waits-short, read-waits}

-- and the other way round: the answer has the number and values of reading
pub paper-said : (offset : ℕ) (s : List ℕ) → paper_read (read_spec offset s) ≡ reading offset s
paper-said offset s = go (case s)
  where
    each : (x : Reading) → reading offset s ≡ x → paper_read (read_said x) ≡ x → paper_read (read_spec offset s) ≡ reading offset s
    each x e h = ap paper_read (answers offset s x e) ∙ h ∙ sym e

    go : Case s → paper_read (read_spec offset s) ≡ reading offset s
    go (header h) = each _ (short-header offset s h) refl
    go (unknown h k) = each _ (unknown-tag offset s h k) refl
    go (other h k n) = each _ (other_length offset s h k n) refl
    go (short h k e p) = each _ (short-payload offset s h k e p) refl
    go (whole h k e p) = each _ (whole-record offset s k e p) (ap event (values-again (call s).now (call s).asked))

twenty_case : (offset : ℕ) (s : List ℕ) → Case s → number_of (read_spec offset s) ≡ 20 → waits s ≡ true
unfolding number_of
twenty_case offset s (header h) n = waits-header s h
twenty_case offset s (unknown h k) n = absurd (omega (arith, n, ap number_of (answers offset s _ (unknown-tag offset s h k))))
twenty_case offset s (other h k d) n = absurd (omega (arith, n, ap number_of (answers offset s _ (other_length offset s h k d))))
twenty_case offset s (short h k e p) n = waits-short s h k e p
twenty_case offset s (whole h k e p) n = absurd (omega (arith, n, ap number_of (answers offset s _ (whole-record offset s k e p))))

-- the number 20 is that of bytes that wait
pub twenty_waits : (offset : ℕ) (s : List ℕ) → number_of (read_spec offset s) ≡ 20 → waits s ≡ true
twenty_waits offset s n = twenty_case offset s (case s) n

-- 20 is given exactly where more bytes can change the answer
pub twenty_exactly : (offset : ℕ) (s : List ℕ) → read_spec offset s ≡ read_said (no offset 20) ↔ waits s ≡ true
unfolding number_of
twenty_exactly offset s = (λ r. twenty_waits offset s (ap number_of r), λ w. read-waits offset s w)

got_same : {e f : Event} → ◌≡◌ {A = Result Event BadRecord} (Ok e) (Ok f) → e ≡ f
got_same r = cc

pub asked-tag : (k n : ℕ) (s : List ℕ) → Layout k n → tag_of (asked k s) ≡ k
asked-tag k n s admit-has = refl
asked-tag k n s wake-has = refl
asked-tag k n s block-has = refl
asked-tag k n s remove-has = refl
asked-tag k n s tick-has = refl

-- what stands in the bytes where an event was read
pub record Whole (s : List ℕ) (e : Event) : Type 0 where
  pub known-tag : known (tag s) ≡ true
  pub said : length_said s ≡ payload (tag s)
  pub fits : 3 + payload (tag s) ≤ length s
  pub same : paper_event e ≡ call s

whole-case : (offset : ℕ) (s : List ℕ) (e : Event) → Case s → read_spec offset s ≡ Ok e → Whole s e
unfolding number_of
whole-case offset s e (header h) r = absurd (omega (arith, ap number_of (sym r ∙ answers offset s _ (short-header offset s h))))
whole-case offset s e (unknown h k) r = absurd (omega (arith, ap number_of (sym r ∙ answers offset s _ (unknown-tag offset s h k))))
whole-case offset s e (other h k n) r = absurd (omega (arith, ap number_of (sym r ∙ answers offset s _ (other_length offset s h k n))))
whole-case offset s e (short h k l p) r = absurd (omega (arith, ap number_of (sym r ∙ answers offset s _ (short-payload offset s h k l p))))
whole-case offset s e (whole h k l p) r =
    let same : e ≡ event_said (call s).now (call s).asked = got_same (sym r ∙ answers offset s _ (whole-record offset s k l p)) in
    record { known-tag = k; said = l; fits = p; same = ap paper_event same ∙ values-again (call s).now (call s).asked }

pub read_whole : (offset : ℕ) (s : List ℕ) (e : Event) → read_spec offset s ≡ Ok e → Whole s e
read_whole offset s e r = whole-case offset s e (case s) r

-- an event's whole record is there, and has as many bytes as `size` says
pub read-size : (offset : ℕ) (s : List ℕ) (e : Event) → read_spec offset s ≡ Ok e
    → (size_of e ≡ 3 + payload (tag s)) × (size_of e ≤ length s)
unfolding call size_of
read-size offset s e r =
    let w : Whole s e = read_whole offset s e r in
    let t : tag_of (paper_event e).asked ≡ tag s =
    ap (λ (c : Call). tag_of c.asked) w.same ∙ asked-tag (tag s) (payload (tag s)) s (known-layout (tag s) w.known-tag) in
    (ap (λ (n : ℕ). 3 + payload n) t, omega (arith, ap payload t, w.fits))
