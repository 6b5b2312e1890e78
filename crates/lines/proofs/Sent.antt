-- The input is the records of the calls that it asks for, and then what reading ended at; and calls in range that are sent as records are
-- the calls asked for. Assumes nothing.
use Prim.Native.Nat.{ℕ, zero, suc, ◌+◌, ◌≤◌}
use mathlib.Core.Path.{◌≡◌, refl, ap, sym, ◌∙◌}
use mathlib.Core.Bool.{Bool, true, false}
use Rattle.std.specs.Prelude.{Option, None, Some, Result, Ok, Err}
use mathlib.Core.List.{List, [], ◌∷◌, ◌++◌, append_assoc}
use native.Mathlib.Omega.{arith}
use lib.Dec.{eqb}
use lib.ListN.{length, drop, length-drop, length-append, take-append-drop}
use lib.Seq.{drop_at}
use borrow.Author.Tests.{eqb-true, eqb-false}
use Rattle.rules.specs.Lists.{All}
use Rattle.turns.specs.Calls.{call_of}
use Rattle.records.specs.declared.answers.BadRecord.{BadRecord}
use Rattle.turns.specs.State.{Asking, calls_of}
use Rattle.records.specs.declared.answers.Event.{Event}
use Rattle.records.specs.Bytes.{AreBytes}
use Rattle.records.specs.Answer.{read_spec}
use Rattle.records.specs.Encode.{size_of, record_of, InRange}
use Rattle.records.specs.Answer.{paper_event}
use Rattle.records.proofs.Again.{read_again}
use Rattle.records.proofs.Back.{event-reads-back}
use Rattle.records.proofs.Written.{length-record}
use Rattle.lines.specs.Asked.{Asked, asking_of, asked_after, asked, sent, Ended}
use Rattle.lines.proofs.Reading.{some_bytes}
use Rattle.lines.proofs.Rest.{no_bytes}
use Rattle.lines.proofs.Asked.{asked-end, asked-event, asked-no, sent-size}

pub bytes-behind : (n : ℕ) (s : List ℕ) → AreBytes s → AreBytes (drop n s)
bytes-behind zero s h = h
bytes-behind (suc n) [] h = tt
bytes-behind (suc n) (b ∷ s) h = bytes-behind n s h.1

-- the bytes s stand behind the records of the calls before
abbrev Rest : List Asking → List ℕ → Asked → Type 0
Rest before s a =
    (rest : List ℕ) × (sent before ++ s ≡ sent a.calls ++ rest) × Ended (length (sent a.calls)) rest a.refusal

bytes : (k : ℕ) (before : List Asking) (offset : ℕ) (s : List ℕ) → offset ≡ length (sent before) → length s ≤ k → AreBytes s
    → Rest before s (asked_after before offset s)
bytes zero before offset s o few h = rw (asked-end before offset s (omega arith)) (s, refl, no_bytes s (omega arith))
bytes (suc k) before offset s o few h =
    go (eqb (length s) 0) refl (read_spec offset s) refl
    (λ e some_left.
    bytes k (asking_of e ∷ before) (offset + size_of e) (drop (size_of e) s) (omega (arith, o, sent-size e before))
    (omega (arith, some_bytes e, length-drop (size_of e) s)) (bytes-behind (size_of e) s h))
  where
    go : (z : Bool) → eqb (length s) 0 ≡ z → (r : Result Event BadRecord) → read_spec offset s ≡ r
        → ((e : Event) → 1 ≤ length s →
        Rest (asking_of e ∷ before) (drop (size_of e) s) (asked_after (asking_of e ∷ before) (offset + size_of e) (drop (size_of e) s)))
        → Rest before s (asked_after before offset s)
    go true z r g ih =
        let n : length s ≡ 0 = eqb-true (length s) 0 z in
        rw (asked-end before offset s n) (s, refl, no_bytes s n)
    go false z (Err r) g ih =
        let some_left : 1 ≤ length s = omega (arith, eqb-false (length s) 0 z) in
        rw (asked-no before offset s r some_left g) (s, refl, (some_left, ap (λ (n : ℕ). read_spec n s) (sym o) ∙ g))
    go false z (Ok e) g ih =
        let some_left : 1 ≤ length s = omega (arith, eqb-false (length s) 0 z) in
        let q = ih e some_left in
        let whole : record_of (paper_event e) ++ drop (size_of e) s ≡ s =
        ap (λ (l : List ℕ). l ++ drop (size_of e) s) (read_again offset s e h g).1
        ∙ take-append-drop (size_of e) s in
        rw (asked-event before offset s e some_left g) (
          q.0,
          ap (λ (l : List ℕ). sent before ++ l) (sym whole)
              ∙ sym (append_assoc (sent before) (record_of (paper_event e)) (drop (size_of e) s))
              ∙ q.1,
          q.2,
        )

-- the input is the records of its calls, and what reading ended at
pub asked-bytes : (before : List Asking) (s : List ℕ) → AreBytes s → Rest before s (asked_after before (length (sent before)) s)
asked-bytes before s h = bytes (length s) before (length (sent before)) s refl (omega arith) h

-- a record in front asks for its call
one-sent : (a : Asking) (before : List Asking) (t : List ℕ) → InRange (call_of a.now a.change)
    → asked_after before (length (sent before)) (record_of (call_of a.now a.change) ++ t)
    ≡ asked_after (a ∷ before) (length (sent (a ∷ before))) t
unfolding size_of
one-sent a before t h =
    let e : Event = record { time = a.now; change = a.change } in
    let r : List ℕ = record_of (paper_event e) in
    let offset : ℕ = length (sent before) in
    let long = length-record (paper_event e) in
    asked-event before offset (r ++ t) e (omega (arith, length-append r t)) (event-reads-back offset e h t)
    ∙ ap (asked_after (a ∷ before) (offset + size_of e)) (drop_at r t (size_of e) long)
    ∙ ap (λ (n : ℕ). asked_after (a ∷ before) n t) (sym (sent-size e before))

sent-then : (calls : List Asking) (t : List ℕ) → All InRange (calls_of calls)
    → asked (sent calls ++ t) ≡ asked_after calls (length (sent calls)) t
sent-then [] t h = refl
sent-then (a ∷ calls) t h =
    let r : List ℕ = record_of (call_of a.now a.change) in
    ap asked (append_assoc (sent calls) r t) ∙ sent-then calls (r ++ t) h.1 ∙ one-sent a calls t h.0

-- the other way: calls in range, sent as their records, are the calls asked for, and what lies behind them is where reading ends
pub sent-asked : (calls : List Asking) (rest : List ℕ) (o : Option BadRecord) → All InRange (calls_of calls)
    → Ended (length (sent calls)) rest o → asked (sent calls ++ rest) ≡ record { calls = calls; refusal = o }
sent-asked calls rest None h e = sent-then calls rest h ∙ asked-end calls (length (sent calls)) rest (ap length e)
sent-asked calls rest (Some r) h e = sent-then calls rest h ∙ asked-no calls (length (sent calls)) rest r e.0 e.1
