-- Serving a part of the input makes the calls of its records and writes the lines of their replies, in their order. Assumes nothing.
use Prim.Native.Nat.{ℕ, zero, suc, ◌+◌, ◌≤◌}
use mathlib.Core.Path.{◌≡◌, refl, ap, sym, ◌∙◌, subst}
use mathlib.Core.Bool.{Bool, true, false, cond}
use mathlib.Core.Logic.{inl, inr}
use Rattle.std.specs.Prelude.{Option, None, Some, is_some, Result, Ok, Err}
use mathlib.Core.List.{List, ◌∷◌, ◌++◌, append_assoc}
use native.Mathlib.Omega.{arith}
use native.Mathlib.Nat.{add-zero, add_assoc}
use lib.Dec.{eqb}
use lib.ListN.{length, drop, length-drop}
use lib.Seq.{drop-drop}
use borrow.Author.Tests.{eqb-true, eqb-false}
use Rattle.std.proofs.lemmas.Option.{none-some, same_Some}
use Rattle.rules.specs.Lists.{Among}
use Rattle.records.specs.declared.answers.BadRecord.{BadRecord}
use Rattle.records.specs.declared.answers.BadRecord.TheVariants.{CutShort}
use Rattle.turns.specs.Calls.{turned}
use Rattle.rules.specs.Card.{Card}
use Rattle.turns.specs.State.{Asking, made}
use Rattle.records.specs.declared.answers.Event.{Event}
use Rattle.records.specs.Record.{told}
use Rattle.records.specs.Answer.{bad_number, bad_detail, read_spec}
use Rattle.records.specs.Encode.{size_of}
use Rattle.records.proofs.Behind.{read-waits}
use Rattle.lines.specs.Text.{line_of}
use Rattle.lines.specs.Serve.{Run, stopped, rests, stops, waits_for, refuses, behind, full, less, serve_of}
use Rattle.lines.specs.Asked.{Asked, asking_of, asked_after, sent, replies, lines_of, last_line}
use Rattle.records.specs.Rows.{Detail}
use Rattle.lines.specs.Answers.{stops_at, Answered}
use Rattle.lines.proofs.Reading.{some_bytes}
use Rattle.lines.proofs.ServedLines.{serve_end, serve_full, serve_no, serve_event}
use Rattle.lines.proofs.Rest.{Left, rest-left}
use Rattle.lines.proofs.Asked.{asked-end, asked-event, asked-no, refused-at, sent-size}

-- the refusal that is answered: a record cut short waits for the rest, unless no more input will come
abbrev pub answered_now : Bool → Option BadRecord → Option BadRecord
answered_now last None = None
answered_now last (Some r) = cond (waits_for r last) None (Some r)

-- the same with room for all lines
pub record AllAnswered (before : List Asking) (offset : ℕ) (s : List ℕ) (last : Bool) : Type 0 where
  pub core_is : (serve_of (made before) offset s last None).core ≡ made (asked_after before offset s).calls
  pub used-is : length (sent before) + (serve_of (made before) offset s last None).used ≡ length (sent (asked_after before offset s).calls)
  pub lines_are :
      lines_of (replies before) ++ (serve_of (made before) offset s last None).lines
      ≡ lines_of (replies (asked_after before offset s).calls) ++ last_line (answered_now last (asked_after before offset s).refusal)
  pub stops_where : (r : BadRecord) → answered_now last (asked_after before offset s).refusal ≡ Some r
      → Among (bad_number r) stops_at × Detail (offset + (serve_of (made before) offset s last None).used) (bad_detail r)

module _ (before : List Asking) (offset : ℕ) (s : List ℕ) (last : Bool) where
  rested : Answered before offset s last (rests (made before))
  rested =
      record {
        calls = before;
        stop = None;
        core_is = refl;
        refused_is = refl;
        lines_are = refl;
        used-is = add-zero (length (sent before));
        rest-asks = ap (λ (n : ℕ). asked_after before n s) (sym (add-zero offset));
        refused = λ b e. absurd (none-some b e);
        stops_where = λ b e. absurd (none-some b e);
      }

  halted : (r : BadRecord) → 1 ≤ length s → read_spec offset s ≡ Err r → waits_for r last ≡ false
      → Answered before offset s last (stops (made before) r)
  halted r some_left h w =
      record {
        calls = before;
        stop = Some r;
        core_is = refl;
        refused_is = refl;
        lines_are = refl;
        used-is = add-zero (length (sent before));
        rest-asks = ap (λ (n : ℕ). asked_after before n s) (sym (add-zero offset));
        refused = λ q e.
            subst (λ (x : BadRecord). (waits_for x last ≡ false) × (asked_after before offset s ≡ record { calls = before; refusal = Some x }))
            (same_Some r q e) (w, asked-no before offset s r some_left h);
        stops_where = λ q e.
            subst (λ (x : BadRecord). Among (bad_number x) stops_at × Detail (offset + 0) (bad_detail x)) (same_Some r q e)
            (subst (λ (n : ℕ). Among (bad_number r) stops_at × Detail n (bad_detail r)) (sym (add-zero offset)) (refused-at offset s r h));
      }

  refusing : (r : BadRecord) → 1 ≤ length s → read_spec offset s ≡ Err r → Answered before offset s last (refuses (made before) last r)
  refusing r some_left h = go (waits_for r last) refl
    where
      go : (t : Bool) → waits_for r last ≡ t → Answered before offset s last (refuses (made before) last r)
      go true w = rw w rested
      go false w = rw w (halted r some_left h w)

  -- a record's call and its line, then what is answered behind it
  answering : (e : Event) (run : Run) → 1 ≤ length s → read_spec offset s ≡ Ok e
      → Answered (asking_of e ∷ before) (offset + size_of e) (drop (size_of e) s) last run
      → Answered before offset s last (behind (size_of e) (line_of (turned (made before) e.time e.change).reply) run)
  answering e run some_left h a =
      let one = asked-event before offset s e some_left h in
      record {
        calls = a.calls;
        stop = a.stop;
        core_is = a.core_is;
        refused_is = a.refused_is;
        lines_are =
            sym (append_assoc (lines_of (replies before)) (line_of (turned (made before) e.time e.change).reply) run.lines)
            ∙ a.lines_are;
        used-is = omega (arith, sent-size e before, a.used-is);
        rest-asks =
            one
            ∙ a.rest-asks
            ∙ ap (asked_after a.calls (offset + size_of e + run.used)) (drop-drop run.used (size_of e) s)
            ∙ ap (λ (n : ℕ). asked_after a.calls n (drop (size_of e + run.used) s)) (add_assoc offset (size_of e) run.used);
        refused = λ r q. ((a.refused r q).0, one ∙ (a.refused r q).1);
        stops_where = λ r q.
            subst (λ (n : ℕ). Among (bad_number r) stops_at × Detail n (bad_detail r)) (add_assoc offset (size_of e) run.used) (a.stops_where r q);
      }

serves : (k : ℕ) (before : List Asking) (offset : ℕ) (s : List ℕ) (last : Bool) (room : Option ℕ) → length s ≤ k
    → Answered before offset s last (serve_of (made before) offset s last room)
serves zero before offset s last room few = rw (serve_end (made before) offset s last room (omega arith)) (rested before offset s last)
serves (suc k) before offset s last room few =
    go (eqb (length s) 0) refl (full room) refl (read_spec offset s) refl
    (λ e some_left.
    serves k (asking_of e ∷ before) (offset + size_of e) (drop (size_of e) s) last
    (less room (length (line_of (turned (made before) e.time e.change).reply)))
    (omega (arith, some_bytes e, length-drop (size_of e) s)))
  where
    go : (z : Bool) → eqb (length s) 0 ≡ z → (t : Bool) → full room ≡ t → (r : Result Event BadRecord) → read_spec offset s ≡ r
        → ((e : Event) → 1 ≤ length s →
        Answered (asking_of e ∷ before) (offset + size_of e) (drop (size_of e) s) last
        (serve_of (made (asking_of e ∷ before)) (offset + size_of e) (drop (size_of e) s) last
        (less room (length (line_of (turned (made before) e.time e.change).reply)))))
        → Answered before offset s last (serve_of (made before) offset s last room)
    go true z t u r h ih = rw (serve_end (made before) offset s last room (eqb-true (length s) 0 z)) (rested before offset s last)
    go false z true u r h ih = rw (serve_full (made before) offset s last room u) (rested before offset s last)
    go false z false u (Err r) h ih =
        let some_left : 1 ≤ length s = omega (arith, eqb-false (length s) 0 z) in
        rw (serve_no (made before) offset s last room r some_left u h) (refusing before offset s last r some_left h)
    go false z false u (Ok e) h ih =
        let some_left : 1 ≤ length s = omega (arith, eqb-false (length s) 0 z) in
        rw (serve_event (made before) offset s last room e (turned (made before) e.time e.change) some_left u h refl)
        (answering before offset s last e _ some_left h (ih e some_left))

-- a part of the input with any room for lines
pub answered : (before : List Asking) (offset : ℕ) (s : List ℕ) (last : Bool) (room : Option ℕ)
    → Answered before offset s last (serve_of (made before) offset s last room)
answered before offset s last room = serves (length s) before offset s last room (omega arith)

-- the same of any core that `serve` may be handed
pub serve_answered : (calls : List Asking) (c : Card) → c ≡ made calls → (offset : ℕ) (s : List ℕ) (last : Bool) (room : Option ℕ)
    → Answered calls offset s last (serve_of c offset s last room)
serve_answered calls c e offset s last room =
    subst (λ (k : Card). Answered calls offset s last (serve_of k offset s last room)) (sym e) (answered calls offset s last room)

-- where serving with room for all left nothing, or bytes that wait, all calls were made
module _ (calls : List Asking) (offset : ℕ) (rest : List ℕ) (last : Bool) where
  abbrev AllMade : Type 0
  AllMade = ((asked_after calls offset rest).calls ≡ calls) × (answered_now last (asked_after calls offset rest).refusal ≡ None)

  none_left : length rest ≡ 0 → AllMade
  none_left h =
      let a = asked-end calls offset rest h in
      (ap (λ (x : Asked). x.calls) a, ap (λ (x : Asked). answered_now last x.refusal) a)

  left-asks : Left last rest → AllMade
  left-asks (inl e) = none_left (ap length e)
  left-asks (inr w) = go (eqb (length rest) 0) refl
    where
      go : (z : Bool) → eqb (length rest) 0 ≡ z → AllMade
      go true z = none_left (eqb-true (length rest) 0 z)
      go false z =
          let r : BadRecord = CutShort (told offset) in
          let a = asked-no calls offset rest r (omega (arith, eqb-false (length rest) 0 z)) (read-waits offset rest w.1) in
          let n : answered_now last (Some r) ≡ None = ap (λ (t : Bool). answered_now t (Some r)) w.0 in
          (ap (λ (x : Asked). x.calls) a, ap (λ (x : Asked). answered_now last x.refusal) a ∙ n)

-- a part of the input with room for all lines
pub all-answered : (before : List Asking) (offset : ℕ) (s : List ℕ) (last : Bool) → AllAnswered before offset s last
all-answered before offset s last = go a.stop refl
  where
    run : Run
    run = serve_of (made before) offset s last None

    a : Answered before offset s last run
    a = answered before offset s last None

    told : ((asked_after before offset s).calls ≡ a.calls) × (answered_now last (asked_after before offset s).refusal ≡ a.stop)
        → AllAnswered before offset s last
    told e =
        record {
          core_is = a.core_is ∙ ap made (sym e.0);
          used-is = a.used-is ∙ ap (λ (l : List Asking). length (sent l)) (sym e.0);
          lines_are =
              a.lines_are
              ∙ ap (λ (l : List Asking). lines_of (replies l) ++ last_line a.stop) (sym e.0)
              ∙ ap (λ (o : Option BadRecord). lines_of (replies (asked_after before offset s).calls) ++ last_line o) (sym e.1);
          stops_where = λ r h. a.stops_where r (sym e.1 ∙ h);
        }

    go : (o : Option BadRecord) → a.stop ≡ o → AllAnswered before offset s last
    go None e =
        let goes : stopped run ≡ false = ap is_some (a.refused_is ∙ e) in
        let l = left-asks a.calls (offset + run.used) (drop run.used s) last (rest-left (made before) offset s last goes) in
        let n = ap (λ (x : Asked). answered_now last x.refusal) a.rest-asks in
        told (ap (λ (x : Asked). x.calls) a.rest-asks ∙ l.0, n ∙ l.1 ∙ sym e)
    go (Some r) e =
        let q = a.refused r e in
        told (ap (λ (x : Asked). x.calls) q.1, ap (λ (x : Asked). answered_now last x.refusal) q.1 ∙ rw q.0 (sym e))
