-- Serving record by record: the cases of `serve_of`, and what the loop of `serve` keeps: what is done with what is still
-- to be served gives the whole. Assumes nothing.
use Prim.Native.Nat.{ℕ, zero, suc, ◌+◌, ◌-◌, ◌≤◌, ◌<◌}
use mathlib.Core.Path.{◌≡◌, refl, ap, sym, ◌∙◌}
use mathlib.Core.Bool.{Bool, true, false, ◌||◌}
use Rattle.std.specs.Prelude.{Option, None, Some, Result, Ok, Err}
use mathlib.Core.List.{List}
use native.Mathlib.Omega.{arith}
use native.Mathlib.Nat.{zero-add, add-zero, add_assoc}
use lib.Dec.{eqb}
use lib.ListN.{length, drop, length-append, length-drop}
use lib.Seq.{sets, sets-eq, drop-drop}
use borrow.Author.Tests.{eq-eqb, ne_eqb, lt-ltb, le-ltb}
use Rattle.records.specs.declared.answers.BadRecord.{BadRecord}
use Rattle.rules.specs.Card.{Card}
use Rattle.turns.specs.declared.Answer.{Answer}
use Rattle.turns.specs.Calls.{turned}
use Rattle.records.specs.declared.answers.Event.{Event}
use Rattle.records.specs.Answer.{paper_bad, read_spec}
use Rattle.records.specs.Encode.{size_of}
use Rattle.lines.specs.declared.serving.Served.{Served}
use Rattle.text.specs.Text.{over, Put}
use Rattle.lines.specs.Text.{line_of, refusal_text, longest}
use Rattle.lines.specs.Serve.{Run, rests, stops, waits_for, refuses, behind, full, less}
use Rattle.lines.specs.Serve.{answers, served, serve_of, handed}
use Rattle.text.proofs.Writing.{sets_append, put-size}
use Rattle.lines.proofs.Reading.{some_bytes, within}

-- where nothing is left, or no room, nothing more is answered
served-rests : (k : ℕ) (core : Card) (offset : ℕ) (s : List ℕ) (last : Bool) (room : Option ℕ)
    → (eqb (length s) 0 || full room) ≡ true → served k core offset s last room ≡ rests core
unfolding served
served-rests zero core offset s last room h = refl
served-rests (suc k) core offset s last room h = rw h

served-reads : (k : ℕ) (core : Card) (offset : ℕ) (s : List ℕ) (last : Bool) (room : Option ℕ)
    → (eqb (length s) 0 || full room) ≡ false
    → served (suc k) core offset s last room ≡ answers (served k) core offset s last room (read_spec offset s)
unfolding served
served-reads k core offset s last room h = rw h

-- more fuel than bytes changes nothing
fuel : (k j : ℕ) (core : Card) (offset : ℕ) (s : List ℕ) (last : Bool) (room : Option ℕ) → length s ≤ k → length s ≤ j
    → served k core offset s last room ≡ served j core offset s last room
fuel zero j core offset s last room h g =
    let e : (eqb (length s) 0 || full room) ≡ true = rw (eq-eqb (length s) 0 (omega arith)) in
    served-rests zero core offset s last room e ∙ sym (served-rests j core offset s last room e)
fuel (suc k) zero core offset s last room h g =
    let e : (eqb (length s) 0 || full room) ≡ true = rw (eq-eqb (length s) 0 (omega arith)) in
    served-rests (suc k) core offset s last room e ∙ sym (served-rests zero core offset s last room e)
fuel (suc k) (suc j) core offset s last room h g =
    go (eqb (length s) 0 || full room) refl (read_spec offset s)
    (λ e. fuel k j (turned core e.time e.change).core (offset + size_of e) (drop (size_of e) s) last
    (less room (length (line_of (turned core e.time e.change).reply)))
    (omega (arith, some_bytes e, length-drop (size_of e) s)) (omega (arith, some_bytes e, length-drop (size_of e) s)))
  where
    go : (t : Bool) → (eqb (length s) 0 || full room) ≡ t → (r : Result Event BadRecord)
        → ((e : Event) →
        served k (turned core e.time e.change).core (offset + size_of e) (drop (size_of e) s) last
        (less room (length (line_of (turned core e.time e.change).reply)))
        ≡ served j (turned core e.time e.change).core (offset + size_of e) (drop (size_of e) s) last
        (less room (length (line_of (turned core e.time e.change).reply))))
        → served (suc k) core offset s last room ≡ served (suc j) core offset s last room
    go true t r ih = served-rests (suc k) core offset s last room t ∙ sym (served-rests (suc j) core offset s last room t)
    go false t r ih =
        served-reads k core offset s last room t ∙ each (read_spec offset s) ∙ sym (served-reads j core offset s last room t)
      where
        each : (r : Result Event BadRecord) → answers (served k) core offset s last room r
            ≡ answers (served j) core offset s last room r
        each (Ok e) = ap (behind (size_of e) (line_of (turned core e.time e.change).reply)) (ih e)
        each (Err r) = refl

-- the cases of serving
module _ (core : Card) (offset : ℕ) (s : List ℕ) (last : Bool) (room : Option ℕ) where
  pub serve_end : length s ≡ 0 → serve_of core offset s last room ≡ rests core
  unfolding serve_of
  serve_end h = served-rests (length s) core offset s last room (rw (eq-eqb (length s) 0 h))

  or-true : (a b : Bool) → b ≡ true → (a || b) ≡ true
  or-true true b h = refl
  or-true false b h = h

  pub serve_full : full room ≡ true → serve_of core offset s last room ≡ rests core
  unfolding serve_of
  serve_full h = served-rests (length s) core offset s last room (or-true (eqb (length s) 0) (full room) h)

  serve_reads : 1 ≤ length s → full room ≡ false
      → serve_of core offset s last room ≡ answers (served (length s)) core offset s last room (read_spec offset s)
  unfolding serve_of
  serve_reads some_left some-room =
      let e : (eqb (length s) 0 || full room) ≡ false = rw (ne_eqb (length s) 0 (λ z. absurd (omega arith))) some-room in
      fuel (length s) (suc (length s)) core offset s last room (omega arith) (omega arith)
      ∙ served-reads (length s) core offset s last room e

  pub serve_no : (r : BadRecord) → 1 ≤ length s → full room ≡ false → read_spec offset s ≡ Err r
      → serve_of core offset s last room ≡ refuses core last r
  serve_no r some_left some-room h =
      serve_reads some_left some-room
      ∙ ap (answers (served (length s)) core offset s last room) h

  pub serve_event : (e : Event) (a : Answer) → 1 ≤ length s → full room ≡ false → read_spec offset s ≡ Ok e
      → a ≡ turned core e.time e.change
      → serve_of core offset s last room
      ≡ behind (size_of e) (line_of a.reply)
      (serve_of a.core (offset + size_of e) (drop (size_of e) s) last (less room (length (line_of a.reply))))
  unfolding serve_of
  serve_event e a some_left some-room h t =
      serve_reads some_left some-room
      ∙ ap (answers (served (length s)) core offset s last room) h
      ∙ ap (λ (b : Answer).
      behind (size_of e) (line_of b.reply)
      (served (length s) b.core (offset + size_of e) (drop (size_of e) s) last (less room (length (line_of b.reply)))))
      (sym t)
      ∙ ap (behind (size_of e) (line_of a.reply))
      (fuel (length s) (length (drop (size_of e) s)) a.core (offset + size_of e) (drop (size_of e) s) last
      (less room (length (line_of a.reply))) (omega (arith, length-drop (size_of e) s)) (omega arith))

-- what serving hands back and leaves behind it, from a place in the input and in the output on
pub record Ending : Type 0 where
  pub core : Card
  pub used : ℕ
  pub written : ℕ
  pub refused : Option BadRecord
  pub out : List ℕ

abbrev pub ending : Run → ℕ → ℕ → List ℕ → Ending
ending r used written out =
    record {
      core = r.core;
      used = used + r.used;
      written = written + length r.lines;
      refused = r.refused;
      out = sets out written r.lines;
    }

abbrev pub served_of : Ending → Served
served_of e = record { used = e.used; written = e.written; refused = e.refused }

-- a line that was put, and what comes behind it
ending-behind : (r : Run) (n : ℕ) (line : List ℕ) (used written next : ℕ) (out after : List ℕ) → Put out written line after next
    → ending r (used + n) next after ≡ ending (behind n line r) used written out
ending-behind r n line used written next out after p =
    rw (p.stored, p.behind, length-append, sets_append, add_assoc, add_assoc)

-- what the loop of `serve` keeps
pub record Going (input : List ℕ) (offset : ℕ) (last : Bool) (first : Card) (before : List ℕ)
    (core : Card) (used written : ℕ) (out : List ℕ) : Type 0 where
  pub inside : used ≤ length input
  pub room : written ≤ length out
  pub size : length out ≡ length before
  pub same :
      ending (serve_of core (offset + used) (drop used input) last (Some (length out - written))) used written out
      ≡ ending (serve_of first offset input last (Some (length before))) 0 0 before

pub going_start : (input : List ℕ) (offset : ℕ) (last : Bool) (core : Card) (out : List ℕ)
    → Going input offset last core out core 0 0 out
going_start input offset last core out =
    let z : length out - 0 ≡ length out = omega arith in
    record {
      inside = omega arith;
      room = omega arith;
      size = refl;
      same =
          ap (λ (n : ℕ). ending (serve_of core (offset + 0) input last (Some n)) 0 0 out) z
          ∙ ap (λ (n : ℕ). ending (serve_of core n input last (Some (length out))) 0 0 out) (add-zero offset);
    }

-- the whole, once nothing is left to be served
module _ (whole : Run) (before : List ℕ) where
  done : (e : Ending) → e ≡ ending whole 0 0 before → e.written ≤ length before
      → (served_of e ≡ handed whole) × (e.core ≡ whole.core) × (e.out ≡ over whole.lines before)
  done e h fits =
      let n : 0 + length whole.lines ≡ e.written = sym (ap (λ (x : Ending). x.written) h) in (
        ap served_of h ∙ rw (zero-add, zero-add),
        ap (λ (x : Ending). x.core) h,
        ap (λ (x : Ending). x.out) h ∙ sets-eq whole.lines before 0 (omega arith) ∙ rw zero-add,
      )

module _ (input : List ℕ) (offset : ℕ) (last : Bool) (first : Card) (before : List ℕ) (core : Card) (used written : ℕ) (out : List ℕ)
    (g : Going input offset last first before core used written out) where
  abbrev whole : Run
  whole = serve_of first offset input last (Some (length before))

  abbrev left : Run
  left = serve_of core (offset + used) (drop used input) last (Some (length out - written))

  -- a record was answered: its line was put, and the core is the turn's
  pub going_next : (e : Event) (a : Answer) (after : List ℕ) (next : ℕ) → used < length input → longest ≤ length out - written
      → read_spec (offset + used) (drop used input) ≡ Ok e → a ≡ turned core e.time e.change
      → Put out written (line_of a.reply) after next → next ≤ written + longest
      → Going input offset last first before a.core (used + size_of e) next after
  going_next e a after next some_left some-room h t p few =
      let size = put-size p in
      let d = length-drop used input in
      let room : ℕ = length out - written - length (line_of a.reply) in
      let rest : length after - next ≡ room = omega (arith, p.behind) in
      let behind-it : ℕ = used + size_of e in
      let place : ℕ = offset + used + size_of e in
      record {
        inside = omega (arith, within (offset + used) (drop used input) e h);
        room = omega arith;
        size = size ∙ g.size;
        same =
            ap (λ (n : ℕ). ending (serve_of a.core n (drop behind-it input) last (Some (length after - next))) behind-it next after)
            (sym (add_assoc offset used (size_of e)))
            ∙ ap (λ (n : ℕ). ending (serve_of a.core place (drop behind-it input) last (Some n)) behind-it next after) rest
            ∙ ap (λ (s : List ℕ). ending (serve_of a.core place s last (Some room)) behind-it next after)
            (sym (drop-drop (size_of e) used input))
            ∙ ending-behind
            (serve_of a.core place (drop (size_of e) (drop used input)) last (Some room))
            (size_of e)
            (line_of a.reply)
            used
            written
            next
            out
            after
            p
            ∙ ap (λ (r : Run). ending r used written out)
            (sym
            (serve_event core (offset + used) (drop used input) last (Some (length out - written)) e a (omega arith)
            (le-ltb (length out - written) longest some-room) h t))
            ∙ g.same;
      }

  abbrev Handed : Served → List ℕ → Type 0
  Handed r after =
      ((r ≡ handed whole) × (core ≡ whole.core))
      × ((after ≡ over whole.lines before) × ((r.used ≤ length input) × (r.written ≤ length before)))

  rested : left ≡ rests core → Handed (record { used = used; written = written; refused = None }) out
  rested h =
      let e : Ending = record { core = core; used = used; written = written; refused = None; out = out } in
      let z : e ≡ ending (rests core) used written out = rw (add-zero, add-zero) in
      let d = done whole before e (z ∙ ap (λ (r : Run). ending r used written out) (sym h) ∙ g.same) (omega (arith, g.size, g.room)) in
      ((d.0, d.1), (d.2, (g.inside, omega (arith, g.size, g.room))))

  -- nothing is left
  pub going_end : length input ≤ used → Handed (record { used = used; written = written; refused = None }) out
  going_end h =
      rested (serve_end core (offset + used) (drop used input) last (Some (length out - written)) (omega (arith, length-drop used input)))

  -- a longest line has no room
  pub going-full : length out - written < longest → Handed (record { used = used; written = written; refused = None }) out
  going-full h =
      rested
      (serve_full core (offset + used) (drop used input) last (Some (length out - written)) (lt-ltb (length out - written) longest h))

  module _ (r : BadRecord) (some_left : used < length input) (some-room : longest ≤ length out - written)
      (h : read_spec (offset + used) (drop used input) ≡ Err r) where
    refused : left ≡ refuses core last r
    refused =
        serve_no core (offset + used) (drop used input) last (Some (length out - written)) r (omega (arith, length-drop used input))
        (le-ltb (length out - written) longest some-room) h

    -- a record that is cut short waits
    pub going-waits : waits_for r last ≡ true → Handed (record { used = used; written = written; refused = None }) out
    going-waits w = rested (refused ∙ rw w)

    -- "After 20, 21 or 22 the program stops."
    pub going-stops : (after : List ℕ) (next : ℕ) → waits_for r last ≡ false → Put out written (refusal_text (paper_bad r)) after next
        → next ≤ written + longest → Handed (record { used = used; written = next; refused = Some r }) after
    going-stops after next w p few =
        let e : Ending = record { core = core; used = used; written = next; refused = Some r; out = after } in
        let z : e ≡ ending (stops core r) used written out = rw (p.stored, p.behind, add-zero) in
        let s : left ≡ stops core r = refused ∙ rw w in
        let d = done whole before e (z ∙ ap (λ (r : Run). ending r used written out) (sym s) ∙ g.same) (omega (arith, g.size)) in
        ((d.0, d.1), (d.2, (g.inside, omega (arith, g.size))))
