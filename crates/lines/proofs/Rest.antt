-- What serving leaves: nothing, or, where more input will come, bytes that wait for the rest of their record, fewer than a
-- longest record has. Serving in as many goes as the room for lines asks for leaves what room for all leaves. And the
-- lines of a whole input, however it comes. Assumes nothing.
use Prim.Native.Nat.{ℕ, zero, suc, ◌+◌, ◌≤◌, ◌<◌}
use mathlib.Core.Path.{◌≡◌, refl, ap, sym, ◌∙◌}
use mathlib.Core.Bool.{Bool, true, false, not, ◌&&◌}
use mathlib.Core.Logic.{◌⊎◌, inl, inr}
use Rattle.std.specs.Prelude.{Option, None, Result, Ok, Err}
use mathlib.Core.List.{List, [], ◌∷◌, ◌++◌}
use native.Mathlib.Omega.{arith}
use native.Mathlib.Nat.{zero-add, add-zero, add_assoc}
use lib.Dec.{eqb, ltb}
use lib.ListN.{length, drop, length-drop}
use lib.Seq.{drop-drop}
use borrow.Author.Tests.{eqb-true, eqb-false, ltb-true, not-true}
use Rattle.rules.proofs.Tests.{clash, and-true, or-true}
use Rattle.records.specs.declared.answers.BadRecord.{BadRecord}
use Rattle.records.specs.declared.answers.BadRecord.TheVariants.{CutShort}
use Rattle.rules.specs.Card.{Card}
use Rattle.turns.specs.declared.Answer.{Answer}
use Rattle.turns.specs.State.{made}
use Rattle.turns.specs.Calls.{turned}
use Rattle.records.specs.declared.answers.Event.{Event}
use Rattle.records.specs.Record.{known, payload, tag, length_said, told, waits}
use Rattle.records.specs.Answer.{bad_number, read_spec}
use Rattle.records.specs.Encode.{size_of}
use Rattle.records.proofs.Tags.{payload_bounds}
use Rattle.records.proofs.Behind.{number_of, read-waits}
use Rattle.records.proofs.Exactly.{twenty_waits}
use Rattle.lines.specs.Text.{line_of}
use Rattle.lines.specs.Serve.{Run, stopped, rests, waits_for, refuses, full, less, serve_of, card_lines}
use Rattle.lines.specs.Parts.{Part, one_piece, in_parts}
use Rattle.lines.proofs.Reading.{some_bytes, within}
use Rattle.lines.proofs.ServedLines.{serve_end, serve_full, serve_no, serve_event}
use Rattle.lines.proofs.Parts.{any-cut, any-room, parts_same}

-- tag 1, length 2, and no payload is longer than an admit's 21
pub waits-few : (s : List ℕ) → waits s ≡ true → length s < 24
unfolding waits
waits-few s w =
    go
    (or-true (ltb (length s) 3) (known (tag s) && (eqb (length_said s) (payload (tag s)) && ltb (length s) (3 + payload (tag s)))) w)
  where
    go : (ltb (length s) 3 ≡ true)
        ⊎ ((known (tag s) && (eqb (length_said s) (payload (tag s)) && ltb (length s) (3 + payload (tag s)))) ≡ true)
        → length s < 24
    go (inl h) = omega (arith, ltb-true (length s) 3 h)
    go (inr h) =
        let p = and-true (known (tag s)) (eqb (length_said s) (payload (tag s)) && ltb (length s) (3 + payload (tag s))) h in
        let q = and-true (eqb (length_said s) (payload (tag s))) (ltb (length s) (3 + payload (tag s))) p.1 in
        omega (arith, ltb-true (length s) (3 + payload (tag s)) q.1, payload_bounds (tag s) p.0)

-- nothing is left, or what is left waits for input that may come
abbrev pub Left : Bool → List ℕ → Type 0
Left last s = (s ≡ []) ⊎ ((last ≡ false) × (waits s ≡ true))

pub left-few : (last : Bool) (s : List ℕ) → Left last s → length s < 24
left-few last s (inl e) = omega (arith, ap length e)
left-few last s (inr w) = waits-few s w.1

pub no_bytes : (s : List ℕ) → length s ≡ 0 → s ≡ []
no_bytes [] h = refl
no_bytes (b ∷ bs) h = absurd (omega arith)

-- serving that has room, uses nothing and does not stop has nothing to serve
pub unused-left : (core : Card) (offset : ℕ) (s : List ℕ) (last : Bool) (room : Option ℕ) → full room ≡ false
    → (serve_of core offset s last room).used ≡ 0 → stopped (serve_of core offset s last room) ≡ false → Left last s
unfolding number_of
unused-left core offset s last room some-room unused goes = go (eqb (length s) 0) refl (read_spec offset s) refl
  where
    refused : (r : BadRecord) → read_spec offset s ≡ Err r → (t : Bool) → waits_for r last ≡ t
        → stopped (refuses core last r) ≡ false → Left last s
    refused r h true w n =
        let p = and-true (eqb (bad_number r) 20) (not last) w in
        inr (not-true last p.1, twenty_waits offset s (ap number_of h ∙ eqb-true (bad_number r) 20 p.0))
    refused r h false w n = let z : true ≡ false = rw w at n in clash z

    go : (z : Bool) → eqb (length s) 0 ≡ z → (r : Result Event BadRecord) → read_spec offset s ≡ r → Left last s
    go true z r h = inl (no_bytes s (eqb-true (length s) 0 z))
    go false z (Err r) h =
        let e = serve_no core offset s last room r (omega (arith, eqb-false (length s) 0 z)) some-room h in
        refused r h (waits_for r last) refl (ap (λ (x : Run). stopped x) (sym e) ∙ goes)
    go false z (Ok e) h =
        let a : Answer = turned core e.time e.change in
        let q = serve_event core offset s last room e a (omega (arith, eqb-false (length s) 0 z)) some-room h refl in
        absurd (omega (arith, ap (λ (x : Run). x.used) q, unused, some_bytes e))

-- and the other way round
pub left-rests : (core : Card) (offset : ℕ) (s : List ℕ) (last : Bool) → Left last s → serve_of core offset s last None ≡ rests core
left-rests core offset s last (inl e) = serve_end core offset s last None (ap length e)
left-rests core offset s last (inr w) = go (eqb (length s) 0) refl
  where
    go : (z : Bool) → eqb (length s) 0 ≡ z → serve_of core offset s last None ≡ rests core
    go true z = serve_end core offset s last None (eqb-true (length s) 0 z)
    go false z =
        let r : BadRecord = CutShort (told offset) in
        serve_no core offset s last None r (omega (arith, eqb-false (length s) 0 z)) refl (read-waits offset s w.1)
        ∙ ap (λ (t : Bool). refuses core t r) w.0

-- a serving that went on, with the rest
abbrev pub further : Run → Run → Run
further r x = record { core = x.core; used = r.used + x.used; lines = r.lines ++ x.lines; refused = x.refused }

goes_on_lem : (core : Card) (offset : ℕ) (s : List ℕ) (last : Bool) (room : Option ℕ) → stopped (serve_of core offset s last room) ≡ false
    → let r : Run = serve_of core offset s last room in
    serve_of core offset s last None ≡ further r (serve_of r.core (offset + r.used) (drop r.used s) last None)
goes_on_lem core offset s last room n = any-room core offset s last room ∙ rw n

-- a part that was served with room for all, and then what comes behind it
pub cut_goes_on : (core : Card) (offset : ℕ) (a b : List ℕ) (last : Bool) → stopped (serve_of core offset a false None) ≡ false
    → let r : Run = serve_of core offset a false None in
    serve_of core offset (a ++ b) last None ≡ further r (serve_of r.core (offset + r.used) (drop r.used a ++ b) last None)
cut_goes_on core offset a b last n = any-cut core offset a b last None ∙ rw n

-- what room for all leaves
pub rest-left : (core : Card) (offset : ℕ) (s : List ℕ) (last : Bool) → stopped (serve_of core offset s last None) ≡ false
    → Left last (drop (serve_of core offset s last None).used s)
rest-left core offset s last n =
    let r : Run = serve_of core offset s last None in
    let e = goes_on_lem core offset s last None n in
    unused-left r.core (offset + r.used) (drop r.used s) last None refl (omega (arith, ap (λ (x : Run). x.used) e))
    (ap (λ (x : Run). stopped x) (sym e) ∙ n)

used-few : (k : ℕ) (core : Card) (offset : ℕ) (s : List ℕ) (last : Bool) (room : Option ℕ) → length s ≤ k
    → (serve_of core offset s last room).used ≤ length s
used-few zero core offset s last room few = rw (serve_end core offset s last room (omega arith)) (omega arith)
used-few (suc k) core offset s last room few =
    go (eqb (length s) 0) refl (full room) refl (read_spec offset s) refl
    (λ e some_left.
    used-few k (turned core e.time e.change).core (offset + size_of e) (drop (size_of e) s) last
    (less room (length (line_of (turned core e.time e.change).reply)))
    (omega (arith, some_bytes e, length-drop (size_of e) s)))
  where
    refused : (r : BadRecord) → (refuses core last r).used ≤ length s
    refused r = each (waits_for r last) refl
      where
        each : (t : Bool) → waits_for r last ≡ t → (refuses core last r).used ≤ length s
        each true w = rw w (omega arith)
        each false w = rw w (omega arith)

    go : (z : Bool) → eqb (length s) 0 ≡ z → (t : Bool) → full room ≡ t → (r : Result Event BadRecord) → read_spec offset s ≡ r
        → ((e : Event) → 1 ≤ length s →
        (serve_of (turned core e.time e.change).core (offset + size_of e) (drop (size_of e) s) last
        (less room (length (line_of (turned core e.time e.change).reply)))).used
        ≤ length (drop (size_of e) s))
        → (serve_of core offset s last room).used ≤ length s
    go true z t u r h ih = rw (serve_end core offset s last room (eqb-true (length s) 0 z)) (omega arith)
    go false z true u r h ih = rw (serve_full core offset s last room u) (omega arith)
    go false z false u (Err r) h ih =
        rw (serve_no core offset s last room r (omega (arith, eqb-false (length s) 0 z)) u h) (refused r)
    go false z false u (Ok e) h ih =
        let a : Answer = turned core e.time e.change in
        let q = serve_event core offset s last room e a (omega (arith, eqb-false (length s) 0 z)) u h refl in
        omega (
          arith,
          ap (λ (x : Run). x.used) q,
          ih e (omega (arith, eqb-false (length s) 0 z)),
          within offset s e h,
          length-drop (size_of e) s,
        )

-- the bytes used are bytes of the part
pub used-within : (core : Card) (offset : ℕ) (s : List ℕ) (last : Bool) (room : Option ℕ) → (serve_of core offset s last room).used ≤ length s
used-within core offset s last room = used-few (length s) core offset s last room (omega arith)

-- at the end of the input nothing is left: all of it was used, or it was refused
pub all-used : (core : Card) (offset : ℕ) (s : List ℕ)
    → (stopped (serve_of core offset s true None) ≡ true) ⊎ ((serve_of core offset s true None).used ≡ length s)
all-used core offset s = go (stopped (serve_of core offset s true None)) refl
  where
    none_left : Left true (drop (serve_of core offset s true None).used s) → (serve_of core offset s true None).used ≡ length s
    none_left (inl e) =
        omega (
          arith,
          ap length e,
          length-drop (serve_of core offset s true None).used s,
          used-within core offset s true None,
        )
    none_left (inr w) = clash w.0

    go : (t : Bool) → stopped (serve_of core offset s true None) ≡ t
        → (stopped (serve_of core offset s true None) ≡ true) ⊎ ((serve_of core offset s true None).used ≡ length s)
    go true e = inl e
    go false e = inr (none_left (rest-left core offset s true e))

-- after some goes, each with room for some lines: from `core`, behind `used` bytes, the rest gives what the whole gives
pub record Ahead (first : Card) (offset : ℕ) (s : List ℕ) (last : Bool) (core : Card) (used : ℕ) : Type 0 where
  pub core_is : (serve_of first offset s last None).core ≡ (serve_of core (offset + used) (drop used s) last None).core
  pub used-is : (serve_of first offset s last None).used ≡ used + (serve_of core (offset + used) (drop used s) last None).used
  pub refused_is : (serve_of first offset s last None).refused ≡ (serve_of core (offset + used) (drop used s) last None).refused

pub ahead-start : (core : Card) (offset : ℕ) (s : List ℕ) (last : Bool) → Ahead core offset s last core 0
ahead-start core offset s last =
    let e = ap (λ (n : ℕ). serve_of core n s last None) (sym (add-zero offset)) in
    record {
      core_is = ap (λ (x : Run). x.core) e;
      used-is = ap (λ (x : Run). x.used) e ∙ sym (zero-add _);
      refused_is = ap (λ (x : Run). x.refused) e;
    }

module _ (first : Card) (offset : ℕ) (s : List ℕ) (last : Bool) (core : Card) (used : ℕ) (g : Ahead first offset s last core used)
    (room : Option ℕ) where
  abbrev once : Run
  once = serve_of core (offset + used) (drop used s) last room

  pub ahead-next : stopped once ≡ false → Ahead first offset s last once.core (used + once.used)
  ahead-next n =
      let e = goes_on_lem core (offset + used) (drop used s) last room n
      ∙ ap (λ (x : List ℕ). further once (serve_of once.core (offset + used + once.used) x last None)) (drop-drop once.used used s)
      ∙ ap (λ (m : ℕ). further once (serve_of once.core m (drop (used + once.used) s) last None)) (add_assoc offset used once.used) in
      record {
        core_is = g.core_is ∙ ap (λ (x : Run). x.core) e;
        used-is = omega (arith, g.used-is, ap (λ (x : Run). x.used) e);
        refused_is = g.refused_is ∙ ap (λ (x : Run). x.refused) e;
      }

  -- a go that uses nothing is the last one
  pub ahead-done : stopped once ≡ false → full room ≡ false → once.used ≡ 0
      → ((serve_of first offset s last None).core ≡ once.core)
      × ((serve_of first offset s last None).used ≡ used + once.used)
      × ((serve_of first offset s last None).refused ≡ None)
  ahead-done n some-room unused =
      let h = ahead-next n in
      let l = unused-left core (offset + used) (drop used s) last room some-room unused n in
      let same : used + once.used ≡ used = omega (arith, unused) in
      let e : serve_of once.core (offset + (used + once.used)) (drop (used + once.used) s) last None ≡ rests once.core =
      ap (λ (k : ℕ). serve_of once.core (offset + k) (drop k s) last None) same
      ∙ left-rests once.core (offset + used) (drop used s) last l in (
        h.core_is ∙ ap (λ (x : Run). x.core) e,
        omega (arith, h.used-is, ap (λ (x : Run). x.used) e),
        h.refused_is ∙ ap (λ (x : Run). x.refused) e,
      )

-- "Empty input writes nothing."
pub nothing_written : card_lines [] ≡ []
nothing_written = ap (λ (r : Run). r.lines) (serve_end (made []) 0 [] true None refl)

-- in any parts and with any rooms for lines, what the program writes is what it writes for the input in one piece
pub any-parts : (ps : List Part) → (in_parts (made []) 0 [] ps).lines ≡ card_lines (one_piece ps)
any-parts ps = ap (λ (r : Run). r.lines) (parts_same ps (made []) 0 [])
