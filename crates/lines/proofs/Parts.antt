-- However the input is cut and however little room there is for lines, the lines and the core are those of one piece.
-- Assumes nothing.
use Prim.Native.Nat.{ℕ, zero, suc, ◌+◌, ◌≤◌}
use mathlib.Core.Path.{◌≡◌, refl, ap, sym, ◌∙◌}
use mathlib.Core.Bool.{Bool, true, false, not, ◌&&◌}
use mathlib.Core.Logic.{◌⊎◌, inl, inr}
use Rattle.std.specs.Prelude.{Option, None, Some, Result, Ok, Err}
use mathlib.Core.List.{List, [], ◌∷◌, ◌++◌, append_assoc, append-nil}
use native.Mathlib.Omega.{arith}
use native.Mathlib.Nat.{zero-add, add-zero, add_assoc}
use lib.Dec.{eqb}
use lib.ListN.{length, drop, length-drop, length-append}
use lib.Seq.{drop-drop, drop-append-le}
use borrow.Author.Tests.{eqb-true, eqb-false}
use Rattle.records.specs.declared.answers.BadRecord.{BadRecord}
use Rattle.rules.specs.Card.{Card}
use Rattle.turns.specs.declared.Answer.{Answer}
use Rattle.turns.specs.Calls.{turned}
use Rattle.records.specs.declared.answers.Event.{Event}
use Rattle.records.specs.Answer.{bad_number, read_spec}
use Rattle.records.specs.Encode.{size_of}
use Rattle.lines.specs.Text.{line_of}
use Rattle.lines.specs.Serve.{Run, stopped, rests, stops, waits_for, refuses, behind, full, less, serve_of}
use Rattle.lines.specs.Parts.{Part, onward, one_piece, in_parts}
use Rattle.lines.proofs.Reading.{some_bytes, within, event-behind, refusal-behind}
use Rattle.lines.proofs.ServedLines.{serve_end, serve_full, serve_no, serve_event}

onward-rests : (core : Card) (x : Run) → onward (rests core) x ≡ x
onward-rests core x = rw zero-add

onward-behind : (n : ℕ) (line : List ℕ) (r x : Run) → onward (behind n line r) x ≡ behind n line (onward r x)
onward-behind n line r x = go (stopped r) refl
  where
    go : (t : Bool) → stopped r ≡ t → onward (behind n line r) x ≡ behind n line (onward r x)
    go true e = rw e
    go false e = rw (e, add_assoc, append_assoc)

and-true : (a : Bool) → (a && true) ≡ a
and-true true = refl
and-true false = refl

-- a part that is not the last, or the whole with less room
Before : Bool → Bool → List ℕ → Type 0
Before early last b = (early ≡ false) ⊎ ((b ≡ []) × (early ≡ last))

-- a part that begins at this offset, then the rest of it with what comes behind
abbrev then_rest : ℕ → List ℕ → List ℕ → Bool → Run → Run
then_rest offset a b last r = onward r (serve_of r.core (offset + r.used) (drop r.used a ++ b) last None)

module _ (core : Card) (offset : ℕ) (a b : List ℕ) (early last : Bool) (room : Option ℕ) where
  abbrev Same : Type 0
  Same = serve_of core offset (a ++ b) last None ≡ then_rest offset a b last (serve_of core offset a early room)

  when_rests : serve_of core offset a early room ≡ rests core → Same
  when_rests h =
      ap (λ (n : ℕ). serve_of core n (a ++ b) last None) (sym (add-zero offset))
      ∙ sym (onward-rests core (serve_of core (offset + 0) (a ++ b) last None))
      ∙ ap (then_rest offset a b last) (sym h)

  when_refused : (r : BadRecord) → Before early last b → 1 ≤ length a → full room ≡ false → read_spec offset a ≡ Err r → Same
  unfolding Before
  when_refused r k some_left some-room h = go (waits_for r early) refl k
    where
      given : serve_of core offset a early room ≡ refuses core early r
      given = serve_no core offset a early room r some_left some-room h

      long : 1 ≤ length (a ++ b)
      long = omega (arith, length-append a b)

      halts : waits_for r early ≡ false → stops core r ≡ then_rest offset a b last (serve_of core offset a early room)
      halts w = let e : serve_of core offset a early room ≡ stops core r = given ∙ rw w in ap (then_rest offset a b last) (sym e)

      same_read : waits_for r early ≡ false → (k : Before early last b) → (read_spec offset (a ++ b) ≡ Err r) × (waits_for r last ≡ false)
      same_read w (inl e) =
          let n : eqb (bad_number r) 20 ≡ false =
          sym (and-true (eqb (bad_number r) 20)) ∙ ap (λ (t : Bool). eqb (bad_number r) 20 && not t) (sym e) ∙ w in
          (refusal-behind offset a b r h n, rw n)
      same_read w (inr e) =
          (ap (λ (x : List ℕ). read_spec offset (a ++ x)) e.0 ∙ ap (read_spec offset) (append-nil a) ∙ h, ap (waits_for r) (sym e.1) ∙ w)

      go : (t : Bool) → waits_for r early ≡ t → Before early last b → Same
      go true w k = when_rests (given ∙ rw w)
      go false w k =
          let m = same_read w k in
          serve_no core offset (a ++ b) last None r long refl m.0 ∙ rw m.1 (halts w)

-- the general law, by the bytes of the part
cut : (k : ℕ) (core : Card) (offset : ℕ) (a b : List ℕ) (early last : Bool) (room : Option ℕ) → length a ≤ k → Before early last b
    → Same core offset a b early last room
cut zero core offset a b early last room few kind =
    when_rests core offset a b early last room (serve_end core offset a early room (omega arith))
cut (suc k) core offset a b early last room few kind =
    go (eqb (length a) 0) refl (full room) refl (read_spec offset a) refl
    (λ e some_left.
    cut k (turned core e.time e.change).core (offset + size_of e) (drop (size_of e) a) b early last
    (less room (length (line_of (turned core e.time e.change).reply)))
    (omega (arith, some_bytes e, length-drop (size_of e) a)) kind)
  where
    go : (z : Bool) → eqb (length a) 0 ≡ z → (t : Bool) → full room ≡ t → (r : Result Event BadRecord) → read_spec offset a ≡ r
        → ((e : Event) → 1 ≤ length a →
        Same (turned core e.time e.change).core (offset + size_of e) (drop (size_of e) a) b early last
        (less room (length (line_of (turned core e.time e.change).reply))))
        → Same core offset a b early last room
    go true z t u r h ih =
        when_rests core offset a b early last room (serve_end core offset a early room (eqb-true (length a) 0 z))
    go false z true t r h ih = when_rests core offset a b early last room (serve_full core offset a early room t)
    go false z false t (Err r) h ih =
        when_refused core offset a b early last room r kind (omega (arith, eqb-false (length a) 0 z)) t h
    go false z false t (Ok e) h ih =
        let ans : Answer = turned core e.time e.change in
        let n : ℕ = size_of e in
        let line : List ℕ = line_of ans.reply in
        let some_left : 1 ≤ length a = omega (arith, eqb-false (length a) 0 z) in
        let r : Run = serve_of ans.core (offset + n) (drop n a) early (less room (length line)) in
        let place : ℕ = offset + n + r.used in
        let whole : serve_of core offset (a ++ b) last None
        ≡ behind n line (serve_of ans.core (offset + n) (drop n (a ++ b)) last None) =
        serve_event core offset (a ++ b) last None e ans (omega (arith, length-append a b)) refl (event-behind offset a b e h) refl in
        let front : serve_of core offset a early room ≡ behind n line r = serve_event core offset a early room e ans some_left t h refl in
        whole
        ∙ ap (λ (s : List ℕ). behind n line (serve_of ans.core (offset + n) s last None)) (drop-append-le n a b (within offset a e h))
        ∙ ap (behind n line) (ih e some_left)
        ∙ sym (onward-behind n line r (serve_of r.core place (drop r.used (drop n a) ++ b) last None))
        ∙ ap (λ (s : List ℕ). onward (behind n line r) (serve_of r.core place (s ++ b) last None)) (drop-drop r.used n a)
        ∙ ap (λ (m : ℕ). onward (behind n line r) (serve_of r.core m (drop (n + r.used) a ++ b) last None))
        (add_assoc offset n r.used)
        ∙ ap (then_rest offset a b last) (sym front)

-- "Cutting the input anywhere": a part, with any room for lines, then what it left with what comes behind
pub any-cut : (core : Card) (offset : ℕ) (a b : List ℕ) (last : Bool) (room : Option ℕ)
    → serve_of core offset (a ++ b) last None ≡ then_rest offset a b last (serve_of core offset a false room)
unfolding Before
any-cut core offset a b last room = cut (length a) core offset a b false last room (omega arith) (inl refl)

-- little room for lines: what was answered, then what it left
pub any-room : (core : Card) (offset : ℕ) (s : List ℕ) (last : Bool) (room : Option ℕ)
    → let r : Run = serve_of core offset s last room in
    serve_of core offset s last None ≡ onward r (serve_of r.core (offset + r.used) (drop r.used s) last None)
unfolding Before
any-room core offset s last room =
    let r : Run = serve_of core offset s last room in
    ap (λ (x : List ℕ). serve_of core offset x last None) (sym (append-nil s))
    ∙ cut (length s) core offset s [] last last room (omega arith) (inr (refl, refl))
    ∙ ap (λ (x : List ℕ). onward r (serve_of r.core (offset + r.used) x last None)) (append-nil (drop r.used s))

-- any parts and any rooms: the lines, the core, the bytes used and whether it stopped are those of one piece
pub parts_same : (ps : List Part) (core : Card) (offset : ℕ) (held : List ℕ)
    → in_parts core offset held ps ≡ serve_of core offset (held ++ one_piece ps) true None
unfolding in_parts
parts_same [] core offset held = ap (λ (s : List ℕ). serve_of core offset s true None) (sym (append-nil held))
parts_same (p ∷ ps) core offset held =
    let s : List ℕ = held ++ p.bytes in
    let r : Run = serve_of core offset s false (Some p.room) in
    ap (onward r) (parts_same ps r.core (offset + r.used) (drop r.used s))
    ∙ sym (any-cut core offset s (one_piece ps) true (Some p.room))
    ∙ ap (λ (x : List ℕ). serve_of core offset x true None) (append_assoc held p.bytes (one_piece ps))
