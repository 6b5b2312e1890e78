-- A go of serving a part: with room for a longest line, what it served and then the rest are what room for all gives. Assumes nothing.
use Prim.Native.Nat.{ℕ, ◌+◌, ◌≤◌}
use mathlib.Core.Path.{◌≡◌, refl, ap, sym, ◌∙◌, subst}
use mathlib.Core.Bool.{Bool, true, false}
use mathlib.Core.List.{List, [], ◌++◌, append-nil}
use native.Mathlib.Omega.{arith}
use lib.ListN.{length, take, drop}
use lib.Seq.{take_at}
use borrow.Author.Tests.{le-ltb}
use Rattle.std.specs.Prelude.{Option, Some, None, is_some}
use Rattle.std.specs.Option.{option_or}
use Rattle.records.specs.declared.answers.BadRecord.{BadRecord}
use Rattle.reads.specs.declared.machine.End.{End}
use Rattle.reads.specs.Machine.{further, Went}
use Rattle.reads.proofs.Goes.{run-same}
use Rattle.rules.specs.Card.{Card}
use Rattle.lines.specs.declared.serving.Served.{Served as Answer}
use Rattle.lines.specs.Text.{longest}
use Rattle.lines.specs.Serve.{Run as Lines, serve_of, handed}
use Rattle.lines.proofs.Parts.{any-room}
use Rattle.lines.proofs.Rest.{Left, unused-left, left-rests}
use Rattle.card.specs.declared.Teller.{Teller}
use Rattle.card.specs.Program.{end_of, told, run_of}
use Rattle.card.specs.Laws.{unrefused}

module _ (m : Teller) (offset : ℕ) (s : List ℕ) (last : Bool) (room : ℕ) (some-room : longest ≤ room) where
  abbrev r : Lines
  r = serve_of m.core offset s last (Some room)

  abbrev rest : Lines
  rest = serve_of r.core (offset + r.used) (drop r.used s) last None

  -- where it was not refused
  goes_on : r.refused ≡ None
      → serve_of m.core offset s last None
      ≡ record { core = rest.core; used = r.used + rest.used; lines = r.lines ++ rest.lines; refused = rest.refused }
  goes_on e = let n : is_some r.refused ≡ false = ap is_some e in any-room m.core offset s last (Some room) ∙ rw n refl

  stops : (b : BadRecord) → r.refused ≡ Some b → serve_of m.core offset s last None ≡ r
  stops b e = let n : is_some r.refused ≡ true = ap is_some e in any-room m.core offset s last (Some room) ∙ rw n refl

  -- the go and then the rest
  on : r.refused ≡ None → run_of m offset s last ≡ further (record { machine = (told m.refused r).machine; used = r.used; text = r.lines; end = None }) (run_of (told m.refused r).machine (offset + r.used) (drop r.used s) last)
  on e =
      ap (told m.refused) (goes_on e)
      ∙ ap (λ (o : Option BadRecord). further (record { machine = (told m.refused r).machine; used = r.used; text = r.lines; end = None }) (told (option_or o m.refused) rest)) (sym e)

  -- a go that is refused, or uses nothing
  all : (o : Option BadRecord) → r.refused ≡ o → (end_of r.refused ≡ None → r.used ≡ 0)
      → run_of m offset s last ≡ record { machine = (told m.refused r).machine; used = r.used; text = r.lines; end = end_of r.refused }
  all (Some b) e unused = ap (told m.refused) (stops b e)
  all None e unused =
      let none : r.used ≡ 0 = unused (ap end_of e) in
      let left = unused-left m.core offset s last (Some room) (le-ltb room longest some-room) none (ap is_some e) in
      let rests : rest ≡ record { core = r.core; used = 0; lines = []; refused = None } =
      left-rests r.core (offset + r.used) (drop r.used s) last (subst (λ (n : ℕ). Left last (drop n s)) (sym none) left) in
      ap (told m.refused) (goes_on e ∙ ap (λ (x : Lines). record { core = x.core; used = r.used + x.used; lines = r.lines ++ x.lines; refused = x.refused }) rests)
      ∙ run-same (ap (λ (o : Option BadRecord). record { core = r.core; refused = option_or o m.refused }) (sym e)) (omega arith) (append-nil r.lines) (ap end_of (sym e))

  -- with the lines in front of the room
  module _ (before after : List ℕ) (put : after ≡ r.lines ++ drop (length r.lines) before) (fits : length r.lines ≤ length after) (few : r.used ≤ length s) where
    front : take (length r.lines) after ≡ r.lines
    front = ap (take (length r.lines)) put ∙ take_at r.lines (drop (length r.lines) before) (length r.lines) refl

    pub went : Went run_of m offset s last (told m.refused r).machine after (record { used = r.used; written = length r.lines; end = end_of r.refused })
    went =
        record {
          within = (few, fits);
          in_turn = λ e moves. rw front (on (unrefused r.refused e));
          is_all = λ unused. rw front (all r.refused refl unused);
        }

  -- the same of what `serve` answers
  pub went_as : (before after : List ℕ) (got : Answer) (core : Card) (refused : Option BadRecord) (end : Option End) → got ≡ handed r
      → core ≡ r.core → refused ≡ option_or got.refused m.refused → end ≡ end_of got.refused → after ≡ r.lines ++ drop (length r.lines) before
      → got.used ≤ length s → got.written ≤ length after
      → Went run_of m offset s last (record { core = core; refused = refused }) after (record { used = got.used; written = got.written; end = end })
  went_as before after got core refused end e f g h put few fits =
      let here = went before after put (omega (arith, fits, ap (λ (x : Answer). x.written) e)) (omega (arith, few, ap (λ (x : Answer). x.used) e)) in
      let as_got =
      subst
      (λ (x : Answer). Went run_of m offset s last (record { core = r.core; refused = option_or x.refused m.refused }) after (record { used = x.used; written = x.written; end = end_of x.refused }))
      (sym e) here in
      rw (f, g, h) as_got
