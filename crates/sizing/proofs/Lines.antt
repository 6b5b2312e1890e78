-- The lines of a part, answered one after the other into the room, until none is left that has ended or the room is full. Assumes nothing.
use Prim.Native.Nat.{ℕ, suc, ◌+◌, ◌-◌, ◌≤◌, ◌<◌}
use mathlib.Core.Path.{◌≡◌, refl, ap, sym, ◌∙◌}
use mathlib.Core.Bool.{Bool, true, false, cond, ◌||◌}
use mathlib.Core.List.{List, [], ◌++◌, append_assoc}
use mathlib.Core.Logic.{◌⊎◌, inl, inr}
use native.Mathlib.Omega.{arith}
use native.Mathlib.Nat.{zero-add}
use lib.Dec.{ltb}
use lib.ListN.{length, take, drop, length-append, length-take, length-drop, drop_of_length-le}
use lib.Seq.{drop-drop, length-take-le, take-append-add, take_at}
use borrow.Author.Tests.{le-ltb}
use Rattle.model.proofs.Tests.{clash, or_neither}
use Rattle.text.specs.Text.{over}
use Rattle.queries.specs.Text.{longest, answer_in, Written}
use Rattle.queries.specs.Meaning.{until}
use Rattle.queries.proofs.Pieces.{end-inside, piece_is}
use Rattle.sizing.specs.Program.{Run, further, line_answer, serve_of}
use Rattle.sizing.specs.Goes.{Went}
use Rattle.sizing.specs.Serving.{run-same, in_three, serve_rest, serve_line}

-- lines answered so far: up to `used`, with their answers in front of the room
pub record Done (begun : Bool) (part out : List ℕ) (long : Bool) (used written : ℕ) : Type 0 where
  pub within : (used ≤ length part) × (written ≤ length out)
  pub in_turn : serve_of begun part
      ≡ further (record { long = long; used = used; text = take written out }) (serve_of long (drop used part))
  pub moves : (1 ≤ used) ⊎ (written ≡ 0)

pub done-start : (begun : Bool) (part out : List ℕ) → Done begun part out begun 0 0
done-start begun part out =
    record {
      within = (omega arith, omega arith);
      in_turn = run-same refl (sym (zero-add (serve_of begun part).used)) refl;
      moves = inr refl;
    }

module _ (begun : Bool) (part out : List ℕ) (long : Bool) (used written : ℕ) (d : Done begun part out long used written) where
  abbrev rest : List ℕ
  rest = drop used part

  abbrev so_far : Run
  so_far = record { long = long; used = used; text = take written out }

  -- the room is full
  pub full_go : length out - written < longest
      → Went begun part out (record { long = long; used = used; written = written; full = true })
  full_go h =
      record {
        within = d.within;
        in_turn = d.in_turn;
        rests-there = λ e. absurd (clash refl e);
        moves = λ room e. some-used room d.moves;
      }
    where
      some-used : longest ≤ length out → (1 ≤ used) ⊎ (written ≡ 0) → 1 ≤ used
      some-used room (inl u) = u
      some-used room (inr z) = absurd (omega arith)

  module _ (end : ℕ) (e : end ≡ used + length (until 10 rest)) where
    inside : (used ≤ end) × (end ≤ length part)
    inside = end-inside 10 part used end d.within.0 e

    -- the line that has begun has not ended: it waits, or is let go
    module _ (at-end : end ≡ length part) where
      no_newline : length (until 10 rest) ≡ length rest
      no_newline = omega (arith, d.within.0, length-drop used part)

      abbrev restsAs : Bool → Run
      restsAs t = record { long = t; used = cond t (length rest) 0; text = [] }

      rests-is : (t : Bool) → t ≡ (long || ltb 65535 (end - used))
          → serve_of long rest ≡ restsAs t
      rests-is t h =
          let size : length rest ≡ end - used = omega (arith, length-drop used part) in
          serve_rest long rest no_newline
          ∙ ap restsAs (ap (λ (n : ℕ). long || ltb 65535 n) size ∙ sym h)

      pub let_go : true ≡ (long || ltb 65535 (end - used))
          → Went begun part out (record { long = true; used = end; written = written; full = false })
      let_go h =
          let none : drop end part ≡ [] = drop_of_length-le part {i = end} (omega (arith, at-end)) in
          let rests : serve_of true (drop end part) ≡ record { long = true; used = 0; text = [] } = ap (serve_of true) none in
          record {
            within = (inside.1, d.within.1);
            in_turn =
                d.in_turn
                ∙ ap (further so_far) (rests-is true h)
                ∙ run-same refl (omega (arith, inside, length-drop used part)) refl
                ∙ ap (further (record { long = true; used = end; text = take written out })) (sym rests);
            rests-there = λ z. rests;
            moves = λ room z. absurd (clash z refl);
          }

      pub waits : false ≡ (long || ltb 65535 (end - used))
          → Went begun part out (record { long = false; used = used; written = written; full = false })
      waits h =
          let short : long ≡ false = (or_neither long (ltb 65535 (end - used)) (sym h)).0 in
          let same : serve_of long rest ≡ serve_of false rest = ap (λ (t : Bool). serve_of t rest) short in
          record {
            within = d.within;
            in_turn = d.in_turn ∙ ap (further so_far) same;
            rests-there = λ z. sym same ∙ rests-is false h;
            moves = λ room z. absurd (clash z refl);
          }

    -- the line has ended, and its answer stands in the room behind the others
    module _ (more : end ≡ length part → ⊥) (room : longest ≤ length out - written) (n : ℕ) (left : List ℕ) where
      abbrev lent : List ℕ
      lent = take (length out - written) (drop written out)

      abbrev answer : List ℕ
      answer = line_answer long (take (end - used) rest)

      -- the room behind the other answers as the answer left it, in its place
      abbrev after : List ℕ
      after = take written out ++ (left ++ drop (length out - written) (drop written out))

      module _ (size : length left ≡ length lent) (w : Written (answer_in answer lent) lent left n) where
        has_room : answer_in answer lent ≡ answer
        has_room =
            ap (λ (t : Bool). cond t [] answer)
            (le-ltb (length lent) longest (omega (arith, length-take (length out - written) (drop written out), length-drop written out)))

        fits : length answer ≤ length lent
        fits =
            omega (
              arith,
              size,
              ap length w.whole,
              ap length has_room,
              length-append (answer_in answer lent) (drop (length (answer_in answer lent)) lent),
              length-drop (length (answer_in answer lent)) lent,
            )

        answer-there : take (written + n) after ≡ take written out ++ answer
        answer-there =
            let front : length (take written out) ≡ written = length-take-le written out d.within.1 in
            let tail : List ℕ = drop (length out - written) (drop written out) in
            let begins : left ++ tail ≡ answer ++ (drop (length answer) lent ++ tail) =
            ap (λ (l : List ℕ). l ++ tail) (w.whole ∙ ap (λ (a : List ℕ). over a lent) has_room)
            ∙ append_assoc answer (drop (length answer) lent) tail in
            ap (λ (k : ℕ). take (k + n) after) (sym front)
            ∙ take-append-add (take written out) (left ++ tail) n
            ∙ ap (λ (l : List ℕ). take written out ++ take n l) begins
            ∙ ap (λ (l : List ℕ). take written out ++ l)
            (take_at answer (drop (length answer) lent ++ tail) n (sym (w.count ∙ ap length has_room)))

        after-size : length after ≡ length out
        after-size =
            omega (
              arith,
              size,
              d.within.1,
              length-append (take written out) (left ++ drop (length out - written) (drop written out)),
              length-append left (drop (length out - written) (drop written out)),
              length-take-le written out d.within.1,
              length-take (length out - written) (drop written out),
              length-drop written out,
              length-drop (length out - written) (drop written out),
            )

        line-done : Done begun part after false (end + 1) (written + n)
        line-done =
            let k : ℕ = suc (length (until 10 rest)) in
            let few : length (until 10 rest) < length rest = omega (arith, more, inside, length-drop used part) in
            let on : used + k ≡ end + 1 = omega arith in
            let text-is : take written out ++ line_answer long (until 10 rest) ≡ take (written + n) after =
            ap (λ (l : List ℕ). take written out ++ line_answer long l) (sym (piece_is 10 part used end d.within.0 e))
            ∙ sym answer-there in
            let there : drop k rest ≡ drop (end + 1) part = drop-drop k used part ∙ ap (λ (m : ℕ). drop m part) on in
            record {
              within = (
                omega (arith, more, inside),
                omega (
                  arith,
                  after-size,
                  w.count,
                  ap length has_room,
                  fits,
                  d.within.1,
                  length-take (length out - written) (drop written out),
                  length-drop written out,
                ),
              );
              in_turn =
                  d.in_turn
                  ∙ ap (further so_far) (serve_line long rest few)
                  ∙ sym (in_three so_far (record { long = false; used = k; text = line_answer long (until 10 rest) }) (serve_of false (drop k rest)))
                  ∙ ap (λ (run : Run). further run (serve_of false (drop k rest))) (run-same {a = false} refl on text-is)
                  ∙ ap (λ (s : List ℕ). further (record { long = false; used = end + 1; text = take (written + n) after }) (serve_of false s)) there;
              moves = inl (omega arith);
            }

        pub one_more : (length after ≡ length out) × Done begun part after false (end + 1) (written + n)
        one_more = (after-size, line-done)
