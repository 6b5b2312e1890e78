-- The parts of an input as they are found, and the answer by the tests that tell what is asked. Assumes nothing.
use Prim.Native.Nat.{ℕ, suc, ◌-◌, ◌≤◌}
use mathlib.Core.Path.{◌≡◌, refl, ap, sym, ◌∙◌, subst}
use mathlib.Core.Bool.{Bool, true, false, cond}
use mathlib.Core.List.{List, []}
use native.Mathlib.Omega.{arith}
use lib.ListN.{length, take, drop, length-take, length-drop}
use lib.Seq.{take-take, take_all}
use borrow.Author.Tests.{le-ltb}
use Rattle.text.specs.Text.{text_in, Put}
use Rattle.text.proofs.Writing.{text-put, put-over}
use Rattle.queries.specs.Text.{said, bad_line, longest, answer_in, Written}
use Rattle.text.specs.Text.{same}
use Rattle.queries.specs.Meaning.{until, trimmed, is_long}
use Rattle.queries.proofs.Pieces.{until-few, until-take}
use Rattle.queries.proofs.Lines.{trimmed-front}
use Rattle.sheets.specs.Sheet.{read_of}
use Rattle.sales.specs.Sales.{question_of, sheet_of, help_word, help, answered, answer_to}

-- the question's line ends at `end`, and without a carriage return the question has `size` bytes
module _ (s : List ℕ) (end size : ℕ) (e : end ≡ length (until 10 s)) (f : size ≡ length (trimmed (take end s)))
    (few : size ≤ length (take end s)) where
  pub end-within : end ≤ length s
  end-within = omega (arith, until-few 10 s)

  pub size-within : size ≤ end
  size-within = omega (arith, length-take end s)

  pub question-is : take size s ≡ question_of s
  question-is =
      let front : take end s ≡ until 10 s = ap (λ (n : ℕ). take n s) e ∙ until-take 10 s in
      sym (take-take size end s size-within)
      ∙ ap (λ (n : ℕ). take n (take end s)) f
      ∙ trimmed-front (take end s)
      ∙ ap trimmed front

  -- the bytes from `from` on are the sheet
  pub sheet-is : (from : ℕ) → drop from s ≡ drop (suc end) s → take (length s - from) (drop from s) ≡ sheet_of s
  sheet-is from g =
      take_all (length s - from) (drop from s) (omega (arith, length-drop from s)) ∙ g ∙ ap (λ (n : ℕ). drop (suc n) s) e

help-few : length (said help []) ≡ 107
unfolding help
help-few = refl

-- the answer by the tests
module _ (s : List ℕ) where
  tested : (a b : Bool) → is_long s ≡ a → same (question_of s) help_word ≡ b
      → answer_to s ≡ cond a (said bad_line []) (cond b (said help []) (answered (question_of s) (read_of (sheet_of s))))
  unfolding answer_to
  tested a b e f = rw (e, f)

  module _ (out after : List ℕ) (n : ℕ) where
    as-answer : {text : List ℕ} → answer_to s ≡ text → Written text out after n → Written (answer_to s) out after n
    as-answer e w = subst (λ (l : List ℕ). Written l out after n) (sym e) w

    pub too_long : is_long s ≡ true → longest ≤ length out → Written (answer_in (said bad_line []) out) out after n
        → Written (answer_to s) out after n
    too_long e room w =
        let all : answer_in (said bad_line []) out ≡ said bad_line [] =
        ap (λ (t : Bool). cond t [] (said bad_line [])) (le-ltb (length out) longest room) in
        as-answer (tested true (same (question_of s) help_word) e refl) (subst (λ (l : List ℕ). Written l out after n) all w)

    pub helped : is_long s ≡ false → same (question_of s) help_word ≡ true → 1024 ≤ length out → Put out 0 (text_in out 0 (said help [])) after n
        → Written (answer_to s) out after n
    helped e f room p =
        let q = text-put out 0 (said help []) (omega (arith, room, help-few)) p in
        as-answer (tested false true e f) (record { count = omega (arith, q.behind); whole = put-over (omega (arith, room, help-few, q.behind)) q })

    pub of-sheet : is_long s ≡ false → same (question_of s) help_word ≡ false → Written (answered (question_of s) (read_of (sheet_of s))) out after n
        → Written (answer_to s) out after n
    of-sheet e f w = as-answer (tested false false e f) w
