-- `answer_to` finds the parts of the input, and is what it calls for each kind of it. Assumes nothing.
use Prim.Native.Nat.{ℕ, ◌≤◌}
use mathlib.Core.Path.{◌≡◌, ap, sym, ◌∙◌, subst}
use mathlib.Core.Bool.{Bool, true, false}
use mathlib.Core.List.{List}
use native.Mathlib.Omega.{arith}
use lib.ListN.{length, take, length-take}
use lib.Seq.{length-take-le}
use borrow.Author.Tests.{lt-ltb, le-ltb}
use Rattle.queries.specs.Text.{Written}
use Rattle.text.specs.Text.{same}
use Rattle.queries.proofs.Pieces.{until-few}
use Rattle.sheets.specs.Sheet.{Read, read_of}
use Rattle.sheets.specs.Paper.{paper_read}
use Rattle.sales.specs.Sales.{question_of, sheet_of, help_word, help, answered}
use Rattle.sales.proofs.Parts.{end-within, size-within, question-is, sheet-is, too_long, helped, of-sheet}
use Rattle.sales.proofs.answer_to.Goals as goal
use Rattle.sales.proofs.answer_to.Goals.{After-is_same, After-until-end, After-trimmed_size-size, Start}

-- where the function begins, seen from the question that is found
abbrev start : After-trimmed_size-size → Start
start t = (goal.at.After-trimmed_size-size t).Start

abbrev input : After-trimmed_size-size → List ℕ
input t = (start t).args.input.now

abbrev end : After-trimmed_size-size → ℕ
end t = t.until-end.result

end-in : (l : After-until-end) → l.until-end.result ≤ length l.args.input.now
end-in l = omega (arith, l.until-end.ensures, until-few 10 l.args.input.now)

within : (t : After-trimmed_size-size) → (end t ≤ length (input t)) × (t.trimmed_size-size.result ≤ end t)
within t =
    let e = t.until-end.ensures in
    let f = t.trimmed_size-size.ensures in (
      end-within (input t) (end t) t.trimmed_size-size.result e f.1 f.0,
      size-within (input t) (end t) t.trimmed_size-size.result e f.1 f.0,
    )

question : (t : After-trimmed_size-size) → take t.trimmed_size-size.result (input t) ≡ question_of (input t)
question t =
    let f = t.trimmed_size-size.ensures in
    question-is (input t) (end t) t.trimmed_size-size.result t.until-end.ensures f.1 f.0

-- what the test for help says
asks-help : (i : After-is_same) (t : Bool) → i.is_same.result ≡ t → same (question_of (input (goal.at.After-is_same i).After-trimmed_size-size)) help_word ≡ t
asks-help i t e =
    ap (λ (q : List ℕ). same q help_word) (sym (question (goal.at.After-is_same i).After-trimmed_size-size)) ∙ sym i.is_same.ensures ∙ e

pub returns-then-input-gt-LONGEST_INPUT : goal.returns-then-input-gt-LONGEST_INPUT
returns-then-input-gt-LONGEST_INPUT c =
    let p = c.bad_line in
    too_long c.args.input.now c.args.out.now p.new.out p.result (lt-ltb 65535 (length c.args.input.now) c.if-input-gt-LONGEST_INPUT.true) (omega (arith, c.requires)) p.ensures

pub slice_bounds-trimmed_size-end : goal.slice_bounds-trimmed_size-end
slice_bounds-trimmed_size-end c = sym (length-take-le _ _ (end-in c))

pub slice_bounds-is_same-end : goal.slice_bounds-is_same-end
slice_bounds-is_same-end c = let w = within c in sym (length-take-le _ _ (omega (arith, w)))

pub returns-then-is_same : goal.returns-then-is_same
unfolding help
returns-then-is_same c =
    let p = c.put_text in
    let i = (goal.at.returns-then-is_same c).After-is_same in
    helped c.args.input.now c.args.out.now p.new.out p.result (le-ltb 65535 (length c.args.input.now) c.if-input-gt-LONGEST_INPUT.false) (asks-help i true c.if-is_same.true)
    c.requires p.ensures

pub sheet_from-from-requires : goal.sheet_from-from-requires
sheet_from-from-requires c = (within (goal.at.sheet_from-from-requires c).After-trimmed_size-size).0

pub slice_bounds-answered-end : goal.slice_bounds-answered-end
slice_bounds-answered-end c = let w = within (goal.at.slice_bounds-answered-end c).After-trimmed_size-size in sym (length-take-le _ _ (omega (arith, w)))

pub answered-requires : goal.answered-requires
answered-requires c =
    let t = (goal.at.answered-requires c).After-trimmed_size-size in (
      omega (arith, c.if-input-gt-LONGEST_INPUT.false, length-take t.trimmed_size-size.result (input t)),
      (start t).requires,
    )

pub returns : goal.returns
returns c =
    let p = c.answered in
    let r = c.read-sheet in
    let g = c.sheet_from-from in
    let i = (goal.at.returns c).After-is_same in
    let t = (goal.at.returns c).After-trimmed_size-size in
    let f = t.trimmed_size-size.ensures in
    let sheet : paper_read r.result ≡ read_of (sheet_of (input t)) = r.ensures
    ∙ ap read_of (sheet-is (input t) (end t) t.trimmed_size-size.result t.until-end.ensures f.1 f.0 g.result g.ensures.1) in
    of-sheet (input t) (start t).args.out.now p.new.out p.result (le-ltb 65535 (length c.args.input.now) c.if-input-gt-LONGEST_INPUT.false) (asks-help i false c.if-is_same.false)
    (subst (λ (q : List ℕ). Written (answered q (read_of (sheet_of (input t)))) (start t).args.out.now p.new.out p.result) (question t)
    (subst (λ (x : Read). Written (answered (take t.trimmed_size-size.result (input t)) x) (start t).args.out.now p.new.out p.result) sheet
    p.ensures))
