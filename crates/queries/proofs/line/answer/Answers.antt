-- `answer` tells a line that is too long, or empty, and answers the others. Assumes nothing.
use mathlib.Core.Path.{◌≡◌, ap, sym, ◌∙◌}
use mathlib.Core.Logic.{⊎_elim}
use Prim.Native.Nat.{ℕ}
use native.Mathlib.Omega.{arith}
use lib.ListN.{take}
use Rattle.queries.specs.Meaning.{trimmed, bytes_mean}
use Rattle.queries.proofs.Lines.{trimmed-front}
use Rattle.queries.proofs.Meaning.{written_none, written-full, written-put, long-written, short-means, empty-means}
use Rattle.queries.proofs.line.answer.Goals as goal

pub returns-then-line-gt-LONGEST_LINE : goal.returns-then-line-gt-LONGEST_LINE
returns-then-line-gt-LONGEST_LINE c = long-written c.args.line.now c.args.out.now c.if-line-gt-LONGEST_LINE.true c.bad_line.ensures

pub returns-then-n-eq0 : goal.returns-then-n-eq0
returns-then-n-eq0 c =
    let line = c.args.line.now in
    let none = c.trimmed_size-n.ensures.1 in
    ⊎_elim
    (λ z. written_none _ c.args.out.now (sym (short-means line c.if-line-gt-LONGEST_LINE.false) ∙ empty-means (trimmed line) (omega (arith, none, z))))
    (λ full. written-full _ c.args.out.now full.1)
    c.then-n-eq0.either

pub returns : goal.returns
returns c =
    let line = c.args.line.now in
    let front : take c.trimmed_size-n.result line ≡ trimmed line = ap (λ (n : ℕ). take n line) c.trimmed_size-n.ensures.1 ∙ trimmed-front line in
    written-put _ c.args.out.now _ _ _ c.if-out-lt-LONGEST_ANSWER.false
    (c.answer_to.ensures ∙ ap bytes_mean front ∙ short-means line c.if-line-gt-LONGEST_LINE.false) c.put_answer.ensures
