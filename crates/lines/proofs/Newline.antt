-- A line has one newline, so that what is written has as many as there are lines. Assumes nothing.
use Prim.Native.Nat.{ℕ, zero, suc, ◌+◌, ◌/◌, ◌%◌, ◌≤◌, ◌<◌}
use mathlib.Core.Path.{◌≡◌, refl, ap, ◌∙◌}
use mathlib.Core.Logic.{◌⊎◌, inl, inr}
use Rattle.std.specs.Prelude.{Option, None, Some, Result}
use Rattle.std.proofs.Math.Option as Maths
use Rattle.std.proofs.Math.Option.{none, some}
use mathlib.Core.List.{List, [], ◌∷◌, ◌++◌}
use native.Mathlib.Omega.{arith}
use lib.ListN.{length}
use borrow.Author.Tests.{ne_eqb}
use Rattle.rules.specs.Refuse.{Refusal as Row}
use Rattle.rules.specs.Turn.{Reply as Said}
use Rattle.rules.specs.Turn.{ok, refused}
use Rattle.turns.specs.declared.Report.{Report}
use Rattle.turns.specs.declared.Refusal.{Refusal}
use Rattle.records.specs.declared.answers.BadRecord.{BadRecord}
use Rattle.records.specs.Answer.{paper_bad}
use Rattle.turns.specs.Calls.{paper_reply, turned}
use Rattle.turns.specs.State.{Asking, made}
use Rattle.text.specs.Text.{figures, decimal, fields}
use Rattle.lines.specs.Text.{or_dash, refusal_text, line_said, line_of}
use Rattle.lines.specs.Asked.{Asked, refused_records, records, replies, lines_of, last_line}
use Rattle.lines.specs.Answers.{newlines}
use Rattle.text.proofs.Figures.{one-or-more, figures-one, figures-step}

newlines-append : (xs ys : List ℕ) → newlines (xs ++ ys) ≡ newlines xs + newlines ys
newlines-append [] ys = omega arith
newlines-append (x ∷ xs) ys = omega (arith, newlines-append xs ys)

digit : (d : ℕ) → newlines ((48 + d) ∷ []) ≡ 0
digit d = rw (ne_eqb 10 (48 + d) (λ z. absurd (omega arith)))

figures-none : (k n : ℕ) → newlines (figures k n) ≡ 0
unfolding figures
figures-none zero n = refl
figures-none (suc k) n = go (one-or-more n) (figures-none k (n / 10))
  where
    go : (n < 10) ⊎ (10 ≤ n) → newlines (figures k (n / 10)) ≡ 0 → newlines (figures (suc k) n) ≡ 0
    go (inl h) r = ap newlines (figures-one k n h) ∙ digit n
    go (inr h) r =
        ap newlines (figures-step k n h) ∙ newlines-append (figures k (n / 10)) ((48 + n % 10) ∷ []) ∙ omega (arith, r, digit (n % 10))

dash-none : (o : Maths.Option ℕ) → newlines (or_dash o) ≡ 0
dash-none none = refl
dash-none (some n) = figures-none 20 n

field-none : (f : List ℕ) (fs : List (List ℕ)) → newlines f ≡ 0 → newlines (fields (f ∷ fs)) ≡ newlines (fields fs)
field-none f fs h = omega (arith, h, newlines-append f (fields fs))

refusal-one : (r : Row) → newlines (refusal_text r) ≡ 1
refusal-one r =
    let m : List (List ℕ) = decimal r.detail ∷ [] in
    omega (
      arith,
      field-none (decimal r.number) m (figures-none 20 r.number),
      field-none (decimal r.detail) [] (figures-none 20 r.detail),
    )

said-one : (r : Said) → newlines (line_said r) ≡ 1
said-one (ok r) =
    let t : List (List ℕ) = decimal r.brought ∷ [] in
    let m : List (List ℕ) = or_dash r.timer ∷ t in
    let u : List (List ℕ) = decimal r.usable ∷ m in
    let h : List (List ℕ) = or_dash r.run ∷ u in
    omega (
      arith,
      field-none (decimal r.time) h (figures-none 20 r.time),
      field-none (or_dash r.run) u (dash-none r.run),
      field-none (decimal r.usable) m (figures-none 20 r.usable),
      field-none (or_dash r.timer) t (dash-none r.timer),
      field-none (decimal r.brought) [] (figures-none 20 r.brought),
    )
said-one (refused r) = refusal-one r

calls-one : (calls : List Asking) → newlines (lines_of (replies calls)) ≡ length calls
calls-one [] = refl
calls-one (a ∷ before) =
    let r : Result Report Refusal = (turned (made before) a.now a.change).reply in
    newlines-append (lines_of (replies before)) (line_of r) ∙ omega (arith, calls-one before, said-one (paper_reply r))

last_one : (o : Option BadRecord) → newlines (last_line o) ≡ refused_records o
last_one None = refl
last_one (Some b) = refusal-one (paper_bad b)

-- as many newlines as records
pub a_line_each : (a : Asked) → newlines (lines_of (replies a.calls) ++ last_line a.refusal) ≡ records a
a_line_each a =
    newlines-append (lines_of (replies a.calls)) (last_line a.refusal) ∙ omega (arith, calls-one a.calls, last_one a.refusal)
