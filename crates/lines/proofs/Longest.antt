-- No line is longer than the room that `serve` keeps for one. Assumes nothing.
use Prim.Native.Nat.{ℕ, ◌+◌, ◌≤◌}
use mathlib.Core.List.{List, [], ◌∷◌}
use mathlib.Core.Option.{Option, none, some}
use native.Mathlib.Omega.{arith}
use lib.ListN.{length, length-append}
use Rattle.std.specs.Prelude.{Result}
use Rattle.rules.specs.Turn.{Reply as Said}
use Rattle.rules.specs.Turn.{ok, refused}
use Rattle.turns.specs.declared.Report.{Report}
use Rattle.turns.specs.declared.Refusal.{Refusal}
use Rattle.turns.specs.Calls.{paper_reply}
use Rattle.text.specs.Text.{decimal, fields}
use Rattle.lines.specs.Text.{or_dash, line_said, line_of, longest}
use Rattle.text.proofs.Figures.{figures-length}

dash-most : (o : Option ℕ) → length (or_dash o) ≤ 20
dash-most none = omega arith
dash-most (some n) = figures-length 20 n

field-most : (f : List ℕ) (fs : List (List ℕ)) (n : ℕ) → length f ≤ 20 → length (fields fs) ≤ n → length (fields (f ∷ fs)) ≤ n + 21
field-most f fs n h g = omega (arith, length-append f (fields fs))

pub said-most : (r : Said) → length (line_said r) ≤ longest
said-most (ok r) =
    let t : List (List ℕ) = decimal r.brought ∷ [] in
    let m : List (List ℕ) = or_dash r.timer ∷ t in
    let u : List (List ℕ) = decimal r.usable ∷ m in
    let h : List (List ℕ) = or_dash r.run ∷ u in
    let a = field-most (decimal r.brought) [] 1 (figures-length 20 r.brought) (omega arith) in
    let b = field-most (or_dash r.timer) t 22 (dash-most r.timer) a in
    let c = field-most (decimal r.usable) m 43 (figures-length 20 r.usable) b in
    let d = field-most (or_dash r.run) u 64 (dash-most r.run) c in
    let e = field-most (decimal r.time) h 85 (figures-length 20 r.time) d in
    omega (arith, e)
said-most (refused r) =
    let m : List (List ℕ) = decimal r.detail ∷ [] in
    let a = field-most (decimal r.detail) [] 1 (figures-length 20 r.detail) (omega arith) in
    let b = field-most (decimal r.number) m 22 (figures-length 20 r.number) a in
    omega (arith, b)

pub line-most : (r : Result Report Refusal) → length (line_of r) ≤ longest
line-most r = said-most (paper_reply r)
