-- `put_report` puts the line of an accepted call: what was put up to the time, and up to the usable ticks, is told once for each.
-- Assumes nothing.
use Prim.Native.Nat.{ℕ, ◌+◌, ◌≤◌}
use mathlib.Core.List.{List, ◌∷◌, ◌++◌, append_assoc}
use mathlib.Core.Path.{ap, ◌∙◌}
use native.Mathlib.Omega.{arith}
use Rattle.text.specs.Text.{decimal, ok, Put}
use Rattle.text.proofs.Writing.{put_as, put-size, text-put, put-behind, field-behind, end-behind}
use Rattle.turns.specs.Written.{number_in}
use Rattle.lines.specs.Text.{or_dash}
use Rattle.lines.proofs.line.put_report.Goals as goal
use Rattle.lines.proofs.line.put_report.Goals.{After-put_field-at, After-put_field-at-2}

time-put : (c : After-put_field-at)
    → Put c.args.out.now c.args.at (ok ++ (32 ∷ decimal c.args.report.time.0)) c.put_field-at.new.out c.put_field-at.result
    × (c.put_field-at.result ≤ c.args.at + 23)
time-put c =
    let begun = text-put _ _ ok (omega arith) c.put_text-at.ensures in
    field-behind 2 _ _ c.ticks.ensures (omega arith) (begun, omega (arith, begun.behind)) c.put_field-at.ensures

usable-put : (c : After-put_field-at-2)
    → Put c.args.out.now c.args.at
    (((ok ++ (32 ∷ decimal c.args.report.time.0)) ++ (32 ∷ or_dash (number_in c.args.report.run))) ++ (32 ∷ decimal c.args.report.usable.0))
    c.put_field-at-2.new.out c.put_field-at-2.result
    × (c.put_field-at-2.result ≤ c.args.at + 65)
usable-put c =
    let run = put_as (ap (λ (l : List ℕ). 32 ∷ l) c.number.ensures) c.put_or_dash-at.ensures.0 in
    field-behind 44 _ _ (c.from.ensures ∙ c.ticks-2.ensures) (omega arith)
    (put-behind 23 21 (time-put (goal.at.After-put_field-at-2 c).After-put_field-at) (run, c.put_or_dash-at.ensures.1))
    c.put_field-at-2.ensures

pub put_or_dash-at-requires : goal.put_or_dash-at-requires
put_or_dash-at-requires c = let p = time-put (goal.at.put_or_dash-at-requires c).After-put_field-at in omega (arith, p.1, put-size p.0)

pub put_or_dash-at-requires-2 : goal.put_or_dash-at-requires-2
put_or_dash-at-requires-2 c =
    let p = usable-put (goal.at.put_or_dash-at-requires-2 c).After-put_field-at-2 in omega (arith, p.1, put-size p.0)

pub returns : goal.returns
returns c =
    let timer = put_as (ap (λ (l : List ℕ). 32 ∷ l) c.ticks-3.ensures) c.put_or_dash-at-2.ensures.0 in
    let brought = field-behind 86 _ _ (c.from-2.ensures ∙ c.ticks-4.ensures) (omega arith)
    (put-behind 65 21 (usable-put (goal.at.returns c).After-put_field-at-2) (timer, c.put_or_dash-at-2.ensures.1))
    c.put_field-at-3.ensures in
    let all = end-behind 107 (omega arith) brought c.put_end.ensures in
    (put_as (simp append_assoc) all.0, all.1)
