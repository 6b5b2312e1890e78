-- `put_refusal` puts the line of a refusal. Assumes nothing.
use mathlib.Core.List.{append_assoc}
use mathlib.Core.Path.{refl}
use native.Mathlib.Omega.{arith}
use Rattle.text.specs.Text.{no}
use Rattle.text.proofs.Writing.{put_as, text-put, field-behind, end-behind}
use Rattle.lines.proofs.line.put_refusal.Goals as goal

pub returns : goal.returns
returns c =
    let room = c.requires in
    let begun = text-put _ _ no (omega arith) c.put_text-at.ensures in
    let number = field-behind 2 _ _ c.from.ensures (omega arith) (begun, omega (arith, begun.behind)) c.put_field-at.ensures in
    let detail = field-behind 23 _ _ refl (omega arith) number c.put_field-at-2.ensures in
    let all = end-behind 44 (omega arith) detail c.put_end.ensures in
    (put_as (simp append_assoc) all.0, omega (arith, all.1))
