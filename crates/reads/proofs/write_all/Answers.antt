use Rattle.std.proofs.Common.{arith, length-drop}
use Rattle.std.proofs.lemmas.List.{take_rest}
use Rattle.std.proofs.Math.Seq.{take-add}
use Rattle.std.proofs.KnownBytes.{Appends-trans, Appends-kept}
use Rattle.reads.proofs.write_all.Goals as goal
use Rattle.reads.proofs.write_all.Goals.{in-Ok, in-Err+else-ne}

pub loop-turn-preserved : goal.loop-turn-preserved
loop-turn-preserved g c =
    elim c.match-write.branch [
      | in-Ok w ↦
          let rest = take_rest c.args.bytes.now c.loop-turn.done in
          rw (w.done-is, take-add c.loop-turn.done w.in-Ok.n c.args.bytes.now) (
            omega (arith, rw rest at w.in-Ok.ensures.bound, length-drop c.loop-turn.done c.args.bytes.now),
            Appends-trans _ _ _ _ _ c.loop-turn.invariant.1 (rw rest at w.in-Ok.ensures.bytes),
          )
      | in-Err+else-ne w ↦
          rw w.done-is (c.loop-turn.invariant.0, Appends-kept _ _ _ _ c.loop-turn.invariant.1 w.in-Err.ensures.bytes)
    ]
