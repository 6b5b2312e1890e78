use native.Mathlib.Omega.{arith}
use Rattle.sheets.proofs.Scan.{Turn, turn}
use Rattle.sheets.proofs.field.value.Goals as goal
use Rattle.sheets.proofs.field.value.Goals.{In-loop-digit}

-- what a turn of the loop knows
turns : (c : In-loop-digit) → Turn c.args.s.now c.loop-digit.n c.loop-digit.digit-index
turns c = turn c.args.s.now c.loop-digit.n c.loop-digit.digit-index c.requires.0 (omega arith) c.loop-digit.invariant

pub overflow_mul-n : goal.overflow_mul-n
overflow_mul-n c = record { fits = omega (arith, (turns c).fits, c.requires.1) }

pub overflow_sub-digit : goal.overflow_sub-digit
overflow_sub-digit c = (turns (goal.at.overflow_sub-digit c).In-loop-digit).low

pub overflow_add-n : goal.overflow_add-n
overflow_add-n c =
    let t = turns (goal.at.overflow_add-n c).In-loop-digit in record { fits = omega (arith, c.from.ensures, t.fits, c.requires.1) }

pub loop-digit-preserved : goal.loop-digit-preserved
loop-digit-preserved c =
    let t = turns (goal.at.loop-digit-preserved c).In-loop-digit in rw c.from.ensures t.same
