use Prim.Native.Nat.{◌≤◌, ◌<◌}
use mathlib.Core.Path.{◌≡◌, ap, sym, subst}
use native.Mathlib.Omega.{arith}
use lib.ListN.{length}
use Rattle.turns.specs.declared.Memory.{Memory}
use Rattle.turns.specs.Written.{memories}
use Rattle.turns.specs.Remembered.{Fixed}
use Rattle.turns.proofs.Remembered.{Keeping, keeping_start, keeping_none, keeping-one, keeping-end}
use Rattle.turns.proofs.Memory.keep.Goals as goal
use Rattle.turns.proofs.Memory.keep.Goals.{In-loop-k, then-lt, else-lt}

-- how many there are
many : (m : Memory) → Fixed m → m.count ≡ length (memories m)
many m f = ap (λ (x : Memory). x.count) f.written

pub loop-k-init : goal.loop-k-init
loop-k-init c =
    subst (λ (m : Memory). Keeping c.args.now (memories c.args.self.now) m 0 0) (sym c.requires.written)
    (keeping_start c.args.now (memories c.args.self.now))

pub loop-k-preserved : goal.loop-k-preserved
loop-k-preserved c =
    let a = c.args in
    let rs = memories a.self.now in
    let l = c.loop-k in
    let n = many a.self.now c.requires in
    let i : l.k < length rs = omega (arith, n, c.loop-k-test.true) in
    let few : length rs ≤ 32 = omega (arith, n, c.requires.few) in
    elim c.if-lt.branch [
      | then-lt w ↦ rw (w.self-is, w.left-is, c.new.ensures, c.new-in-loop-k.ensures)
          (keeping-one a.now rs l.self l.left l.k l.invariant few i l.self.count (grind (arith, c.lt.ensures, w.if-lt.true)))
      | else-lt w ↦ rw (w.self-is, w.left-is, c.new.ensures, c.new-in-loop-k.ensures)
          (keeping_none a.now rs l.self l.left l.k l.invariant few i l.self.count (grind (arith, c.lt.ensures, w.if-lt.false)))
    ]

pub returns : goal.returns
returns c =
    let n = many c.args.self.now c.requires in
    keeping-end c.args.now (memories c.args.self.now) c.loop-k.self c.loop-k.left c.loop-k.k c.loop-k.invariant
    (omega (arith, n, c.requires.few)) (omega (arith, n, c.loop-k-test.false))
