use Prim.Native.Nat.{ℕ, ◌+◌, min}
use mathlib.Core.Path.{ap, sym, ◌∙◌}
use native.Mathlib.Omega.{arith}
use lib.ListN.{drop}
use Rattle.text.specs.Text.{number_from}
use Rattle.queries.proofs.Numbers.{digit-next, digits-next}
use Rattle.queries.proofs.field.number_of.Goals as goal

pub loop-byte-preserved : goal.loop-byte-preserved
loop-byte-preserved c =
    let field = c.args.field.now in
    let l = c.loop-byte in
    let d = sym c.is_ascii_digit.ensures.value ∙ c.if-not-is_ascii_digit.false in
    let n = c.with_digit-n.ensures in (
      omega (arith, n),
      l.invariant.1 ∙ digits-next field l.byte-index c.loop-byte-test.true d,
      l.invariant.2 ∙ digit-next field l.byte-index c.loop-byte-test.true l.n
          ∙ ap (λ (m : ℕ). min (number_from m (drop (l.byte-index + 1) field)) 9999) (sym n),
    )
