-- `turns::Vcpu::bring` meets its contract: what came, or nothing, and the difference of the usable ticks.
-- Assumes nothing.
use Rattle.std.proofs.Common.{◌≡◌, ◌∙◌, arith, ap, refl}
use Rattle.turns.specs.declared.Vcpu.{Vcpu}
use Rattle.turns.specs.Written.{written}
use Rattle.turns.specs.Steps.{bare}
use Rattle.rules.specs.Return.{returned}
use Rattle.turns.proofs.Return.{rests}
use Rattle.turns.proofs.Reports.{gains, reports}
use Rattle.turns.proofs.Vcpu.bring.Goals as goal
use Rattle.turns.proofs.Vcpu.bring.Goals.{Joined-le, then-le, else-le}

came : (c : Joined-le) → c.if-le.self ≡ written (returned c.args.now.0 (bare c.args.self.now))
came c =
    elim c.if-le.branch [
      | then-le w ↦ w.self-is ∙ w.come.ensures
      | else-le w ↦ w.self-is ∙ rests c.args.self.now c.args.now c.requires (grind (arith, w.if-le.false))
    ]

pub less-requires : goal.less-requires
less-requires c =
    omega (
      arith,
      ap (λ (v : Vcpu). v.usable.0) (came (goal.at.less-requires c).Joined-le),
      gains c.args.self.now c.args.now c.requires,
    )

pub returns-clause-vcpu_is : goal.returns-clause-vcpu_is
returns-clause-vcpu_is c = came (goal.at.returns-clause-vcpu_is c).Joined-le

pub returns-clause-told_is : goal.returns-clause-told_is
returns-clause-told_is c =
    reports c.args.self.now c.args.now c.requires c.if-le.self _ _ (came (goal.at.returns-clause-told_is c).Joined-le) c.less.ensures refl
