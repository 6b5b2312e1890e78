-- `turns::Vcpu::return_due` meets its contract: as many entries as are due are taken.
-- Assumes nothing.
use Rattle.std.proofs.Common.{rules, ◌∙◌, sym, subst, ℕ}
use Rattle.turns.specs.declared.Vcpu.{Vcpu}
use Rattle.turns.proofs.Return.{Swept, swept-due}
use Rattle.turns.proofs.Vcpu.return_due.Goals as goal
use Rattle.turns.proofs.Vcpu.return_due.Goals.{After-due_count}

taken : (c : After-due_count) → Swept c.args.self.now c.args.now c.due_count.result
taken c =
    let v : Vcpu = c.args.self.now in
    subst (λ (n : ℕ). Swept v c.args.now n) (sym c.due_count.ensures)
    (swept-due v c.args.now c.requires.returnable c.requires.kind_value (search rules))

pub return_first-requires : goal.return_first-requires
return_first-requires c =
    let t = taken (goal.at.return_first-requires c).After-due_count in
    record { k_le_count = t.few; amount_bound = t.fits; owed = t.owed }

pub returns : goal.returns
returns c = c.return_first.ensures ∙ (taken (goal.at.returns c).After-due_count).end
