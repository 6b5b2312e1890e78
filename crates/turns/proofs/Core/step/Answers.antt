-- `turns::Core::step` meets its contract: what it asks of the parts, what it leaves in the fields and what it replies are those of
-- proofs/Turning, each part's result put in for its name. Assumes nothing.
use mathlib.Core.Path.{ap, sym, ◌∙◌}
use Rattle.std.proofs.lemmas.Result.{err_from_is_err_and}
use Rattle.turns.proofs.Made.{sound}
use Rattle.turns.proofs.Stage.{judges, memory-written}
use Rattle.turns.proofs.Turning.{refused-turn, not-before, charges, to-return, to-change, to-choose, to-name, left-shows, replies}
use Rattle.turns.proofs.Core.step.Goals as goal

pub judged-requires : goal.judged-requires
judged-requires c = judges c.self.inside (sound c.self.inside c.self.invariant)

-- a refused call
pub returns-in_err-judged-clause-reply_is : goal.returns-in_err-judged-clause-reply_is
returns-in_err-judged-clause-reply_is c =
    let p = err_from_is_err_and c.from_residual.result c.from_residual.ensures.1 in
    rw (p.1, p.2, ← c.self.view_is)
    (sym (ap (λ x. x.reply)
    (refused-turn c.self.inside c.self.invariant c.args.now c.args.change c.named-at.result c.named-at.ensures c.in_err-judged.field-0.0
    (sym c.in_err-judged.was ∙ c.judged.ensures))))

pub returns-in_err-judged-clause-core_is : goal.returns-in_err-judged-clause-core_is
returns-in_err-judged-clause-core_is c =
    rw (← c.self.view_is)
    (sym (ap (λ x. x.card)
    (refused-turn c.self.inside c.self.invariant c.args.now c.args.change c.named-at.result c.named-at.ensures c.in_err-judged.field-0.0
    (sym c.in_err-judged.was ∙ c.judged.ensures))))

-- an accepted one
pub idled-self-inside-requires : goal.idled-self-inside-requires
idled-self-inside-requires c =
    not-before c.self.inside c.self.invariant c.args.now c.args.change c.named-at.result c.named-at.ensures
    (sym c.in_ok-judged.was ∙ c.judged.ensures)

pub charge-requires : goal.charge-requires
charge-requires c =
    charges c.self.inside c.self.invariant c.args.now c.args.change c.named-at.result c.named-at.ensures
    (sym c.in_ok-judged.was ∙ c.judged.ensures)

pub keep-requires : goal.keep-requires
keep-requires c = rw c.charge.ensures (memory-written c.self.inside (sound c.self.inside c.self.invariant))

pub bring-total-requires-clause-returns : goal.bring-total-requires-clause-returns
bring-total-requires-clause-returns c =
    rw (c.keep.ensures, c.charge.ensures)
    (to-return c.self.inside c.self.invariant c.args.now c.args.change c.named-at.result c.named-at.ensures
    (sym c.in_ok-judged.was ∙ c.judged.ensures))

pub change-requires : goal.change-requires
change-requires c =
    rw (c.bring-total.ensures.table, c.bring-total.ensures.times, c.keep.ensures, c.charge.ensures)
    (to-change c.self.inside c.self.invariant c.args.now c.args.change c.named-at.result c.named-at.ensures
    (sym c.in_ok-judged.was ∙ c.judged.ensures))

pub choose-pick-requires : goal.choose-pick-requires
choose-pick-requires c =
    rw (c.change.ensures.table, c.bring-total.ensures.table, c.keep.ensures, c.charge.ensures)
    (to-choose c.self.inside c.self.invariant c.args.now c.args.change c.named-at.result c.named-at.ensures
    (sym c.in_ok-judged.was ∙ c.judged.ensures))

pub holder-run-requires : goal.holder-run-requires
holder-run-requires c =
    rw (
      c.choose-pick.ensures,
      c.change.ensures.table,
      c.change.ensures.times,
      c.bring-total.ensures.table,
      c.bring-total.ensures.times,
      c.keep.ensures,
      c.charge.ensures,
    )
    (to-name c.self.inside c.self.invariant c.args.now c.args.change c.named-at.result c.named-at.ensures
    (sym c.in_ok-judged.was ∙ c.judged.ensures))

pub invariant_of-self : goal.invariant_of-self
invariant_of-self c =
    rw (
      c.timer_for-timer.ensures,
      c.choose-pick.ensures,
      c.idled-self-inside.ensures,
      c.change.ensures.table,
      c.change.ensures.times,
      c.bring-total.ensures.table,
      c.bring-total.ensures.times,
      c.keep.ensures,
      c.charge.ensures,
    )
    (left-shows c.self.inside c.self.invariant c.args.now c.args.change c.named-at.result c.named-at.ensures
    (sym c.in_ok-judged.was ∙ c.judged.ensures)).1

pub returns-clause-reply_is : goal.returns-clause-reply_is
returns-clause-reply_is c =
    rw (
      ← c.self.view_is,
      c.holder-run.ensures,
      c.timer_for-timer.ensures,
      c.choose-pick.ensures,
      c.bring-total.ensures.ticks,
      c.change.ensures.table,
      c.change.ensures.times,
      c.bring-total.ensures.table,
      c.bring-total.ensures.times,
      c.keep.ensures,
      c.charge.ensures,
    )
    (replies c.self.inside c.self.invariant c.args.now c.args.change c.named-at.result c.named-at.ensures
    (sym c.in_ok-judged.was ∙ c.judged.ensures))

pub returns-clause-core_is : goal.returns-clause-core_is
returns-clause-core_is c =
    rw (
      ← c.self.view_is,
      c.timer_for-timer.ensures,
      c.choose-pick.ensures,
      c.idled-self-inside.ensures,
      c.change.ensures.table,
      c.change.ensures.times,
      c.bring-total.ensures.table,
      c.bring-total.ensures.times,
      c.keep.ensures,
      c.charge.ensures,
    )
    (left-shows c.self.inside c.self.invariant c.args.now c.args.change c.named-at.result c.named-at.ensures
    (sym c.in_ok-judged.was ∙ c.judged.ensures)).0
