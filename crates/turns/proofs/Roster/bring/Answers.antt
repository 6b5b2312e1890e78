-- `turns::Roster::bring` meets its contract: a turn of its loop asks and keeps what proofs/Sweep says. Assumes nothing.
use Rattle.std.proofs.Common.{arith}
use Rattle.turns.proofs.Sweep.{sweep_start, sweep_asks, sweep_small, sweep_step, Swept, sweep_ends}
use Rattle.turns.proofs.Roster.bring.Goals as goal

pub loop-i-init : goal.loop-i-init
loop-i-init c = rw (c.new.ensures, c.requires.blank) (sweep_start c.args.now c.args.self.now c.requires.returns)

pub bring-told-requires : goal.bring-told-requires
bring-told-requires c =
    sweep_asks c.args.now c.args.self.now c.loop-i.self c.requires.returns c.loop-i.next c.loop-i.total c.loop-i.i c.loop-i.invariant
    c.loop-i-test.true _

pub together-total-requires : goal.together-total-requires
together-total-requires c =
    sweep_small c.args.now c.args.self.now c.loop-i.self c.requires.returns c.loop-i.next c.loop-i.total c.loop-i.i c.loop-i.invariant
    c.loop-i-test.true _ _ c.bring-told.ensures.told_is

pub loop-i-preserved : goal.loop-i-preserved
loop-i-preserved c =
    sweep_step c.args.now c.args.self.now c.loop-i.self c.requires.returns c.loop-i.next c.loop-i.total c.loop-i.i c.loop-i.invariant
    c.loop-i-test.true _ _ _ _ c.bring-told.ensures.vcpu_is c.bring-told.ensures.told_is c.together-total.ensures

abbrev swept : (c : goal.After-loop-i)
    → Swept c.args.now c.args.self.now c.loop-i.self c.loop-i.next c.loop-i.total
swept c =
    sweep_ends c.args.now c.args.self.now c.loop-i.self c.requires.returns c.loop-i.next c.loop-i.total c.loop-i.i c.loop-i.invariant
    (omega (arith, c.loop-i-test.false, c.loop-i.auto.i-end))

pub returns-clause-table : goal.returns-clause-table
returns-clause-table c = (swept c).table

pub returns-clause-times : goal.returns-clause-times
returns-clause-times c = (swept c).times

pub returns-clause-ticks : goal.returns-clause-ticks
returns-clause-ticks c = (swept c).ticks
