-- The length's demand stands in the table. Assumes nothing.
use Rattle.model.specs.Demand.{demand_of}
use Rattle.shares.proofs.TableLaws.{cell_at}
use Rattle.shares.proofs.DemandCurve.{demand-some, under-longest}
use native.Mathlib.Omega.{arith}
use mathlib.Core.Path.{◌≡◌, ◌∙◌, ap}
use Prim.Native.Nat.{ℕ, suc, ◌+◌}
use Rattle.shares.proofs.leaps.fill_task.Goals as goal

pub fill_spare-spare-requires : goal.fill_spare-spare-requires
fill_spare-spare-requires c =
    let a = c.args in
    let tasks = a.tasks.now in
    let ok = tasks.accepted in
    let ps = tasks.periods.now in
    let es = tasks.costs.now in
    let t = c.loop-t.t in
    let task = c.requires.0 in
    let in_period = ok.period-most a.i task in
    let cell = cell_at ps es a.demands.now _ t a.i c.requires.1.0.right (omega (arith, task, ok.few)) task
    (omega (arith, c.loop-t-test.true, under-longest ps es ok a.i task, task, ok.few)) in
    let d = c.cell_ticks-d.ensures ∙ cell in
    let e : suc a.i ≡ a.i + 1 = omega arith in (
      c.loop-t.invariant.2,
      (
        omega (arith, d, demand-some ps es ok a.i t task c.loop-t.invariant.0),
        d ∙ ap (λ (n : ℕ). demand_of ps es n t) e,
        omega (arith, c.loop-t-test.true, in_period),
      ),
    )
