-- One more task's demand, at most 4,000. Assumes nothing.
use Rattle.model.specs.Demand.{ceil}
use Rattle.shares.proofs.DemandCurve.{demand-most}
use Rattle.std.proofs.lemmas.Slice.Zip.{zip_turn}
use Rattle.std.proofs.Common.{rules, suc, ◌≡◌, ◌<◌, ◌*◌, ◌∙◌, [], ◌∷◌, ◌++◌, length, take, get_or, length-take, length-append}
use Rattle.std.proofs.lemmas.List.{get_or-take}
use native.Mathlib.Omega.{arith}
use Rattle.shares.proofs.calls.demanded.Goals as goal
use Rattle.shares.proofs.calls.demanded.Goals.{After-demand_of_one-sum}

-- the task that this turn is at
at : (c : After-demand_of_one-sum)
    → (length c.loop-p.yielded < c.args.count) × (c.in-Some.field-0-0.now ≡ get_or c.args.tasks.now.periods.now (length c.loop-p.yielded) 0)
    × (c.in-Some.field-0-1.now ≡ get_or c.args.tasks.now.costs.now (length c.loop-p.yielded) 0)
at c =
    let ps = c.args.tasks.now.periods.now in
    let first : c.into_iter-p-iterator.result.a.rest.now ≡ take c.args.count ps = search rules in
    let second : c.into_iter-p-iterator.result.b.rest.now ≡ c.args.tasks.now.costs.now = search rules in
    let turn = zip_turn (take c.args.count ps) c.args.tasks.now.costs.now c.loop-p.yielded c.into_iter-p-iterator.result c.loop-p.p-iterator
    c.next.new.self c.next.result first second c.loop-p.yielded_by _ c.in-Some.is c.next.ensures.steps in
    let in_list : length c.loop-p.yielded < c.args.count = omega (arith, turn.0, length-take c.args.count ps, c.requires.0) in
    (in_list, turn.2 0 ∙ get_or-take c.args.count ps (length c.loop-p.yielded) 0 in_list, turn.3 0)

pub overflow_add-sum : goal.overflow_add-sum
overflow_add-sum c =
    let tasks = c.args.tasks.now in
    let k = length c.loop-p.yielded in
    let most = demand-most tasks.periods.now tasks.costs.now tasks.accepted k c.args.t (omega (arith, at c, c.requires)) c.requires.1 in
    record { fits = omega (arith, c.demand_of_one-sum.ensures, c.loop-p.invariant, at c, c.requires, tasks.accepted.few, most) }

pub loop-p-preserved : goal.loop-p-preserved
loop-p-preserved c =
    let tasks = c.args.tasks.now in
    let k = length c.loop-p.yielded in
    let term : c.demand_of_one-sum.result ≡ ceil c.args.t (get_or tasks.periods.now k 0) * get_or tasks.costs.now k 0 =
    rw ((at c).1, (at c).2) at c.demand_of_one-sum.ensures.0 in
    let next : length (c.loop-p.yielded ++ (c.in-Some.field-0-0, c.in-Some.field-0-1) ∷ []) ≡ suc k =
    omega (arith, length-append c.loop-p.yielded ((c.in-Some.field-0-0, c.in-Some.field-0-1) ∷ [])) in
    rw next (omega (arith, term, c.loop-p.invariant))
