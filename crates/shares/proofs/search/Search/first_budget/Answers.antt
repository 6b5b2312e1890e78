use Rattle.model.specs.Search.{first}
use Rattle.model.specs.Form.{Form}
use Rattle.model.specs.Demand.{demand_of}
use Rattle.model.specs.Share.{passes}
use Rattle.shares.specs.Paper.{paper_form}
use Rattle.shares.specs.Private.{IsTaskList, gaps_of, longest, leap_of}
use Rattle.shares.proofs.Walk.{Walk, NoneBetween, walk-met, walk-jump, walk-fails, walk_none, walk-found}
use Rattle.shares.proofs.RowLaws.{place_none, place_is}
use Rattle.shares.proofs.LeapLaws.{leap_none, leap_least}
use Rattle.shares.proofs.TableLaws.{cell_at}
use Rattle.shares.proofs.SupplyCurve.{waited_of, waited_with, gaps_few, form_of, form_of_lem}
use Rattle.shares.proofs.DemandCurve.{demand-some, demand-most, under-longest, longest-most}
use lib.Dec.{leb}
use lib.ListN.{length, get_or}
use native.Mathlib.Omega.{arith}
use mathlib.Core.Bool.{◌&&◌}
use mathlib.Core.List.{List}
use mathlib.Core.Path.{◌≡◌, sym, ◌∙◌, ap, subst}
use Prim.Native.Nat.{ℕ, suc, ◌+◌, ◌*◌, ◌≤◌, ◌<◌}
use Rattle.shares.proofs.search.Search.first_budget.Goals as goal
use Rattle.shares.proofs.search.Search.first_budget.Goals.{After-cell_ticks-d, After-leap-u, After-waited-spare, At-budgets, At-lengths, At-tasks, Start}

-- the heads of the loops: budgets, tasks, lengths
abbrev Budgets : Type 0
Budgets = At-budgets

abbrev Tasks : Type 0
Tasks = At-tasks

abbrev At : Type 0
At = At-lengths

abbrev began : Budgets → Start
began w = (goal.at.At-budgets w).Start

-- the gaps, the form that they tell, and that it is the one asked for
abbrev gaps : Budgets → ℕ
gaps w = w.gaps-gaps.result

told : (w : Budgets) → form_of (gaps w) ≡ paper_form (began w).args.self.now.form
told w = form_of_lem (paper_form (began w).args.self.now.form) (gaps w) w.gaps-gaps.ensures

counted : (w : Budgets) → gaps w ≡ gaps_of (form_of (gaps w))
counted w = w.gaps-gaps.ensures ∙ ap gaps_of (sym (told w))

abbrev of-tasks : Tasks → Budgets
of-tasks w = (goal.at.At-tasks w).At-budgets

abbrev of-lengths : At → Tasks
of-lengths l = (goal.at.At-lengths l).At-tasks

abbrev start : At → Start
start l = (began (of-tasks (of-lengths l)))

-- within the lengths: the demand is read, what it waits is known, it is too much, and where to leap is known
abbrev Read : Type 0
Read = After-cell_ticks-d

abbrev Waited : Type 0
Waited = After-waited-spare

abbrev Leap : Type 0
Leap = After-leap-u

abbrev of-read : Read → At
of-read c = (goal.at.After-cell_ticks-d c).At-lengths

abbrev read : Waited → Read
read c = (goal.at.After-waited-spare c).After-cell_ticks-d

abbrev at : Waited → At
at c = (of-read (read c))

abbrev waited : Leap → Waited
waited c = (goal.at.After-leap-u c).After-waited-spare

abbrev here : Leap → At
here c = (at (waited c))

abbrev form : At → Form
form l = form_of (gaps (of-tasks (of-lengths l)))

abbrev ps : At → List ℕ
ps l = (start l).args.self.now.tasks.periods.now

abbrev es : At → List ℕ
es l = (start l).args.self.now.tasks.costs.now

abbrev leaps : At → List ℕ
leaps l = (start l).args.self.now.leaps.now

tasks : (l : At) → IsTaskList (ps l) (es l)
tasks l = (start l).args.self.now.tasks.accepted

some-task : (l : At) → l.lengths.i < length (ps l)
some-task l = l.lengths.invariant.1.1.0

most : (l : At) → l.lengths.b ≤ (start l).args.p
most l = omega (arith, l.lengths.invariant.1.0, (start l).requires.1.1)

-- the demand of the task at i over t, where it is found, and what it waits
abbrev demanded : At → ℕ
demanded l = demand_of (ps l) (es l) (suc l.lengths.i) l.lengths.t

abbrev waits : At → ℕ
waits l = waited_of (form l) (start l).args.p l.lengths.b (demanded l)

within : (l : At) → l.lengths.t ≤ longest (ps l)
within l =
    omega
    (arith, l.lengths.invariant.0.within (some-task l), under-longest (ps l) (es l) (tasks l) l.lengths.i (some-task l))

column : (l : At) → l.lengths.i < 16
column l = omega (arith, some-task l, (tasks l).few)

place : (l : At) → l.lengths.t * 16 + l.lengths.i < 32016
place l = omega (arith, within l, column l, longest-most (ps l) (es l) (tasks l))

cell : (l : At) → get_or (start l).args.self.now.demands.now (l.lengths.t * 16 + l.lengths.i) 0 ≡ demanded l
cell l =
    cell_at (ps l) (es l) (start l).args.self.now.demands.now _ l.lengths.t l.lengths.i (start l).args.self.now.filled.right (column l) (some-task l)
    (omega (arith, within l, column l))

some-ticks : (l : At) → 1 ≤ demanded l
some-ticks l = demand-some (ps l) (es l) (tasks l) l.lengths.i l.lengths.t (some-task l) l.lengths.invariant.0.some-length

few-ticks : (l : At) → demanded l ≤ 64000
few-ticks l =
    omega (
      arith,
      demand-most (ps l) (es l) (tasks l) (suc l.lengths.i) l.lengths.t (some-task l)
          (omega (arith, within l, longest-most (ps l) (es l) (tasks l))),
      column l,
    )

-- where the next length stands, and that nothing between would do
abbrev next : At → ℕ
next l = leap_of (leaps l) l.lengths.i (demanded l) (waits l)

skipped : (l : At) → NoneBetween (ps l) (es l) l.lengths.i l.lengths.t (next l) (waits l)
skipped l =
    leap_none (ps l) (es l) (leaps l) l.lengths.i l.lengths.t (waits l) (tasks l) (some-task l) (start l).args.self.now.leapt

-- what the code has in hand: the demand, what it waits, and the next length
waits-is : (l : At) (d s : ℕ) → d ≡ get_or (start l).args.self.now.demands.now (l.lengths.t * 16 + l.lengths.i) 0
    → s ≡ waited_of (form l) (start l).args.p l.lengths.b d → s ≡ waits l
waits-is l d s e f = f ∙ ap (waited_of (form l) (start l).args.p l.lengths.b) (e ∙ cell l)

next-is : (l : At) (d s u : ℕ) → d ≡ get_or (start l).args.self.now.demands.now (l.lengths.t * 16 + l.lengths.i) 0
    → s ≡ waited_of (form l) (start l).args.p l.lengths.b d → u ≡ leap_of (leaps l) l.lengths.i d s → u ≡ next l
next-is l d s u e f g =
    g ∙ ap (λ (d : ℕ). leap_of (leaps l) l.lengths.i d s) (e ∙ cell l)
    ∙ ap (leap_of (leaps l) l.lengths.i (demanded l)) (waits-is l d s e f)

waits-by : (c : Waited)
    → c.waited-spare.result ≡ waited_of (form (at c)) (start (at c)).args.p (at c).lengths.b (read c).cell_ticks-d.result
waits-by c =
    let w = of-tasks (of-lengths (at c)) in
    c.waited-spare.ensures.0
    ∙ waited_with (form (at c)) (gaps w) (start (at c)).args.p (at c).lengths.b (read c).cell_ticks-d.result (counted w)

-- of what the code has in hand where the next length is known
next_here : (c : Leap) → c.leap-u.result ≡ next (here c)
next_here c =
    let w = waited c in
    next-is (here c) (read w).cell_ticks-d.result w.waited-spare.result c.leap-u.result (read w).cell_ticks-d.ensures
    (waits-by w)
    c.leap-u.ensures

pub waited-spare-requires : goal.waited-spare-requires
waited-spare-requires c =
    let l = of-read c in (
      omega (arith, (of-tasks (of-lengths l)).gaps-gaps.ensures, gaps_few (paper_form (start l).args.self.now.form)),
      omega (arith, l.lengths.invariant.0.begun, (start l).requires.1.0),
      most l,
      (start l).requires.0,
      omega (arith, c.cell_ticks-d.ensures, cell l, some-ticks l),
      omega (arith, c.cell_ticks-d.ensures, cell l, few-ticks l),
    )

pub tasks-preserved : goal.tasks-preserved
tasks-preserved c =
    let w = (goal.at.tasks-preserved c).After-waited-spare in
    let l = at w in
    let d = (read w).cell_ticks-d.ensures ∙ cell l in
    let e = waits-is l (read w).cell_ticks-d.result w.waited-spare.result (read w).cell_ticks-d.ensures (waits-by w) in
    let enough : demanded l + waits l ≤ l.lengths.t = subst (λ (n : ℕ). demanded l + n ≤ l.lengths.t) e
    (subst (λ (n : ℕ). n + w.waited-spare.result ≤ l.lengths.t) d c.if-d-spare.true) in (
      walk-met (form l) (ps l) (es l) (tasks l) (start l).args.p (start l).args.from (start l).requires.1.0 l.lengths.b l.lengths.i
          l.lengths.t (most l) (some-task l) l.lengths.invariant.0 enough,
      (l.lengths.invariant.1.0, l.lengths.invariant.1.1.1.0 ∙ (of-lengths l).tasks.invariant.1.1),
    )

pub leap-u-requires : goal.leap-u-requires
leap-u-requires c =
    let w = (goal.at.leap-u-requires c).After-waited-spare in
    let l = at w in
    (column l, omega (arith, (read w).cell_ticks-d.ensures, cell l, few-ticks l), w.waited-spare.ensures.1)

pub budgets-preserved : goal.budgets-preserved
budgets-preserved c =
    let l = here (goal.at.budgets-preserved c).After-leap-u in
    walk-fails (form l) (ps l) (es l) (tasks l) (start l).args.p (start l).args.from (start l).requires.1.0 l.lengths.b l.lengths.i
    l.lengths.t (most l) (some-task l) l.lengths.invariant.0 (next l) (skipped l)
    (subst (λ (u : ℕ). get_or (ps l) l.lengths.i 0 < u) (next_here (goal.at.budgets-preserved c).After-leap-u) c.if-periods-i.true)

-- the next length is longer: what it leaps to is at least the demand and what it waits, or above all
onward : (c : Leap) → (here c).lengths.t < c.leap-u.result
onward c =
    let l = here c in
    let w = waited c in
    omega (
      arith,
      c.leap-u.ensures,
      leap_least (leaps l) l.lengths.i (read w).cell_ticks-d.result w.waited-spare.result,
      c.if-d-spare.false,
      within l,
      longest-most (ps l) (es l) (tasks l),
    )

pub lengths-smaller : goal.lengths-smaller
lengths-smaller c = omega (arith, c.if-periods-i.false, onward (goal.at.lengths-smaller c).After-leap-u)

pub lengths-preserved : goal.lengths-preserved
lengths-preserved c =
    let l = here (goal.at.lengths-preserved c).After-leap-u in
    let e = next_here (goal.at.lengths-preserved c).After-leap-u in
    let inside = subst (λ (u : ℕ). u ≤ get_or (ps l) l.lengths.i 0) e c.if-periods-i.false in
    let on = subst (λ (u : ℕ). l.lengths.t ≤ u) e (omega (arith, onward (goal.at.lengths-preserved c).After-leap-u)) in (
      subst (λ (u : ℕ). Walk (form l) (ps l) (es l) (start l).args.p (start l).args.from l.lengths.b l.lengths.i u) (sym e)
          (walk-jump (form l) (ps l) (es l) (tasks l) (start l).args.p (start l).args.from (start l).requires.1.0 l.lengths.b l.lengths.i
          l.lengths.t (most l) (some-task l) l.lengths.invariant.0 (next l) (skipped l) inside on),
      l.lengths.invariant.1,
    )

pub returns-then-to-b : goal.returns-then-to-b
returns-then-to-b c =
    let k = (goal.at.returns-then-to-b c).At-budgets in
    let a = (began k).args in
    let tasks = a.self.now.tasks in
    let w = c.budgets in
    let e = walk_none (form_of (gaps k)) tasks.periods.now tasks.costs.now tasks.accepted a.p a.from (began k).requires.1.0 a.to w.b w.i w.t
    w.invariant c.if-to-b.true in
    sym
    (place_none _
    (sym
    (subst (λ (f : Form). 0 ≡ first (λ b. leb a.from b && passes f a.p tasks.periods.now tasks.costs.now b) a.to) (told k) e)))

pub returns-after-tasks : goal.returns-after-tasks
returns-after-tasks c =
    let k = of-tasks (goal.at.returns-after-tasks c).At-tasks in
    let a = (began k).args in
    let tasks = a.self.now.tasks in
    let w = c.tasks in
    let e = walk-found (form_of (gaps k)) tasks.periods.now tasks.costs.now tasks.accepted a.p a.from (began k).requires.1.0 a.to w.b w.i
    w.t w.invariant.0 w.invariant.1.0 (began k).requires.1.1 c.tasks-test.false in
    place_is _ _ (omega (arith, w.invariant.0.begun, (began k).requires.1.0))
    (subst (λ (f : Form). w.b ≡ first (λ b. leb a.from b && passes f a.p tasks.periods.now tasks.costs.now b) a.to) (told k) e)
