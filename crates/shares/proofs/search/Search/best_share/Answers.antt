-- Period by period: one that the form does not take is skipped, one with a budget up to its cap replaces the best. Assumes nothing.
use Rattle.model.specs.Search.{first}
use Rattle.model.specs.Share.{passes, best_of}
use Rattle.shares.specs.Paper.{paper_form}
use Rattle.shares.specs.Private.{place_of, paper_best, cap_of}
use Rattle.shares.proofs.BestShare.{offered_of, cap_most, best_kept, best_replaced, best_skips}
use native.Mathlib.Omega.{arith}
use mathlib.Core.Path.{◌≡◌, refl, sym, ◌∙◌, ap}
use Prim.Native.Nat.{ℕ, ◌≤◌}
use Rattle.shares.proofs.search.Search.best_share.Goals as goal
use Rattle.shares.proofs.search.Search.best_share.Goals.{in-Some, in_default}

pub loop-p-init : goal.loop-p-init
unfolding best_of
loop-p-init c = (refl, tt)

pub loop-p-preserved-then-not-takes : goal.loop-p-preserved-then-not-takes
loop-p-preserved-then-not-takes c =
    let s = c.args.self.now in
    let skipped = sym c.takes.ensures ∙ c.if-not-takes.true in (
      c.loop-p.invariant.0
          ∙ best_skips (paper_form s.form) s.tasks.periods.now s.tasks.costs.now c.loop-p.p c.loop-p.auto.p skipped,
      c.loop-p.invariant.1,
    )

pub least_under-requires : goal.least_under-requires
least_under-requires c =
    let l = c.loop-p in
    let most = cap_most (paper_best l.best) l.p (offered_of l.best l.invariant.1) in
    (omega (arith, c.loop-p-test.true, c.requires.0), omega (arith, c.cap_of.ensures, most))

pub loop-p-preserved : goal.loop-p-preserved
loop-p-preserved c =
    let s = c.args.self.now in
    let form = paper_form s.form in
    let ps = s.tasks.periods.now in
    let es = s.tasks.costs.now in
    let l = c.loop-p in
    let taken = sym c.takes.ensures ∙ c.if-not-takes.false in
    let found : c.least_under.result ≡ place_of (first (passes form l.p ps es) (cap_of (paper_best l.best) l.p)) =
    c.least_under.ensures ∙ ap (λ (n : ℕ). place_of (first (passes form l.p ps es) n)) c.cap_of.ensures in
    let few : l.p ≤ 2000 = omega (arith, c.loop-p-test.true, c.requires.0) in
    elim c.match-least_under.branch [
      | in-Some w ↦
          let new = best_replaced form ps es l.best l.p l.auto.p l.invariant.1 taken l.invariant.0 _ (sym w.in-Some.is ∙ found) in
          rw w.best-is (new.0, (new.1, new.2, few))
      | in_default w ↦
          rw w.best-is
          (best_kept form ps es l.best l.p l.auto.p l.invariant.1 taken l.invariant.0 (sym w.in_default.is ∙ found), l.invariant.1)
    ]
