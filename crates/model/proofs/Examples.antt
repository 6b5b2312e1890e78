-- P1 to P12 of document 01 hold, P11 for every P from 1 to 2,000: eleven by computing, P11 since no length supplies more than itself. The
-- places of the first bad task and the aligned form's examples by computing. Assumes nothing.
use Prim.Native.Nat.{ℕ, ◌≤◌}
use mathlib.Core.Path.{◌≡◌, refl}
use mathlib.Core.Logic.{inl, inr}
use native.Mathlib.Omega.{arith}
use lib.ListN.{get_or}
use Rattle.model.specs.Form.{ordinary, pairwise, multiples}
use Rattle.model.specs.Supply.{supply_of}
use Rattle.model.specs.Share.{meets, passes, least_of, better, best_of}
use Rattle.model.specs.Reply.{refuses}
use Rattle.model.specs.Rows.{tasks_rows, supply_reply, demand_reply, check_reply, least_reply, best_reply}
use Rattle.model.specs.Meaning.{NoBudget}
use Rattle.model.specs.Asked.{least, reply_to}
use Rattle.model.specs.Table.{row_30, row_31, row_32, row_33, row_34, row_35, row_36, Row, rows, Accepted}
use Rattle.model.specs.Examples.{W11, Hold, examples, first_places, aligned_examples}
use Rattle.model.proofs.Supply.{supply-only, supply-most}
use Rattle.model.proofs.Demand.{demand-only}
use Rattle.model.proofs.Table.{count-out, task-out, period-falls}
use Rattle.model.proofs.Replies.{lowest, least_34}

-- task 2 of P11 demands 3, 3, 5, 5 at t = 1 .. 4
too_much : (P : ℕ) → NoBudget ordinary P W11.periods W11.costs
too_much P B from to pass =
    let m = pass 2 (omega arith) (omega arith) in
    let s = supply-only P B m.t ordinary m.supply m.supplied in
    let d = demand-only W11.periods W11.costs 2 m.t m.demand m.demanded in
    absurd (omega (arith, m.from_1, m.to_p, m.enough, s, d, supply-most ordinary P B m.t to))

in_order : (P : ℕ) → 1 ≤ P → P ≤ 2000 → Accepted (least ordinary W11 P)
in_order P from to p d l r = no_row (get_or rows p 0) d (λ e. omega (arith, l, lowest p e)) r
  where
    no_row : (n d : ℕ) → (n ≡ 34 → ⊥) → Row (least ordinary W11 P) n d → ⊥
    no_row n d above (row_30 x) = (count-out W11).1 refl x
    no_row n d above (row_31 k x) = (task-out W11).1 refl k x.0
    no_row n d above (row_32 k x) = (period-falls W11).1 refl k x.0
    no_row n d above (row_33 (inl x)) = omega (arith, x)
    no_row n d above (row_33 (inr x)) = omega (arith, x)
    no_row n d above (row_36 (inl x)) = x tt
    no_row n d above (row_36 (inr x)) = x tt
    no_row n d above (row_35 x) = x
    no_row n d above (row_34 x) = above refl

p11 : (P : ℕ) → 1 ≤ P → P ≤ 2000 → reply_to (least ordinary W11 P) ≡ refuses 34 0
p11 P from to = (least_34 ordinary W11 P).1 (in_order P from to, too_much P)

-- the others by computing
with-p11 : (P : ℕ) → reply_to (least ordinary W11 P) ≡ refuses 34 0 → Hold (examples P)
unfolding supply_of meets passes least_of better best_of tasks_rows supply_reply demand_reply check_reply least_reply best_reply
with-p11 P eleventh = (refl, (refl, (refl, (refl, (refl, (refl, (refl, (refl, (refl, (refl, (eleventh, (refl, tt))))))))))))

pub each_holds : (P : ℕ) → 1 ≤ P → P ≤ 2000 → Hold (examples P)
each_holds P from to = with-p11 P (p11 P from to)

pub places-hold : Hold first_places
unfolding tasks_rows demand_reply check_reply least_reply best_reply
places-hold = (refl, (refl, (refl, (refl, tt))))

pub aligned-hold : Hold aligned_examples
unfolding supply_of pairwise multiples meets passes least_of better best_of tasks_rows supply_reply check_reply least_reply best_reply
aligned-hold = (refl, (refl, (refl, (refl, (refl, (refl, (refl, (refl, (refl, (refl, (refl, (refl, (refl, (refl, (refl, (refl, (refl, (refl, (refl, (refl, (refl, (refl, (refl, tt)))))))))))))))))))))))
