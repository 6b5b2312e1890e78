-- Demand 3 has content: under document 003's rule, where a return is counted from the head entry's time and not from the start of the
-- slice, a small history holds the core for 2C in a window of T; under document 01's, C. Computed. Assumes nothing.
use mathlib.Core.Path.{◌≡◌, refl}
use mathlib.Core.Bool.{cond}
use mathlib.Core.List.{List, [], ◌∷◌, ◌++◌, map}
use mathlib.Core.Option.{Option, none, some}
use Prim.Native.Nat.{ℕ, ◌+◌, ◌-◌, ◌*◌}
use lib.Dec.{leb, eqb}
use Rattle.rules.specs.Vcpu.{Entry, Vcpu, more_urgent}
use Rattle.rules.specs.Card.{Card, empty, to_named}
use Rattle.rules.specs.Charge.{posted, charged}
use Rattle.rules.specs.Return.{brought, still}
use Rattle.rules.specs.Change.{admit, wake, tick, change}
use Rattle.rules.specs.Timer.{timer}
use Rattle.rules.specs.Refuse.{Refusal, refusal}
use Rattle.rules.specs.Turn.{Call, Answer, ok, refused, report, turn, settled}
use Rattle.rules.specs.History.{Exchange, heard, past, holds}
use Rattle.rules.specs.Stays.{held_ticks, window}
use Rattle.rules.proofs.Examples.{at}

-- `ended` stands for the head entry's time here: when the ticks that are usable came
abbrev charged_head : ℕ → Vcpu → Vcpu
charged_head d v =
    record {
      terms = v.terms;
      runnable = v.runnable;
      usable = v.usable - d;
      ended = v.ended;
      pending = v.pending ++ record { due = v.ended + v.terms.period; amount = d } ∷ [];
      boundary = v.boundary;
      pending_total = v.pending_total;
      held_total = v.held_total;
    }

-- where none was usable, the first that returns is the new head
abbrev head : ℕ → Vcpu → List Entry → ℕ
head now v [] = v.ended
head now v (e ∷ q) = cond (eqb v.usable 0) (cond (leb e.due now) e.due v.ended) v.ended

abbrev returned_head : ℕ → Vcpu → Vcpu
returned_head now v =
    record {
      terms = v.terms;
      runnable = v.runnable;
      usable = v.usable + brought now v.pending;
      ended = head now v v.pending;
      pending = still now v.pending;
      boundary = v.boundary;
      pending_total = v.pending_total;
      held_total = v.held_total;
    }

abbrev charge_head : ℕ → Option ℕ → List Vcpu → List Vcpu
charge_head d none vs = vs
charge_head d (some tunnel) vs = cond (eqb d 0) vs (to_named tunnel (charged_head d) vs)

abbrev answer_head : Card → Call → Option Refusal → Answer
answer_head c call (some r) = record { reply = refused r; card = c }
answer_head c call none =
    let d : Card =
    settled call.now
    (change call.now call.asked (map (returned_head call.now) (charge_head (call.now - c.last) c.running c.vcpus))) [] 0 0 in
    record { reply = ok (report 0 d); card = d }

abbrev turn_head : Card → Call → Answer
turn_head c call = answer_head c call (refusal c call.now call.asked)

abbrev after_head : List Call → Card
after_head [] = empty
after_head (call ∷ calls) = (turn_head (after_head calls) call).card

abbrev heard_head : List Call → List Exchange
heard_head [] = []
heard_head (call ∷ calls) = record { call = call; reply = (turn_head (after_head calls) call).reply } ∷ heard_head calls

-- tenant 2 (T 10, C 3) is kept waiting until 7 by tenant 1 (T 20, C 7); the latest call comes first
abbrev late : List Call
late =
    at 13 tick
    ∷ at 10 tick
    ∷ at 7 tick
    ∷ at 0 (wake 2)
    ∷ at 0 (wake 1)
    ∷ at 0 (admit (record { tunnel = 2; period = 10; capacity = 3; priority = 2; kind = 0 }))
    ∷ at 0 (admit (record { tunnel = 1; period = 20; capacity = 7; priority = 1; kind = 0 }))
    ∷ []

pub twice : held_ticks (window 10 0 (map (λ o. holds 2 o) (past (heard_head late)))) ≡ 2 * 3
unfolding refusal settled timer more_urgent
twice = refl

pub not-here : held_ticks (window 10 0 (map (λ o. holds 2 o) (past (heard late)))) ≡ 3
unfolding turn refusal settled timer more_urgent charged posted
not-here = refl
