-- Demand 3 counts from what a host sees: the calls that it made and the replies that it got. From these alone come the time, who
-- holds the core, who held each tick, and who is runnable. Calls, exchanges and ticks have the latest first. Assumes nothing.
use Rattle.std.specs.Prelude.{ℕ, zero, suc, ◌-◌, Bool, true, false, cond, List, [], ◌∷◌, eqb}
use Rattle.std.proofs.Math.Option.{Option, none, some}
use Rattle.rules.specs.Lists.{count}
use Rattle.rules.specs.Card.{Card, empty}
use Rattle.rules.specs.Change.{Change, admit, wake, block, remove, tick}
use Rattle.rules.specs.Turn.{Call, Report, Reply, ok, refused, turn}

-- the card after any calls with any numbers, refused ones among them, from the empty card
abbrev pub after : List Call → Card
after [] = empty
after (call ∷ calls) = (turn (after calls) call).card

-- a call, and the reply given to it
pub record Exchange : Type 0 where
  pub call : Call
  pub reply : Reply

-- what a host hears that makes these calls on the empty card
abbrev pub heard : List Call → List Exchange
heard [] = []
heard (call ∷ calls) = record { call = call; reply = (turn (after calls) call).reply } ∷ heard calls

-- an accepted reply tells something new; a refused one changes nothing
abbrev pub told : {A : Type 0} → Reply → (Report → A) → A → A
told (ok r) new before = new r
told (refused r) new before = before

-- the time of the last accepted reply, 0 before the first
abbrev pub time : List Exchange → ℕ
time [] = 0
time (x ∷ before) = told x.reply (λ r. r.time) (time before)

-- the one that the last accepted reply says to run: an identifier, or none in idle and before the first
abbrev pub holder : List Exchange → Option ℕ
holder [] = none
holder (x ∷ before) = told x.reply (λ r. r.run) (holder before)

abbrev pub ticks : {A : Type 0} → ℕ → A → List A → List A
ticks zero a l = l
ticks (suc n) a l = a ∷ ticks n a l

-- one holder for each tick up to the last accepted call.
-- From one call to the next the core is held by the one that the first left running; a refused call takes no ticks.
abbrev pub past : List Exchange → List (Option ℕ)
past [] = []
past (x ∷ before) = ticks (time (x ∷ before) - time before) (holder before) (past before)

-- a wake makes the VCPU so named runnable; a block does not leave it so, nor an admit or a remove
abbrev pub runnable_after : Change → ℕ → Bool → Bool
runnable_after (admit d) tunnel before = cond (eqb tunnel d.tunnel) false before
runnable_after (wake t) tunnel before = cond (eqb tunnel t) true before
runnable_after (block t) tunnel before = cond (eqb tunnel t) false before
runnable_after (remove t) tunnel before = cond (eqb tunnel t) false before
runnable_after tick tunnel before = before

-- the VCPU so named is runnable
abbrev pub is_runnable : List Exchange → ℕ → Bool
is_runnable [] tunnel = false
is_runnable (x ∷ before) tunnel =
    told x.reply (λ r. runnable_after x.call.asked tunnel (is_runnable before tunnel)) (is_runnable before tunnel)

-- the VCPU so named holds the core
abbrev pub holds : ℕ → Option ℕ → Bool
holds tunnel none = false
holds tunnel (some holder) = eqb tunnel holder

abbrev pub is_idle : Option ℕ → Bool
is_idle none = true
is_idle (some holder) = false

abbrev pub idle_ticks : List (Option ℕ) → ℕ
idle_ticks = count is_idle
