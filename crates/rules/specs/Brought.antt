-- Document 02, No. 5, as plain facts of an accepted call: what each VCPU on the card got in step 2, that the number reported is the sum of
-- it, and which times step 2 reports. Proved of any calls in proofs/Brought, and there that these facts allow one number (`one-total`).
-- Assumes nothing.
use Rattle.std.specs.Prelude.{ℕ, ◌+◌, ◌-◌, ◌≤◌, ◌<◌, ◌≡◌, true, false, List, ◌++◌}
use Rattle.std.proofs.Math.Option.{none, some}
use Rattle.rules.specs.Lists.{sum, All, Among}
use Rattle.rules.specs.Vcpu.{Entry, Vcpu}
use Rattle.rules.specs.Card.{Card}
use Rattle.rules.specs.Choose.{choose}
use Rattle.rules.specs.Told.{Told, time_told, timer_told}
use Rattle.rules.specs.Turn.{Call, after_return, after_change, told_by, accepted}
use Rattle.rules.specs.Meaning.{Sporadic, Polling, Comes}
use Rattle.rules.specs.Budgets.{Loses, Posted}

-- of a sporadic VCPU what fell due, of the queue that the charge left
pub record FellDue (last now ticks : ℕ) (v : Vcpu) (n : ℕ) : Type 0 where
  pub back : List Entry
  pub rest : List Entry
  pub posted : Posted last ticks v (back ++ rest)
  pub are_due : All (λ e. e.due ≤ now) back
  pub to_come : All (λ e. now < e.due) rest
  pub is_sum : n ≡ sum (λ e. e.amount) back

-- of a deferrable or polling VCPU what a refill added to the ticks that the charge left
pub data Added (now ticks : ℕ) (v : Vcpu) : ℕ → Type 0 where
  not_yet : (b : ℕ) → v.boundary ≡ some b → now < b → Added now ticks v 0
  -- "C less what was left"
  filled : (b : ℕ) → v.boundary ≡ some b → b ≤ now → (Polling v.terms → v.runnable ≡ true)
      → Added now ticks v (v.terms.capacity - (v.usable - ticks))
  nothing : (b : ℕ) → v.boundary ≡ some b → b ≤ now → Polling v.terms → v.runnable ≡ false → Added now ticks v 0

-- `v`, on the card before an accepted call at `now`, got `n` ticks in step 2
pub record Gets (c : Card) (now : ℕ) (v : Vcpu) (n : ℕ) : Type 0 where
  pub ticks : ℕ
  pub loses : Loses c now v ticks
  pub sporadic : Sporadic v.terms → FellDue c.last now ticks v n
  pub refilled : (Sporadic v.terms → ⊥) → Added now ticks v n
  -- it after step 2, whether or not step 3 then blocks or removes it
  pub then : Vcpu
  pub is-there : Among then (after_return c now)
  pub same-terms : then.terms ≡ v.terms
  -- "usable is what it was less the ticks charged plus the ticks brought"
  pub usable : then.usable + ticks ≡ v.usable + n
  -- the report of it has these ticks
  pub told : Told
  pub is-told : Among told (told_by c now)
  pub of_it : told.who ≡ v.terms.tunnel
  pub with_them : told.ticks ≡ n
  -- the time reported of it is the first at which something still comes to it, and none is reported only where nothing does
  pub first-time : (t : ℕ) → time_told (told_by c now) then ≡ some t → Comes then t × ((u : ℕ) → Comes then u → t ≤ u)
  pub no-time : time_told (told_by c now) then ≡ none → (u : ℕ) → Comes then u → ⊥

-- an accepted call reports `n`: "the total brought, over all VCPUs"
pub record Brings (c : Card) (call : Call) (n : ℕ) : Type 0 where
  pub part : Vcpu → ℕ
  pub each : All (λ v. Gets c call.now v (part v)) c.vcpus
  pub is-total : n ≡ sum part c.vcpus
  pub amount : n ≤ 32_000_000
  -- "the timer is worked out from the reported times": the timer of steps 1 to 5 is the one from these
  pub timer-told : (accepted c call).timer
      ≡ timer_told call.now (told_by c call.now) (after_change c call) (choose (after_change c call))
