-- Document 02, No. 3, as plain facts of an accepted call: who is remembered after it, exactly when, and with which time.
-- Proved of any calls in proofs/Leaving. Assumes nothing.
use Rattle.std.specs.Prelude.{ℕ, ◌≤◌, ◌<◌, ◌≡◌, List, ◌⊎◌, ◌↔◌}
use Rattle.rules.specs.Lists.{Among}
use Rattle.rules.specs.Vcpu.{Vcpu}
use Rattle.rules.specs.Remember.{Remembered}
use Rattle.rules.specs.Card.{Card}
use Rattle.rules.specs.Change.{remove}
use Rattle.rules.specs.Turn.{Call}
use Rattle.rules.specs.Meaning.{Comes, RememberedWith}
use Rattle.rules.specs.Budgets.{Budget}

-- the call removes the VCPU so named, and that is the latest time at which something would have come to it: "the time of its latest
-- pending return", or "the next boundary". `then` is the VCPU after the charge and the return of this very call
pub record Leaves (c : Card) (call : Call) (tunnel time : ℕ) : Type 0 where
  pub removed : call.asked ≡ remove tunnel
  pub was : Vcpu
  pub on_the_card : Among was c.vcpus
  pub so_named : was.terms.tunnel ≡ tunnel
  pub then : Vcpu
  pub budget : Budget c call.now was then
  pub comes : Comes then time
  pub latest : (t : ℕ) → Comes then t → t ≤ time

-- "stays remembered .. until an accepted call at or after that time"
pub record Leaving (c : Card) (call : Call) (new : List Remembered) : Type 0 where
  pub exactly : (tunnel time : ℕ) → RememberedWith new tunnel time
      ↔ ((RememberedWith c.remembered tunnel time × (call.now < time)) ⊎ Leaves c call tunnel time)
