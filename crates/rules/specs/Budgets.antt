-- Steps 1 and 2, of all three kinds, as plain facts of a VCPU before and after an accepted call: whether it is charged and with how
-- many ticks, how these are posted and what returns, or how it is refilled, and how its totals move. Proved of any calls in
-- proofs/Budgets, and there that these facts leave nothing of it open but the runnable mark, which is step 3's (`one-budget`). Assumes
-- nothing.
use Rattle.std.specs.Prelude.{ℕ, ◌+◌, ◌-◌, ◌*◌, ◌≤◌, ◌<◌, ◌≡◌, true, false, List, [], ◌∷◌, ◌++◌, length}
use Rattle.std.proofs.Math.Option.{none, some}
use Rattle.rules.specs.Limits.{most_pending}
use Rattle.rules.specs.Lists.{sum, All, Among}
use Rattle.rules.specs.Vcpu.{Entry, Vcpu}
use Rattle.rules.specs.Card.{Card}
use Rattle.rules.specs.Change.{remove}
use Rattle.rules.specs.Turn.{Call}
use Rattle.rules.specs.Meaning.{Sporadic, Polling}
use Rattle.rules.specs.Rows.{AdmitOf}

-- "In idle nobody is charged. Otherwise the VCPU that held the core loses `now - last` usable ticks."
pub data Loses (c : Card) (now : ℕ) (v : Vcpu) : ℕ → Type 0 where
  held : c.running ≡ some v.terms.tunnel → Loses c now v (now - c.last)
  not-held : (c.running ≡ some v.terms.tunnel → ⊥) → Loses c now v 0

-- "its previous use ended exactly at `last` and its queue isn't empty"
abbrev pub Joins : ℕ → Vcpu → Type 0
Joins last v = (v.ended ≡ last) × (v.pending ≡ [] → ⊥)

-- the queue of `v`, charged with `ticks` since `last`, before the returns
pub data Posted (last ticks : ℕ) (v : Vcpu) : List Entry → Type 0 where
  -- "If that is 0, nothing else happens here."
  nothing : ticks ≡ 0 → Posted last ticks v v.pending
  -- "Otherwise they become a pending return due at `last + T`, with two exceptions."
  new : 0 < ticks → (Joins last v → ⊥) → length v.pending < most_pending
      → Posted last ticks v (v.pending ++ record { due = last + v.terms.period; amount = ticks } ∷ [])
  -- "the amount joins the queue's last entry, whose time stays"
  joined : (front : List Entry) (e : Entry) → 0 < ticks → Joins last v → v.pending ≡ front ++ e ∷ []
      → Posted last ticks v (front ++ record { due = e.due; amount = e.amount + ticks } ∷ [])
  -- "Else, if 8 are pending, it folds: the amount joins the last entry, whose time becomes `last + T`."
  folded : (front : List Entry) (e : Entry) → 0 < ticks → (Joins last v → ⊥) → length v.pending ≡ most_pending
      → v.pending ≡ front ++ e ∷ []
      → Posted last ticks v (front ++ record { due = last + v.terms.period; amount = e.amount + ticks } ∷ [])

-- a sporadic VCPU, `v` before an accepted call and `w` after it; `back` is what returns
pub record Queued (last now ticks : ℕ) (v w : Vcpu) : Type 0 where
  -- "Its use now ends at `now`."
  pub use_ends : 0 < ticks → w.ended ≡ now
  pub no_use : ticks ≡ 0 → w.ended ≡ v.ended
  -- "entries due at or before `now` leave the front of the queue and become usable. The others keep their order."
  pub back : List Entry
  pub posted : Posted last ticks v (back ++ w.pending)
  pub are_due : All (λ e. e.due ≤ now) back
  pub to_come : All (λ e. now < e.due) w.pending
  pub usable : w.usable + ticks ≡ v.usable + sum (λ e. e.amount) back
  -- its pending total is raised by the charge and lowered by what returns
  pub pending-total : w.pending_total + sum (λ e. e.amount) back ≡ v.pending_total + ticks
  pub no-boundary : w.boundary ≡ none

-- the first of the boundaries b, b + T, b + 2T .. after `now`
abbrev pub FirstAfter : ℕ → ℕ → ℕ → ℕ → Type 0
FirstAfter now T b next = (k : ℕ) × (next ≡ b + k * T) × (now < next) × (next ≤ now + T)

-- a deferrable or polling VCPU after steps 1 and 2: its next boundary, and its usable ticks
pub data Refill (now ticks : ℕ) (v : Vcpu) : ℕ → ℕ → Type 0 where
  -- it "keeps unused ticks until the next refill"
  before : (b : ℕ) → v.boundary ≡ some b → now < b → Refill now ticks v b (v.usable - ticks)
  -- "refilled to C at each whole multiple of T after its admission"
  full : (b next : ℕ) → v.boundary ≡ some b → b ≤ now → FirstAfter now v.terms.period b next
      → (Polling v.terms → v.runnable ≡ true) → Refill now ticks v next v.terms.capacity
  -- "only if it was runnable just before the call that passes the boundary, otherwise it has 0"
  empty : (b next : ℕ) → v.boundary ≡ some b → b ≤ now → FirstAfter now v.terms.period b next
      → Polling v.terms → v.runnable ≡ false → Refill now ticks v next 0

-- a deferrable or polling VCPU, before and after: it has no queue, and a charge only takes its ticks
pub record Refilled (now ticks : ℕ) (v w : Vcpu) : Type 0 where
  pub next : ℕ
  pub given : ℕ
  pub refill : Refill now ticks v next given
  pub boundary : w.boundary ≡ some next
  -- of a polling one "any call that leaves it not runnable takes its usable ticks away"
  pub taken : Polling w.terms → w.runnable ≡ false → w.usable ≡ 0
  pub usable : (Polling w.terms → w.runnable ≡ true) → w.usable ≡ given
  pub no-queue : w.pending ≡ []
  pub no_use : w.ended ≡ 0
  pub same-pending-total : w.pending_total ≡ v.pending_total

-- `v` before an accepted call at `now`, and `w`, the same VCPU after it
pub record Budget (c : Card) (now : ℕ) (v w : Vcpu) : Type 0 where
  pub same-terms : w.terms ≡ v.terms
  pub ticks : ℕ
  pub loses : Loses c now v ticks
  pub has_them : ticks ≤ v.usable
  -- what it loses it has held, runnable or not, blocked or woken by this call
  pub held-total : w.held_total ≡ v.held_total + ticks
  pub sporadic : Sporadic v.terms → Queued c.last now ticks v w
  pub refilled : (Sporadic v.terms → ⊥) → Refilled now ticks v w

-- "For every VCPU": each that the call does not remove, and each that it did not admit
pub record Budgets (c : Card) (call : Call) (new : List Vcpu) : Type 0 where
  pub then : (v : Vcpu) → Among v c.vcpus → (call.asked ≡ remove v.terms.tunnel → ⊥)
      → (w : Vcpu) × Among w new × Budget c call.now v w
  pub was : (w : Vcpu) → Among w new → (AdmitOf call.asked w.terms.tunnel → ⊥)
      → (v : Vcpu) × Among v c.vcpus × Budget c call.now v w
