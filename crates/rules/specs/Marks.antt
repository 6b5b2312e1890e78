-- Document 01, step 3, as plain facts of the VCPUs before and after an accepted call: who is on the card, who is runnable, and how
-- an admitted one starts. Proved of any calls in proofs/Marks. Assumes nothing.
use Rattle.std.specs.Prelude.{ℕ, ◌+◌, ◌≡◌, true, false, List, [], ◌⊎◌, ◌↔◌}
use Rattle.std.proofs.Math.Option.{none, some}
use Rattle.rules.specs.Lists.{Among}
use Rattle.rules.specs.Vcpu.{Description, Vcpu}
use Rattle.rules.specs.Change.{Change, admit, wake, block, remove}
use Rattle.rules.specs.Meaning.{Sporadic, Polling, OnTheCard}
use Rattle.rules.specs.Rows.{AdmitOf}

-- a VCPU on the card has the identifier, and is runnable
abbrev pub RunnableThere : List Vcpu → ℕ → Type 0
RunnableThere vs tunnel = (v : Vcpu) × Among v vs × (v.terms.tunnel ≡ tunnel) × (v.runnable ≡ true)

-- the call woke it, or it was runnable before and the call neither blocked nor admitted it
abbrev pub RunnableThen : List Vcpu → Change → ℕ → Type 0
RunnableThen old asked tunnel =
    (asked ≡ wake tunnel) ⊎ (RunnableThere old tunnel × (asked ≡ block tunnel → ⊥) × (AdmitOf asked tunnel → ⊥))

-- "An admitted VCPU starts not runnable, with C usable, nothing pending and no earlier use"; a polling one has no ticks usable, and the
-- first boundary of a deferrable or polling one comes T after its admission
pub record Newcomer (now : ℕ) (d : Description) (v : Vcpu) : Type 0 where
  pub terms : v.terms ≡ d
  pub not-runnable : v.runnable ≡ false
  pub all-usable : (Polling d → ⊥) → v.usable ≡ d.capacity
  pub none-usable : Polling d → v.usable ≡ 0
  pub nothing-pending : v.pending ≡ []
  pub no_earlier_use : v.ended ≡ 0
  pub no-totals : (v.pending_total ≡ 0) × (v.held_total ≡ 0)
  pub no-boundary : Sporadic d → v.boundary ≡ none
  pub first-boundary : (Sporadic d → ⊥) → v.boundary ≡ some (now + d.period)

pub record Marks (old : List Vcpu) (now : ℕ) (asked : Change) (new : List Vcpu) : Type 0 where
  pub runnable : (v : Vcpu) → Among v new → v.runnable ≡ true ↔ RunnableThen old asked v.terms.tunnel
  -- the admitted one is there, and starts anew, "even if its identifier was on the card before"
  pub admits : (d : Description) → asked ≡ admit d → OnTheCard new d.tunnel
  pub starts : (d : Description) → asked ≡ admit d → (v : Vcpu) → Among v new → v.terms.tunnel ≡ d.tunnel → Newcomer now d v
  -- "Remove frees the place."
  pub removes : (tunnel : ℕ) → asked ≡ remove tunnel → OnTheCard new tunnel → ⊥
  -- whom the call neither admits nor removes is there exactly when it was before
  pub others : (tunnel : ℕ) → (AdmitOf asked tunnel → ⊥) → (asked ≡ remove tunnel → ⊥) → OnTheCard new tunnel ↔ OnTheCard old tunnel
