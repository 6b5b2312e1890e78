-- Document 01, step 1: charge the VCPU that held the core since `last`. A deferrable or polling one has no queue (02, No. 1); the totals
-- of document 02, No. 6, grow with the charge.
-- Assumes nothing.
use Rattle.std.specs.Prelude.{ℕ, ◌+◌, ◌-◌, Bool, true, false, cond, not, ◌&&◌, List, [], ◌∷◌, ◌++◌, leb, eqb, length}
use Rattle.std.proofs.Math.Option.{Option, none, some}
use Rattle.rules.specs.Limits.{most_pending}
use Rattle.rules.specs.Vcpu.{Entry, Vcpu, is_sporadic}
use Rattle.rules.specs.Card.{to_named}

-- change the queue's last entry
abbrev pub to_last : (Entry → Entry) → List Entry → List Entry
to_last f [] = []
to_last f (e ∷ []) = f e ∷ []
to_last f (e ∷ g ∷ q) = e ∷ to_last f (g ∷ q)

abbrev pub waiting : List Entry → Bool
waiting [] = false
waiting (e ∷ q) = true

-- "its previous use ended exactly at `last`"
abbrev pub goes_on : ℕ → Vcpu → Bool
goes_on last v = eqb v.ended last

-- "and its queue isn't empty"
abbrev pub joins : ℕ → Vcpu → Bool
joins last v = goes_on last v && waiting v.pending

-- "8 are pending"
abbrev pub full : Vcpu → Bool
full v = leb most_pending (length v.pending)

-- "Else, if 8 are pending, it folds"
abbrev pub folds : ℕ → Vcpu → Bool
folds last v = not (joins last v) && full v

-- the queue with a return of `d` more ticks, held from `last` on
unfoldable pub posted : ℕ → ℕ → Vcpu → List Entry
posted last d v =
    cond (joins last v) (to_last (λ e. record { due = e.due; amount = e.amount + d }) v.pending)
    (cond (folds last v) (to_last (λ e. record { due = last + v.terms.period; amount = e.amount + d }) v.pending)
    (v.pending ++ record { due = last + v.terms.period; amount = d } ∷ []))

-- "If that is 0, nothing else happens here."
abbrev pub no_ticks : ℕ → ℕ → Bool
no_ticks last now = eqb (now - last) 0

-- it loses `now - last` usable ticks, which it has held; of a sporadic one they become a pending return, and its use now ends at `now`
abbrev pub charged_some : ℕ → ℕ → Vcpu → Vcpu
charged_some last now v =
    record {
      terms = v.terms;
      runnable = v.runnable;
      usable = v.usable - (now - last);
      ended = cond (is_sporadic v.terms) now v.ended;
      pending = cond (is_sporadic v.terms) (posted last (now - last) v) v.pending;
      boundary = v.boundary;
      pending_total = cond (is_sporadic v.terms) (v.pending_total + (now - last)) v.pending_total;
      held_total = v.held_total + (now - last);
    }

-- the VCPU that held the core from `last` to `now`
unfoldable pub charged : ℕ → ℕ → Vcpu → Vcpu
charged last now v = cond (no_ticks last now) v (charged_some last now v)

-- "In idle nobody is charged. Otherwise the VCPU that held the core"
abbrev pub charge : ℕ → ℕ → Option ℕ → List Vcpu → List Vcpu
charge last now none vs = vs
charge last now (some tunnel) vs = to_named tunnel (charged last now) vs
