-- Document 01, step 2: entries that are due leave the front of the queue and become usable, and the pending total is lowered by them
-- (document 02, No. 6); and No. 1: a deferrable or polling VCPU is refilled at its boundaries.
-- Assumes nothing.
use Rattle.std.specs.Prelude.{ℕ, ◌+◌, ◌-◌, ◌*◌, ◌/◌, Bool, cond, List, [], ◌∷◌, map, leb}
use Rattle.std.proofs.Math.Option.{Option, none, some}
use Rattle.rules.specs.Vcpu.{Entry, Vcpu, leaves}

-- "due at or before `now`"
abbrev pub is_due : ℕ → Entry → Bool
is_due now e = leb e.due now

-- the ticks of the entries that are due at the front of the queue
abbrev pub brought : ℕ → List Entry → ℕ
brought now [] = 0
brought now (e ∷ q) = cond (is_due now e) (e.amount + brought now q) 0

-- "The others keep their order."
abbrev pub still : ℕ → List Entry → List Entry
still now [] = []
still now (e ∷ q) = cond (is_due now e) (still now q) (e ∷ q)

abbrev pub brought_in : ℕ → Vcpu → Vcpu
brought_in now v =
    record {
      terms = v.terms;
      runnable = v.runnable;
      usable = v.usable + brought now v.pending;
      ended = v.ended;
      pending = still now v.pending;
      boundary = v.boundary;
      pending_total = v.pending_total - brought now v.pending;
      held_total = v.held_total;
    }

-- the first of the boundaries b, b + T, b + 2T .. after `now`, where b is not
abbrev pub boundary_after : ℕ → ℕ → ℕ → ℕ
boundary_after now T b = b + ((now - b) / T + 1) * T

-- "refilled to C at each whole multiple of T after its admission"; a polling one "only if it was runnable just before the call that
-- passes the boundary, otherwise it has 0": step 2 comes before step 3, so `runnable` is as it was just before the call
abbrev pub refilled : ℕ → ℕ → Vcpu → Vcpu
refilled now b v =
    record {
      terms = v.terms;
      runnable = v.runnable;
      usable = leaves v.terms v.runnable v.terms.capacity;
      ended = v.ended;
      pending = v.pending;
      boundary = some (boundary_after now v.terms.period b);
      pending_total = v.pending_total;
      held_total = v.held_total;
    }

-- a call at or after its boundary refills it, once, however many boundaries it passes; a sporadic VCPU has none
abbrev pub refill : ℕ → Option ℕ → Vcpu → Vcpu
refill now none v = v
refill now (some b) v = cond (leb b now) (refilled now b v) v

abbrev pub returned : ℕ → Vcpu → Vcpu
returned now v = refill now v.boundary (brought_in now v)

-- "For every VCPU, runnable or not"
abbrev pub bring : ℕ → List Vcpu → List Vcpu
bring now vs = map (returned now) vs
