-- Documents 01 and 02 (Nos. 1 and 6): what admit says of a VCPU, what the card keeps of it, and which of two is more urgent.
-- Assumes nothing.
use Rattle.std.specs.Prelude.{ℕ, ◌+◌, Bool, false, cond, not, ◌&&◌, ◌||◌, List, [], ◌∷◌, ◌++◌, map, ltb, eqb}
use Rattle.std.proofs.Math.Option.{Option, none, some}

-- the whole VCPU description that an admit carries: identifier, period T, capacity C, priority, and the kind as the byte asked for
pub record Description : Type 0 where
  pub tunnel : ℕ
  pub period : ℕ
  pub capacity : ℕ
  pub priority : ℕ
  pub kind : ℕ

-- "0 sporadic (as now), 1 deferrable, 2 polling"; another is unknown and never admitted (row 10)
abbrev pub is_sporadic : Description → Bool
is_sporadic d = eqb d.kind 0

abbrev pub is_polling : Description → Bool
is_polling d = eqb d.kind 2

-- a pending return: so many ticks, due at that moment
pub record Entry : Type 0 where
  pub due : ℕ
  pub amount : ℕ

-- `ended` is the end of its latest use; 0 stands for no earlier use, since a use ends at 1 or later. `pending` has the oldest first.
-- A deferrable or polling VCPU has no queue: `ended` and `pending` stay as they were at admission. `boundary` is its next one; on the
-- card it is there exactly for deferrable and polling VCPUs (`keeps` of Meaning), so steps 2 and 5 ask for it and not for the kind.
-- "the sum of its pending ticks and the ticks it has held since admission" are kept too; no reply depends on them (proofs/Undecided).
pub record Vcpu : Type 0 where
  pub terms : Description
  pub runnable : Bool
  pub usable : ℕ
  pub ended : ℕ
  pub pending : List Entry
  pub boundary : Option ℕ
  pub pending_total : ℕ
  pub held_total : ℕ

abbrev pub times : Option ℕ → List ℕ
times none = []
times (some t) = t ∷ []

-- the times at which something comes to a VCPU: its pending returns, or its next boundary
abbrev pub comes : Vcpu → List ℕ
comes v = map (λ e. e.due) v.pending ++ times v.boundary

-- of a polling VCPU "any call that leaves it not runnable, its admission too, takes its usable ticks away"
abbrev pub leaves : Description → Bool → ℕ → ℕ
leaves d runnable ticks = cond (is_polling d && not runnable) 0 ticks

-- "An admitted VCPU starts not runnable, with C usable, nothing pending and no earlier use"; the first boundary of a deferrable or
-- polling one is T after its admission
abbrev pub admitted : ℕ → Description → Vcpu
admitted now d =
    record {
      terms = d;
      runnable = false;
      usable = leaves d false d.capacity;
      ended = 0;
      pending = [];
      boundary = cond (is_sporadic d) none (some (now + d.period));
      pending_total = 0;
      held_total = 0;
    }

-- smaller is more urgent; at equal priority the smaller identifier is
unfoldable pub more_urgent : Description → Description → Bool
more_urgent a b = ltb a.priority b.priority || (eqb a.priority b.priority && ltb a.tunnel b.tunnel)

-- identifiers are equal only if all 24 bits are
abbrev pub named : ℕ → Vcpu → Bool
named tunnel v = eqb v.terms.tunnel tunnel
