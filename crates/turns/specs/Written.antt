-- The state of the core read as the rules' card, and the card written as the core's state.
-- Assumes nothing.
use Rattle.std.specs.Prelude.{ℕ, zero, suc, false, cond, List, [], ◌∷◌, eqb, length, get_or}
use Rattle.std.proofs.Math.Option.{Option, none, some}
use Rattle.std.specs.Prelude.{Option as Opt, Some, None}
use Rattle.units.specs.Units.{moment, amount, total, tunnel, last_moment}
use Rattle.units.specs.declared.Moment.{Moment}
use Rattle.units.specs.declared.Amount.{Amount}
use Rattle.units.specs.declared.Tunnel.{Tunnel}
use Rattle.rules.specs.Limits.{most_vcpus, most_pending}
use Rattle.rules.specs.Vcpu.{Entry, named, comes}
use Rattle.rules.specs.Vcpu.{Vcpu as Tenant}
use Rattle.rules.specs.Remember.{Remembered}
use Rattle.rules.specs.Card.{Card}
use Rattle.turns.specs.declared.Kind.{Kind}
use Rattle.turns.specs.declared.Kind.TheVariants.{Sporadic, Deferrable, Polling}
use Rattle.turns.specs.declared.Vcpu.{Vcpu}
use Rattle.turns.specs.declared.Memory.{Memory}
use Rattle.turns.specs.declared.Roster.{Roster}
use Rattle.turns.specs.declared.Core.TheInside.{Inside}
use Rattle.turns.specs.Laid.{laid}

-- a time above all, for an unused slot and where nothing comes
abbrev pub never : ℕ
never = last_moment

-- the identifier of a vacant place, above 24 bits
abbrev pub nobody : ℕ
nobody = 4294967295

-- what the code's option holds, by its number; and the other way, the option of a number
module _ {A : Type 0} where
  abbrev pub number_by : (A → ℕ) → Opt A → Option ℕ
  number_by f None = none
  number_by f (Some a) = some (f a)

  abbrev pub said_by : (ℕ → A) → Option ℕ → Opt A
  said_by f none = None
  said_by f (some n) = Some (f n)

abbrev pub number_in : Opt Tunnel → Option ℕ
number_in o = number_by (λ t. t.0) o

abbrev pub moment_in : Opt Moment → Option ℕ
moment_in o = number_by (λ m. m.0) o

abbrev pub number_said : Option ℕ → Opt Tunnel
number_said o = said_by tunnel o

abbrev pub moment_said : Option ℕ → Opt Moment
moment_said o = said_by moment o

abbrev pub amount_of : Entry → Amount
amount_of e = amount e.amount

abbrev pub tunnel_of : Tenant → Tunnel
tunnel_of v = tunnel v.terms.tunnel

-- the paper's number for each kind
abbrev pub paper_kind : Kind → ℕ
paper_kind Sporadic = 0
paper_kind Deferrable = 1
paper_kind Polling = 2

-- .., and the kind that has the number; an unknown one is never admitted
abbrev pub kind_as : ℕ → Kind
kind_as n = cond (eqb n 0) Sporadic (cond (eqb n 2) Polling Deferrable)

-- the next boundary, which a sporadic VCPU has not
abbrev pub boundary_at : Kind → Moment → Option ℕ
boundary_at Sporadic m = none
boundary_at Deferrable m = some m.0
boundary_at Polling m = some m.0

-- a tenant's record; its identifier stands beside it. The times to come stand in order: its pending returns, or its next boundary
unfoldable pub written : Tenant → Vcpu
written v =
    record {
      due = laid most_pending moment (moment never) (comes v);
      ended = moment v.ended;
      held = total v.held_total;
      amount = laid most_pending amount_of (amount 0) v.pending;
      period = amount v.terms.period;
      capacity = amount v.terms.capacity;
      usable = amount v.usable;
      pending = amount v.pending_total;
      priority = v.terms.priority;
      runnable = v.runnable;
      count = length v.pending;
      kind = kind_as v.terms.kind;
    }

-- the record of a vacant place
abbrev pub no_tenant : Tenant
no_tenant =
    record {
      terms = record { tunnel = nobody; period = 0; capacity = 0; priority = 0; kind = 0 };
      runnable = false;
      usable = 0;
      ended = 0;
      pending = [];
      boundary = none;
      pending_total = 0;
      held_total = 0;
    }

-- the first `n` slots, in order
abbrev pub entries : ℕ → List Moment → List Amount → List Entry
entries zero ds as' = []
entries (suc n) [] as' = []
entries (suc n) (d ∷ ds) [] = []
entries (suc n) (d ∷ ds) (a ∷ as') = record { due = d.0; amount = a.0 } ∷ entries n ds as'

-- what a record and its identifier show
unfoldable pub shown : Tunnel → Vcpu → Tenant
shown t v =
    record {
      terms = record {
        tunnel = t.0;
        period = v.period.0;
        capacity = v.capacity.0;
        priority = v.priority;
        kind = paper_kind v.kind;
      };
      runnable = v.runnable;
      usable = v.usable.0;
      ended = v.ended.0;
      pending = entries v.count v.due v.amount;
      boundary = boundary_at v.kind (get_or v.due 0 (moment 0));
      pending_total = v.pending.0;
      held_total = v.held.0;
    }

-- the first `n` places, in order
abbrev pub tenants : ℕ → List Tunnel → List Vcpu → List Tenant
tenants zero ts vs = []
tenants (suc n) [] vs = []
tenants (suc n) (t ∷ ts) [] = []
tenants (suc n) (t ∷ ts) (v ∷ vs) = shown t v ∷ tenants n ts vs

-- who stands at a place
abbrev pub running_at : Opt ℕ → List Tunnel → Option ℕ
running_at None ids = none
running_at (Some at) ids = some (get_or ids at (tunnel nobody)).0

-- a time, or none where it is the one above all
abbrev pub timer_at : ℕ → Option ℕ
timer_at t = cond (eqb t never) none (some t)

-- the first `n` slots of a memory, in order
abbrev pub slots : ℕ → List Tunnel → List Moment → List Remembered
slots zero ts ms = []
slots (suc n) [] ms = []
slots (suc n) (t ∷ ts) [] = []
slots (suc n) (t ∷ ts) (m ∷ ms) = record { tunnel = t.0; time = m.0 } ∷ slots n ts ms

-- who is remembered by a memory
abbrev pub memories : Memory → List Remembered
memories m = slots m.count m.ids m.until

-- the VCPUs that a table shows
abbrev pub tenants_in : Roster → List Tenant
tenants_in x = tenants x.n x.ids x.places

-- the card that a core shows
unfoldable pub card : Inside → Card
card c =
    record {
      last = c.last.0;
      running = running_at c.running c.table.ids;
      timer = moment_in c.timer;
      vcpus = tenants_in c.table;
      remembered = memories c.table.memory;
      removed = c.table.removed.0;
      idle = c.idle.0;
    }

-- the place of the one so named, or behind all where there is none
abbrev pub place : ℕ → List Tenant → ℕ
place t [] = 0
place t (v ∷ vs) = cond (named t v) 0 (suc (place t vs))

abbrev pub place_of : Option ℕ → List Tenant → Opt ℕ
place_of none vs = None
place_of (some t) vs = Some (place t vs)

abbrev pub timer_of : Option ℕ → ℕ
timer_of none = never
timer_of (some t) = t

abbrev pub id_of : Remembered → Tunnel
id_of r = tunnel r.tunnel

abbrev pub until_of : Remembered → Moment
until_of r = moment r.time

-- the memory that they are written as
abbrev pub memory_of : List Remembered → Memory
memory_of rs =
    record {
      until = laid most_vcpus until_of (moment never) rs;
      ids = laid most_vcpus id_of (tunnel nobody) rs;
      count = length rs;
    }

-- the arrays that the VCPUs and their identifiers are written as
abbrev pub places_of : List Tenant → List Vcpu
places_of vs = laid most_vcpus written (written no_tenant) vs

abbrev pub ids_of : List Tenant → List Tunnel
ids_of vs = laid most_vcpus tunnel_of (tunnel nobody) vs

abbrev pub table_of : List Tenant → List Remembered → ℕ → Roster
table_of vs rs gone =
    record { places = places_of vs; ids = ids_of vs; memory = memory_of rs; removed = total gone; n = length vs }

-- the core that a card is written as
unfoldable pub core_of : Card → Inside
core_of k =
    record {
      table = table_of k.vcpus k.remembered k.removed;
      last = moment k.last;
      timer = moment_said k.timer;
      running = place_of k.running k.vcpus;
      idle = total k.idle;
    }
