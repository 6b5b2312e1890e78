-- What steps 1 to 5 ask of the table, and make of it. Private functions alone promise these; that they are the rules' steps on what the
-- table shows is proved in proofs/. Assumes nothing.
use Rattle.std.specs.Prelude.{ℕ, suc, ◌+◌, ◌-◌, ◌≤◌, ◌<◌, min, ◌≡◌, Bool, true, false, cond, ◌&&◌, List, [], ◌∷◌, ltb, length, get_or, set, replicate}
use Rattle.std.specs.Prelude.{Option as Opt, Some, None}
use Rattle.std.proofs.Math.Option.{none, some}
use Rattle.units.specs.Units.{moment, amount, total, tunnel, later, together}
use Rattle.units.specs.declared.Moment.{Moment}
use Rattle.units.specs.declared.Total.{Total}
use Rattle.units.specs.declared.Tunnel.{Tunnel}
use Rattle.rules.specs.Limits.{largest_time, largest_kind, most_vcpus}
use Rattle.rules.specs.Lists.{All}
use Rattle.rules.specs.Vcpu.{admitted}
use Rattle.rules.specs.Vcpu.{Vcpu as Tenant}
use Rattle.rules.specs.Return.{returned, bring}
use Rattle.rules.specs.Meaning.{InRange, pending_ticks}
use Rattle.turns.specs.declared.Vcpu.{Vcpu}
use Rattle.turns.specs.declared.Description.{Description}
use Rattle.turns.specs.declared.Change.{Change}
use Rattle.turns.specs.declared.Change.TheVariants.{Admit, Wake, Block, Remove, Tick}
use Rattle.turns.specs.declared.Pick.{Pick}
use Rattle.turns.specs.declared.AllTold.{AllTold}
use Rattle.turns.specs.declared.Roster.{Roster}
use Rattle.turns.specs.Laid.{laid}
use Rattle.turns.specs.Written.{never, nobody, boundary_at, written, no_tenant, timer_of, timer_at, moment_said, tenants_in, places_of, ids_of}
use Rattle.turns.specs.Calls.{described}
use Rattle.turns.specs.Steps.{charged_of, Chargeable, head_of, runnable_as}
use Rattle.turns.specs.Places.{spot_in, inserted, removed, BlankFrom}
use Rattle.turns.specs.Remembered.{leaving_of}

-- the record at a place
abbrev pub record_at : Roster → ℕ → Vcpu
record_at x at = get_or x.places at (written no_tenant)

-- with other places
abbrev pub with_places : Roster → List Vcpu → Roster
with_places x p = record x { places = p }

-- a tenant of the kinds, with a queue and no boundary, or with a boundary and no queue; and with a queue that fits its record
pub data Formed (v : Tenant) : Type 0 where
  queue : v.terms.kind ≡ 0 → v.boundary ≡ none → Formed v
  refills : (v.terms.kind ≡ 0 → ⊥) → v.terms.kind ≤ 2 → v.pending ≡ [] → (b : ℕ) → v.boundary ≡ some b → Formed v

abbrev pub Shows : Tenant → Type 0
Shows v = (length v.pending ≤ 8) × Formed v

-- .. whose numbers fit its record
pub record Fits (v : Tenant) : Type 0 where
  pub range : InRange v.terms
  pub most : v.usable + pending_ticks v ≤ v.terms.capacity
  pub adds : v.pending_total ≡ pending_ticks v
  pub shows : Shows v
  pub polls : v.terms.kind ≡ 2 → v.runnable ≡ false → v.usable ≡ 0

-- the arrays and the count are a list of tenants written
pub record Filled (p : List Vcpu) (ids : List Tunnel) (n : ℕ) (vs : List Tenant) : Type 0 where
  pub places : p ≡ places_of vs
  pub tunnels : ids ≡ ids_of vs
  pub count : n ≡ length vs

-- 1. Charge; in idle nobody is charged
abbrev pub charged_places : Opt ℕ → Moment → Moment → List Vcpu → List Vcpu
charged_places None last now p = p
charged_places (Some at) last now p = set p at (charged_of (get_or p at (written no_tenant)) last now)

abbrev pub charged_table : Opt ℕ → Moment → Moment → Roster → Roster
charged_table at last now x = with_places x (charged_places at last now x.places)

abbrev pub ChargesAt : Opt ℕ → Moment → Moment → Roster → Type 0
ChargesAt None last now x = Unit {0}
ChargesAt (Some at) last now x = (at < most_vcpus) × Chargeable (record_at x at) last now

-- .., and the idle ticks have those from `last` to `now`
abbrev pub idled_of : Total → Opt ℕ → Moment → Moment → Total
idled_of t None last now = together t (total (now.0 - last.0))
idled_of t (Some at) last now = t

-- 2. Return or refill: what is asked, and the time that is reported of a tenant
pub record Returns (now : Moment) (x : Roster) : Type 0 where
  pub filled : Filled x.places x.ids x.n (tenants_in x)
  pub fits : All Fits (tenants_in x)
  pub few : x.n ≤ most_vcpus
  pub time : now.0 ≤ largest_time

abbrev pub returned_table : Moment → Roster → Roster
returned_table now x = with_places x (places_of (bring now.0 (tenants_in x)))

-- the times reported, before any report and after all
abbrev pub times_before : List Moment
times_before = replicate most_vcpus (moment never)

abbrev pub head_then : ℕ → Tenant → Moment
head_then now v = moment (head_of (written (returned now v)))

abbrev pub times_then : Moment → Roster → List Moment
times_then now x = laid most_vcpus (head_then now.0) (moment never) (tenants_in x)

-- what the reports come to
abbrev pub all_told : ℕ → AllTold
all_told n = record { ticks = amount n }

-- 3. Change: what each makes of the table, and of the times reported; `at` is the place that the call names
abbrev pub marked : Bool → Opt ℕ → Roster → Roster
marked b None x = x
marked b (Some at) x = with_places x (set x.places at (runnable_as (record_at x at) b))

abbrev pub with_new : Moment → Description → Roster → Roster
with_new now d x =
    record x {
      places = inserted (spot_in (described d) x.n x.places x.ids) (written (admitted now.0 (described d))) x.places;
      ids = inserted (spot_in (described d) x.n x.places x.ids) d.tunnel x.ids;
      n = x.n + 1;
    }

abbrev pub without_at : Tunnel → Opt ℕ → Roster → Roster
without_at t None x = x
without_at t (Some at) x =
    record {
      places = removed at (written no_tenant) x.places;
      ids = removed at (tunnel nobody) x.ids;
      memory = leaving_of x.memory t (record_at x at);
      removed = together x.removed (record_at x at).held;
      n = x.n - 1;
    }

abbrev pub changed_table : Moment → Change → Opt ℕ → Roster → Roster
changed_table now (Admit d) at x = with_new now d x
changed_table now (Wake t) at x = marked true at x
changed_table now (Block t) at x = marked false at x
changed_table now (Remove t) at x = without_at t at x
changed_table now Tick at x = x

abbrev pub times_with : Description → Roster → List Moment → List Moment
times_with d x ts = inserted (spot_in (described d) x.n x.places x.ids) (moment never) ts

abbrev pub times_without : Opt ℕ → List Moment → List Moment
times_without None ts = ts
times_without (Some at) ts = removed at (moment never) ts

abbrev pub changed_times : Change → Opt ℕ → Roster → List Moment → List Moment
changed_times (Admit d) at x ts = times_with d x ts
changed_times (Wake t) at x ts = ts
changed_times (Block t) at x ts = ts
changed_times (Remove t) at x ts = times_without at ts
changed_times Tick at x ts = ts

-- what it asks: that the places not in use are alike; of the place, and of the room to remember
pub record Blank (x : Roster) (ts : List Moment) : Type 0 where
  pub few : x.n ≤ most_vcpus
  pub places : BlankFrom x.n (written no_tenant) x.places
  pub ids : BlankFrom x.n (tunnel nobody) x.ids
  pub times : BlankFrom x.n (moment never) ts

pub record Removable (at : ℕ) (x : Roster) (ts : List Moment) : Type 0 where
  pub blank : Blank x ts
  pub inside : at < x.n
  pub room : x.memory.count < most_vcpus
  pub short : (record_at x at).count ≤ 8

pub record Admissible (now : Moment) (d : Description) (x : Roster) (ts : List Moment) : Type 0 where
  pub blank : Blank x ts
  pub few : x.n < most_vcpus
  pub in_time : now.0 + d.period.0 ≤ never
  pub known : d.kind ≤ largest_kind

abbrev pub IsPlace : Opt ℕ → Type 0
IsPlace None = Unit {0}
IsPlace (Some at) = at < most_vcpus

abbrev pub RemovesAt : Opt ℕ → Roster → List Moment → Type 0
RemovesAt None x ts = Unit {0}
RemovesAt (Some at) x ts = Removable at x ts

abbrev pub Changeable : Moment → Change → Opt ℕ → Roster → List Moment → Type 0
Changeable now (Admit d) at x ts = Admissible now d x ts
Changeable now (Wake t) at x ts = IsPlace at
Changeable now (Block t) at x ts = IsPlace at
Changeable now (Remove t) at x ts = RemovesAt at x ts
Changeable now Tick at x ts = Unit {0}

-- 4. Choose: one place more, `t` being the time reported of it; of the ready one that is its own next boundary
abbrev pub ready_of : Vcpu → Bool
ready_of v = v.runnable && ltb 0 v.usable.0

-- the time reported of one that is runnable
abbrev pub waits_of : Bool → Moment → ℕ
waits_of runnable t = cond runnable t.0 never

abbrev pub looked_at : Pick → ℕ → Vcpu → Moment → Pick
looked_at k j v t =
    cond (ready_of v)
    (record { at = Some j; usable = v.usable; soon = moment (min k.soon.0 (timer_of (boundary_at v.kind t))) })
    (record { at = None; usable = k.usable; soon = moment (min k.soon.0 (waits_of v.runnable t)) })

abbrev pub picked_by : Opt ℕ → Pick → Pick → Pick
picked_by None k l = l
picked_by (Some at) k l = k

unfoldable pub picked_of : Pick → ℕ → Vcpu → Moment → Pick
picked_of k j v t = picked_by k.at k (looked_at k j v t)

-- before any place
abbrev pub nobody_ready : Pick
nobody_ready = record { at = None; usable = amount 0; soon = moment never }

-- all places from `j` on, each with the time reported of it
abbrev pub picks : Pick → ℕ → List Vcpu → List Moment → Pick
picks k j [] ts = k
picks k j (v ∷ vs) [] = k
picks k j (v ∷ vs) (t ∷ ts) = picks (picked_of k j v t) (suc j) vs ts

-- who stands at the place found
abbrev pub holder_of : List Tunnel → Opt ℕ → Opt Tunnel
holder_of ids None = None
holder_of ids (Some at) = Some (get_or ids at (tunnel nobody))

-- 5. Timer: the time found, or none where it is the one above all
abbrev pub soonest : Opt ℕ → Moment → Pick → ℕ
soonest None now k = k.soon.0
soonest (Some at) now k = min (later now k.usable).0 k.soon.0

unfoldable pub timer_for : Moment → Pick → Opt Moment
timer_for now k = moment_said (timer_at (soonest k.at now k))
