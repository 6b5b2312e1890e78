-- What the parts of a call do to the written form, each as its code does it. Private parts promise these; that they are the
-- rules' steps on what the form shows is proved in proofs/. Assumes nothing.
use Rattle.std.specs.Prelude.{ℕ, ◌+◌, ◌-◌, ◌%◌, ◌≤◌, ◌<◌, ◌≡◌, Bool, true, false, cond, ◌&&◌, List, [], ltb, eqb, ◌++◌, length, take, drop, replicate, take_while, nat_le, sum_by, get_or, set, Some, None}
use Rattle.std.specs.Prelude.{Option as Held}
use Rattle.std.proofs.Math.Option.{Option}
use Rattle.units.specs.Units.{moment, amount, total, tunnel, later, together}
use Rattle.units.specs.declared.Moment.{Moment}
use Rattle.units.specs.declared.Amount.{Amount}
use Rattle.units.specs.declared.Total.{Total}
use Rattle.turns.specs.declared.Kind.{Kind}
use Rattle.turns.specs.declared.Kind.TheVariants.{Sporadic, Deferrable, Polling}
use Rattle.turns.specs.declared.Vcpu.{Vcpu}
use Rattle.turns.specs.declared.Told.{Told}
use Rattle.rules.specs.Limits.{most_pending}
use Rattle.rules.specs.Lists.{sum}
use Rattle.rules.specs.Vcpu.{Vcpu as Tenant}
use Rattle.rules.specs.Return.{returned}
use Rattle.rules.specs.Told.{tells}
use Rattle.turns.specs.Written.{never, boundary_at, written, shown}

-- ticks come back by a queue, or at boundaries
abbrev pub has_queue : Kind → Bool
has_queue Sporadic = true
has_queue Deferrable = false
has_queue Polling = false

-- what is left of the ticks of one that is runnable, or not
abbrev pub left_of : Kind → Bool → Amount → Amount
left_of Sporadic runnable ticks = ticks
left_of Deferrable runnable ticks = ticks
left_of Polling runnable ticks = cond runnable ticks (amount 0)

-- the queue's arrays and the count, the end of use, or the usable ticks with the times to come and the mark, anew
abbrev pub queue_as : Vcpu → List Moment → List Amount → ℕ → Vcpu
queue_as v ds as' n = record v { due = ds; amount = as'; count = n }

abbrev pub ended_as : Vcpu → Moment → Vcpu
ended_as v m = record v { ended = m }

abbrev pub usable_as : Vcpu → List Moment → Bool → Amount → Vcpu
usable_as v ds b u = record v { due = ds; usable = u; runnable = b }

-- .., or the totals: both, the pending one or the held one
abbrev pub totals_as : Vcpu → Amount → Total → Vcpu
totals_as v a t = record v { held = t; pending = a }

abbrev pub owing_as : Vcpu → Amount → Vcpu
owing_as v a = totals_as v a v.held

abbrev pub long_as : Vcpu → Total → Vcpu
long_as v t = totals_as v v.pending t

abbrev pub runnable_as : Vcpu → Bool → Vcpu
runnable_as v b = usable_as v v.due b (left_of v.kind b v.usable)

abbrev pub ticks_at : Vcpu → ℕ → ℕ
ticks_at v k = (get_or v.amount k (amount 0)).0

abbrev pub with_more : Vcpu → ℕ → Amount → List Amount
with_more v k used = set v.amount k (amount (ticks_at v k + used.0))

abbrev pub joined_of : Vcpu → Amount → Vcpu
joined_of v used = queue_as v v.due (with_more v (v.count - 1) used) v.count

abbrev pub folded_of : Vcpu → Amount → Moment → Vcpu
folded_of v used m = queue_as v (set v.due (v.count - 1) m) (with_more v (v.count - 1) used) v.count

abbrev pub appended_of : Vcpu → Amount → Moment → Vcpu
appended_of v used m = queue_as v (set v.due v.count m) (set v.amount v.count used) (v.count + 1)

abbrev pub joins_of : Vcpu → Moment → Bool
joins_of v last = ltb 0 v.count && eqb v.ended.0 last.0

unfoldable pub posted_of : Vcpu → Amount → Moment → Vcpu
posted_of v used last =
    cond (joins_of v last) (joined_of v used)
    (cond (eqb v.count most_pending) (folded_of v used (later last v.period)) (appended_of v used (later last v.period)))

abbrev pub elapsed_of : Moment → Moment → Amount
elapsed_of last now = amount (now.0 - last.0)

-- of one that has a queue: the ticks are posted, its use ends, and its pending total grows
unfoldable pub spent_of : Vcpu → Amount → Moment → Moment → Vcpu
spent_of v used last now =
    cond (has_queue v.kind) (owing_as (ended_as (posted_of v used last) now) (amount (v.pending.0 + used.0))) v

-- with other usable ticks
abbrev pub took_of : Vcpu → Amount → Vcpu
took_of v u = usable_as v v.due v.runnable u

-- a held total with the ticks of an amount
abbrev pub longer_by : Total → Amount → Total
longer_by t a = together t (total a.0)

unfoldable pub charged_of : Vcpu → Moment → Moment → Vcpu
charged_of v last now =
    cond (eqb last.0 now.0) v
    (long_as (took_of (spent_of v (elapsed_of last now) last now) (amount (v.usable.0 - (now.0 - last.0))))
    (longer_by v.held (elapsed_of last now)))

-- what a charge asks: the slots in use fit, and the ticks held are usable ones
pub record Chargeable (v : Vcpu) (last now : Moment) : Type 0 where
  pub few : v.count ≤ most_pending
  pub onward : last.0 ≤ now.0
  pub enough : now.0 - last.0 ≤ v.usable.0
  pub fits : (k : ℕ) → ticks_at v k + v.usable.0 < 4294967296
  pub owed : v.pending.0 + v.usable.0 < 4294967296

-- an array of eight from the slot `k` on, and `z` behind
abbrev pub from_of : {A : Type 0} → A → ℕ → List A → List A
from_of z k l = drop k l ++ replicate k z

-- the ticks of the first `k` slots
abbrev pub ticks_in : ℕ → List Amount → ℕ
ticks_in k l = sum_by (λ a. a.0) (take k l)

-- how many of the first slots are due
abbrev pub due_count : Moment → List Moment → ℕ
due_count now ds = length (take_while (λ d. nat_le d.0 now.0) ds)

-- the first `k` entries taken: they are usable, and are pending no more
unfoldable pub returned_first : ℕ → Vcpu → Vcpu
returned_first k v =
    owing_as (took_of (queue_as v (from_of (moment never) k v.due) (from_of (amount 0) k v.amount) (v.count - k))
    (amount (v.usable.0 + ticks_in k v.amount))) (amount (v.pending.0 - ticks_in k v.amount))

-- the next time that something comes
abbrev pub head_of : Vcpu → ℕ
head_of v = (get_or v.due 0 (moment 0)).0

-- the last time that something comes
abbrev pub latest_of : Vcpu → ℕ
latest_of v = cond (eqb v.count 0) (head_of v) (get_or v.due (v.count - 1) (moment 0)).0

-- the next boundary that a record shows
abbrev pub boundary_in : Vcpu → Option ℕ
boundary_in v = boundary_at v.kind (moment (head_of v))

-- .., as the code tells it
abbrev pub boundary_held : Vcpu → Held Moment
boundary_held v = cond (has_queue v.kind) None (Some (moment (head_of v)))

-- the ticks from `now` to the first of the moments b, b + T, b + 2T .. after it
abbrev pub until_next : Moment → Moment → Amount → Amount
until_next b now T = amount (T.0 - (now.0 - b.0) % T.0)

unfoldable pub refilled_of : Vcpu → Moment → Vcpu
refilled_of v now =
    usable_as v (set v.due 0 (later now (until_next (moment (head_of v)) now v.period))) v.runnable
    (left_of v.kind v.runnable v.capacity)

-- the tenant that a record shows where its identifier does not matter
abbrev pub bare : Vcpu → Tenant
bare v = shown (tunnel 0) v

-- what the return step reports of a tenant
abbrev pub brought_to : ℕ → Tenant → Told
brought_to now v = record { ticks = amount (tells now v).ticks; next = moment (head_of (written (returned now v))) }

-- what the return step asks: a written record whose ticks fit, with a queue or with a period and no more ticks than a refill leaves, and
-- a moment that a period does not carry to the one above all
pub record Returnable (v : Vcpu) (now : Moment) : Type 0 where
  pub written : v ≡ written (bare v)
  pub few : length (bare v).pending ≤ most_pending
  pub fits : (bare v).usable + sum (λ e. e.amount) (bare v).pending < 4294967296
  pub adds : (bare v).pending_total ≡ sum (λ e. e.amount) (bare v).pending
  pub no-queue : has_queue v.kind ≡ false → (bare v).pending ≡ []
  pub fewer : has_queue v.kind ≡ false → v.usable.0 ≤ (left_of v.kind v.runnable v.capacity).0
  pub period : 1 ≤ v.period.0
  pub time : now.0 + v.period.0 < never
