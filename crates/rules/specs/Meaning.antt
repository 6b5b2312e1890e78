-- What the kinds, steps 4 and 5 and the numbers of the card mean, as facts of a card, and what it keeps of each VCPU's budget.
-- Proved of the card after any calls in proofs/Meaning. Assumes nothing.
use Rattle.std.specs.Prelude.{ℕ, zero, suc, ◌+◌, ◌≤◌, ◌<◌, ◌≡◌, true, false, List, [], ◌∷◌, ◌⊎◌, ◌↔◌, eqb, length}
use Rattle.std.proofs.Math.Option.{Option, none, some}
use Rattle.rules.specs.Limits.{largest_time, largest_tunnel, largest_period, most_vcpus, most_pending}
use Rattle.rules.specs.Lists.{count, sum, All, Among}
use Rattle.rules.specs.Vcpu.{Description, Entry, Vcpu}
use Rattle.rules.specs.Remember.{Remembered, time_of}
use Rattle.rules.specs.Card.{Card, on_card, find, first_from}
use Rattle.rules.specs.Turn.{report}

-- "Admit gains a kind: 0 sporadic (as now), 1 deferrable, 2 polling."
abbrev pub Sporadic : Description → Type 0
Sporadic d = d.kind ≡ 0

abbrev pub Deferrable : Description → Type 0
Deferrable d = d.kind ≡ 1

abbrev pub Polling : Description → Type 0
Polling d = d.kind ≡ 2

-- "smaller is more urgent; at equal priority the smaller identifier is"
abbrev pub MoreUrgent : Description → Description → Type 0
MoreUrgent a b = (a.priority < b.priority) ⊎ ((a.priority ≡ b.priority) × (a.tunnel < b.tunnel))

-- `v` may run: it is on the card, runnable, with usable ticks, and no such VCPU is more urgent
pub record MayRun (vs : List Vcpu) (v : Vcpu) : Type 0 where
  pub on_the_card : Among v vs
  pub runnable : v.runnable ≡ true
  pub has-ticks : 0 < v.usable
  pub most-urgent : All (λ w. w.runnable ≡ true → 0 < w.usable → MoreUrgent w.terms v.terms → ⊥) vs

-- something comes to the VCPU at the moment: a pending return, or its next boundary
pub data Comes (v : Vcpu) : ℕ → Type 0 where
  return : (e : Entry) → Among e v.pending → Comes v e.due
  boundary : (b : ℕ) → v.boundary ≡ some b → Comes v b

-- the moment is one at which something comes to such a VCPU
pub record Next (Such : Vcpu → Type 0) (vs : List Vcpu) (t : ℕ) : Type 0 where
  pub who : Vcpu
  pub on_the_card : Among who vs
  pub is_such : Such who
  pub comes : Comes who t

-- nothing comes to such a VCPU before the moment
abbrev pub NoneBefore : (Vcpu → Type 0) → List Vcpu → ℕ → Type 0
NoneBefore Such vs t = All (λ w. Such w → (u : ℕ) → Comes w u → t ≤ u) vs

abbrev pub Runnable : Vcpu → Type 0
Runnable w = w.runnable ≡ true

-- "any runnable VCPU more urgent than it"
abbrev pub Above : Vcpu → Vcpu → Type 0
Above v w = Runnable w × MoreUrgent w.terms v.terms

-- "The earlier of `now` + the chosen one's usable ticks and the earliest pending return of any runnable VCPU more urgent than it.";
-- "the next boundary where it looked at the earliest return, and also at the running VCPU's own next boundary"
pub record TimerWhile (now : ℕ) (vs : List Vcpu) (v : Vcpu) (t : ℕ) : Type 0 where
  pub in_time : t ≤ now + v.usable
  pub before_own : (b : ℕ) → v.boundary ≡ some b → t ≤ b
  pub before-next : NoneBefore (Above v) vs t
  pub one_of_them : (t ≡ now + v.usable) ⊎ (v.boundary ≡ some t) ⊎ Next (Above v) vs t

-- "Numbers of the card"
pub record InRange (d : Description) : Type 0 where
  pub tunnel-high : d.tunnel ≤ largest_tunnel
  pub period-low : 1 ≤ d.period
  pub period-high : d.period ≤ largest_period
  pub capacity-low : 1 ≤ d.capacity
  pub capacity-high : d.capacity ≤ d.period
  pub kind-high : d.kind ≤ 2

-- a VCPU on the card has the identifier, all 24 bits of it
abbrev pub OnTheCard : List Vcpu → ℕ → Type 0
OnTheCard vs tunnel = (v : Vcpu) × Among v vs × (v.terms.tunnel ≡ tunnel)

-- the identifier is remembered, all 24 bits of it, with that time
abbrev pub RememberedWith : List Remembered → ℕ → ℕ → Type 0
RememberedWith rs tunnel time = (r : Remembered) × Among r rs × (r.tunnel ≡ tunnel) × (r.time ≡ time)

-- the smallest identifier on the card from `low` on
abbrev pub FirstFrom : List Vcpu → ℕ → ℕ → Type 0
FirstFrom vs low tunnel = OnTheCard vs tunnel × (low ≤ tunnel) × ((t : ℕ) → OnTheCard vs t → low ≤ t → tunnel ≤ t)

abbrev pub onward : Option ℕ → (ℕ → List ℕ) → List ℕ
onward none rest = []
onward (some t) rest = t ∷ rest t

-- so a reader of the card goes through them: the first from `low` on, then the first above it, and so on, so many times at the most
abbrev pub walk : ℕ → ℕ → List Vcpu → List ℕ
walk zero low vs = []
walk (suc n) low vs = onward (first_from low vs) (λ t. walk n (t + 1) vs)

abbrev pub Rises : List ℕ → Type 0
Rises [] = Unit {0}
Rises (t ∷ ts) = All (λ u. t < u) ts × Rises ts

abbrev pub pending_ticks : Vcpu → ℕ
pending_ticks v = sum (λ e. e.amount) v.pending

abbrev pub Sorted : List Entry → Type 0
Sorted [] = Unit {0}
Sorted (e ∷ q) = All (λ f. e.due ≤ f.due) q × Sorted q

-- what the kinds keep: a sporadic VCPU its queue, and "Usable plus pending equals C after every accepted call." A deferrable or polling
-- one no queue and no end of use; its next boundary is to come, within one period, and it has at most C usable
pub data Keeps (last : ℕ) (v : Vcpu) : Type 0 where
  sporadic : Sporadic v.terms → v.boundary ≡ none → v.usable + pending_ticks v ≡ v.terms.capacity → Keeps last v
  refilled : (Sporadic v.terms → ⊥) → (b : ℕ) → v.boundary ≡ some b → last < b → b ≤ last + v.terms.period
      → v.pending ≡ [] → v.ended ≡ 0 → v.usable ≤ v.terms.capacity → Keeps last v

pub record Meaning (c : Card) : Type 0 where
  -- the one that runs is the one that may, and it has the timer
  pub runs : (v : Vcpu) → MayRun c.vcpus v ↔ (Among v c.vcpus × (c.running ≡ some v.terms.tunnel))
  pub has-timer : (v : Vcpu) → MayRun c.vcpus v → (t : ℕ) × (c.timer ≡ some t) × TimerWhile c.last c.vcpus v t
  -- "if there is none, idle. In idle: the earliest pending return of any runnable VCPU."
  pub idle : c.running ≡ none ↔ All (λ v. v.runnable ≡ true → v.usable ≡ 0) c.vcpus
  pub idle-timer : c.running ≡ none → (t : ℕ) → c.timer ≡ some t
      → Next Runnable c.vcpus t × NoneBefore Runnable c.vcpus t
  -- "If nobody is runnable, there is no timer."
  pub no-timer : c.timer ≡ none ↔ All (λ v. v.runnable ≡ false) c.vcpus
  -- nobody runs who is not on the card, and an identifier stands there at most once
  pub runs_on_card : (tunnel : ℕ) → c.running ≡ some tunnel → OnTheCard c.vcpus tunnel
  pub once : (tunnel : ℕ) → count (λ v. eqb v.terms.tunnel tunnel) c.vcpus ≤ 1
  -- the rules look an identifier up, all 24 bits of it
  pub on_the_card : (tunnel : ℕ) → on_card tunnel c.vcpus ≡ true ↔ OnTheCard c.vcpus tunnel
  pub finds : (tunnel : ℕ) (v : Vcpu) → find tunnel c.vcpus ≡ some v ↔ (Among v c.vcpus × (v.terms.tunnel ≡ tunnel))
  -- from a number on the smallest is found, and 32 searches go through all that are there, each once and in rising order
  pub first-from : (low tunnel : ℕ) → first_from low c.vcpus ≡ some tunnel ↔ FirstFrom c.vcpus low tunnel
  pub none_from : (low : ℕ) → first_from low c.vcpus ≡ none ↔ ((t : ℕ) → OnTheCard c.vcpus t → low ≤ t → ⊥)
  pub walks : (tunnel : ℕ) → Among tunnel (walk most_vcpus 0 c.vcpus) ↔ OnTheCard c.vcpus tunnel
  pub rises : Rises (walk most_vcpus 0 c.vcpus)
  -- the report has the time, who runs and the timer of the card, and the usable ticks of the one that runs, 0 in idle
  pub reports-card : (n : ℕ) → ((report n c).time ≡ c.last) × ((report n c).run ≡ c.running) × ((report n c).timer ≡ c.timer)
  pub reports : (n : ℕ) (v : Vcpu) → MayRun c.vcpus v → (report n c).usable ≡ v.usable
  pub reports-idle : (n : ℕ) → c.running ≡ none → (report n c).usable ≡ 0
  -- what stands on the card is one of the three kinds, and nothing else
  pub one_of_three : All (λ v. Sporadic v.terms ⊎ Deferrable v.terms ⊎ Polling v.terms) c.vcpus
  -- "Usable plus pending equals C after every accepted call", of the sporadic ones; and the boundaries of the others
  pub keeps : All (Keeps c.last) c.vcpus
  -- a polling VCPU that is not runnable has no usable ticks
  pub polling-waits : All (λ v. Polling v.terms → v.runnable ≡ false → v.usable ≡ 0) c.vcpus
  -- the return queue is sorted, and what is pending is still to come
  pub sorted : All (λ v. Sorted v.pending) c.vcpus
  pub to_come : All (λ v. All (λ e. c.last < e.due) v.pending) c.vcpus
  -- the limits hold
  pub time-high : c.last ≤ largest_time
  pub few-vcpus : length c.vcpus ≤ most_vcpus
  pub terms_in_range : All (λ v. InRange v.terms) c.vcpus
  pub few-pending : All (λ v. length v.pending ≤ most_pending) c.vcpus
  -- an identifier is on the card, or remembered with one time, or neither, never both; together they are at most 32
  pub never_both : (tunnel time : ℕ) → RememberedWith c.remembered tunnel time → OnTheCard c.vcpus tunnel → ⊥
  pub remembered-once : (tunnel : ℕ) → count (λ r. eqb r.tunnel tunnel) c.remembered ≤ 1
  pub few-together : length c.vcpus + length c.remembered ≤ most_vcpus
  -- the rules look its time up
  pub remembered_time : (tunnel time : ℕ) → time_of tunnel c.remembered ≡ some time ↔ RememberedWith c.remembered tunnel time
  -- its time is still to come, within the longest period
  pub remembered-range : All (λ r. (r.tunnel ≤ largest_tunnel) × (c.last < r.time) × (r.time ≤ c.last + largest_period)) c.remembered
