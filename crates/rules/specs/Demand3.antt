-- Demand 3, sentence by sentence, of what a host hears and of the VCPUs on the card after any calls from the empty card.
-- Proved for every list of calls in proofs/Demand3. What holds of the card alone is in Meaning. Assumes nothing.
use Rattle.std.specs.Prelude.{ℕ, ◌+◌, ◌*◌, ◌≤◌, ◌<◌, ◌≡◌, Bool, true, false, not, ◌&&◌, ◌||◌, List, [], ◌∷◌, ◌↔◌, leb, ltb, eqb, length}
use Rattle.std.proofs.Math.Option.{Option, none, some}
use Rattle.rules.specs.Limits.{most_pending}
use Rattle.rules.specs.Lists.{any, count, sum, All, Among}
use Rattle.rules.specs.Vcpu.{Vcpu}
use Rattle.rules.specs.Card.{Card}
use Rattle.rules.specs.Turn.{Call}
use Rattle.rules.specs.Meaning.{Sporadic, Deferrable, Polling, RememberedWith}
use Rattle.rules.specs.History.{Exchange, after, heard, time, holder, past, is_runnable, idle_ticks}
use Rattle.rules.specs.Stays.{Stay, lasts, lasts_as, stays, owns, held, held_ticks, window, EachTick, owners}
use Rattle.rules.specs.Slices.{Slice, slices, recent, ticks_of, returns_of, ever_folds}
use Rattle.rules.specs.Boundaries.{held_between, boundary, latest, has_refill}
use Rattle.rules.specs.Together.{owes_until, alike}

-- a deferrable or polling stay
abbrev pub Refills : Stay → Type 0
Refills s = Sporadic s.terms → ⊥

-- (a) "in any window as long as a tenant's period, within one stay and up to the last accepted call, it held the core for at most its
-- capacity, counted from the history and not from stored sums"
abbrev pub AtMostCapacity : List Exchange → Stay → Type 0
AtMostCapacity xs s =
    (before : ℕ) → held_ticks (window s.terms.period before (held s (past xs))) ≤ s.terms.capacity

-- (a) of the other kinds: "at most C from one boundary to the next", and from its admission to the first,
abbrev pub AtMostOnce : List Exchange → Stay → Type 0
AtMostOnce xs s = (k : ℕ) → held_between (boundary s k) (boundary s (k + 1)) (held s (past xs)) ≤ s.terms.capacity

-- .. "at most 2C in any window of T"
abbrev pub AtMostTwice : List Exchange → Stay → Type 0
AtMostTwice xs s =
    (before : ℕ) → held_ticks (window s.terms.period before (held s (past xs))) ≤ 2 * s.terms.capacity

-- (a) across stays, "windows across two stays with the same period and capacity": of all sporadic stays of one identifier with the same
-- period and capacity together
abbrev pub TogetherAtMostCapacity : List Exchange → Stay → Type 0
TogetherAtMostCapacity xs s =
    (before : ℕ) → sum (λ r. held_ticks (window s.terms.period before (held r (past xs)))) (alike s (stays xs)) ≤ s.terms.capacity

-- .. and of all deferrable, or all polling, ones
abbrev pub TogetherAtMostTwice : List Exchange → Stay → Type 0
TogetherAtMostTwice xs s =
    (before : ℕ) → sum (λ r. held_ticks (window s.terms.period before (held r (past xs)))) (alike s (stays xs)) ≤ 2 * s.terms.capacity

-- of the stays, the latest first: when one began, every earlier one of its identifier had ended, and the time that it left behind had come
abbrev pub NoSooner : List (Option ℕ) → List Stay → Type 0
NoSooner past [] = Unit {0}
NoSooner past (s ∷ earlier) =
    All (λ r. r.terms.tunnel ≡ s.terms.tunnel
    → (end : ℕ) × (r.until ≡ some end) × (end ≤ s.from) × ((t : ℕ) → owes_until past r end ≡ some t → t ≤ s.from)) earlier
    × NoSooner past earlier

-- a stay of the identifier has ended, and that is the time that it left behind, still to come
pub record StillOwes (xs : List Exchange) (tunnel t : ℕ) : Type 0 where
  pub stay : Stay
  pub one_of_them : Among stay (stays xs)
  pub so_named : stay.terms.tunnel ≡ tunnel
  pub end : ℕ
  pub ended : stay.until ≡ some end
  pub owes : owes_until (past xs) stay end ≡ some t
  pub to_come : time xs < t

-- this stay's slices
abbrev pub slices_of : List Exchange → Stay → List Slice
slices_of xs s = slices s.terms.period (held s (past xs))

-- this stay's slices begun less than one period before the last accepted call
abbrev pub recent_of : List Exchange → Stay → List Slice
recent_of xs s = recent s.terms.period (time xs) (slices_of xs s)

-- "while its return queue has never folded in this stay"
abbrev pub NeverFolded : List Exchange → Stay → Type 0
NeverFolded xs s = ever_folds s.terms.period (slices_of xs s) ≡ false

-- (b) ".., its usable budget after each accepted call is its capacity less the ticks of this stay's slices begun less than one period
-- before that call"
abbrev pub UsableBudget : List Exchange → Stay → Vcpu → Type 0
UsableBudget xs s v = NeverFolded xs s → v.usable + ticks_of (recent_of xs s) ≡ s.terms.capacity

-- .., and its pending returns are those slices, one for one
abbrev pub PendingSlices : List Exchange → Stay → Vcpu → Type 0
PendingSlices xs s v = NeverFolded xs s → v.pending ≡ returns_of s.terms.period (recent_of xs s)

-- the ticks that this stay held since its latest boundary, or its admission
abbrev pub held_since : List Exchange → Stay → ℕ
held_since xs s = held_between (latest s (time xs)) (time xs) (held s (past xs))

-- (b) of a deferrable VCPU: its usable ticks are C less those that it held since its latest boundary
abbrev pub Unused : List Exchange → Stay → Vcpu → Type 0
Unused xs s v = v.usable + held_since xs s ≡ s.terms.capacity

-- (b) of a polling one: the same where it has its refill, else none
pub record Polled (xs : List Exchange) (s : Stay) (v : Vcpu) : Type 0 where
  pub refilled : has_refill s xs ≡ true → Unused xs s v
  pub not-refilled : has_refill s xs ≡ false → v.usable ≡ 0

-- its next boundary is the one after the latest
abbrev pub NextBoundary : List Exchange → Stay → Vcpu → Type 0
NextBoundary xs s v = v.boundary ≡ some (latest s (time xs) + s.terms.period)

-- of a stay that lasts, a fact of the VCPU on the card that has its identifier
abbrev pub OfItsVcpu : List Call → (Stay → Vcpu → Type 0) → Stay → Type 0
OfItsVcpu calls P s =
    lasts s.until ≡ true → All (λ v. v.terms.tunnel ≡ s.terms.tunnel → P s v) (after calls).vcpus

-- the same sentences the other way round: of a VCPU on the card, that there is its stay
pub record ItsStay (xs : List Exchange) (v : Vcpu) : Type 0 where
  pub stay : Stay
  pub one_of_them : Among stay (stays xs)
  pub lasting : stay.until ≡ none
  pub same-terms : v.terms ≡ stay.terms
  -- its held total is the count from the history, of this stay alone
  pub held-total : v.held_total ≡ held_ticks (held stay (past xs))
  pub at-most-capacity : Sporadic stay.terms → AtMostCapacity xs stay
  pub usable-budget : Sporadic stay.terms → UsableBudget xs stay v
  pub pending-slices : Sporadic stay.terms → PendingSlices xs stay v
  pub at-most-once : Refills stay → AtMostOnce xs stay
  pub at-most-twice : Refills stay → AtMostTwice xs stay
  pub next-boundary : Refills stay → NextBoundary xs stay v
  pub unused : Deferrable stay.terms → Unused xs stay v
  pub polled : Polling stay.terms → Polled xs stay v

-- "Else, if 8 are pending, it folds": 8 are pending, and its previous use did not end at `last`
abbrev pub has_to_fold : ℕ → Vcpu → Bool
has_to_fold last v = leb most_pending (length v.pending) && not (eqb v.ended last)

-- a call accepted at `now` charges ticks of this stay, held from `last` on, to a queue that has to fold
abbrev pub folds_at : Card → ℕ → Stay → Bool
folds_at c now s =
    ltb c.last now
    && owns s c.running c.last
    && any (λ v. eqb v.terms.tunnel s.terms.tunnel && has_to_fold c.last v) c.vcpus

-- the queue on the card folded in this stay, at one of these calls
abbrev pub folded : List Call → Stay → Bool
folded [] s = false
folded (call ∷ calls) s = folded calls s || folds_at (after calls) (after (call ∷ calls)).last s

pub record Demand3 (calls : List Call) : Type 0 where
  -- the history has one holder for each tick up to the last accepted call
  pub each-tick : length (past (heard calls)) ≡ time (heard calls)
  -- (a) for every sporadic stay, ended ones included; (b) for every one that lasts
  pub at-most-capacity : All (λ s. Sporadic s.terms → AtMostCapacity (heard calls) s) (stays (heard calls))
  pub usable-budget : All (OfItsVcpu calls (λ s v. Sporadic s.terms → UsableBudget (heard calls) s v)) (stays (heard calls))
  pub pending-slices : All (OfItsVcpu calls (λ s v. Sporadic s.terms → PendingSlices (heard calls) s v)) (stays (heard calls))
  -- what the history says of folding is what the queue on the card did, for every sporadic stay
  pub folds-exactly :
      All (λ s. Sporadic s.terms → ever_folds s.terms.period (slices_of (heard calls) s) ≡ folded calls s) (stays (heard calls))
  -- (a) for every deferrable or polling stay, ended ones included; (b) for every one that lasts
  pub at-most-once : All (λ s. Refills s → AtMostOnce (heard calls) s) (stays (heard calls))
  pub at-most-twice : All (λ s. Refills s → AtMostTwice (heard calls) s) (stays (heard calls))
  pub next-boundary : All (OfItsVcpu calls (λ s v. Refills s → NextBoundary (heard calls) s v)) (stays (heard calls))
  pub unused : All (OfItsVcpu calls (λ s v. Deferrable s.terms → Unused (heard calls) s v)) (stays (heard calls))
  pub polled : All (OfItsVcpu calls (λ s v. Polling s.terms → Polled (heard calls) s v)) (stays (heard calls))
  -- (a) across stays, for every stay with all those like it, ended ones included
  pub together : All (λ s. Sporadic s.terms → TogetherAtMostCapacity (heard calls) s) (stays (heard calls))
  pub together-twice : All (λ s. Refills s → TogetherAtMostTwice (heard calls) s) (stays (heard calls))
  -- a tenant comes back no sooner than the time that it left behind; who is remembered with which time, from the history alone
  pub no_sooner : NoSooner (past (heard calls)) (stays (heard calls))
  pub remembered : (tunnel t : ℕ) → RememberedWith (after calls).remembered tunnel t ↔ StillOwes (heard calls) tunnel t
  -- (c) each tick belongs to one stay or to idle, and together they add up to the time of the last accepted call
  pub one_owner : EachTick (λ holder at. owners (stays (heard calls)) holder at ≡ 1) (past (heard calls))
  pub adds-up :
      sum (λ s. held_ticks (held s (past (heard calls)))) (stays (heard calls)) + idle_ticks (past (heard calls)) ≡ time (heard calls)
  -- the stays that last are those of the VCPUs on the card, one for each, with the same terms
  pub stays_on_card : (tunnel : ℕ)
      → count (lasts_as tunnel) (stays (heard calls)) ≡ count (λ v. eqb v.terms.tunnel tunnel) (after calls).vcpus
  pub same-terms : All (OfItsVcpu calls (λ s v. v.terms ≡ s.terms)) (stays (heard calls))
  pub every_vcpu : All (ItsStay (heard calls)) (after calls).vcpus
  -- the card has the time, the holder and the runnable VCPUs that the history tells
  pub same-time : (after calls).last ≡ time (heard calls)
  pub same-holder : (after calls).running ≡ holder (heard calls)
  pub runnable-told : All (λ v. v.runnable ≡ is_runnable (heard calls) v.terms.tunnel) (after calls).vcpus
