-- Document 02, No. 6, as plain facts: after any calls each stored total is what the history says, and together they are the time; how an
-- accepted call moves the two beside the VCPUs; and that no reply depends on any. Proved in proofs/Accounts, Books and Undecided.
-- Assumes nothing.
use Rattle.std.specs.Prelude.{ℕ, ◌+◌, ◌-◌, ◌≡◌, Bool, not, List, [], ◌∷◌, map}
use Rattle.std.proofs.Math.Option.{none, some}
use Rattle.rules.specs.Lists.{keep, sum, All, Among}
use Rattle.rules.specs.Vcpu.{Vcpu}
use Rattle.rules.specs.Card.{Card}
use Rattle.rules.specs.Change.{remove}
use Rattle.rules.specs.Turn.{Call, Reply, turn, after_return}
use Rattle.rules.specs.Meaning.{Sporadic, pending_ticks}
use Rattle.rules.specs.Budgets.{Loses}
use Rattle.rules.specs.History.{Exchange, after, heard, past, idle_ticks}
use Rattle.rules.specs.Stays.{Stay, lasts, stays, held, held_ticks}
use Rattle.rules.specs.Demand3.{OfItsVcpu}

-- the ticks that a stay held, counted from the history
abbrev pub held_in : List Exchange → Stay → ℕ
held_in xs s = held_ticks (held s (past xs))

abbrev pub has_ended : Stay → Bool
has_ended s = not (lasts s.until)

-- all held totals of the VCPUs on the card
abbrev pub all_held : List Vcpu → ℕ
all_held vs = sum (λ v. v.held_total) vs

-- of the card after any calls
pub record Totals (calls : List Call) : Type 0 where
  -- "The first stays the sum of the queue's amounts", 0 where there is no queue; so "Usable plus pending equals C" of stored numbers too
  pub pending : All (λ v. v.pending_total ≡ pending_ticks v) (after calls).vcpus
  pub whole : All (λ v. Sporadic v.terms → v.usable + v.pending_total ≡ v.terms.capacity) (after calls).vcpus
  -- "the second the count from the history", of this stay alone; `every_vcpu` of Demand3 says it of each VCPU, with its stay
  pub held : All (OfItsVcpu calls (λ s v. v.held_total ≡ held_in (heard calls) s)) (stays (heard calls))
  -- the ticks of removed tenants are those of all stays that have ended, and the idle ones those that nobody held
  pub removed : (after calls).removed ≡ sum (held_in (heard calls)) (keep has_ended (stays (heard calls)))
  pub idle : (after calls).idle ≡ idle_ticks (past (heard calls))
  -- "All held totals, those of removed tenants included, and the idle ticks together equal the time of the last accepted call."
  pub add-up : all_held (after calls).vcpus + (after calls).removed + (after calls).idle ≡ (after calls).last

-- how an accepted call moves the two totals beside the VCPUs (Budgets has those of a VCPU)
pub record Books (c : Card) (call : Call) (new : Card) : Type 0 where
  pub idle-grows : c.running ≡ none → new.idle ≡ c.idle + (call.now - c.last)
  pub idle-stays : (tunnel : ℕ) → c.running ≡ some tunnel → new.idle ≡ c.idle
  -- the VCPU removed hands over what it held, the charge of this very call included
  pub removed-grows : (v : Vcpu) (ticks : ℕ) → Among v c.vcpus → call.asked ≡ remove v.terms.tunnel → Loses c call.now v ticks
      → new.removed ≡ c.removed + (v.held_total + ticks)
  pub removed-stays : ((tunnel : ℕ) → call.asked ≡ remove tunnel → ⊥) → new.removed ≡ c.removed

-- the stay, ended by a call at `now`
abbrev pub ended_at : ℕ → Stay → Stay
ended_at now s = record { terms = s.terms; from = s.from; until = some now }

-- behind these calls an accepted one removes the tenant: its held total as it stands at its removal is its stay's ticks in the history
pub record Removal (calls : List Call) (call : Call) (tunnel : ℕ) : Type 0 where
  -- the VCPU after the charge and the return of this very call
  pub then : Vcpu
  pub is-there : Among then (after_return (after calls) call.now)
  pub so_named : then.terms.tunnel ≡ tunnel
  -- its stay, which lasted and ends by this call
  pub stay : Stay
  pub lasted : Among stay (stays (heard calls))
  pub lasting : stay.until ≡ none
  pub ended : Among (ended_at call.now stay) (stays (heard (call ∷ calls)))
  pub same-terms : then.terms ≡ stay.terms
  pub its_ticks : then.held_total ≡ held_in (heard (call ∷ calls)) (ended_at call.now stay)
  pub handed-over : (after (call ∷ calls)).removed ≡ (after calls).removed + then.held_total

-- a VCPU, and a card, with whatever other totals
abbrev pub with_others : (Vcpu → ℕ) → (Vcpu → ℕ) → Vcpu → Vcpu
with_others pending held v =
    record {
      terms = v.terms;
      runnable = v.runnable;
      usable = v.usable;
      ended = v.ended;
      pending = v.pending;
      boundary = v.boundary;
      pending_total = pending v;
      held_total = held v;
    }

abbrev pub with_totals : (Vcpu → ℕ) → (Vcpu → ℕ) → ℕ → ℕ → Card → Card
with_totals pending held removed idle c =
    record {
      last = c.last;
      running = c.running;
      timer = c.timer;
      vcpus = map (with_others pending held) c.vcpus;
      remembered = c.remembered;
      removed = removed;
      idle = idle;
    }

-- .. and without any: 0 in the place of each
abbrev pub without_its : Vcpu → Vcpu
without_its v = with_others (λ w. 0) (λ w. 0) v

abbrev pub without_totals : Card → Card
without_totals c = with_totals (λ w. 0) (λ w. 0) 0 0 c

-- cards that differ in totals alone
abbrev pub SameButTotals : Card → Card → Type 0
SameButTotals c d = without_totals c ≡ without_totals d

-- a call gives them equal replies, and leaves them so
pub record Undecided (c d : Card) (call : Call) : Type 0 where
  pub same-reply : (turn c call).reply ≡ (turn d call).reply
  pub same_after : SameButTotals (turn c call).card (turn d call).card

-- the card after any calls on this one, and the replies to them; the newest first
abbrev pub after_these : Card → List Call → Card
after_these c [] = c
after_these c (call ∷ calls) = (turn (after_these c calls) call).card

abbrev pub replies_to : Card → List Call → List Reply
replies_to c [] = []
replies_to c (call ∷ calls) = (turn (after_these c calls) call).reply ∷ replies_to c calls

-- they are no part of any decision: with whatever other totals, any calls get the same replies
abbrev pub NoDecision : Card → Type 0
NoDecision c = (pending held : Vcpu → ℕ) (removed idle : ℕ) → SameButTotals (with_totals pending held removed idle c) c
    × ((calls : List Call) → replies_to (with_totals pending held removed idle c) calls ≡ replies_to c calls)
