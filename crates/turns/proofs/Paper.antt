-- Each reply and its number and values on paper are one another's: nothing is said twice, and nothing is lost. So what the calls, the
-- look and the status promise on paper fixes the whole answer. Assumes nothing.
use Prim.Native.Nat.{ℕ}
use mathlib.Core.Path.{◌≡◌, refl, ap, sym, ◌∙◌}
use mathlib.Core.Option.{Option, none, some}
use Rattle.std.specs.Prelude.{Option as Opt, Some, None, Result, Ok, Err}
use Rattle.units.specs.declared.Moment.{Moment}
use Rattle.units.specs.declared.Tunnel.{Tunnel}
use Rattle.units.specs.Units.{moment, amount, total}
use Rattle.rules.specs.Card.{Card}
use Rattle.rules.specs.Refuse.{refusal}
use Rattle.rules.specs.Refuse.{Refusal as Row}
use Rattle.rules.specs.Turn.{Report as ReportRule}
use Rattle.rules.specs.Turn.{Call, ok, refused, turn, answered, reported}
use Rattle.rules.proofs.Tests.{clash, no-some}
use Rattle.turns.specs.declared.Refusal.{Refusal}
use Rattle.turns.specs.declared.Refusal.TheVariants.{BadTime, BeforeLast, PastTimer, BadTunnel, BadPeriod}
use Rattle.turns.specs.declared.Refusal.TheVariants.{NotOnCard, Full, BadKind, NoCapacity, CapacityAbovePeriod}
use Rattle.turns.specs.declared.Refusal.TheVariants.{OnCard as IsOnCard, Remembered as IsRemembered}
use Rattle.turns.specs.declared.Report.{Report}
use Rattle.turns.specs.declared.Answer.{Answer}
use Rattle.turns.specs.declared.Change.{Change}
use Rattle.turns.specs.declared.Look.{Look}
use Rattle.turns.specs.declared.Presence.{Presence}
use Rattle.turns.specs.declared.Presence.TheVariants.{OnCard, Remembered, Absent}
use Rattle.turns.specs.declared.Status.{Status}
use Rattle.turns.specs.declared.Vcpu.{Vcpu}
use Rattle.turns.specs.Written.{number_in, moment_in, number_said, moment_said}
use Rattle.turns.specs.Calls.{call_of, paper_presence, paper_refusal, paper_remembered, paper_reply}
use Rattle.turns.specs.Calls.{refusal_said, report_said, reply_said, turned}
use Rattle.turns.proofs.Rows.{Regular, regular}

numbers-again : (o : Opt Tunnel) → number_said (number_in o) ≡ o
numbers-again None = refl
numbers-again (Some t) = refl

moments-again : (o : Opt Moment) → moment_said (moment_in o) ≡ o
moments-again None = refl
moments-again (Some m) = refl

numbers-back : (o : Option ℕ) → number_in (number_said o) ≡ o
numbers-back none = refl
numbers-back (some t) = refl

moments-back : (o : Option ℕ) → moment_in (moment_said o) ≡ o
moments-back none = refl
moments-back (some t) = refl

-- what is said of an accepted call has the paper's number and values
pub report-paper : (r : ReportRule) → paper_reply (Ok (report_said r)) ≡ ok r
report-paper r =
    ap ok (same (number_in (number_said r.run)) r.run (moment_in (moment_said r.timer)) r.timer
    (numbers-back r.run) (moments-back r.timer))
  where
    same : (a a' b b' : Option ℕ) → a ≡ a' → b ≡ b'
        → ◌≡◌ {A = ReportRule} (record { time = r.time; run = a; usable = r.usable; timer = b; brought = r.brought })
        (record { time = r.time; run = a'; usable = r.usable; timer = b'; brought = r.brought })
    same a a' b b' p q = rw (p, q)

-- .. and of any call
pub paper-said : (k : Card) (call : Call) → paper_reply (reply_said (turn k call).reply) ≡ (turn k call).reply
unfolding turn
paper-said k call = go (refusal k call.now call.asked) (regular k call.now call.asked)
  where
    go : (o : Option Row) → Regular o → paper_reply (reply_said (answered k call o).reply) ≡ (answered k call o).reply
    go none h = report-paper (reported k call)
    go (some r) h = ap refused h

refusals-again : (x : Refusal) → refusal_said (paper_refusal x) ≡ x
refusals-again BadTime = refl
refusals-again BeforeLast = refl
refusals-again (PastTimer t) = refl
refusals-again BadTunnel = refl
refusals-again BadPeriod = refl
refusals-again IsOnCard = refl
refusals-again NotOnCard = refl
refusals-again Full = refl
refusals-again (IsRemembered t) = refl
refusals-again BadKind = refl
refusals-again NoCapacity = refl
refusals-again CapacityAbovePeriod = refl

-- and what is on paper is said again
pub said-paper : (r : Result Report Refusal) → reply_said (paper_reply r) ≡ r
said-paper (Ok r) =
    ap Ok (same (number_said (number_in r.run)) r.run (moment_said (moment_in r.timer)) r.timer
    (numbers-again r.run) (moments-again r.timer))
  where
    same : (a a' : Opt Tunnel) (b b' : Opt Moment) → a ≡ a' → b ≡ b'
        → ◌≡◌ {A = Report}
        (record { time = moment r.time.0; run = a; usable = amount r.usable.0; timer = b; brought = amount r.brought.0 })
        (record { time = r.time; run = a'; usable = r.usable; timer = b'; brought = r.brought })
    same a a' b b' p q = rw (p, q)
said-paper (Err x) = ap Err (refusals-again x)

-- what a call promises fixes its whole reply, and its whole answer
pub whole-reply : (c : Card) (now : Moment) (change : Change) (a b : Result Report Refusal)
    → paper_reply a ≡ (turn c (call_of now change)).reply → paper_reply b ≡ (turn c (call_of now change)).reply → a ≡ b
whole-reply c now change a b p q = sym (said-paper a) ∙ ap reply_said (p ∙ sym q) ∙ said-paper b

pub whole-answer : (c : Card) (now : Moment) (change : Change) (a : Answer)
    → paper_reply a.reply ≡ (turn c (call_of now change)).reply
    → a.core ≡ (turn c (call_of now change)).card
    → a ≡ turned c now change
unfolding turned
whole-answer c now change a p q = same a.core _ a.reply _ q (sym (said-paper a.reply) ∙ ap reply_said p)
  where
    same : (k k' : Card) (r r' : Result Report Refusal) → k ≡ k' → r ≡ r'
        → ◌≡◌ {A = Answer} (record { core = k; reply = r }) (record { core = k'; reply = r' })
    same k k' r r' p q = rw (p, q)

-- and what the status promises, the whole status
pub same_status : (a b : Status) → a.time.0 ≡ b.time.0 → number_in a.run ≡ number_in b.run
    → moment_in a.timer ≡ moment_in b.timer → a.vcpus ≡ b.vcpus → a.remembered ≡ b.remembered
    → a.removed.0 ≡ b.removed.0 → a.idle.0 ≡ b.idle.0 → a ≡ b
same_status a b t h s n m g i =
    same a.time.0 b.time.0 a.run b.run a.timer b.timer a.vcpus b.vcpus a.remembered b.remembered
    a.removed.0 b.removed.0 a.idle.0 b.idle.0 t
    (sym (numbers-again a.run) ∙ ap number_said h ∙ numbers-again b.run)
    (sym (moments-again a.timer) ∙ ap moment_said s ∙ moments-again b.timer) n m g i
  where
    status : ℕ → Opt Tunnel → Opt Moment → ℕ → ℕ → ℕ → ℕ → Status
    status t h s n m g i =
        record { time = moment t; run = h; timer = s; vcpus = n; remembered = m; removed = total g; idle = total i }

    same : (t t' : ℕ) (h h' : Opt Tunnel) (s s' : Opt Moment) (n n' m m' g g' i i' : ℕ) → t ≡ t' → h ≡ h' → s ≡ s' → n ≡ n' → m ≡ m'
        → g ≡ g' → i ≡ i' → status t h s n m g i ≡ status t' h' s' n' m' g' i'
    same t t' h h' s s' n n' m m' g g' i i' p q v w x y z = rw (p, q, v, w, x, y, z)

-- what a look promises, the whole look
same_presence : (a b : Presence) → paper_presence a ≡ paper_presence b → paper_remembered a ≡ paper_remembered b → a ≡ b
same_presence OnCard OnCard e f = refl
same_presence OnCard (Remembered n) e f = clash e
same_presence OnCard Absent e f = clash e
same_presence (Remembered m) OnCard e f = clash (sym e)
same_presence (Remembered m) (Remembered n) e f = let g : m.0 ≡ n.0 = cc in ap (λ (t : ℕ). Remembered (moment t)) g
same_presence (Remembered m) Absent e f = no-some (sym f)
same_presence Absent OnCard e f = clash (sym e)
same_presence Absent (Remembered n) e f = no-some f
same_presence Absent Absent e f = refl

pub same_look : (a b : Look) → paper_presence a.presence ≡ paper_presence b.presence
    → paper_remembered a.presence ≡ paper_remembered b.presence → a.vcpu ≡ b.vcpu
    → moment_in a.boundary ≡ moment_in b.boundary → a ≡ b
same_look a b p m q r =
    same a.presence b.presence a.vcpu b.vcpu a.boundary b.boundary
    (same_presence a.presence b.presence p m) q (sym (moments-again a.boundary) ∙ ap moment_said r ∙ moments-again b.boundary)
  where
    same : (x x' : Presence) (v v' : Vcpu) (n n' : Opt Moment) → x ≡ x' → v ≡ v' → n ≡ n'
        → ◌≡◌ {A = Look} (record { presence = x; vcpu = v; boundary = n }) (record { presence = x'; vcpu = v'; boundary = n' })
    same x x' v v' n n' p q r = rw (p, q, r)

-- what a search for an identifier promises, the whole answer
pub same-found : (a b : Opt Tunnel) → number_in a ≡ number_in b → a ≡ b
same-found a b e = sym (numbers-again a) ∙ ap number_said e ∙ numbers-again b
