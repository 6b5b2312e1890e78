-- One call on a core, from its verdict to what is left in the fields: a refused one is refused by the rules' row, and an accepted one goes
-- through the five steps, each on what the one before it left. Assumes nothing.
use Prim.Native.Nat.{ℕ, ◌≤◌}
use mathlib.Core.Path.{◌≡◌, refl, ap, sym, ◌∙◌, subst}
use mathlib.Core.List.{List}
use mathlib.Core.Option.{Option, none}
use native.Mathlib.Omega.{arith}
use lib.ListN.{length, take}
use Rattle.std.specs.Prelude.{Option as Opt, Ok, Err}
use Rattle.units.specs.Units.{moment, amount}
use Rattle.units.specs.declared.Moment.{Moment}
use Rattle.rules.specs.Lists.{count}
use Rattle.rules.specs.Vcpu.{named}
use Rattle.rules.specs.Vcpu.{Vcpu as Tenant}
use Rattle.rules.specs.Remember.{Remembered, kept}
use Rattle.rules.specs.Card.{Card}
use Rattle.rules.specs.Choose.{choose}
use Rattle.rules.specs.Refuse.{refusal}
use Rattle.rules.specs.Told.{tell}
use Rattle.rules.specs.Told.{total as totalTold}
use Rattle.rules.specs.Turn.{Call, turn, answered, accepted, refused, ok, after_charge, after_return, after_change, remembered_then}
use Rattle.rules.specs.Turn.{removed_then, idle_then, told_by, reported}
use Rattle.rules.proofs.Accepted.{Passed, passed}
use Rattle.rules.proofs.Brought.{once-charged}
use Rattle.rules.proofs.Lists.{all_imp}
use Rattle.rules.proofs.Told.{told-next}
use Rattle.turns.specs.declared.Change.{Change}
use Rattle.turns.specs.declared.Core.TheInside.{Inside}
use Rattle.turns.specs.declared.Pick.{Pick}
use Rattle.turns.specs.declared.Refusal.{Refusal}
use Rattle.turns.specs.declared.Report.{Report}
use Rattle.turns.specs.declared.Roster.{Roster}
use Rattle.turns.specs.Laid.{laid}
use Rattle.turns.specs.Written.{never, card, core_of, memories, memory_of, tenants_in, ids_of, timer_of, number_in, moment_in}
use Rattle.turns.specs.Calls.{asked, call_of, paper_refusal, paper_reply}
use Rattle.turns.specs.State.{IsCore}
use Rattle.turns.specs.Places.{on_table, named_at}
use Rattle.turns.specs.Judge.{judge, passes}
use Rattle.turns.specs.Tenants.{charged_table, ChargesAt, idled_of, Returns, returned_table, times_then, Changeable, changed_table}
use Rattle.turns.specs.Tenants.{changed_times, head_then, picks, nobody_ready, IsPlace, holder_of, timer_for}
use Rattle.turns.proofs.Choose.{pick_for}
use Rattle.turns.proofs.Heard.{said_of, heard-returned}
use Rattle.turns.proofs.Invariant.{Between, SoundCore, between, means}
use Rattle.turns.proofs.Made.{next-between, one_more, sound}
use Rattle.turns.proofs.Paper.{report-paper}
use Rattle.turns.proofs.Settle.{core-found, found-place, pick-found, report-found}
use Rattle.turns.proofs.Shape.{FilledBy, Stepped, change-filled, changeable}
use Rattle.turns.proofs.Stage.{Stands, accepted-call, charge-asks, charge-stands, held-there, idle-is, kept-few, last-is, memories_are}
use Rattle.turns.proofs.Stage.{n-is, named-card, refused-call, removed-is, returned-sound}
use Rattle.turns.proofs.Sweep.{returned-filled, returns}

module _ (c : Inside) (v : IsCore c) (now : Moment) (change : Change) (at : Opt ℕ) (a : at ≡ on_table (named_at c.table.ids change)) where
  abbrev k : Card
  k = card c

  abbrev call : Call
  call = call_of now change

  r : SoundCore c
  r = sound c v

  -- a refused call
  pub refused-turn : (x : Refusal) → Err x ≡ judge c.last c.timer at c.table now change
      → turn (card c) (call_of now change) ≡ record { reply = refused (paper_refusal x); card = card c }
  unfolding turn
  refused-turn x e = ap (answered k call) (refused-call c now change r at a (Err x) e x refl)

  -- an accepted one
  module _ (u : passes ≡ judge c.last c.timer at c.table now change) where
    accept : refusal k now.0 (asked change) ≡ none
    accept = accepted-call c now change r at a passes u refl

    turn-accepted : turn k call ≡ record { reply = ok (reported k call); card = accepted k call }
    unfolding turn
    turn-accepted = ap (answered k call) accept

    meets : Passed k now.0 (asked change)
    meets = passed k now.0 (asked change) accept

    pub not-before : c.last.0 ≤ now.0
    not-before = subst (λ (l : Moment). l.0 ≤ now.0) (sym (last-is c r)) meets.not-before

    pub charges : ChargesAt c.running c.last now c.table
    charges = charge-asks c r now change meets

    -- the tables that the steps leave, and the times reported
    abbrev charged : Roster
    charged = charged_table c.running c.last now c.table

    abbrev recalled : Roster
    recalled =
        record {
          places = charged.places;
          ids = charged.ids;
          memory = memory_of (kept now.0 (memories charged.memory));
          removed = charged.removed;
          n = charged.n;
        }

    abbrev returned : Roster
    returned = returned_table now recalled

    abbrev changed : Roster
    changed = changed_table now change at returned

    abbrev times : List Moment
    times = changed_times change at returned (times_then now recalled)

    -- 1. Charge
    abbrev vs₁ : List Tenant
    vs₁ = after_charge k now.0

    stood : Stands charged.places charged.ids charged.n vs₁
    stood = charge-stands c r now change meets

    few : length vs₁ ≤ 32
    few = omega (arith, stood.filled.count, n-is c r, (between c r).few)

    returns-there : (tenants_in recalled ≡ vs₁) × Returns now recalled
    returns-there = returns now recalled vs₁ meets.not-above few stood.filled stood.fits

    pub to-return : Returns now recalled
    to-return = returns-there.1

    -- 2. Return
    once : (t : ℕ) → count (named t) vs₁ ≤ 1
    once = once-charged k now.0 (means c r).once

    stepped : Stepped k now.0
    stepped =
        record {
          listed = record { few = (between c r).few; distinct = (between c r).distinct };
          few = kept-few c r now.0;
          time = meets.not-above;
          sound = returned-sound c r now change meets;
          within = held-there c r now change meets;
        }

    after-return : FilledBy returned (times_then now recalled) (after_return k now.0) (kept now.0 k.remembered) (told_by k now.0) k.removed
    after-return =
        record {
          table = returned-filled now.0 charged.ids charged.n charged.places vs₁ (tenants_in recalled) returns-there.0 stood.filled;
          memory = ap (λ (rs : List Remembered). memory_of (kept now.0 rs)) (memories_are c r);
          removed = removed-is c r;
          times =
              ap (laid 32 (head_then now.0) (moment never)) returns-there.0
              ∙ heard-returned now.0 vs₁ meets.not-above once stepped.sound;
        }

    -- 3. Change
    abbrev vs : List Tenant
    vs = after_change k call

    at-named : at ≡ on_table (named_at (ids_of k.vcpus) change)
    at-named = named-card c now change r at a

    pub to-change : Changeable now change at returned (times_then now recalled)
    to-change = changeable k now stepped returned (times_then now recalled) after-return change at at-named meets.asked_for

    after : FilledBy changed times vs (remembered_then k call) (told_by k now.0) (removed_then k call)
    after = change-filled k now stepped returned (times_then now recalled) after-return change at at-named meets.asked_for

    settles : Between now.0 vs
    settles = next-between k (record { calls = r.calls; shows = r.shows; ranked = r.ranked }) now change accept

    pub to-choose : changed.n ≤ 32
    to-choose = omega (arith, after.table.count, settles.few)

    -- 4. Choose
    abbrev pick : Pick
    pick = picks nobody_ready 0 (take changed.n changed.places) (take changed.n times)

    picked-there : pick ≡ pick_for never 0 vs (choose vs)
    picked-there =
        pick-found now.0 vs meets.not-above settles changed.places changed.ids changed.n after.table (said_of (told_by k now.0)) times
        after.times
        (all_imp (λ w h s. ap (λ (o : Option ℕ). moment (timer_of o)) (h s)) vs (told-next now.0 vs₁ (asked change) once))

    pub to-name : IsPlace pick.at
    to-name = subst (λ (p : Pick). IsPlace p.at) (sym picked-there) (found-place now.0 vs meets.not-above settles)

    -- 5. Timer, and what is left
    abbrev left : Inside
    left =
        record {
          table = changed;
          last = now;
          timer = timer_for now pick;
          running = pick.at;
          idle = idled_of c.idle c.running c.last now;
        }

    left-written : left ≡ core_of (turn k call).card
    left-written =
        core-found now vs meets.not-above settles changed after.table (remembered_then k call) after.memory (removed_then k call)
        after.removed (idled_of c.idle c.running c.last now) (idle_then k now.0) (idle-is c r now change meets) pick picked-there
        ∙ ap (λ x. core_of x.card) (sym turn-accepted)

    pub left-shows : (card left ≡ (turn k call).card) × IsCore left
    left-shows = one_more c v now change left left-written

    pub replies :
        ok (record {
          time = now.0;
          run = number_in (holder_of changed.ids pick.at);
          usable = pick.usable.0;
          timer = moment_in (timer_for now pick);
          brought = totalTold (tell now.0 (tenants_in recalled));
        })
        ≡ (turn k call).reply
    replies =
        ap (λ (n : ℕ). paper_reply (Ok (told n))) (ap (λ (l : List Tenant). totalTold (tell now.0 l)) returns-there.0)
        ∙ ap (λ (x : Report). paper_reply (Ok x)) (sym (report-found now vs meets.not-above settles changed.ids after.table.tunnels
        (remembered_then k call) (removed_then k call) (idle_then k now.0) pick picked-there (totalTold (told_by k now.0))))
        ∙ report-paper (reported k call)
        ∙ ap (λ x. x.reply) (sym turn-accepted)
      where
        told : ℕ → Report
        told n = record { time = now; run = holder_of changed.ids pick.at; usable = pick.usable; timer = timer_for now pick; brought = amount n }
