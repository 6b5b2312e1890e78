-- After any calls from the empty card, refused ones among them, all is lawful and the card runs the one chosen.
-- Assumes nothing.
use mathlib.Core.Path.{◌≡◌, refl, ◌∙◌, subst}
use mathlib.Core.Bool.{true}
use mathlib.Core.List.{List, [], ◌∷◌}
use mathlib.Core.Option.{Option, none, some}
use Prim.Native.Nat.{ℕ, ◌+◌, ◌-◌, ◌≤◌}
use native.Mathlib.Omega.{arith}
use Rattle.rules.specs.Lists.{count, All}
use Rattle.rules.specs.Vcpu.{Vcpu, named}
use Rattle.rules.specs.Remember.{Remembered, kept}
use Rattle.rules.specs.Card.{Card, empty}
use Rattle.rules.specs.Timer.{timer}
use Rattle.rules.specs.Refuse.{Refusal, refusal}
use Rattle.rules.specs.Turn.{Call, ok, refused, reported, turn, settled, accepted, after_return, after_change, remembered_then}
use Rattle.rules.specs.Turn.{removed_then, idle_then}
use Rattle.rules.specs.History.{after, heard, time, holder, past, ticks, holds}
use Rattle.rules.specs.Stays.{Stay, stays, change_stays}
use Rattle.rules.proofs.Named.{is-named}
use Rattle.rules.proofs.Lists.{all_imp, count_among}
use Rattle.rules.proofs.Accepted.{Passed, passed, Settled, in_time, runs_on_card, own_boundary as by-boundary}
use Rattle.rules.proofs.Lawful.{Lawful}
use Rattle.rules.proofs.Advance.{rows-stepped, advance}
use Rattle.rules.proofs.Changed.{changed}
use Rattle.rules.proofs.Memory.{Memory, memory-later, memory-changed}

pub record Reached (c : Card) (ss : List Stay) (h : List (Option ℕ)) : Type 0 where
  pub settled : Settled c
  pub lawful : Lawful c.last c.vcpus ss h
  pub memory : Memory c.last c.vcpus c.remembered

-- a call that is refused hands the card back, one that is accepted does its five steps

pub card-refused : (c : Card) (call : Call) (r : Refusal) → refusal c call.now call.asked ≡ some r → (turn c call).card ≡ c
unfolding turn
card-refused c call r e = rw e

pub reply-refused : (c : Card) (call : Call) (r : Refusal) → refusal c call.now call.asked ≡ some r → (turn c call).reply ≡ refused r
unfolding turn
reply-refused c call r e = rw e

pub reply-accepted : (c : Card) (call : Call) → refusal c call.now call.asked ≡ none
    → (turn c call).reply ≡ ok (reported c call)
unfolding turn
reply-accepted c call e = rw e

pub card-accepted : (c : Card) (call : Call) → refusal c call.now call.asked ≡ none → (turn c call).card ≡ accepted c call
unfolding turn
card-accepted c call e = rw e

-- after the change, at `now`, choose and timer settle the card
settles : (now : ℕ) (vs : List Vcpu) (rs : List Remembered) (gone idle : ℕ) (ss : List Stay) (h : List (Option ℕ)) → Lawful now vs ss h
    → Memory now vs rs → Reached (settled now vs rs gone idle) ss h
unfolding settled
settles now vs rs gone idle ss h l m = record { settled = record { runs-chosen = refl; timer-set = refl }; lawful = l; memory = m }

-- the history tells the time of the card, and who runs
pub told-by-card : (calls : List Call) → (time (heard calls) ≡ (after calls).last) × (holder (heard calls) ≡ (after calls).running)
told-by-card [] = (refl, refl)
told-by-card (call ∷ calls) = go (refusal (after calls) call.now call.asked) refl (told-by-card calls)
  where
    go : (o : Option Refusal) → refusal (after calls) call.now call.asked ≡ o
        → (time (heard calls) ≡ (after calls).last) × (holder (heard calls) ≡ (after calls).running)
        → (time (heard (call ∷ calls)) ≡ (after (call ∷ calls)).last) × (holder (heard (call ∷ calls)) ≡ (after (call ∷ calls)).running)
    go (some r) e ih = rw (reply-refused (after calls) call r e, card-refused (after calls) call r e) ih
    go none e ih = rw (reply-accepted (after calls) call e, card-accepted (after calls) call e) (refl, refl)

start : Reached empty [] []
unfolding timer
start =
    record {
      settled = record { runs-chosen = refl; timer-set = refl };
      lawful = record {
        sound = tt;
        once = λ t. omega arith;
        few = omega arith;
        long = refl;
        on_the_card = λ t. refl;
        dated = tt;
        paired = tt;
        bounded = tt;
        owned = tt;
      };
      memory = record { apart = λ t. omega arith; few = omega arith; range = tt };
    }

-- an accepted call comes in time and by the boundary of the one that runs, and who runs is on the card
module _ (c : Card) (ss : List Stay) (h : List (Option ℕ)) (r : Reached c ss h) where
  pub pace : (call : Call) → Passed c call.now call.asked
      → All (λ v. holds v.terms.tunnel c.running ≡ true → call.now - c.last ≤ v.usable) c.vcpus
  pace call p =
      all_imp (λ v f q. omega (arith, f q)) c.vcpus (in_time c call.now r.settled r.lawful.once p.not_late)

  pub own_boundary : (call : Call) → Passed c call.now call.asked
      → All (λ v. holds v.terms.tunnel c.running ≡ true → (b : ℕ) → v.boundary ≡ some b → call.now ≤ b) c.vcpus
  own_boundary call p = by-boundary c call.now r.settled r.lawful.once p.not_late

  pub there : (t : ℕ) → c.running ≡ some t → count (named t) c.vcpus ≡ 1
  there t f =
      let v = runs_on_card c r.settled t f in
      omega (arith, r.lawful.once t, count_among (named t) c.vcpus v.0 v.1 (is-named t v.0 v.2))

-- after steps 1 and 2 of an accepted call
pub returned-lawful : (c : Card) (ss : List Stay) (h : List (Option ℕ)) (call : Call) → Reached c ss h
    → Passed c call.now call.asked
    → Lawful call.now (after_return c call.now) ss (ticks (call.now - c.last) c.running h)
returned-lawful c ss h call r p =
    let l : c.last ≤ call.now = p.not-before in
    let n : c.last + (call.now - c.last) ≡ call.now = omega arith in
    subst (λ (k : ℕ). Lawful k (after_return c k) ss (ticks (call.now - c.last) c.running h)) n
    (advance c (call.now - c.last) ss h r.lawful (pace c ss h r call p) (there c ss h r))

next : (c : Card) (ss : List Stay) (h : List (Option ℕ)) (call : Call) → Reached c ss h → refusal c call.now call.asked ≡ none
    → Reached (accepted c call) (change_stays call.now call.asked ss) (ticks (call.now - c.last) c.running h)
next c ss h call r e =
    let p = passed c call.now call.asked e in
    let l = returned-lawful c ss h call r p in
    let a = rows-stepped c call.now (kept call.now c.remembered) call.asked ∙ p.asked_for in
    settles call.now (after_change c call) (remembered_then c call) (removed_then c call) (idle_then c call.now) _ _
    (changed call.now (after_return c call.now) ss (ticks (call.now - c.last) c.running h) l _ call.asked a)
    (memory-changed call.now (after_return c call.now) (kept call.now c.remembered) l.sound
    (memory-later c call.now p.not-before r.memory) call.asked a)

pub reached : (calls : List Call) → Reached (after calls) (stays (heard calls)) (past (heard calls))
unfolding settled
reached [] = start
reached (call ∷ calls) = go (refusal (after calls) call.now call.asked) refl (reached calls)
  where
    go : (o : Option Refusal) → refusal (after calls) call.now call.asked ≡ o
        → Reached (after calls) (stays (heard calls)) (past (heard calls))
        → Reached (after (call ∷ calls)) (stays (heard (call ∷ calls))) (past (heard (call ∷ calls)))
    go (some r) e ih =
        let z : time (heard calls) - time (heard calls) ≡ 0 = omega arith in
        rw (reply-refused (after calls) call r e, card-refused (after calls) call r e, z) ih
    go none e ih =
        rw (reply-accepted (after calls) call e, card-accepted (after calls) call e, (told-by-card calls).0, (told-by-card calls).1)
        (next (after calls) (stays (heard calls)) (past (heard calls)) call ih e)
