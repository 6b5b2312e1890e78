-- What an accepted call passed: none of the rows applied. While a VCPU runs, the timer keeps the ticks held to those usable (row 3).
-- Assumes nothing.
use mathlib.Core.Path.{◌≡◌, refl, ap, sym, ◌∙◌, subst}
use mathlib.Core.Bool.{Bool, true, false, not}
use mathlib.Core.List.{List}
use mathlib.Core.Option.{Option, none, some}
use Prim.Native.Nat.{ℕ, ◌+◌, ◌≤◌, ◌<◌}
use native.Mathlib.Omega.{arith}
use lib.Dec.{leb, ltb, eqb}
use lib.ListN.{length}
use borrow.Author.Tests.{leb-true, leb-false, not-false}
use Rattle.rules.specs.Limits.{largest_time, largest_period, largest_kind, most_vcpus, in_range}
use Rattle.rules.specs.Lists.{count, All, Among}
use Rattle.rules.specs.Vcpu.{Description, Vcpu, named}
use Rattle.rules.specs.Remember.{Remembered, kept, time_of}
use Rattle.rules.specs.Card.{Card, on_card}
use Rattle.rules.specs.Change.{Change}
use Rattle.rules.specs.Choose.{choose, runs}
use Rattle.rules.specs.Timer.{timer}
use Rattle.rules.specs.Refuse.{Refusal, row, above_largest, below_last, is_late, row_late, above24_bits, row_remembered}
use Rattle.rules.specs.Refuse.{admit_rows, call_rows, refusal}
use Rattle.rules.specs.History.{holds}
use Rattle.rules.proofs.Tests.{tests, clash, no-some, and-true}
use Rattle.rules.proofs.Named.{named_itself}
use Rattle.rules.proofs.Lists.{among_all, only_one}
use Rattle.rules.specs.Meaning.{TimerWhile, InRange, OnTheCard}
use Rattle.rules.proofs.Choice.{chosen}
use Rattle.rules.proofs.Timer.{while_running}

pub row-passed : (t : Bool) (number detail : ℕ) (below : Option Refusal) → row t number detail below ≡ none → (t ≡ false) × (below ≡ none)
row-passed true number detail below e = no-some (sym e)
row-passed false number detail below e = (refl, e)

remembered-passed : (o : Option ℕ) (below : Option Refusal) → row_remembered o below ≡ none → (o ≡ none) × (below ≡ none)
remembered-passed none below e = (refl, e)
remembered-passed (some time) below e = no-some (sym e)

pub record Passed (c : Card) (now : ℕ) (asked : Change) : Type 0 where
  pub not-above : now ≤ largest_time
  pub not-before : c.last ≤ now
  pub not_late : (t : ℕ) → c.timer ≡ some t → now ≤ t
  pub asked_for : call_rows c.vcpus (kept now c.remembered) asked ≡ none

pub passed : (c : Card) (now : ℕ) (asked : Change) → refusal c now asked ≡ none → Passed c now asked
unfolding refusal
passed c now asked e =
    let a = row-passed (above_largest now) 1 0 _ e in
    let b = row-passed (below_last c.last now) 2 0 _ a.1 in
    let l = late c.timer (call_rows c.vcpus (kept now c.remembered) asked) b.1 in
    record {
      not-above = omega (arith, tests, a.0);
      not-before = omega (arith, tests, b.0);
      not_late = l.0;
      asked_for = l.1;
    }
  where
    late : (o : Option ℕ) (below : Option Refusal) → row_late o now below ≡ none → ((t : ℕ) → o ≡ some t → now ≤ t) × (below ≡ none)
    late none below f = (λ t g. no-some g, f)
    late (some u) below f =
        let p = row-passed (is_late u now) 3 u below f in
        (λ t g. let q : u ≡ t = cc in omega (arith, tests), p.1)

-- "period 1 to 1,000,000"
pub range-says : (period : ℕ) → in_range period ≡ true → (1 ≤ period) × (period ≤ largest_period)
range-says period e =
    let h = and-true (leb 1 period) (leb period largest_period) e in
    (leb-true 1 period h.0, leb-true period largest_period h.1)

pub record Admits (vs : List Vcpu) (rs : List Remembered) (d : Description) : Type 0 where
  pub range : InRange d
  pub not_there : on_card d.tunnel vs ≡ false
  pub not-remembered : time_of d.tunnel rs ≡ none
  pub room : length vs + length rs < most_vcpus

pub admits : (vs : List Vcpu) (rs : List Remembered) (d : Description) → admit_rows vs rs d ≡ none → Admits vs rs d
admits vs rs d e =
    let a = row-passed (above24_bits d.tunnel) 4 0 _ e in
    let b = row-passed (not (in_range d.period)) 5 0 _ a.1 in
    let l = row-passed (eqb d.capacity 0) 11 0 _ b.1 in
    let h = row-passed (ltb d.period d.capacity) 12 0 _ l.1 in
    let k = row-passed (ltb largest_kind d.kind) 10 0 _ h.1 in
    let f = row-passed (on_card d.tunnel vs) 6 0 _ k.1 in
    let m = remembered-passed (time_of d.tunnel rs) _ f.1 in
    let g = row-passed (leb most_vcpus (length vs + length rs)) 8 0 _ m.1 in
    let r = range-says d.period (not-false (in_range d.period) b.0) in
    record {
      range = record {
        tunnel-high = omega (arith, tests, a.0);
        period-low = r.0;
        period-high = r.1;
        capacity-low = omega (arith, tests, l.0);
        capacity-high = omega (arith, tests, h.0);
        kind-high = omega (arith, tests, k.0);
      };
      not_there = f.0;
      not-remembered = m.0;
      room = leb-false most_vcpus (length vs + length rs) g.0;
    }

-- the card runs the one chosen, and has its timer
pub record Settled (c : Card) : Type 0 where
  pub runs-chosen : c.running ≡ runs (choose c.vcpus)
  pub timer-set : c.timer ≡ timer c.last c.vcpus (choose c.vcpus)

-- the VCPU that runs has the card's timer
its_timer : (c : Card) → Settled c → ((t : ℕ) → count (named t) c.vcpus ≤ 1) → (v : Vcpu) → Among v c.vcpus
    → holds v.terms.tunnel c.running ≡ true → (t : ℕ) × (c.timer ≡ some t) × TimerWhile c.last c.vcpus v t
its_timer c s once v m h = go (choose c.vcpus) refl (rw s.runs-chosen at h)
  where
    go : (o : Option Vcpu) → choose c.vcpus ≡ o → holds v.terms.tunnel (runs o) ≡ true
        → (t : ℕ) × (c.timer ≡ some t) × TimerWhile c.last c.vcpus v t
    go none e h = clash (sym h)
    go (some w) e h =
        let f = chosen c.vcpus w e in
        let r = while_running c.last c.vcpus w in
        let q : v ≡ w = only_one (named w.terms.tunnel) c.vcpus (once w.terms.tunnel) v w m f.on_the_card h (named_itself w) in
        let t : c.timer ≡ some r.0 = s.timer-set ∙ ap (timer c.last c.vcpus) e ∙ r.1 in
        (r.0, t, subst (λ (x : Vcpu). TimerWhile c.last c.vcpus x r.0) (sym q) r.2)

-- "while a VCPU runs, the timer is at most `last` + its usable ticks": an accepted call comes in time
pub in_time : (c : Card) (now : ℕ) → Settled c → ((t : ℕ) → count (named t) c.vcpus ≤ 1) → ((t : ℕ) → c.timer ≡ some t → now ≤ t)
    → All (λ v. holds v.terms.tunnel c.running ≡ true → now ≤ c.last + v.usable) c.vcpus
in_time c now s once late =
    among_all _ c.vcpus (λ v m h. let r = its_timer c s once v m h in omega (arith, late r.0 r.1, r.2.in_time))

-- .. and at or before the next boundary of the VCPU that runs
pub own_boundary : (c : Card) (now : ℕ) → Settled c → ((t : ℕ) → count (named t) c.vcpus ≤ 1)
    → ((t : ℕ) → c.timer ≡ some t → now ≤ t)
    → All (λ v. holds v.terms.tunnel c.running ≡ true → (b : ℕ) → v.boundary ≡ some b → now ≤ b) c.vcpus
own_boundary c now s once late =
    among_all _ c.vcpus (λ v m h b e. let r = its_timer c s once v m h in omega (arith, late r.0 r.1, r.2.before_own b e))

-- nobody runs who is not on the card
pub runs_on_card : (c : Card) → Settled c → (t : ℕ) → c.running ≡ some t → OnTheCard c.vcpus t
runs_on_card c s t e = go (choose c.vcpus) refl (sym s.runs-chosen ∙ e)
  where
    go : (o : Option Vcpu) → choose c.vcpus ≡ o → runs o ≡ some t → OnTheCard c.vcpus t
    go none f g = no-some g
    go (some w) f g = (w, (chosen c.vcpus w f).on_the_card, (cc))
