-- An accepted call on the written table: the verdict is the rules', and the table after the charge is the rules' list written, whose
-- numbers fit. Assumes nothing.
use Prim.Native.Nat.{ℕ, zero, suc, ◌+◌, ◌-◌, ◌≤◌, ◌<◌}
use mathlib.Core.Path.{◌≡◌, refl, ap, sym, ◌∙◌, subst}
use mathlib.Core.Bool.{Bool, true, false, cond}
use mathlib.Core.List.{List, [], ◌∷◌}
use mathlib.Core.Option.{Option, none, some}
use native.Mathlib.Omega.{arith}
use lib.Dec.{eqb}
use lib.ListN.{length, get_or, set, length-set}
use lib.Seq.{set-get_or}
use borrow.Author.Tests.{eq-eqb, ne_eqb}
use Rattle.units.specs.Units.{moment, amount, total, tunnel}
use Rattle.units.specs.declared.Moment.{Moment}
use Rattle.units.specs.declared.Total.{Total}
use Rattle.units.specs.declared.Tunnel.{Tunnel}
use Rattle.rules.specs.Lists.{keep, sum, All}
use Rattle.rules.specs.Vcpu.{Description, Entry, more_urgent}
use Rattle.rules.specs.Vcpu.{Vcpu as Tenant}
use Rattle.rules.specs.Charge.{charged, charge}
use Rattle.rules.specs.Choose.{ready, better, most_urgent, choose, runs}
use Rattle.rules.specs.Card.{Card}
use Rattle.rules.specs.Turn.{after_charge, after_return, idle_then}
use Rattle.rules.specs.Accounts.{all_held}
use Rattle.rules.specs.Ledger.{idled}
use Rattle.rules.proofs.Accounts.{held-within, idle-within}
use Rattle.rules.specs.History.{holds as isHeldBy}
use Rattle.rules.proofs.Tests.{no-some}
use Rattle.rules.proofs.Lists.{all_imp, length-keep}
use Rattle.rules.proofs.Sound.{Sound, kept-charged}
use Rattle.rules.proofs.Advance.{terms-charged}
use Rattle.rules.proofs.Accepted.{Passed, in_time}
use Rattle.rules.proofs.Reached.{returned-lawful}
use Rattle.turns.specs.declared.Vcpu.{Vcpu}
use Rattle.turns.specs.declared.Core.TheInside.{Inside}
use Rattle.turns.specs.declared.Change.{Change}
use Rattle.turns.specs.Laid.{laid}
use Rattle.turns.specs.Written.{nobody, amount_of, tunnel_of, written, no_tenant, card, core_of, place, place_of}
use Rattle.turns.specs.Written.{tenants, memories, memory_of}
use Rattle.turns.proofs.Invariant.{Distinct, terms_of, SoundCore, between, card-reached, held-most, means, kept-fits}
use Rattle.turns.specs.Steps.{charged_of, Chargeable}
use Rattle.turns.proofs.Laid.{laid-get, laid-set}
use Rattle.turns.proofs.Written.{tenants-laid}
use Rattle.turns.proofs.Places.{named_set}
use Rattle.turns.proofs.Charge.{charged-same}
use Rattle.turns.proofs.Ranked.{all-get, all_set}
use Rattle.turns.proofs.Remembered.{memory-fixed}
use Rattle.turns.proofs.Rows.{verdict_of, judge-same, Regular, regular}
use Rattle.rules.specs.Remember.{is_kept, kept}
use Rattle.rules.specs.Refuse.{refusal}
use Rattle.rules.specs.Refuse.{Refusal as Row}
use Rattle.turns.specs.declared.Refusal.{Refusal}
use Rattle.std.specs.Prelude.{Option as Opt, Some, None, Err}
use Rattle.turns.specs.Places.{on_table, named_at}
use Rattle.turns.specs.Remembered.{Fixed, Judges}
use Rattle.turns.specs.Judge.{Verdict, passes, judge}
use Rattle.turns.specs.Calls.{asked, call_of, paper_refusal, refusal_said}
use Rattle.turns.specs.Written.{moment_said, ids_of, places_of}
use Rattle.turns.specs.Tenants.{Fits, Filled, Shows, ChargesAt, charged_places, idled_of, IsPlace}

pub filled-tenants : (p : List Vcpu) (ids : List Tunnel) (n : ℕ) (vs : List Tenant) → length vs ≤ 32
    → All Shows vs
    → Filled p ids n vs → tenants n ids p ≡ vs
filled-tenants p ids n vs few each f =
    rw (f.places, f.tunnels, f.count) (tenants-laid (tunnel nobody) (written no_tenant) 32 vs few each)

pub all_show : (vs : List Tenant) → All Fits vs → All Shows vs
all_show vs r = all_imp (λ v g. g.shows) vs r

pub all_fit : (last : ℕ) (vs : List Tenant) → All (Sound last) vs → All Fits vs
all_fit last vs h = all_imp (λ v g. kept-fits (suc last) (last + v.terms.period) last v g) vs h

-- setting a tenant under its own identifier
pub filled-set : (p : List Vcpu) (ids : List Tunnel) (n i : ℕ) (x : Tenant) (vs : List Tenant) → i < length vs → length vs ≤ 32
    → x.terms.tunnel ≡ (get_or vs i no_tenant).terms.tunnel → Filled p ids n vs → Filled (set p i (written x)) ids n (set vs i x)
filled-set p ids n i x vs h few e f =
    record {
      places = ap (λ (q : List Vcpu). set q i (written x)) f.places ∙ laid-set written (written no_tenant) 32 vs i x h few;
      tunnels =
          f.tunnels
          ∙ sym (set-get_or (ids_of vs) i (tunnel nobody))
          ∙ ap (set (ids_of vs) i) (laid-get tunnel_of (tunnel nobody) 32 vs i no_tenant (tunnel nobody) h few ∙ ap tunnel (sym e))
          ∙ laid-set tunnel_of (tunnel nobody) 32 vs i x h few;
      count = f.count ∙ sym (length-set vs i x);
    }

-- the one chosen stands at its place
pub record At (w : Tenant) (vs : List Tenant) : Type 0 where
  pub inside : place w.terms.tunnel vs < length vs
  pub is : get_or vs (place w.terms.tunnel vs) no_tenant ≡ w

at_first : (v : Tenant) (vs : List Tenant) → At v (v ∷ vs)
at_first v vs =
    let e : eqb v.terms.tunnel v.terms.tunnel ≡ true = eq-eqb v.terms.tunnel v.terms.tunnel refl in
    record { inside = rw e (omega arith); is = rw e }

at-later : (w v : Tenant) (vs : List Tenant) → (w.terms.tunnel ≡ v.terms.tunnel → ⊥) → At w vs → At w (v ∷ vs)
at-later w v vs n a =
    let e : eqb v.terms.tunnel w.terms.tunnel ≡ false = ne_eqb v.terms.tunnel w.terms.tunnel (λ f. n (sym f)) in
    record { inside = rw e (omega (arith, a.inside)); is = rw e a.is }

apart-at : (v w : Tenant) (vs : List Tenant) → All (λ e. e.tunnel ≡ v.terms.tunnel → ⊥) (terms_of vs) → At w vs
    → w.terms.tunnel ≡ v.terms.tunnel → ⊥
apart-at v w vs h a e = get vs (place w.terms.tunnel vs) h a.inside (ap (λ (x : Tenant). x.terms.tunnel) a.is ∙ e)
  where
    get : (l : List Tenant) (i : ℕ) → All (λ d. d.tunnel ≡ v.terms.tunnel → ⊥) (terms_of l) → i < length l
        → (get_or l i no_tenant).terms.tunnel ≡ v.terms.tunnel → ⊥
    get [] i g j = absurd (omega arith)
    get (x ∷ l) zero g j = g.0
    get (x ∷ l) (suc i) g j = get l i g.1 (omega arith)

pub chosen_at : (test : Tenant → Bool) (vs : List Tenant) (w : Tenant) → Distinct (terms_of vs) → most_urgent (keep test vs) ≡ some w
    → At w vs
chosen_at test [] w d e = no-some e
chosen_at test (v ∷ vs) w d e = go (test v) e (λ u. chosen_at test vs u d.1)
  where
    further : (u : Tenant) → At u vs → At u (v ∷ vs)
    further u a = at-later u v vs (apart-at v u vs d.0 a) a

    pick : (t : Bool) (u : Tenant) → cond t u v ≡ w → At u vs → At w (v ∷ vs)
    pick true u f a = subst (λ (x : Tenant). At x (v ∷ vs)) f (further u a)
    pick false u f a = subst (λ (x : Tenant). At x (v ∷ vs)) f (at_first v vs)

    inner : (o : Option Tenant) → ((u : Tenant) → o ≡ some u → At u vs) → some (better v o) ≡ some w → At w (v ∷ vs)
    inner none rec f = let g : v ≡ w = cc in subst (λ (x : Tenant). At x (v ∷ vs)) g (at_first v vs)
    inner (some u) rec f = let g : cond (more_urgent u.terms v.terms) u v ≡ w = cc in
        pick (more_urgent u.terms v.terms) u g (rec u refl)

    go : (b : Bool) → most_urgent (cond b (v ∷ keep test vs) (keep test vs)) ≡ some w
        → ((u : Tenant) → most_urgent (keep test vs) ≡ some u → At u vs)
        → At w (v ∷ vs)
    go true f rec = inner (most_urgent (keep test vs)) rec f
    go false f rec = further w (rec w f)

-- what the fields of a valid core are
module _ (c : Inside) (r : SoundCore c) where
  pub places_are : c.table.places ≡ places_of (card c).vcpus
  unfolding core_of
  places_are = ap (λ (d : Inside). d.table.places) r.written

  pub ids_are : c.table.ids ≡ ids_of (card c).vcpus
  unfolding core_of
  ids_are = ap (λ (d : Inside). d.table.ids) r.written

  pub n-is : c.table.n ≡ length (card c).vcpus
  unfolding core_of
  n-is = ap (λ (d : Inside). d.table.n) r.written

  pub last-is : c.last ≡ moment (card c).last
  unfolding core_of
  last-is = ap (λ (d : Inside). d.last) r.written

  timer-is : c.timer ≡ moment_said (card c).timer
  unfolding core_of
  timer-is = ap (λ (d : Inside). d.timer) r.written

  pub memory-is : c.table.memory ≡ memory_of (card c).remembered
  unfolding core_of
  memory-is = ap (λ (d : Inside). d.table.memory) r.written

  -- it shows them
  pub memories_are : memories c.table.memory ≡ (card c).remembered
  unfolding card
  memories_are = refl

  pub memory-written : Fixed c.table.memory
  memory-written = subst Fixed (sym memory-is) (memory-fixed (card c).remembered (omega (arith, (means c r).few-together)))

  -- of those, the ones remembered still at a moment
  module _ (now : ℕ) where
    pub kept-few : length (card c).vcpus + length (kept now (card c).remembered) ≤ 32
    kept-few = omega (arith, (means c r).few-together, length-keep (is_kept now) (card c).remembered)

  pub removed-is : c.table.removed ≡ total (card c).removed
  unfolding core_of
  removed-is = ap (λ (d : Inside). d.table.removed) r.written

  idle-kept : c.idle ≡ total (card c).idle
  unfolding core_of
  idle-kept = ap (λ (d : Inside). d.idle) r.written

  running-is : c.running ≡ place_of (card c).running (card c).vcpus
  unfolding core_of
  running-is = ap (λ (d : Inside). d.running) r.written

  pub filled : Filled c.table.places c.table.ids c.table.n (card c).vcpus
  filled = record { places = places_are; tunnels = ids_are; count = n-is }

  seat-is : (card c).running ≡ runs (choose (card c).vcpus)
  seat-is = (card-reached c r).settled.runs-chosen

-- who is charged
record Runs (c : Inside) (w : Tenant) : Type 0 where
  pub seat : (card c).running ≡ some w.terms.tunnel
  pub chosen : choose (card c).vcpus ≡ some w
  pub place : c.running ≡ Some (place w.terms.tunnel (card c).vcpus)
  pub at : At w (card c).vcpus

data Holds (c : Inside) : Type 0 where
  held : (w : Tenant) → Runs c w → Holds c
  idles : (card c).running ≡ none → c.running ≡ None → Holds c

holds : (c : Inside) → SoundCore c → Holds c
holds c r = go (choose (card c).vcpus) refl
  where
    go : (o : Option Tenant) → choose (card c).vcpus ≡ o → Holds c
    go none e =
        let s : (card c).running ≡ none = seat-is c r ∙ ap runs e in
        idles s (running-is c r ∙ ap (λ (x : Option ℕ). place_of x (card c).vcpus) s)
    go (some w) e =
        let s : (card c).running ≡ some w.terms.tunnel = seat-is c r ∙ ap runs e in
        held w
        (record {
          seat = s;
          chosen = e;
          place = running-is c r ∙ ap (λ (x : Option ℕ). place_of x (card c).vcpus) s;
          at = chosen_at ready (card c).vcpus w (between c r).distinct e;
        })

-- a slot holds no more than the sum
slot-most : (k i : ℕ) (q : List Entry) → (get_or (laid k amount_of (amount 0) q) i (amount 0)).0 ≤ sum (λ e. e.amount) q
unfolding laid
slot-most zero i q = omega arith
slot-most (suc k) zero [] = omega arith
slot-most (suc k) (suc i) [] = slot-most k i []
slot-most (suc k) zero (e ∷ q) = omega arith
slot-most (suc k) (suc i) (e ∷ q) = omega (arith, slot-most k i q)

-- the charge of the one that holds the core
module _ (c : Inside) (r : SoundCore c) (now : Moment) (change : Change) (m : Passed (card c) now.0 (asked change)) (w : Tenant)
    (h : Runs c w) where
  sound : Sound (card c).last w
  sound =
      subst (Sound (card c).last) h.at.is
      (all-get (Sound (card c).last) (card c).vcpus (place w.terms.tunnel (card c).vcpus) no_tenant (between c r).each
      h.at.inside)

  enough : now.0 - (card c).last ≤ w.usable
  enough =
      let f : isHeldBy w.terms.tunnel (card c).running ≡ true → now.0 ≤ (card c).last + w.usable
      = subst (λ (x : Tenant). isHeldBy x.terms.tunnel (card c).running ≡ true → now.0 ≤ (card c).last + x.usable) h.at.is
      (all-get (λ x. isHeldBy x.terms.tunnel (card c).running ≡ true → now.0 ≤ (card c).last + x.usable) (card c).vcpus
      (place w.terms.tunnel (card c).vcpus) no_tenant
      (in_time (card c) now.0 (card-reached c r).settled (card-reached c r).lawful.once m.not_late) h.at.inside) in
      omega (arith, f (ap (isHeldBy w.terms.tunnel) h.seat ∙ eq-eqb w.terms.tunnel w.terms.tunnel refl))

  inside : place w.terms.tunnel (card c).vcpus < length (card c).vcpus
  inside = h.at.inside

  held-few : w.held_total ≤ (card c).last
  held-few =
      subst (λ (x : Tenant). x.held_total ≤ (card c).last) h.at.is
      (all-get (λ x. x.held_total ≤ (card c).last) (card c).vcpus (place w.terms.tunnel (card c).vcpus) no_tenant (held-most c r)
      h.at.inside)

  held-record : (z : Vcpu) → get_or c.table.places (place w.terms.tunnel (card c).vcpus) z ≡ written w
  held-record z =
      ap (λ (p : List Vcpu). get_or p (place w.terms.tunnel (card c).vcpus) z) (places_are c r)
      ∙ laid-get written (written no_tenant) 32 (card c).vcpus (place w.terms.tunnel (card c).vcpus) no_tenant z h.at.inside
      (between c r).few
      ∙ ap written h.at.is

  chargeable : Chargeable (written w) (moment (card c).last) now
  unfolding written
  chargeable =
      record {
        few = sound.few;
        onward = m.not-before;
        enough = enough;
        fits = λ k. omega (arith, slot-most 8 k w.pending, sound.most, sound.range.capacity-high, sound.range.period-high);
        owed = omega (arith, sound.adds, sound.most, sound.range.capacity-high, sound.range.period-high);
      }

  held-charges : ChargesAt c.running c.last now c.table
  held-charges =
      rw h.place
      (omega (arith, h.at.inside, (between c r).few), rw (held-record (written no_tenant), last-is c r) chargeable)

  charge-set : after_charge (card c) now.0
      ≡ set (card c).vcpus (place w.terms.tunnel (card c).vcpus) (charged (card c).last now.0 w)
  charge-set =
      ap (λ (o : Option ℕ). charge (card c).last now.0 o (card c).vcpus) h.seat
      ∙ named_set w.terms.tunnel (charged (card c).last now.0) no_tenant (card c).vcpus (between c r).distinct h.at.inside
      ∙ ap (λ (x : Tenant). set (card c).vcpus (place w.terms.tunnel (card c).vcpus) (charged (card c).last now.0 x)) h.at.is

  terms-kept : (charged (card c).last now.0 w).terms ≡ (get_or (card c).vcpus (place w.terms.tunnel (card c).vcpus) no_tenant).terms
  terms-kept = terms-charged (card c).last now.0 w ∙ ap (λ (x : Tenant). x.terms) (sym h.at.is)

  charged-fits : Fits (charged (card c).last now.0 w)
  charged-fits =
      let n : (card c).last + (now.0 - (card c).last) ≡ now.0 = omega (arith, m.not-before) in
      subst (λ (x : ℕ). Fits (charged (card c).last x w)) n
      (kept-fits (suc (card c).last) ((card c).last + w.terms.period) ((card c).last + (now.0 - (card c).last)) _
      (kept-charged (card c).last (now.0 - (card c).last) w enough sound))

  charge-fits : All Fits (after_charge (card c) now.0)
  charge-fits =
      subst (All Fits) (sym charge-set)
      (all_set Fits (card c).vcpus (place w.terms.tunnel (card c).vcpus) (charged (card c).last now.0 w)
      (all_fit (card c).last (card c).vcpus (between c r).each) charged-fits)

  charge-filled : Filled (charged_places c.running c.last now c.table.places) c.table.ids c.table.n (after_charge (card c) now.0)
  charge-filled =
      subst (λ (p : List Vcpu). Filled p c.table.ids c.table.n (after_charge (card c) now.0)) (sym same)
      (subst (Filled (set c.table.places (place w.terms.tunnel (card c).vcpus) (written (charged (card c).last now.0 w))) c.table.ids
      c.table.n)
      (sym charge-set)
      (filled-set c.table.places c.table.ids c.table.n (place w.terms.tunnel (card c).vcpus) (charged (card c).last now.0 w)
      (card c).vcpus
      h.at.inside (between c r).few (ap (λ (d : Description). d.tunnel) terms-kept) (filled c r)))
    where
      written-charge : charged_of (written w) (moment (card c).last) now ≡ written (charged (card c).last now.0 w)
      written-charge = charged-same (card c).last (now.0 - (card c).last) w sound.few
          (omega (arith, m.not-above, m.not-before, sound.range.period-high)) (omega (arith, m.not-above, m.not-before, held-few))
          (λ e. (sound.sporadic e).0)
          now.0 m.not-before refl

      same : charged_places c.running c.last now c.table.places
          ≡ set c.table.places (place w.terms.tunnel (card c).vcpus) (written (charged (card c).last now.0 w))
      same =
          ap (λ (o : Opt ℕ). charged_places o c.last now c.table.places) h.place
          ∙ ap (λ (v : Vcpu). set c.table.places (place w.terms.tunnel (card c).vcpus) (charged_of v c.last now))
          (held-record (written no_tenant))
          ∙ ap (λ (l : Moment). set c.table.places (place w.terms.tunnel (card c).vcpus) (charged_of (written w) l now)) (last-is c r)
          ∙ ap (set c.table.places (place w.terms.tunnel (card c).vcpus)) written-charge

-- in idle nobody is charged
module _ (c : Inside) (r : SoundCore c) (now : Moment) (change : Change) (m : Passed (card c) now.0 (asked change))
    (e : (card c).running ≡ none) where
  idle-charge : after_charge (card c) now.0 ≡ (card c).vcpus
  idle-charge = ap (λ (o : Option ℕ). charge (card c).last now.0 o (card c).vcpus) e

  idle-fits : All Fits (after_charge (card c) now.0)
  idle-fits = subst (All Fits) (sym idle-charge) (all_fit (card c).last (card c).vcpus (between c r).each)

  idle-filled : Filled c.table.places c.table.ids c.table.n (after_charge (card c) now.0)
  idle-filled = subst (Filled c.table.places c.table.ids c.table.n) (sym idle-charge) (filled c r)

-- after steps 1 and 2 all is still to come
pub returned-sound : (c : Inside) → SoundCore c → (now : Moment) (change : Change) → Passed (card c) now.0 (asked change)
    → All (Sound now.0) (after_return (card c) now.0)
returned-sound c r now change m = (returned-lawful (card c) _ _ (call_of now change) (card-reached c r) m).sound

-- a table that stands: written, and its numbers fit
pub record Stands (p : List Vcpu) (ids : List Tunnel) (n : ℕ) (vs : List Tenant) : Type 0 where
  pub filled : Filled p ids n vs
  pub fits : All Fits vs

-- .. and the ticks held are no more than have passed
pub held-there : (c : Inside) (r : SoundCore c) (now : Moment) (change : Change) → Passed (card c) now.0 (asked change)
    → all_held (after_return (card c) now.0) + (card c).removed ≤ now.0
held-there c r now change m =
    subst (λ (k : Card). all_held (after_return k now.0) + k.removed ≤ now.0) (sym r.shows)
    (held-within r.calls (call_of now change) (subst (λ (k : Card). Passed k now.0 (asked change)) r.shows m))

-- step 1, whoever holds the core
module _ (c : Inside) (r : SoundCore c) (now : Moment) (change : Change) (m : Passed (card c) now.0 (asked change)) where
  pub charge-asks : ChargesAt c.running c.last now c.table
  charge-asks = go (holds c r)
    where
      go : Holds c → ChargesAt c.running c.last now c.table
      go (held w s) = held-charges c r now change m w s
      go (idles e i) = rw i tt

  pub charge-stands :
      Stands (charged_places c.running c.last now c.table.places) c.table.ids c.table.n (after_charge (card c) now.0)
  charge-stands = go (holds c r)
    where
      go : Holds c
          → Stands (charged_places c.running c.last now c.table.places) c.table.ids c.table.n (after_charge (card c) now.0)
      go (held w s) = record { filled = charge-filled c r now change m w s; fits = charge-fits c r now change m w s }
      go (idles e i) =
          subst (λ (o : Opt ℕ). Stands (charged_places o c.last now c.table.places) c.table.ids c.table.n (after_charge (card c) now.0))
          (sym i) (record { filled = idle-filled c r now change m e; fits = idle-fits c r now change m e })

  -- the idle ticks are the rules'
  pub idle-is : idled_of c.idle c.running c.last now ≡ total (idle_then (card c) now.0)
  idle-is =
      ap (λ (i : Total). idled_of i c.running c.last now) (idle-kept c r)
      ∙ ap (λ (l : Moment). idled_of (total (card c).idle) c.running l now) (last-is c r) ∙ go (holds c r)
    where
      within : (card c).idle ≤ (card c).last
      within = subst (λ (k : Card). k.idle ≤ k.last) (sym r.shows) (idle-within r.calls)

      same : (o o' : Opt ℕ) (q q' : Option ℕ) → o ≡ o' → q ≡ q'
          → idled_of (total (card c).idle) o' (moment (card c).last) now ≡ total (idled (card c).last now.0 q' (card c).idle)
          → idled_of (total (card c).idle) o (moment (card c).last) now ≡ total (idled (card c).last now.0 q (card c).idle)
      same o o' q q' e f k = rw (e, f) k

      go : Holds c → idled_of (total (card c).idle) c.running (moment (card c).last) now ≡ total (idle_then (card c) now.0)
      go (held w s) = same c.running _ (card c).running _ s.place s.seat refl
      go (idles e i) =
          same c.running _ (card c).running _ i e (ap total (omega (arith, within, m.not-above, m.not-before)))

-- a place that holds the core is one of the table
pub running-place : (c : Inside) → SoundCore c → IsPlace c.running
running-place c r = go (holds c r)
  where
    go : Holds c → IsPlace c.running
    go (held w s) = rw s.place (omega (arith, s.at.inside, (between c r).few))
    go (idles e i) = rw i tt

-- the verdict on a valid core
pub judges : (c : Inside) → SoundCore c → Judges c.table
judges c r = record { few = omega (arith, n-is c r, (between c r).few); fixed = memory-written c r }

module _ (c : Inside) (now : Moment) (change : Change) (r : SoundCore c) where
  module _ (at : Opt ℕ) (a : at ≡ on_table (named_at c.table.ids change)) where
    pub named-card : at ≡ on_table (named_at (ids_of (card c).vcpus) change)
    named-card = a ∙ ap (λ (i : List Tunnel). on_table (named_at i change)) (ids_are c r)

    judged_card : judge c.last c.timer at c.table now change ≡ verdict_of (refusal (card c) now.0 (asked change))
    judged_card =
        same c.last _ c.timer _ at _ (last-is c r) (timer-is c r) named-card
        ∙ judge-same (card c) now change (between c r).few c.table (n-is c r) (memories_are c r)
      where
        same : (l l' : Moment) (t t' : Opt Moment) (a a' : Opt ℕ) → l ≡ l' → t ≡ t' → a ≡ a'
            → judge l t a c.table now change ≡ judge l' t' a' c.table now change
        same l l' t t' a a' p q u = rw (p, q, u)

    module _ (v : Verdict) (e : v ≡ judge c.last c.timer at c.table now change) where
      pub accepted-call : v ≡ passes → refusal (card c) now.0 (asked change) ≡ none
      accepted-call g = go (refusal (card c) now.0 (asked change)) (sym g ∙ e ∙ judged_card)
        where
          go : (o : Option Row) → passes ≡ verdict_of o → o ≡ none
          go none f = refl
          go (some x) f = let z : ◌≡◌ {A = ℕ} 0 1 = cc in absurd (omega arith)

      -- a refusal is the rules' row
      pub refused-call : (x : Refusal) → v ≡ Err x → refusal (card c) now.0 (asked change) ≡ some (paper_refusal x)
      refused-call x g =
          go (refusal (card c) now.0 (asked change)) (regular (card c) now.0 (asked change)) (sym g ∙ e ∙ judged_card)
        where
          go : (o : Option Row) → Regular o → Err x ≡ verdict_of o → o ≡ some (paper_refusal x)
          go none k f = let z : ◌≡◌ {A = ℕ} 0 1 = cc in absurd (omega arith)
          go (some y) k f =
              let h : x ≡ refusal_said y = cc in
              ap some (sym k ∙ ap paper_refusal (sym h))
