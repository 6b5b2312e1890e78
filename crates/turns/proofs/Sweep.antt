-- The return step's loop over the table: what holds at its head, what a turn asks and keeps, and what it leaves.
-- Assumes nothing.
use Prim.Native.Nat.{ℕ, zero, suc, ◌+◌, ◌*◌, ◌≤◌, ◌<◌}
use mathlib.Core.Path.{◌≡◌, refl, ap, sym, ◌∙◌, subst}
use mathlib.Core.Bool.{Bool, true, false, cond}
use mathlib.Core.List.{List, [], ◌∷◌, ◌++◌, map}
use mathlib.Core.Option.{Option, none, some}
use native.Mathlib.Omega.{arith}
use native.Mathlib.Numerals.{add-one}
use lib.Dec.{leb}
use lib.ListN.{length, take, get_or, set, replicate}
use lib.Seq.{take-suc, take_all, length-take-le}
use Rattle.units.specs.Units.{moment, tunnel}
use Rattle.units.specs.declared.Moment.{Moment}
use Rattle.units.specs.declared.Tunnel.{Tunnel}
use Rattle.rules.specs.Lists.{All, sum}
use Rattle.rules.specs.Limits.{largest_time}
use Rattle.rules.specs.Vcpu.{Vcpu as Tenant}
use Rattle.rules.specs.Vcpu.{Description as Terms}
use Rattle.rules.specs.Return.{brought, returned, refill, refilled, brought_in, bring}
use Rattle.rules.specs.Told.{adds, tells, tell}
use Rattle.rules.specs.Told.{total as totalTold}
use Rattle.rules.proofs.Lists.{all_every}
use Rattle.rules.proofs.Tests.{clash}
use Rattle.rules.proofs.ThreeKinds.{terms-returned}
use Rattle.rules.proofs.Brought.{refill-more, told-most}
use Rattle.turns.specs.declared.Vcpu.{Vcpu}
use Rattle.turns.specs.declared.Told.{Told}
use Rattle.turns.specs.declared.AllTold.{AllTold}
use Rattle.turns.specs.declared.Roster.{Roster}
use Rattle.turns.specs.Laid.{laid}
use Rattle.turns.specs.Written.{never, nobody, tunnel_of, written, no_tenant, tenants_in, places_of, ids_of}
use Rattle.turns.specs.Steps.{has_queue, head_of, bare, brought_to, Returnable}
use Rattle.turns.specs.Tenants.{Formed, queue, refills, Fits, Filled, Returns, with_places, returned_table, head_then}
use Rattle.turns.specs.Tenants.{times_before, times_then, all_told}
use Rattle.turns.proofs.Laid.{laid-get, laid-set, laid_end, laid-map}
use Rattle.turns.proofs.Written.{under, kind-queue, kind-left, shown-written}
use Rattle.turns.proofs.Ranked.{all-get}
use Rattle.turns.proofs.Stage.{filled-tenants, all_show}

module _ {A : Type 0} (f : A → A) where
  -- the first i mapped
  abbrev pub upto : ℕ → List A → List A
  upto zero l = l
  upto (suc i) [] = []
  upto (suc i) (x ∷ l) = f x ∷ upto i l

  upto-length : (i : ℕ) (l : List A) → length (upto i l) ≡ length l
  upto-length zero l = refl
  upto-length (suc i) [] = refl
  upto-length (suc i) (x ∷ l) = ap suc (upto-length i l)

  upto-get : (i : ℕ) (l : List A) (z : A) → get_or (upto i l) i z ≡ get_or l i z
  upto-get zero l z = refl
  upto-get (suc i) [] z = refl
  upto-get (suc i) (x ∷ l) z = upto-get i l z

  upto-set : (i : ℕ) (l : List A) (z : A) → i < length l → set (upto i l) i (f (get_or l i z)) ≡ upto (suc i) l
  upto-set i [] z h = absurd (omega arith)
  upto-set zero (x ∷ l) z h = refl
  upto-set (suc i) (x ∷ l) z h = ap (λ (r : List A). f x ∷ r) (upto-set i l z (omega arith))

  upto_all : (l : List A) → upto (length l) l ≡ map f l
  upto_all [] = refl
  upto_all (x ∷ l) = ap (λ (r : List A). f x ∷ r) (upto_all l)

-- at the loop's head: `x` is the table before it and `y` now; the first i have reported
pub record Sweeping (now : Moment) (x y : Roster) (next : List Moment) (total : AllTold) (i : ℕ) : Type 0 where
  pub done : y ≡ with_places x (places_of (upto (returned now.0) i (tenants_in x)))
  pub heard : next ≡ laid 32 (head_then now.0) (moment never) (take i (tenants_in x))
  pub sums : total ≡ all_told (totalTold (tell now.0 (take i (tenants_in x))))
  pub small : total.ticks.0 ≤ i * 1000000

total-end : (now : ℕ) (l : List Tenant) (x : Tenant) → totalTold (tell now (l ++ x ∷ [])) ≡ totalTold (tell now l) + (tells now x).ticks
total-end now [] x = omega arith
total-end now (v ∷ l) x = omega (arith, total-end now l x)

blank_times : (now k : ℕ) → replicate k (moment never) ≡ laid k (head_then now) (moment never) []
unfolding laid
blank_times now zero = refl
blank_times now (suc k) = ap (λ (r : List Moment). moment never ∷ r) (blank_times now k)

pub sweep_start : (now : Moment) (x : Roster) → Returns now x → Sweeping now x x times_before (all_told 0) 0
sweep_start now x r =
    record {
      done = ap (with_places x) r.filled.places;
      heard = blank_times now.0 32;
      sums = refl;
      small = omega arith;
    }

module _ (now : Moment) (x : Tenant) (h : now.0 ≤ largest_time) (r : Fits x) where
  bared : bare (written x) ≡ under 0 x
  bared = shown-written (tunnel 0) x r.shows

  rewritten : written (under 0 x) ≡ written x
  unfolding written
  rewritten = refl

  empty : Formed x → has_queue (written x).kind ≡ false → x.pending ≡ []
  unfolding written
  empty (queue k e) n = clash (sym (kind-queue x.terms.kind ∙ rw k) ∙ n)
  empty (refills k h p b e) n = p

  returnable : Returnable (written x) now
  unfolding written
  returnable =
      record {
        written = sym (ap written bared ∙ rewritten);
        few = subst (λ (v : Tenant). length v.pending ≤ 8) (sym bared) r.shows.0;
        fits = subst (λ (v : Tenant). v.usable + sum (λ e. e.amount) v.pending < 4294967296) (sym bared) (omega
            (arith, r.most, r.range.capacity-high, r.range.period-high));
        adds = subst (λ (v : Tenant). v.pending_total ≡ sum (λ e. e.amount) v.pending) (sym bared) r.adds;
        no-queue = λ n. subst (λ (v : Tenant). v.pending ≡ []) (sym bared) (empty r.shows.1 n);
        fewer = λ n. rw (kind-left x.terms x.runnable x.terms.capacity) (refill-more x (omega (arith, r.most)) r.polls);
        period = r.range.period-low;
        time = omega (arith, r.range.period-high);
      }

  untagged : (o : Option ℕ)
      → written (refill now.0 o (brought_in now.0 (under 0 x))) ≡ written (refill now.0 o (brought_in now.0 x))
  unfolding written
  untagged none = refl
  untagged (some b) = go (leb b now.0)
    where
      go : (t : Bool)
          → written (cond t (refilled now.0 b (brought_in now.0 (under 0 x))) (brought_in now.0 (under 0 x)))
          ≡ written (cond t (refilled now.0 b (brought_in now.0 x)) (brought_in now.0 x))
      go true = refl
      go false = refl

  returned-bare : written (returned now.0 (bare (written x))) ≡ written (returned now.0 x)
  returned-bare = ap (λ (v : Tenant). written (returned now.0 v)) bared ∙ untagged x.boundary

  -- by its kind
  no-boundary : Formed x → x.terms.kind ≡ 0 → x.boundary ≡ none
  no-boundary (queue k e) z = e
  no-boundary (refills k h p b e) z = absurd (k z)

  its_boundary : Formed x → (x.terms.kind ≡ 0 → ⊥) → (x.pending ≡ []) × (b : ℕ) × (x.boundary ≡ some b)
  its_boundary (queue k e) n = absurd (n k)
  its_boundary (refills k h p b e) n = (p, b, e)

  told-small : (tells now.0 x).ticks ≤ 1000000
  told-small =
      omega (
        arith,
        told-most now.0 x (no-boundary r.shows.1) (its_boundary r.shows.1) r.most,
        r.range.capacity-high,
        r.range.period-high,
      )

  -- its identifier does not matter
  told-bare : (tells now.0 (bare (written x))).ticks ≡ (tells now.0 x).ticks
  told-bare = ap (λ (v : Tenant). (tells now.0 v).ticks) bared ∙ go x.boundary
    where
      go : (o : Option ℕ)
          → brought now.0 x.pending + adds now.0 o (under 0 x) ≡ brought now.0 x.pending + adds now.0 o x
      go none = refl
      go (some b) = refl

-- at a place that is read; `z` is what a read past the end would give
module _ (now : Moment) (x y : Roster) (r : Returns now x) (next : List Moment) (total : AllTold) (i : ℕ)
    (s : Sweeping now x y next total i) (below : i < x.n) (z : Vcpu) where
  abbrev vs : List Tenant
  vs = tenants_in x

  abbrev seen : List Tenant
  seen = upto (returned now.0) i vs

  -- the tenant there
  abbrev v : Tenant
  v = get_or vs i no_tenant

  inside : i < length vs
  inside = omega (arith, r.filled.count, below)

  long : length seen ≤ 32
  long = omega (arith, upto-length (returned now.0) i vs, r.filled.count, r.few)

  reaches : i < length seen
  reaches = omega (arith, upto-length (returned now.0) i vs, inside)

  sound : Fits v
  sound = all-get Fits vs i no_tenant r.fits inside

  read : get_or y.places i z ≡ written v
  read =
      ap (λ (q : Roster). get_or q.places i z) s.done
      ∙ laid-get written (written no_tenant) 32 seen i no_tenant z reaches long
      ∙ ap written (upto-get (returned now.0) i vs no_tenant)

  pub sweep_asks : Returnable (get_or y.places i z) now
  sweep_asks = subst (λ (w : Vcpu). Returnable w now) (sym read) (returnable now v r.time sound)

  next-places : places_of (upto (returned now.0) (i + 1) vs) ≡ set (places_of seen) i (written (returned now.0 v))
  next-places =
      ap (λ (k : ℕ). places_of (upto (returned now.0) k vs)) (add-one i)
      ∙ ap places_of (sym (upto-set (returned now.0) i vs no_tenant inside))
      ∙ sym (laid-set written (written no_tenant) 32 seen i (returned now.0 v) reaches long)

  far : length (take i vs) ≡ i
  far = length-take-le i vs (omega (arith, inside))

  one_further : take (i + 1) vs ≡ take i vs ++ v ∷ []
  one_further = ap (λ (j : ℕ). take j vs) (add-one i) ∙ take-suc vs i no_tenant inside

  came : written (returned now.0 (bare (get_or y.places i z))) ≡ written (returned now.0 v)
  came = ap (λ (w : Vcpu). written (returned now.0 (bare w))) read ∙ returned-bare now v r.time sound

  ticks : (tells now.0 (bare (get_or y.places i z))).ticks ≡ (tells now.0 v).ticks
  ticks = ap (λ (w : Vcpu). (tells now.0 (bare w)).ticks) read ∙ told-bare now v r.time sound

  sweep_fits : total.ticks.0 + (brought_to now.0 (bare (get_or y.places i z))).ticks.0 < 4294967296
  sweep_fits = omega (arith, s.small, r.few, below, ticks, told-small now v r.time sound)

  sweep_on :
      Sweeping now x (with_places y (set y.places i (written (returned now.0 (bare (get_or y.places i z))))))
      (set next i (brought_to now.0 (bare (get_or y.places i z))).next)
      (all_told (total.ticks.0 + (brought_to now.0 (bare (get_or y.places i z))).ticks.0)) (i + 1)
  sweep_on =
      record {
        done =
            ap (λ (w : Vcpu). with_places y (set y.places i w)) came
            ∙ ap (λ (q : Roster). with_places q (set q.places i (written (returned now.0 v)))) s.done
            ∙ ap (with_places x) (sym next-places);
        heard =
            ap (λ (w : Vcpu). set next i (moment (head_of w))) came
            ∙ ap (λ (l : List Moment). set l i (head_then now.0 v)) s.heard
            ∙ ap (λ (j : ℕ). set (laid 32 (head_then now.0) (moment never) (take i vs)) j (head_then now.0 v)) (sym far)
            ∙ laid_end (head_then now.0) (moment never) 32 (take i vs) v (omega (arith, far, inside, long, reaches))
            ∙ ap (laid 32 (head_then now.0) (moment never)) (sym one_further);
        sums = ap all_told (omega (
          arith,
          ap (λ (t : AllTold). t.ticks.0) s.sums,
          ticks,
          ap (λ (l : List Tenant). totalTold (tell now.0 l)) one_further,
          total-end now.0 (take i vs) v,
        ));
        small = omega (arith, s.small, ticks, told-small now v r.time sound);
      }

  -- .., told by what the step on a VCPU and the sum promise
  pub sweep_step : (w : Vcpu) (t : Told) (all : AllTold) → w ≡ written (returned now.0 (bare (get_or y.places i z)))
      → t ≡ brought_to now.0 (bare (get_or y.places i z)) → all ≡ all_told (total.ticks.0 + t.ticks.0)
      → Sweeping now x (with_places y (set y.places i w)) (set next i t.next) all (i + 1)
  sweep_step w t all e f g = rw (e, g, f) sweep_on

  pub sweep_small : (t : Told) → t ≡ brought_to now.0 (bare (get_or y.places i z)) → total.ticks.0 + t.ticks.0 < 4294967296
  sweep_small t f = rw f sweep_fits

ids-kept : (now : ℕ) (vs : List Tenant) → ids_of (bring now vs) ≡ ids_of vs
ids-kept now vs =
    sym (laid-map tunnel_of tunnel_of (returned now) (tunnel nobody) 32 vs
    (all_every (λ v. ap (λ (d : Terms). tunnel d.tunnel) (sym (terms-returned now v))) vs))

bring-length : (now : ℕ) (vs : List Tenant) → length (bring now vs) ≡ length vs
bring-length now [] = refl
bring-length now (v ∷ vs) = ap suc (bring-length now vs)

-- when it is done: what has come, the times reported and their total
pub record Swept (now : Moment) (x y : Roster) (next : List Moment) (total : AllTold) : Type 0 where
  pub table : y ≡ returned_table now x
  pub times : next ≡ times_then now x
  pub ticks : total ≡ all_told (totalTold (tell now.0 (tenants_in x)))

pub sweep_ends : (now : Moment) (x y : Roster) → Returns now x → (next : List Moment) (total : AllTold) (i : ℕ)
    → Sweeping now x y next total i → i ≡ x.n → Swept now x y next total
sweep_ends now x y r next total i s e =
    record {
      table =
          s.done
          ∙ ap (λ (k : ℕ). with_places x (places_of (upto (returned now.0) k (tenants_in x)))) ended
          ∙ ap (λ (l : List Tenant). with_places x (places_of l)) (upto_all (returned now.0) (tenants_in x));
      times = s.heard ∙ ap (laid 32 (head_then now.0) (moment never)) all;
      ticks = s.sums ∙ ap (λ (l : List Tenant). all_told (totalTold (tell now.0 l))) all;
    }
  where
    ended : i ≡ length (tenants_in x)
    ended = e ∙ r.filled.count

    all : take i (tenants_in x) ≡ tenants_in x
    all = take_all i (tenants_in x) (omega (arith, ended))

-- a table that is a list of tenants written, before the step and after it
pub returns : (now : Moment) (x : Roster) (vs : List Tenant) → now.0 ≤ largest_time → length vs ≤ 32
    → Filled x.places x.ids x.n vs → All Fits vs → (tenants_in x ≡ vs) × Returns now x
returns now x vs h l f r =
    let e : tenants_in x ≡ vs = filled-tenants x.places x.ids x.n vs l (all_show vs r) f in (
      e,
      record {
        filled = subst (Filled x.places x.ids x.n) (sym e) f;
        fits = subst (All Fits) (sym e) r;
        few = omega (arith, f.count, l);
        time = h;
      },
    )

pub returned-filled : (now : ℕ) (ids : List Tunnel) (n : ℕ) (p : List Vcpu) (vs us : List Tenant) → us ≡ vs → Filled p ids n vs
    → Filled (places_of (bring now us)) ids n (bring now vs)
returned-filled now ids n p vs us e f =
    record {
      places = ap (λ (l : List Tenant). places_of (bring now l)) e;
      tunnels = f.tunnels ∙ sym (ids-kept now vs);
      count = f.count ∙ sym (bring-length now vs);
    }
