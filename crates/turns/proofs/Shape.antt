-- The change on the written table, on who is remembered beside it, the ticks of removed tenants and the times reported: a newcomer put in,
-- a mark set, one taken out that is remembered then and whose ticks are added, or nothing. Assumes nothing.
use Prim.Native.Nat.{ℕ, zero, suc, ◌+◌, ◌-◌, ◌≤◌, ◌<◌}
use mathlib.Core.Path.{◌≡◌, refl, ap, sym, ◌∙◌, subst}
use mathlib.Core.Bool.{Bool, true, false, cond, not, ◌||◌}
use mathlib.Core.List.{List, [], ◌∷◌, ◌++◌, append-nil}
use mathlib.Core.Option.{Option, none, some}
use native.Mathlib.Omega.{arith}
use lib.Dec.{eqb}
use lib.ListN.{length, get_or, set}
use Rattle.rules.specs.Refuse.{admit_rows, naming_rows, call_rows}
use Rattle.units.specs.Units.{moment, tunnel, total, together}
use Rattle.units.specs.declared.Total.{Total}
use Rattle.units.specs.declared.Moment.{Moment}
use Rattle.units.specs.declared.Tunnel.{Tunnel}
use Rattle.rules.specs.Limits.{largest_time}
use Rattle.rules.specs.Lists.{keep, any, All}
use Rattle.rules.specs.Vcpu.{admitted, named}
use Rattle.rules.specs.Vcpu.{Description as Terms}
use Rattle.rules.specs.Vcpu.{Vcpu as Tenant}
use Rattle.rules.specs.Remember.{Remembered, leaves_until, remembering, left_by, kept}
use Rattle.rules.specs.Card.{Card, on_card, find, to_named}
use Rattle.rules.specs.Change.{placed, set_runnable, admit, wake, leaving}
use Rattle.rules.specs.Change.{change as changeRule}
use Rattle.rules.specs.Ledger.{held_of, handed_over}
use Rattle.rules.specs.Told.{Told}
use Rattle.rules.specs.Turn.{after_charge, after_return, told_by}
use Rattle.turns.specs.declared.Vcpu.{Vcpu}
use Rattle.turns.specs.declared.Description.{Description}
use Rattle.turns.specs.declared.Change.{Change}
use Rattle.turns.specs.declared.Change.TheVariants.{Admit, Wake, Block, Remove, Tick}
use Rattle.turns.specs.declared.Memory.{Memory}
use Rattle.turns.specs.Laid.{laid}
use Rattle.turns.specs.Written.{never, nobody, tunnel_of, written, no_tenant, place, memory_of}
use Rattle.turns.proofs.Invariant.{Ranked, Distinct, terms_of, Listed}
use Rattle.turns.specs.Steps.{usable_as, runnable_as}
use Rattle.turns.specs.Places.{seek, on_table, named_at, spot_in, inserted, removed, BlankFrom}
use Rattle.turns.specs.declared.Roster.{Roster}
use Rattle.std.specs.Prelude.{Option as Opt, Some}
use Rattle.turns.specs.Remembered.{leaving_of}
use Rattle.turns.specs.Calls.{described, asked}
use Rattle.turns.proofs.Laid.{cut_at, laid-get, laid-put, laid-cut, laid-blank}
use Rattle.turns.proofs.Written.{kind-left}
use Rattle.turns.proofs.Places.{place-there, find-there, named_set, removed-cut, spot_of, spot_most, spot_laid, placed-put}
use Rattle.turns.proofs.Ranked.{all-get, return-terms, named-terms, placed-ranked, keep-ranked}
use Rattle.turns.proofs.Rows.{there, named-seek}
use Rattle.rules.specs.Accounts.{all_held}
use Rattle.rules.proofs.Lists.{sum_among}
use Rattle.rules.proofs.Named.{named-says, found}
use Rattle.rules.proofs.Sound.{Sound}
use Rattle.rules.proofs.Memory.{leaves-within}
use Rattle.rules.proofs.Accepted.{Admits, admits}
use Rattle.rules.proofs.Advance.{rows-stepped}
use Rattle.rules.proofs.Changed.{length-placed}
use Rattle.turns.proofs.Stage.{filled-set}
use Rattle.turns.proofs.Remembered.{leaving-written}
use Rattle.turns.proofs.Settle.{calm-one}
use Rattle.turns.proofs.Heard.{said_of, times_of, heard-marked, heard-new}
use Rattle.turns.specs.Tenants.{Filled, Blank, Removable, Changeable, record_at, marked, changed_table, changed_times}
use Rattle.turns.specs.Written.{ids_of}

-- what depends on the terms alone
abbrev on_terms : ℕ → List Terms → Bool
on_terms t l = any (λ d. eqb d.tunnel t) l

abbrev place_terms : ℕ → List Terms → ℕ
place_terms t [] = 0
place_terms t (d ∷ l) = cond (eqb d.tunnel t) 0 (suc (place_terms t l))

on_terms_lem : (t : ℕ) (vs : List Tenant) → on_card t vs ≡ on_terms t (terms_of vs)
on_terms_lem t [] = refl
on_terms_lem t (v ∷ vs) = ap (λ (b : Bool). named t v || b) (on_terms_lem t vs)

place-terms : (t : ℕ) (vs : List Tenant) → place t vs ≡ place_terms t (terms_of vs)
place-terms t [] = refl
place-terms t (v ∷ vs) = ap (λ (n : ℕ). cond (named t v) 0 (suc n)) (place-terms t vs)

length-terms : (vs : List Tenant) → length vs ≡ length (terms_of vs)
length-terms [] = refl
length-terms (v ∷ vs) = ap suc (length-terms vs)

return-place : (k : Card) (now t : ℕ) → place t (after_return k now) ≡ place t k.vcpus
return-place k now t = place-terms t (after_return k now) ∙ ap (place_terms t) (return-terms k now) ∙ sym (place-terms t k.vcpus)

return-length : (k : Card) (now : ℕ) → length (after_return k now) ≡ length k.vcpus
return-length k now = length-terms (after_return k now) ∙ ap length (return-terms k now) ∙ sym (length-terms k.vcpus)

-- steps 1 and 2 leave the table's length and its identifiers
return-listed : (k : Card) (now : ℕ) → Listed k.vcpus → Listed (after_return k now)
return-listed k now l =
    record { few = omega (arith, return-length k now, l.few); distinct = subst Distinct (sym (return-terms k now)) l.distinct }

-- admit
module _ (p : List Vcpu) (ids : List Tunnel) (n : ℕ) (vs : List Tenant) (f : Filled p ids n vs) (r : Listed vs) where
  module _ (now : ℕ) (rs : List Remembered) (d : Description) (q : Admits vs rs (described d)) where
    abbrev new : Tenant
    new = admitted now (described d)

    spot_is : spot_in (described d) n p ids ≡ spot_of new vs
    spot_is =
        rw (f.places, f.tunnels, f.count) (spot_laid new (written no_tenant) (tunnel nobody) 32 vs r.few)

    room : length vs < 32
    room = omega (arith, q.room)

    -- an array that has something of each tenant, and `y` put in for the newcomer
    put-filled : {B : Type 0} (g : Tenant → B) (z y : B) (a : List B) → a ≡ laid 32 g z vs → y ≡ g new
        → inserted (spot_in (described d) n p ids) y a ≡ laid 32 g z (placed new vs)
    put-filled {B} g z y a e i =
        ap (λ (k : ℕ). inserted k y a) spot_is
        ∙ ap (λ (b : B). inserted (spot_of new vs) b a) i
        ∙ ap (inserted (spot_of new vs) (g new)) e
        ∙ laid-put g z 32 vs (spot_of new vs) new (spot_most new vs) room
        ∙ ap (laid 32 g z) (sym (placed-put new vs))

    admit-filled :
        Filled (inserted (spot_in (described d) n p ids) (written new) p) (inserted (spot_in (described d) n p ids) d.tunnel ids) (n + 1)
        (placed new vs)
    admit-filled =
        record {
          places = put-filled written (written no_tenant) (written new) p f.places refl;
          tunnels = put-filled tunnel_of (tunnel nobody) d.tunnel ids f.tunnels refl;
          count = omega (arith, f.count, length-placed new vs);
        }

  module _ (t at : ℕ) (e : at ≡ place t vs) (h : place t vs < length vs) where
    -- .. and what it has of the one removed taken out
    cut-filled : {B : Type 0} (g : Tenant → B) (z : B) (a : List B) → a ≡ laid 32 g z vs
        → removed at z a ≡ laid 32 g z (keep (λ v. not (named t v)) vs)
    cut-filled g z a i =
        ap (λ (k : ℕ). removed k z a) e
        ∙ ap (removed (place t vs) z) i
        ∙ laid-cut g z 32 vs (place t vs) h r.few
        ∙ ap (laid 32 g z) (sym (removed-cut t vs r.distinct h))

    remove-filled : Filled (removed at (written no_tenant) p) (removed at (tunnel nobody) ids) (n - 1) (keep (λ v. not (named t v)) vs)
    remove-filled =
        record {
          places = cut-filled written (written no_tenant) p f.places;
          tunnels = cut-filled tunnel_of (tunnel nobody) ids f.tunnels;
          count = omega (arith, f.count, ap length (removed-cut t vs r.distinct h), cut-length (place t vs) vs h);
        }
      where
        cut-length : (i : ℕ) (l : List Tenant) → i < length l → suc (length (cut_at i l)) ≡ length l
        cut-length i [] g = absurd (omega arith)
        cut-length zero (x ∷ l) g = refl
        cut-length (suc i) (x ∷ l) g = ap suc (cut-length i l (omega arith))

    -- a mark set
    mark-filled : (b : Bool) (z : Vcpu)
        → Filled (set p at (written (set_runnable b (get_or vs (place t vs) no_tenant)))) ids n (to_named t (set_runnable b) vs)
    mark-filled b z =
        subst (λ (k : ℕ). Filled (set p k (written (set_runnable b (get_or vs (place t vs) no_tenant)))) ids n
        (to_named t (set_runnable b) vs)) (sym e)
        (subst (Filled (set p (place t vs) (written (set_runnable b (get_or vs (place t vs) no_tenant)))) ids n) (sym (named_set t
        (set_runnable b) no_tenant vs r.distinct h))
        (filled-set p ids n (place t vs) (set_runnable b (get_or vs (place t vs) no_tenant)) vs h r.few refl f))

    mark-read : (z : Vcpu) → get_or p at z ≡ written (get_or vs (place t vs) no_tenant)
    mark-read z =
        ap (λ (k : ℕ). get_or p k z) e
        ∙ ap (λ (q : List Vcpu). get_or q (place t vs) z) f.places
        ∙ laid-get written (written no_tenant) 32 vs (place t vs) no_tenant z h r.few

mark_written : (v : Tenant) (b : Bool) → runnable_as (written v) b ≡ written (set_runnable b v)
unfolding written
mark_written v b = ap (usable_as (written v) (written v).due b) (kind-left v.terms b v.usable)

-- what an accepted call asks for holds after steps 1 and 2 too
module _ (k : Card) (now : ℕ) where
  named-there : (t : ℕ) → naming_rows k.vcpus t ≡ none → on_card t (after_return k now) ≡ true
  named-there t e = there (after_return k now) t (rows-stepped k now [] (wake t) ∙ e)

  named-place : (t : ℕ) → naming_rows k.vcpus t ≡ none → place t (after_return k now) < length (after_return k now)
  named-place t e = place-there t (after_return k now) (named-there t e)

  admits-after : (rs : List Remembered) (d : Description) → admit_rows k.vcpus rs (described d) ≡ none
      → Admits (after_return k now) rs (described d)
  admits-after rs d e = admits (after_return k now) rs (described d) (rows-stepped k now rs (admit (described d)) ∙ e)

  pub change-ranked : (change : Change) → call_rows k.vcpus (kept now k.remembered) (asked change) ≡ none
      → Ranked (terms_of k.vcpus) → Ranked (terms_of (changeRule now (asked change) (after_return k now)))
  change-ranked change e r = go change e (subst Ranked (sym (return-terms k now)) r)
    where
      go : (change : Change) → call_rows k.vcpus (kept now k.remembered) (asked change) ≡ none
          → Ranked (terms_of (after_return k now))
          → Ranked (terms_of (changeRule now (asked change) (after_return k now)))
      go (Admit d) m s =
          placed-ranked (admitted now (described d)) (after_return k now) (admits-after (kept now k.remembered) d m).not_there s
      go (Wake t) m s = subst Ranked (sym (named-terms t.0 (set_runnable true) (after_return k now) (λ v. refl))) s
      go (Block t) m s = subst Ranked (sym (named-terms t.0 (set_runnable false) (after_return k now) (λ v. refl))) s
      go (Remove t) m s = keep-ranked (λ v. not (named t.0 v)) (after_return k now) s
      go Tick m s = s

-- the table and the times reported are the lists of the rules, written
pub record FilledBy (x : Roster) (next : List Moment) (vs : List Tenant) (rs : List Remembered) (ts : List Told) (gone : ℕ) : Type 0
  where
    pub table : Filled x.places x.ids x.n vs
    pub memory : x.memory ≡ memory_of rs
    pub removed : x.removed ≡ total gone
    pub times : next ≡ times_of ts vs

-- an accepted call, after steps 1 and 2
pub record Stepped (k : Card) (now : ℕ) : Type 0 where
  pub listed : Listed k.vcpus
  pub few : length k.vcpus + length (kept now k.remembered) ≤ 32
  pub time : now ≤ largest_time
  pub sound : All (Sound now) (after_return k now)
  -- the ticks held, those of removed tenants included, are no more than there were
  pub within : all_held (after_return k now) + k.removed ≤ now

-- .. finds its place, and leaves the rules' lists after the change, written
module _ (k : Card) (now : Moment) (l : Stepped k now.0) (x : Roster) (next : List Moment)
    (f : FilledBy x next (after_return k now.0) (kept now.0 k.remembered) (told_by k now.0) k.removed) where
  abbrev vs : List Tenant
  vs = after_return k now.0

  abbrev rs : List Remembered
  rs = kept now.0 k.remembered

  r : Listed vs
  r = return-listed k now.0 l.listed

  none_more : x.removed ≡ total (k.removed + 0)
  none_more = f.removed ∙ ap total (omega arith)

  blank : Blank x next
  blank =
      record {
        few = omega (arith, f.table.count, r.few);
        places = vacant written (written no_tenant) x.places f.table.places;
        ids = vacant tunnel_of (tunnel nobody) x.ids f.table.tunnels;
        times = vacant _ (moment never) next f.times;
      }
    where
      vacant : {B : Type 0} (g : Tenant → B) (z : B) (l : List B) → l ≡ laid 32 g z vs → BlankFrom x.n z l
      vacant g z l e = rw (e, f.table.count) (laid-blank g z 32 (32 - length vs) vs (omega (arith, r.few)))

  -- the one that the call names, at its place
  module _ (t : ℕ) (m : naming_rows k.vcpus t ≡ none) where
    at_place : on_table (seek t (ids_of k.vcpus)) ≡ Some (place t vs)
    at_place = named-seek k.vcpus l.listed.few t m ∙ ap Some (sym (return-place k now.0 t))

    abbrev there-now : Tenant
    there-now = get_or vs (place t vs) no_tenant

    read : record_at x (place t vs) ≡ written there-now
    read = mark-read x.places x.ids x.n vs f.table r t (place t vs) refl (named-place k now.0 t m) (written no_tenant)

    sound-there : Sound now.0 there-now
    sound-there = all-get (Sound now.0) vs (place t vs) no_tenant l.sound (named-place k now.0 t m)

    small : place t vs < x.n
    small = omega (arith, named-place k now.0 t m, f.table.count)

    at_small : place t vs < 32
    at_small = omega (arith, small, f.table.count, r.few)

    marks : (b : Bool) → FilledBy (marked b (Some (place t vs)) x) next (to_named t (set_runnable b) vs) (rs ++ []) (told_by k now.0)
        (k.removed + 0)
    marks b =
        record {
          table =
              subst (λ (v : Vcpu). Filled (set x.places (place t vs) v) x.ids x.n (to_named t (set_runnable b) vs))
              (sym (ap (λ (v : Vcpu). runnable_as v b) read ∙ mark_written there-now b))
              (mark-filled x.places x.ids x.n vs f.table r t (place t vs) refl (named-place k now.0 t m) b (written no_tenant));
          memory = f.memory ∙ ap memory_of (sym (append-nil rs));
          removed = none_more;
          times = f.times ∙ heard-marked (told_by k now.0) t b vs;
        }

    room-left : length rs < 32
    room-left = omega (arith, l.few, return-length k now.0, named-place k now.0 t m)

    removable : Removable (place t vs) x next
    unfolding written
    removable =
        record {
          blank = blank;
          inside = small;
          room = omega (arith, ap (λ (y : Memory). y.count) f.memory, room-left);
          short = subst (λ (v : Vcpu). v.count ≤ 8) (sym read) sound-there.few;
        }

  -- who is removed is remembered
  module _ (t : Tunnel) (m : naming_rows k.vcpus t.0 ≡ none) where
    abbrev gone : Tenant
    gone = there-now t.0 m

    is_found : find t.0 vs ≡ some gone
    is_found = find-there t.0 vs (named-there k now.0 t.0 m)

    its_name : gone.terms.tunnel ≡ t.0
    its_name = named-says t.0 gone (found t.0 vs gone is_found).1

    -- .. and what it held is added to the ticks of removed tenants
    hands_over : together x.removed (record_at x (place t.0 vs)).held ≡ total (k.removed + held_of (find t.0 vs))
    unfolding written
    hands_over =
        ap (λ (v : Vcpu). together x.removed v.held) (read t.0 m)
        ∙ ap (λ (g : Total). together g (total gone.held_total)) f.removed
        ∙ ap total (omega (arith, l.within, sum_among (λ v. v.held_total) vs gone (found t.0 vs gone is_found).0))
        ∙ ap (λ (o : Option Tenant). total (k.removed + held_of o)) (sym is_found)

    left : leaving_of x.memory t (record_at x (place t.0 vs)) ≡ memory_of (rs ++ left_by (find t.0 vs))
    left =
        ap (λ (y : Memory). leaving_of y t (record_at x (place t.0 vs))) f.memory
        ∙ ap (leaving_of (memory_of rs) t) (read t.0 m)
        ∙ leaving-written gone (calm-one now.0 gone l.time s) s.few rs t (room-left t.0 m)
        (λ u g. omega (arith, leaves-within now.0 gone s u g, s.range.period-high, l.time))
        ∙ ap (λ (n : ℕ). memory_of (rs ++ remembering n (leaves_until gone))) (sym its_name)
        ∙ ap (λ (o : Option Tenant). memory_of (rs ++ left_by o)) (sym is_found)
      where
        s : Sound now.0 gone
        s = sound-there t.0 m

  pub changeable : (change : Change) (at : Opt ℕ) → at ≡ on_table (named_at (ids_of k.vcpus) change)
      → call_rows k.vcpus rs (asked change) ≡ none → Changeable now change at x next
  changeable (Admit d) at e m =
      let q : Admits vs rs (described d) = admits-after k now.0 rs d m in
      record {
        blank = blank;
        few = omega (arith, room x.places x.ids x.n vs f.table r now.0 rs d q, f.table.count);
        in_time = omega (arith, q.range.period-high, l.time);
        known = q.range.kind-high;
      }
  changeable (Wake t) at e m = rw (e ∙ at_place t.0 m) (at_small t.0 m)
  changeable (Block t) at e m = rw (e ∙ at_place t.0 m) (at_small t.0 m)
  changeable (Remove t) at e m = rw (e ∙ at_place t.0 m) (removable t.0 m)
  changeable Tick at e m = tt

  abbrev Left : Change → Opt ℕ → Type 0
  Left change at =
      FilledBy (changed_table now change at x) (changed_times change at x next) (changeRule now.0 (asked change) vs)
      (rs ++ leaving (asked change) vs) (told_by k now.0) (k.removed + handed_over (asked change) vs)

  pub change-filled : (change : Change) (at : Opt ℕ) → at ≡ on_table (named_at (ids_of k.vcpus) change)
      → call_rows k.vcpus rs (asked change) ≡ none → Left change at
  change-filled (Admit d) at e m =
      let q = admits-after k now.0 rs d m in
      record {
        table = admit-filled x.places x.ids x.n vs f.table r now.0 rs d q;
        memory = f.memory ∙ ap memory_of (sym (append-nil rs));
        removed = none_more;
        times =
            put-filled x.places x.ids x.n vs f.table r now.0 rs d q (said_of (told_by k now.0)) (moment never) (moment never)
            next f.times (sym (heard-new now.0 (after_charge k now.0) (admitted now.0 (described d)) q.not_there));
      }
  change-filled (Wake t) at e m = subst (Left (Wake t)) (sym (e ∙ at_place t.0 m)) (marks t.0 m true)
  change-filled (Block t) at e m = subst (Left (Block t)) (sym (e ∙ at_place t.0 m)) (marks t.0 m false)
  change-filled (Remove t) at e m =
      subst (Left (Remove t)) (sym (e ∙ at_place t.0 m))
      (record {
        table = remove-filled x.places x.ids x.n vs f.table r t.0 (place t.0 vs) refl (named-place k now.0 t.0 m);
        memory = left t m;
        removed = hands_over t m;
        times =
            cut-filled x.places x.ids x.n vs f.table r t.0 (place t.0 vs) refl (named-place k now.0 t.0 m)
            (said_of (told_by k now.0)) (moment never) next f.times;
      })
  change-filled Tick at e m =
      record { table = f.table; memory = f.memory ∙ ap memory_of (sym (append-nil rs)); removed = none_more; times = f.times }
