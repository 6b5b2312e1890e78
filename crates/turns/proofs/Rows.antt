-- The code's verdict on a written table is the rules' refusal, and one that an accepted call names stands at its place.
-- Assumes nothing.
use Prim.Native.Nat.{ℕ, ◌+◌, ◌≤◌}
use mathlib.Core.Path.{◌≡◌, refl, ap, ◌∙◌}
use mathlib.Core.Bool.{Bool, true, false, cond, not}
use mathlib.Core.List.{List}
use mathlib.Core.Option.{Option, none, some}
use native.Mathlib.Omega.{arith}
use lib.Dec.{leb, ltb, eqb}
use lib.ListN.{length}
use borrow.Author.Tests.{ltb-false, lt-ltb, not-false}
use Rattle.std.specs.Prelude.{Option as Opt, Some, None, Ok, Err, is_some, is_none}
use Rattle.units.specs.Units.{moment}
use Rattle.units.specs.declared.Moment.{Moment}
use Rattle.rules.specs.Limits.{largest_time, largest_tunnel, largest_kind, most_vcpus, in_range}
use Rattle.rules.specs.Vcpu.{Vcpu as Tenant}
use Rattle.rules.specs.Vcpu.{Description as Terms}
use Rattle.rules.specs.Card.{Card, on_card}
use Rattle.rules.specs.Change.{admit, wake, block, remove, tick}
use Rattle.rules.specs.Change.{Change as Asked}
use Rattle.rules.specs.Remember.{Remembered, kept, time_of}
use Rattle.rules.specs.Refuse.{row, row_late, row_remembered, admit_rows, naming_rows, call_rows, refusal}
use Rattle.rules.specs.Refuse.{Refusal as Row}
use Rattle.rules.proofs.Accepted.{row-passed}
use Rattle.turns.specs.declared.Refusal.TheVariants.{BeforeLast, BadTunnel, BadPeriod, OnCard}
use Rattle.turns.specs.declared.Refusal.TheVariants.{NotOnCard, Full, BadKind, NoCapacity, CapacityAbovePeriod}
use Rattle.turns.specs.declared.Description.{Description}
use Rattle.turns.specs.declared.Roster.{Roster}
use Rattle.turns.specs.declared.Change.{Change}
use Rattle.turns.specs.declared.Change.TheVariants.{Admit, Wake, Block, Remove, Tick}
use Rattle.turns.specs.Written.{place, memories, ids_of, moment_said}
use Rattle.turns.specs.Places.{seek, nowhere, on_table, named_at}
use Rattle.turns.specs.Judge.{Verdict, passes, verdict_row, remembered_row, late_row}
use Rattle.turns.specs.Judge.{judge_terms, judge_place, judge_admit, judge_naming, judge_call, judge}
use Rattle.turns.specs.Calls.{described, asked, paper_refusal, refusal_said}
use Rattle.turns.proofs.Places.{place-there, seek-laid}

abbrev pub verdict_of : Option Row → Verdict
verdict_of none = passes
verdict_of (some r) = Err (refusal_said r)

row_same : (b : Bool) (n d : ℕ) (x : Verdict) (o : Option Row) → (b ≡ false → x ≡ verdict_of o)
    → verdict_row b (refusal_said (record { number = n; detail = d })) x ≡ verdict_of (row b n d o)
row_same true n d x o h = refl
row_same false n d x o h = h refl

-- the rows of what an admit asks for, judged alone, and then those of its place
abbrev pub unless : Verdict → Verdict → Verdict
unless (Ok x) below = below
unless (Err x) below = Err x

pub terms_then : (d : Description) (below : Verdict) → judge_terms d below ≡ unless (judge_terms d passes) below
unfolding judge_terms
terms_then d below =
    go (ltb largest_tunnel d.tunnel.0) (not (in_range d.period.0)) (eqb d.capacity.0 0) (ltb d.period.0 d.capacity.0)
    (ltb largest_kind d.kind)
  where
    rows : Bool → Bool → Bool → Bool → Bool → Verdict → Verdict
    rows a b c e f below =
        verdict_row a BadTunnel (verdict_row b BadPeriod (verdict_row c NoCapacity (verdict_row e CapacityAbovePeriod
        (verdict_row f BadKind below))))

    go : (a b c e f : Bool) → rows a b c e f below ≡ unless (rows a b c e f passes) below
    go true b c e f = refl
    go false true c e f = refl
    go false false true e f = refl
    go false false false true f = refl
    go false false false false true = refl
    go false false false false false = refl

-- row 9
remembered-same : (o : Option ℕ) (x : Verdict) (below : Option Row) → x ≡ verdict_of below
    → remembered_row o x ≡ verdict_of (row_remembered o below)
remembered-same none x below e = e
remembered-same (some t) x below e = refl

-- a narrow identifier stands at its place, or nowhere
abbrev pub at_place : Bool → ℕ → Opt ℕ
at_place true k = Some k
at_place false k = None

module _ (vs : List Tenant) (few : length vs ≤ 32) where
  sought : (t : ℕ) (b : Bool) → ltb largest_tunnel t ≡ false → on_card t vs ≡ b → seek t (ids_of vs) ≡ cond b (place t vs) nowhere
  sought t b f e = seek-laid t 32 vs (ltb-false largest_tunnel t f) few ∙ ap (λ (x : Bool). cond x (place t vs) 32) e

  pub found : (t : ℕ) (b : Bool) → ltb largest_tunnel t ≡ false → on_card t vs ≡ b
      → on_table (seek t (ids_of vs)) ≡ at_place b (place t vs)
  found t true f e =
      ap on_table (sought t true f e) ∙ rw (lt-ltb (place t vs) nowhere (omega (arith, place-there t vs e))) refl
  found t false f e = ap on_table (sought t false f e)

  naming-same : (t : ℕ) → judge_naming (on_table (seek t (ids_of vs))) t ≡ verdict_of (naming_rows vs t)
  unfolding judge_naming
  naming-same t =
      row_same (ltb largest_tunnel t) 4 0 (verdict_row (is_none (on_table (seek t (ids_of vs)))) NotOnCard passes)
      (row (not (on_card t vs)) 7 0 none)
      (λ f. inner (on_card t vs) (found t (on_card t vs) f refl))
    where
      inner : (b : Bool) → on_table (seek t (ids_of vs)) ≡ at_place b (place t vs)
          → verdict_row (is_none (on_table (seek t (ids_of vs)))) NotOnCard passes ≡ verdict_of (row (not b) 7 0 none)
      inner true g = rw g refl
      inner false g = rw g refl

module _ (vs : List Tenant) (rs : List Remembered) (few : length vs ≤ 32) where
  admit-same : (d : Description)
      → judge_admit (on_table (seek d.tunnel.0 (ids_of vs))) (length vs) rs d ≡ verdict_of (admit_rows vs rs (described d))
  unfolding judge_terms judge_place
  admit-same d =
      row_same (ltb largest_tunnel t) 4 0 _ _
      (λ f. row_same (not (in_range d.period.0)) 5 0 _ _
      (λ g. row_same (eqb d.capacity.0 0) 11 0 _ _
      (λ g. row_same (ltb d.period.0 d.capacity.0) 12 0 _ _
      (λ g. row_same (ltb largest_kind d.kind) 10 0 _ _
      (λ g. inner (on_card t vs) (found vs few t (on_card t vs) f refl))))))
    where
      t : ℕ
      t = d.tunnel.0

      inner : (b : Bool) → on_table (seek d.tunnel.0 (ids_of vs)) ≡ at_place b (place d.tunnel.0 vs)
          → verdict_row (is_some (on_table (seek d.tunnel.0 (ids_of vs)))) OnCard
          (remembered_row (time_of d.tunnel.0 rs) (verdict_row (leb most_vcpus (length vs + length rs)) Full passes))
          ≡ verdict_of (row b 6 0 (row_remembered (time_of d.tunnel.0 rs) (row (leb most_vcpus (length vs + length rs)) 8 0 none)))
      inner true g = rw g refl
      inner false g =
          rw g
          (remembered-same (time_of d.tunnel.0 rs) (verdict_row (leb most_vcpus (length vs + length rs)) Full passes)
          (row (leb most_vcpus (length vs + length rs)) 8 0 none)
          (row_same (leb most_vcpus (length vs + length rs)) 8 0 passes none (λ f. refl)))

  call_same : (change : Change)
      → judge_call (on_table (named_at (ids_of vs) change)) (length vs) rs change ≡ verdict_of (call_rows vs rs (asked change))
  call_same (Admit d) = admit-same d
  call_same (Wake t) = naming-same vs few t.0
  call_same (Block t) = naming-same vs few t.0
  call_same (Remove t) = naming-same vs few t.0
  call_same Tick = refl

module _ (k : Card) (now : Moment) (change : Change) (few : length k.vcpus ≤ 32) where
  abbrev asks : Verdict
  asks = judge_call (on_table (named_at (ids_of k.vcpus) change)) (length k.vcpus) (kept now.0 k.remembered) change

  abbrev rows : Option Row
  rows = call_rows k.vcpus (kept now.0 k.remembered) (asked change)

  call : asks ≡ verdict_of rows
  call = call_same k.vcpus (kept now.0 k.remembered) few change

  late-same : (o : Option ℕ) → late_row (moment_said o) now asks ≡ verdict_of (row_late o now.0 rows)
  late-same none = call
  late-same (some t) = row_same (ltb t now.0) 3 t asks rows (λ f. call)

  pub judge-same : (x : Roster) → x.n ≡ length k.vcpus → memories x.memory ≡ k.remembered
      → judge (moment k.last) (moment_said k.timer) (on_table (named_at (ids_of k.vcpus) change)) x now change
      ≡ verdict_of (refusal k now.0 (asked change))
  unfolding judge refusal
  judge-same x n m =
      rw (n, m)
      (row_same (ltb largest_time now.0) 1 0
      (verdict_row (ltb now.0 k.last) BeforeLast (late_row (moment_said k.timer) now asks))
      (row (ltb now.0 k.last) 2 0 (row_late k.timer now.0 rows))
      (λ f. row_same (ltb now.0 k.last) 2 0 (late_row (moment_said k.timer) now asks) (row_late k.timer now.0 rows)
      (λ g. late-same k.timer)))

pub there : (vs : List Tenant) (t : ℕ) → naming_rows vs t ≡ none → on_card t vs ≡ true
there vs t e =
    let p = row-passed (ltb largest_tunnel t) 4 0 (row (not (on_card t vs)) 7 0 none) e in
    not-false (on_card t vs) (row-passed (not (on_card t vs)) 7 0 none p.1).0

-- one that row 7 finds stands at its place
pub named-seek : (vs : List Tenant) → length vs ≤ 32 → (t : ℕ) → naming_rows vs t ≡ none
    → on_table (seek t (ids_of vs)) ≡ Some (place t vs)
named-seek vs few t e =
    found vs few t true (row-passed (ltb largest_tunnel t) 4 0 (row (not (on_card t vs)) 7 0 none) e).0 (there vs t e)

-- every row has one of the twelve numbers, and tells no more than its refusal
abbrev pub Regular : Option Row → Type 0
Regular none = Unit {0}
Regular (some r) = paper_refusal (refusal_said r) ≡ r

regular-row : (b : Bool) (n d : ℕ) (o : Option Row)
    → paper_refusal (refusal_said (record { number = n; detail = d })) ≡ record { number = n; detail = d } → Regular o
    → Regular (row b n d o)
regular-row true n d o e h = e
regular-row false n d o e h = h

regular-naming : (vs : List Tenant) (t : ℕ) → Regular (naming_rows vs t)
regular-naming vs t =
    regular-row (ltb largest_tunnel t) 4 0 _ refl (regular-row (not (on_card t vs)) 7 0 none refl tt)

regular-admit : (vs : List Tenant) (rs : List Remembered) (d : Terms) → Regular (admit_rows vs rs d)
regular-admit vs rs d =
    regular-row (ltb largest_tunnel d.tunnel) 4 0 _ refl
    (regular-row (not (in_range d.period)) 5 0 _ refl
    (regular-row (eqb d.capacity 0) 11 0 _ refl
    (regular-row (ltb d.period d.capacity) 12 0 _ refl
    (regular-row (ltb largest_kind d.kind) 10 0 _ refl
    (regular-row (on_card d.tunnel vs) 6 0 _ refl
    (again (time_of d.tunnel rs)))))))
  where
    again : (o : Option ℕ) → Regular (row_remembered o (row (leb most_vcpus (length vs + length rs)) 8 0 none))
    again none = regular-row (leb most_vcpus (length vs + length rs)) 8 0 none refl tt
    again (some t) = refl

regular-call : (vs : List Tenant) (rs : List Remembered) (a : Asked) → Regular (call_rows vs rs a)
regular-call vs rs (admit d) = regular-admit vs rs d
regular-call vs rs (wake t) = regular-naming vs t
regular-call vs rs (block t) = regular-naming vs t
regular-call vs rs (remove t) = regular-naming vs t
regular-call vs rs tick = tt

pub regular : (k : Card) (now : ℕ) (a : Asked) → Regular (refusal k now a)
unfolding refusal
regular k now a =
    regular-row (ltb largest_time now) 1 0 _ refl (regular-row (ltb now k.last) 2 0 _ refl (late k.timer))
  where
    late : (o : Option ℕ) → Regular (row_late o now (call_rows k.vcpus (kept now k.remembered) a))
    late none = regular-call k.vcpus (kept now k.remembered) a
    late (some t) = regular-row (ltb t now) 3 t _ refl (regular-call k.vcpus (kept now k.remembered) a)
