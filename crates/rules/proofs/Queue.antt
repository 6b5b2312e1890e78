-- The return queue: what charge and return do to its sum, its order and its last entry. `pend x` is the ticks due at x or later.
-- Join, fold and append are one law: d ticks more land on an entry due at D, which is then the last. Assumes nothing.
use mathlib.Core.Path.{◌≡◌, refl, ap, sym, ◌∙◌}
use mathlib.Core.Bool.{Bool, true, false, cond, not}
use mathlib.Core.List.{List, [], ◌∷◌, ◌++◌}
use mathlib.Core.Logic.{⊎_elim}
use Prim.Native.Nat.{ℕ, suc, ◌+◌, ◌≤◌, ◌<◌}
use native.Mathlib.Omega.{arith}
use lib.Dec.{leb}
use lib.ListN.{length, length-append}
use borrow.Author.Tests.{leb-true, leb-false, le-leb, lt-leb, not-true}
use Rattle.rules.specs.Limits.{most_pending}
use Rattle.rules.specs.Lists.{sum}
use Rattle.rules.specs.Vcpu.{Entry, Vcpu}
use Rattle.rules.specs.Charge.{to_last, waiting, goes_on, joins, full, folds, posted}
use Rattle.rules.specs.Return.{brought, still}
use Rattle.rules.proofs.Tests.{tests, clash, cases, and-true}

abbrev pub total : List Entry → ℕ
total q = sum (λ e. e.amount) q

unfoldable pub part : ℕ → Entry → ℕ
part x e = cond (leb x e.due) e.amount 0

abbrev pub pend : ℕ → List Entry → ℕ
pend x q = sum (part x) q

-- the last entry
abbrev pub final : List Entry → Entry
final [] = record { due = 0; amount = 0 }
final (e ∷ []) = e
final (e ∷ f ∷ q) = final (f ∷ q)

abbrev pub last_due : List Entry → ℕ
last_due q = (final q).due

-- the due times rise, from `low` on and to at most `high`
abbrev pub Rising : ℕ → ℕ → List Entry → Type 0
Rising low high [] = Unit {0}
Rising low high (e ∷ q) = (low ≤ e.due) × (e.due ≤ high) × Rising e.due high q

part_in : (x : ℕ) (e : Entry) → x ≤ e.due → part x e ≡ e.amount
unfolding part
part_in x e h = rw (le-leb x e.due h)

part_out : (x : ℕ) (e : Entry) → e.due < x → part x e ≡ 0
unfolding part
part_out x e h = rw (lt-leb x e.due h)

by-due : {A : Type 0} (x : ℕ) (e : Entry) → (x ≤ e.due → A) → (e.due < x → A) → A
by-due x e f g = ⊎_elim (λ t. f (leb-true x e.due t)) (λ t. g (leb-false x e.due t)) (cases (leb x e.due))

part-most : (x : ℕ) (e : Entry) → part x e ≤ e.amount
part-most x e = by-due x e (λ h. omega (arith, part_in x e h)) (λ h. omega (arith, part_out x e h))

pub pend-most : (x : ℕ) (q : List Entry) → pend x q ≤ total q
pend-most x [] = omega arith
pend-most x (e ∷ q) = omega (arith, part-most x e, pend-most x q)

pub rising_wide : (low high low' high' : ℕ) (q : List Entry) → low' ≤ low → high ≤ high' → Rising low high q → Rising low' high' q
rising_wide low high low' high' [] h k r = tt
rising_wide low high low' high' (e ∷ q) h k r =
    (omega (arith, r.0), omega (arith, r.1), rising_wide e.due high e.due high' q (omega arith) k r.2)

pub last-between : (low high : ℕ) (q : List Entry) → Rising low high q → waiting q ≡ true → (low ≤ last_due q) × (last_due q ≤ high)
last-between low high [] r w = clash (sym w)
last-between low high (e ∷ []) r w = (r.0, r.1)
last-between low high (e ∷ f ∷ q) r w =
    let p = last-between e.due high (f ∷ q) r.2 refl in
    (omega (arith, r.0), p.1)

last_of : (e : Entry) (l : List Entry) → waiting l ≡ true → final (e ∷ l) ≡ final l
last_of e [] z = clash (sym z)
last_of e (a ∷ l) z = refl

waits_to_last : (g : Entry → Entry) (q : List Entry) → waiting q ≡ true → waiting (to_last g q) ≡ true
waits_to_last g [] w = w
waits_to_last g (e ∷ []) w = refl
waits_to_last g (e ∷ f ∷ q) w = refl

final_to_last : (g : Entry → Entry) (q : List Entry) → waiting q ≡ true → final (to_last g q) ≡ g (final q)
final_to_last g [] w = clash (sym w)
final_to_last g (e ∷ []) w = refl
final_to_last g (e ∷ f ∷ q) w = last_of e (to_last g (f ∷ q)) (waits_to_last g (f ∷ q) refl) ∙ final_to_last g (f ∷ q) refl

final-append : (q : List Entry) (e : Entry) → final (q ++ e ∷ []) ≡ e
final-append [] e = refl
final-append (a ∷ []) e = refl
final-append (a ∷ b ∷ q) e = final-append (b ∷ q) e

pub same_length : (g : Entry → Entry) (q : List Entry) → length (to_last g q) ≡ length q
same_length g [] = refl
same_length g (e ∷ []) = refl
same_length g (e ∷ f ∷ q) = ap suc (same_length g (f ∷ q))

-- d ticks more in the queue, on its last entry
pub record Posted (low high d : ℕ) (q q' : List Entry) : Type 0 where
  pub in_all : total q' ≡ total q + d
  pub order : Rising low high q'
  pub waits : waiting q' ≡ true
  pub few : length q' ≤ most_pending
  pub counts : (x : ℕ) → x ≤ last_due q' → pend x q + d ≤ pend x q'
  pub keeps : (x : ℕ) → pend x q ≤ pend x q'

-- an entry with d ticks more, and another time
abbrev with : (Entry → ℕ) → ℕ → Entry → Entry
with f d e = record { due = f e; amount = e.amount + d }

with_part : (x d : ℕ) (f : Entry → ℕ) (e : Entry) → e.due ≤ f e
    → ((x ≤ f e) → part x e + d ≤ part x (with f d e)) × (part x e ≤ part x (with f d e))
with_part x d f e h = (
  λ k. omega (arith, part_in x (with f d e) k, part-most x e),
  by-due x (with f d e) (λ k. omega (arith, part_in x (with f d e) k, part-most x e)) (λ k. omega (arith, part_out x e (omega arith))),
)

-- the amount joins the last entry, whose time becomes no earlier
to_last_lem : (low high d : ℕ) (f : Entry → ℕ) (q : List Entry) → Rising low high q → waiting q ≡ true → length q ≤ most_pending
    → last_due q ≤ f (final q) → f (final q) ≤ high → Posted low high d q (to_last (with f d) q)
to_last_lem low high d f [] r w n h k = clash (sym w)
to_last_lem low high d f (e ∷ []) r w n h k =
    record {
      in_all = omega arith;
      order = (omega (arith, r.0), k, tt);
      waits = refl;
      few = n;
      counts = λ x j. omega (arith, (with_part x d f e h).0 j);
      keeps = λ x. omega (arith, (with_part x d f e h).1);
    }
to_last_lem low high d f (e ∷ g ∷ q) r w n h k =
    let p = to_last_lem e.due high d f (g ∷ q) r.2 refl (omega (arith, n)) h k in
    let o : last_due (e ∷ to_last (with f d) (g ∷ q)) ≡ last_due (to_last (with f d) (g ∷ q)) = ap (λ x. x.due)
    (last_of e (to_last (with f d) (g ∷ q)) p.waits) in
    record {
      in_all = omega (arith, p.in_all);
      order = (r.0, r.1, p.order);
      waits = refl;
      few = omega (arith, same_length (with f d) (g ∷ q), n);
      counts = λ x j. omega (arith, p.counts x (omega arith));
      keeps = λ x. omega (arith, p.keeps x);
    }

-- a new entry behind all others
append : (low high d : ℕ) (e : Entry) (q : List Entry) → Rising low high q → length q < most_pending → low ≤ e.due
    → (waiting q ≡ true → last_due q ≤ e.due) → e.due ≤ high → e.amount ≡ d → Posted low high d q (q ++ e ∷ [])
append low high d e [] r n l h k a =
    record {
      in_all = omega arith;
      order = (l, k, tt);
      waits = refl;
      few = omega arith;
      counts = λ x j. omega (arith, part_in x e j);
      keeps = λ x. omega arith;
    }
append low high d e (b ∷ q) r n l h k a =
    let p : Posted b.due high d q (q ++ e ∷ []) =
    append b.due high d e q r.2 (omega (arith, n)) (before q r.2 (h refl))
    (λ w. omega (arith, ap (λ x. x.due) (last_of b q w), h refl)) k a in
    let o : last_due (b ∷ (q ++ e ∷ [])) ≡ last_due (q ++ e ∷ []) = ap (λ x. x.due) (last_of b (q ++ e ∷ []) p.waits) in
    record {
      in_all = omega (arith, p.in_all);
      order = (r.0, r.1, p.order);
      waits = refl;
      few = omega (arith, length-append q (e ∷ []), n);
      counts = λ x j. omega (arith, p.counts x (omega arith));
      keeps = λ x. omega (arith, p.keeps x);
    }
  where
    before : (q : List Entry) → Rising b.due high q → last_due (b ∷ q) ≤ e.due → b.due ≤ e.due
    before [] o z = z
    before (c ∷ l) o z = omega (arith, (last-between b.due high (c ∷ l) o refl).0)

waits-long : (q : List Entry) → 1 ≤ length q → waiting q ≡ true
waits-long [] h = absurd (omega arith)
waits-long (e ∷ q) h = refl

-- "its previous use ended exactly at `last` and its queue isn't empty"
pub joins-says : (last : ℕ) (v : Vcpu) → joins last v ≡ true → (v.ended ≡ last) × (waiting v.pending ≡ true)
joins-says last v j = let p = and-true (goes_on last v) (waiting v.pending) j in (omega (arith, tests), p.1)

-- "if 8 are pending"
folds-says : (last : ℕ) (v : Vcpu) → folds last v ≡ true → (joins last v ≡ false) × (most_pending ≤ length v.pending)
folds-says last v f =
    let p = and-true (not (joins last v)) (full v) f in
    (not-true (joins last v) p.0, omega (arith, tests))

appends_says : (last : ℕ) (v : Vcpu) → joins last v ≡ false → folds last v ≡ false → length v.pending < most_pending
appends_says last v j f =
    let n : full v ≡ false = rw j at f in
    omega (arith, tests)

abbrev Lands : ℕ → ℕ → Vcpu → Type 0
Lands last d v = Posted (suc last) (last + v.terms.period) d v.pending (posted last d v)

-- whichever way the d ticks land
pub posts : (last d : ℕ) (v : Vcpu) → 1 ≤ v.terms.period → Rising (suc last) (last + v.terms.period) v.pending
    → length v.pending ≤ most_pending → Lands last d v
unfolding posted
posts last d v h r n = ⊎_elim join (λ j. ⊎_elim (fold j) (new j) (cases (folds last v))) (cases (joins last v))
  where
    join : joins last v ≡ true → Lands last d v
    join j =
        let w : waiting v.pending ≡ true = (joins-says last v j).1 in
        let b = last-between (suc last) (last + v.terms.period) v.pending r w in
        rw j (to_last_lem (suc last) (last + v.terms.period) d _ v.pending r w n (omega arith) (omega (arith, b.1)))

    fold : joins last v ≡ false → folds last v ≡ true → Lands last d v
    fold j t =
        let l : most_pending ≤ length v.pending = (folds-says last v t).1 in
        let w : waiting v.pending ≡ true = waits-long v.pending (omega arith) in
        let b = last-between (suc last) (last + v.terms.period) v.pending r w in
        rw (t, j) (to_last_lem (suc last) (last + v.terms.period) d _ v.pending r w n (omega (arith, b.1)) (omega (arith, b.1)))

    new : joins last v ≡ false → folds last v ≡ false → Lands last d v
    new j t =
        rw (t, j)
        (append (suc last) (last + v.terms.period) d _ v.pending r (appends_says last v j t) (omega arith)
        (λ w. omega (arith, (last-between (suc last) (last + v.terms.period) v.pending r w).1)) (omega arith) (omega arith))

last-due : (d g due : ℕ) (f : Entry → ℕ) (q : List Entry) → waiting q ≡ true → f (final q) + g ≡ due
    → last_due (to_last (with f d) q) + g ≡ due
last-due d g due f q w e = ap (λ x. x.due + g) (final_to_last (with f d) q w) ∙ e

new-due : (g due : ℕ) (e : Entry) (q : List Entry) → e.due + g ≡ due → last_due (q ++ e ∷ []) + g ≡ due
new-due g due e q h = ap (λ x. x.due + g) (final-append q e) ∙ h

-- A return is due one period after the start of the slice: g ticks of a slice that goes on were held right before `last`.
pub due-there : (last d g : ℕ) (v : Vcpu) → (joins last v ≡ true → last_due v.pending + g ≡ last + v.terms.period)
    → (joins last v ≡ false → g ≡ 0) → last_due (posted last d v) + g ≡ last + v.terms.period
unfolding posted
due-there last d g v a b = ⊎_elim join (λ j. ⊎_elim (fold j) (new j) (cases (folds last v))) (cases (joins last v))
  where
    join : joins last v ≡ true → last_due (posted last d v) + g ≡ last + v.terms.period
    join j =
        let w : waiting v.pending ≡ true = (joins-says last v j).1 in
        rw j (last-due d g (last + v.terms.period) _ v.pending w (omega (arith, a j)))

    fold : joins last v ≡ false → folds last v ≡ true → last_due (posted last d v) + g ≡ last + v.terms.period
    fold j t =
        let l : most_pending ≤ length v.pending = (folds-says last v t).1 in
        let w : waiting v.pending ≡ true = waits-long v.pending (omega arith) in
        rw (t, j) (last-due d g (last + v.terms.period) _ v.pending w (omega (arith, b j)))

    new : joins last v ≡ false → folds last v ≡ false → last_due (posted last d v) + g ≡ last + v.terms.period
    new j t = rw (t, j) (new-due g (last + v.terms.period) _ v.pending (omega (arith, b j)))

-- the two ways in which nothing folds
pub posted_on : (last d : ℕ) (v : Vcpu) → joins last v ≡ true
    → posted last d v ≡ to_last (λ e. record { due = e.due; amount = e.amount + d }) v.pending
unfolding posted
posted_on last d v j = rw j

pub posted-new : (last d : ℕ) (v : Vcpu) → joins last v ≡ false → folds last v ≡ false
    → posted last d v ≡ v.pending ++ record { due = last + v.terms.period; amount = d } ∷ []
unfolding posted
posted-new last d v j f = rw (f, j)

pub brought-all : (now : ℕ) (q : List Entry) → brought now q + total (still now q) ≡ total q
brought-all now [] = refl
brought-all now (e ∷ q) = go (leb e.due now) (brought-all now q)
  where
    go : (t : Bool) → brought now q + total (still now q) ≡ total q
        → cond t (e.amount + brought now q) 0 + total (cond t (still now q) (e ∷ q)) ≡ e.amount + total q
    go true ih = omega arith
    go false ih = omega arith

pub record Still (now high : ℕ) (q : List Entry) : Type 0 where
  pub order : Rising (suc now) high (still now q)
  pub few : length (still now q) ≤ length q
  pub counts : (x : ℕ) → now < x → pend x (still now q) ≡ pend x q
  pub same-last : waiting (still now q) ≡ true → (waiting q ≡ true) × (last_due (still now q) ≡ last_due q)
  pub waits : waiting q ≡ true → now < last_due q → waiting (still now q) ≡ true

pub stays-behind : (now low high : ℕ) (q : List Entry) → Rising low high q → Still now high q
stays-behind now low high [] r =
    record { order = tt; few = omega arith; counts = λ x h. refl; same-last = λ w. clash (sym w); waits = λ w h. w }
stays-behind now low high (e ∷ q) r = by-due (suc now) e front (back (stays-behind now e.due high q r.2))
  where
    front : suc now ≤ e.due → Still now high (e ∷ q)
    front h =
        let t : leb e.due now ≡ false = lt-leb e.due now h in
        record {
          order = rw t (h, r.1, r.2);
          few = rw t (omega arith);
          counts = λ x k. rw t;
          same-last = rw t (λ w. (refl, refl));
          waits = rw t (λ w k. refl);
        }

    behind : (q : List Entry) → e.due < suc now → now < last_due (e ∷ q) → (waiting q ≡ true) × (now < last_due q)
    behind [] h k = absurd (omega arith)
    behind (a ∷ l) h k = (refl, k)

    back : Still now high q → e.due < suc now → Still now high (e ∷ q)
    back ih h =
        let t : leb e.due now ≡ true = le-leb e.due now (omega arith) in
        record {
          order = rw t ih.order;
          few = rw t (omega (arith, ih.few));
          counts = λ x k. rw t (omega (arith, ih.counts x k, part_out x e (omega arith)));
          same-last = rw t (λ w. (refl, (ih.same-last w).1 ∙ sym (ap (λ x. x.due) (last_of e q (ih.same-last w).0))));
          waits = rw t (λ w k. ih.waits (behind q h k).0 (behind q h k).1);
        }
