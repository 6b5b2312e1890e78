-- The charge of a written record is the written charge. Assumes nothing.
use Prim.Native.Nat.{ℕ, suc, ◌+◌, ◌-◌, ◌≤◌, ◌<◌}
use mathlib.Core.Path.{◌≡◌, refl, ap, sym, ◌∙◌}
use mathlib.Core.Bool.{Bool, true, false, cond, not, ◌&&◌}
use mathlib.Core.List.{List, [], ◌∷◌, ◌++◌}
use mathlib.Core.Option.{none}
use native.Mathlib.Omega.{arith}
use lib.Dec.{leb, ltb, eqb}
use lib.ListN.{length, get_or, set, length-append}
use lib.Seq.{set-get_or}
use borrow.Author.Tests.{eqb-true, eqb-false, eq-eqb, ne_eqb, lt-ltb, leb-true, leb-false}
use Rattle.units.specs.Units.{moment, amount, total, later}
use Rattle.units.specs.declared.Moment.{Moment}
use Rattle.units.specs.declared.Amount.{Amount}
use Rattle.rules.specs.Vcpu.{Entry, is_sporadic}
use Rattle.rules.specs.Vcpu.{Vcpu as Tenant}
use Rattle.rules.specs.Charge.{to_last, waiting, joins, posted, charged}
use Rattle.rules.proofs.Tests.{clash, and-true}
use Rattle.rules.proofs.Queue.{same_length}
use Rattle.turns.specs.declared.Vcpu.{Vcpu}
use Rattle.turns.specs.Laid.{laid}
use Rattle.turns.specs.Written.{never, amount_of, kind_as, written}
use Rattle.turns.specs.Steps.{has_queue, queue_as, ended_as, took_of, joins_of, with_more, joined_of, folded_of, appended_of}
use Rattle.turns.specs.Steps.{owing_as, long_as, posted_of, spent_of, longer_by, charged_of}
use Rattle.turns.proofs.Laid.{laid-get, laid-set, laid_end}
use Rattle.turns.proofs.Written.{due_of, with_queue, as-queue, kind-queue}

abbrev no_entry : Entry
no_entry = record { due = 0; amount = 0 }

last_set : (f : Entry → Entry) (q : List Entry) → 0 < length q → to_last f q ≡ set q (length q - 1) (f (get_or q (length q - 1) no_entry))
last_set f [] h = absurd (omega arith)
last_set f (e ∷ []) h = refl
last_set f (e ∷ g ∷ q) h =
    let n : length (e ∷ g ∷ q) - 1 ≡ suc (length (g ∷ q) - 1) = omega arith in
    rw n (ap (λ (r : List Entry). e ∷ r) (last_set f (g ∷ q) (omega arith)))

-- the two arrays of a queue whose last entry was changed
module _ (f : Entry → Entry) (q : List Entry) (h : 0 < length q) (g : length q ≤ 8) where
  laid-last : {B : Type 0} (h' : Entry → B) (z : B)
      → laid 8 h' z (to_last f q) ≡ set (laid 8 h' z q) (length q - 1) (h' (f (get_or q (length q - 1) no_entry)))
  laid-last h' z = ap (laid 8 h' z) (last_set f q h)
      ∙ sym (laid-set h' z 8 q (length q - 1) (f (get_or q (length q - 1) no_entry)) (omega arith) g)

  last-ticks : (get_or (laid 8 amount_of (amount 0) q) (length q - 1) (amount 0)).0 ≡ (get_or q (length q - 1) no_entry).amount
  last-ticks = ap (λ (a : Amount). a.0) (laid-get amount_of (amount 0) 8 q (length q - 1) no_entry (amount 0) (omega arith) g)

  last-due : moment (get_or q (length q - 1) no_entry).due ≡ get_or (laid 8 due_of (moment never) q) (length q - 1) (moment 0)
  last-due = sym (laid-get due_of (moment never) 8 q (length q - 1) no_entry (moment 0) (omega arith) g)

joins-same : (last : ℕ) (v : Tenant) → joins_of (with_queue v v.pending) (moment last) ≡ joins last v
unfolding written
joins-same last v = go v.pending (eqb v.ended last)
  where
    go : (q : List Entry) (b : Bool) → ltb 0 (length q) && b ≡ b && waiting q
    go [] true = refl
    go [] false = refl
    go (e ∷ q) true = rw (lt-ltb 0 (suc (length q)) (omega arith))
    go (e ∷ q) false = rw (lt-ltb 0 (suc (length q)) (omega arith))

waits-some : (q : List Entry) → waiting q ≡ true → 0 < length q
waits-some [] e = clash (sym e)
waits-some (x ∷ q) e = omega arith

same_queue : (v : Tenant) (ds ds' : List Moment) (bs bs' : List Amount) (n n' : ℕ) → ds ≡ ds' → bs ≡ bs' → n ≡ n'
    → queue_as (written v) ds bs n ≡ queue_as (written v) ds' bs' n'
same_queue v ds ds' bs bs' n n' p q r = rw (p, q, r)

module _ (last d : ℕ) (v : Tenant) (few : length v.pending ≤ 8) (fits : last + v.terms.period ≤ never)
    (long : v.held_total + d ≤ never) where
  due-fits : later (moment last) (amount v.terms.period) ≡ moment (last + v.terms.period)
  due-fits = ap moment (omega arith)

  -- the amount joins the last entry, whose due time becomes `due` of it
  abbrev more : (Entry → ℕ) → Entry → Entry
  more due e = record { due = due e; amount = e.amount + d }

  last-same : (due : Entry → ℕ) (ds : List Moment) → 0 < length v.pending
      → ds ≡ laid 8 due_of (moment never) (to_last (more due) v.pending)
      → queue_as (written v) ds (with_more (with_queue v v.pending) (length v.pending - 1) (amount d)) (length v.pending)
      ≡ with_queue v (to_last (more due) v.pending)
  unfolding written
  last-same due ds h e =
      same_queue v ds (laid 8 due_of (moment never) (to_last (more due) q))
      (set (laid 8 amount_of (amount 0) q) n (amount ((get_or (laid 8 amount_of (amount 0) q) n (amount 0)).0 + d)))
      (laid 8 amount_of (amount 0) (to_last (more due) q))
      (length q) (length (to_last (more due) q))
      e
      (ap (λ (m : ℕ). set (laid 8 amount_of (amount 0) q) n (amount (m + d))) (last-ticks (more due) q h few)
      ∙ sym (laid-last (more due) q h few amount_of (amount 0)))
      (sym (same_length (more due) q))
    where
      q : List Entry
      q = v.pending

      n : ℕ
      n = length q - 1

  joined_same : 0 < length v.pending
      → joined_of (with_queue v v.pending) (amount d) ≡ with_queue v (to_last (more (λ e. e.due)) v.pending)
  unfolding written
  joined_same h =
      last-same (λ e. e.due) ds h
      (sym (laid-last (more (λ e. e.due)) q h few due_of (moment never)
      ∙ ap (set ds (length q - 1)) (last-due (more (λ e. e.due)) q h few)
      ∙ set-get_or ds (length q - 1) (moment 0)))
    where
      q : List Entry
      q = v.pending

      ds : List Moment
      ds = laid 8 due_of (moment never) q

  folded-same : 0 < length v.pending
      → folded_of (with_queue v v.pending) (amount d) (later (moment last) (amount v.terms.period))
      ≡ with_queue v (to_last (more (λ e. last + v.terms.period)) v.pending)
  unfolding written
  folded-same h =
      last-same (λ e. last + v.terms.period) _ h
      (ap (set (laid 8 due_of (moment never) v.pending) (length v.pending - 1)) due-fits
      ∙ sym (laid-last (more (λ e. last + v.terms.period)) v.pending h few due_of (moment never)))

  appended_same : length v.pending < 8
      → appended_of (with_queue v v.pending) (amount d) (later (moment last) (amount v.terms.period))
      ≡ with_queue v (v.pending ++ record { due = last + v.terms.period; amount = d } ∷ [])
  unfolding written
  appended_same h =
      same_queue v (set (laid 8 due_of (moment never) q) (length q) (later (moment last) (amount v.terms.period)))
      (laid 8 due_of (moment never)
      (q ++ e ∷ []))
      (set (laid 8 amount_of (amount 0) q) (length q) (amount d)) (laid 8 amount_of (amount 0) (q ++ e ∷ []))
      (length q + 1) (length (q ++ e ∷ []))
      (ap (set (laid 8 due_of (moment never) q) (length q)) due-fits ∙ laid_end due_of (moment never) 8 q e h)
      (laid_end amount_of (amount 0) 8 q e h)
      (sym (length-append q (e ∷ [])))
    where
      q : List Entry
      q = v.pending

      e : Entry
      e = record { due = last + v.terms.period; amount = d }

  period-written : (written v).period ≡ amount v.terms.period
  unfolding written
  period-written = refl

  posted-queue : posted_of (with_queue v v.pending) (amount d) (moment last) ≡ with_queue v (posted last d v)
  unfolding posted_of posted written
  posted-queue = go (joins last v) refl
    where
      due : Moment
      due = later (moment last) (amount v.terms.period)

      x : Vcpu
      x = with_queue v v.pending

      full : (b : Bool) → leb 8 (length v.pending) ≡ b
          → cond (eqb (length v.pending) 8) (folded_of x (amount d) due) (appended_of x (amount d) due)
          ≡ with_queue v (cond b (to_last (λ e. record { due = last + v.terms.period; amount = e.amount + d }) v.pending)
          (v.pending ++ record { due = last + v.terms.period; amount = d } ∷ []))
      full true e = let h : 8 ≤ length v.pending = leb-true 8 (length v.pending) e in
          rw (eq-eqb (length v.pending) 8 (omega arith)) (folded-same (omega arith))
      full false e = let h : length v.pending < 8 = leb-false 8 (length v.pending) e in
          rw (ne_eqb (length v.pending) 8 (omega arith)) (appended_same h)

      go : (b : Bool) → joins last v ≡ b
          → cond (joins_of x (moment last)) (joined_of x (amount d))
          (cond (eqb (length v.pending) 8) (folded_of x (amount d) (later (moment last) (written v).period))
          (appended_of x (amount d) (later (moment last) (written v).period)))
          ≡ with_queue v
          (cond b (to_last (λ e. record { due = e.due; amount = e.amount + d }) v.pending)
          (cond (not b && leb 8 (length v.pending))
          (to_last (λ e. record { due = last + v.terms.period; amount = e.amount + d }) v.pending)
          (v.pending ++ record { due = last + v.terms.period; amount = d } ∷ [])))
      go true e = rw (joins-same last v ∙ e)
          (joined_same (waits-some v.pending (and-true (eqb v.ended last) (waiting v.pending) e).1))
      go false e = rw (joins-same last v ∙ e, period-written) (full (leb 8 (length v.pending)) refl)

  -- the tenant charged, with a queue or without one
  abbrev paid : ℕ → Bool → Tenant
  paid now b =
      record {
        terms = v.terms;
        runnable = v.runnable;
        usable = v.usable - d;
        ended = cond b now v.ended;
        pending = cond b (posted last d v) v.pending;
        boundary = v.boundary;
        pending_total = cond b (v.pending_total + d) v.pending_total;
        held_total = v.held_total + d;
      }

  -- the record that a charge leaves, of one that was spent
  abbrev took : Vcpu → Vcpu
  took x = long_as (took_of x (amount (v.usable - d))) (total (v.held_total + d))

  -- .., of one whose queue has the ticks
  abbrev owes : ℕ → Vcpu → Vcpu
  owes now x = owing_as (ended_as x (moment now)) (amount (v.pending_total + d))

  took-queue : (now : ℕ) → took (owes now (with_queue v (posted last d v))) ≡ with_queue (paid now true) (posted last d v)
  unfolding written
  took-queue now = refl

  took-written : (now : ℕ) → took (written v) ≡ written (paid now false)
  unfolding written
  took-written now = refl

  -- .. its own pending total, and the ticks
  abbrev owed : ℕ → Vcpu → Vcpu
  owed now x = owing_as (ended_as (posted_of x (amount d) (moment last)) (moment now)) (amount (x.pending.0 + d))

  owed-written : (now : ℕ) → owed now (written v) ≡ owes now (posted_of (written v) (amount d) (moment last))
  unfolding written
  owed-written now = refl

  longer-fits : longer_by (total v.held_total) (amount d) ≡ total (v.held_total + d)
  longer-fits = ap total (omega arith)

  kind-is : (written v).kind ≡ kind_as v.terms.kind
  unfolding written
  kind-is = refl

  spent-same : (v.terms.kind ≡ 0 → v.boundary ≡ none) → (now : ℕ)
      → took (spent_of (written v) (amount d) (moment last) (moment now)) ≡ written (paid now (is_sporadic v.terms))
  unfolding spent_of
  spent-same alone now = rw (ap has_queue kind-is ∙ kind-queue v.terms.kind) (go (eqb v.terms.kind 0) refl)
    where
      go : (b : Bool) → eqb v.terms.kind 0 ≡ b
          → took (cond b (owed now (written v)) (written v)) ≡ written (paid now b)
      go true e =
          let n : v.boundary ≡ none = alone (eqb-true v.terms.kind 0 e) in
          ap took (owed-written now ∙ ap (λ (x : Vcpu). owes now (posted_of x (amount d) (moment last))) (as-queue v n))
          ∙ ap (λ (x : Vcpu). took (owes now x)) posted-queue
          ∙ took-queue now
          ∙ sym (as-queue (paid now true) n)
      go false e = took-written now

  pub charged-same : (v.terms.kind ≡ 0 → v.boundary ≡ none) → (now : ℕ) → last ≤ now → d ≡ now - last
      → charged_of (written v) (moment last) (moment now) ≡ written (charged last now v)
  unfolding charged_of charged written
  charged-same alone now h e = rw (sym e) (go (eqb last now) refl)
    where
      go : (b : Bool) → eqb last now ≡ b
          → cond b (written v)
          (long_as (took_of (spent_of (written v) (amount d) (moment last) (moment now)) (amount (v.usable - d)))
          (longer_by (total v.held_total) (amount d)))
          ≡ written (cond (eqb d 0) v (paid now (is_sporadic v.terms)))
      go true g = let k : last ≡ now = eqb-true last now g in rw (eq-eqb d 0 (omega arith))
      go false g = rw (ne_eqb d 0 (λ z. eqb-false last now g (omega arith)), longer-fits) (spent-same alone now)
