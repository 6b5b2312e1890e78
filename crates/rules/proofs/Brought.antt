-- What step 2 reports means what it says: of each VCPU what fell due or was added, of the total their sum, of the times the next that
-- something comes, whatever calls came before; and nothing of it is left open. Assumes nothing.
use mathlib.Core.Path.{◌≡◌, refl, ap, sym, ◌∙◌, subst}
use mathlib.Core.Bool.{Bool, true, false, cond}
use mathlib.Core.List.{List, [], ◌∷◌, ◌++◌, map}
use mathlib.Core.Logic.{inl}
use mathlib.Core.Option.{Option, none, some}
use Prim.Native.Nat.{ℕ, suc, ◌+◌, ◌-◌, ◌≤◌}
use native.Mathlib.Omega.{arith}
use lib.Dec.{leb, eqb}
use borrow.Author.Tests.{eq-eqb, eqb-true}
use Rattle.rules.specs.Lists.{sum, count, All, Among}
use Rattle.rules.specs.Vcpu.{Vcpu, leaves, named}
use Rattle.rules.specs.Card.{Card}
use Rattle.rules.specs.Charge.{no_ticks, charged_some, charged, charge}
use Rattle.rules.specs.Return.{brought, brought_in, refilled, refill, returned}
use Rattle.rules.specs.Choose.{choose}
use Rattle.rules.specs.Timer.{next}
use Rattle.rules.specs.Told.{adds, tells, total, time_told, timer_told}
use Rattle.rules.specs.Refuse.{refusal}
use Rattle.rules.specs.Turn.{Call, settled, accepted, after_charge, after_change, told_by, reported}
use Rattle.rules.specs.History.{after, holds}
use Rattle.rules.specs.Meaning.{pending_ticks}
use Rattle.rules.specs.Rows.{NoRow}
use Rattle.rules.specs.Budgets.{Loses, held, not-held, Refill, before, full, empty, Budget}
use Rattle.rules.specs.Brought.{FellDue, Added, not_yet, filled, nothing, Gets, Brings}
use Rattle.rules.proofs.Tests.{tests, clash}
use Rattle.rules.proofs.Lists.{all_among, all_every, among_all, count_same, map_among, sum-map, sum-most}
use Rattle.rules.proofs.Queue.{brought-all}
use Rattle.rules.proofs.ThreeKinds.{by_kind, leaves_all, leaves-most, terms-returned}
use Rattle.rules.proofs.Timer.{next-says, next-none}
use Rattle.rules.proofs.Told.{told_of, told-next, timer-from-told}
use Rattle.rules.proofs.Sound.{Orderly, Sound, kept-charged, orderly-later}
use Rattle.rules.proofs.Accepted.{passed}
use Rattle.rules.proofs.Advance.{charged_if, stepped, is-there, terms_charged_if, runnable-stepped}
use Rattle.rules.proofs.Reached.{reached, pace, card-accepted}
use Rattle.rules.proofs.Budgets.{fits-stepped, one_loss, one-queue, one_split, kept-or-taken}
use Rattle.rules.proofs.Rows.{same, not-given}

-- a refill takes nothing away: a polling VCPU that is not runnable has nothing
pub refill-more : (u : Vcpu) → u.usable ≤ u.terms.capacity → (u.terms.kind ≡ 2 → u.runnable ≡ false → u.usable ≡ 0)
    → u.usable ≤ leaves u.terms u.runnable u.terms.capacity
refill-more u most polls =
    kept-or-taken u.terms u.runnable
    (λ f. omega (arith, leaves_all u.terms u.runnable u.terms.capacity f)) (λ p e. omega (arith, polls p e))

-- what is told of a VCPU after the charge is what the return adds to its usable ticks, and at most C
module _ (now : ℕ) (u : Vcpu) (queue : u.terms.kind ≡ 0 → u.boundary ≡ none)
    (refills : (u.terms.kind ≡ 0 → ⊥) → (u.pending ≡ []) × (b : ℕ) × (u.boundary ≡ some b)) where
  -- by kind: entries that are due, or a refill
  by-due : (P : ℕ → ℕ → Type 0) → (u.terms.kind ≡ 0 → P (u.usable + brought now u.pending) (brought now u.pending))
      → ((u.terms.kind ≡ 0 → ⊥)
      → P (leaves u.terms u.runnable u.terms.capacity) (leaves u.terms u.runnable u.terms.capacity - u.usable))
      → P u.usable 0 → P (returned now u).usable (tells now u).ticks
  by-due P f g h =
      by_kind u.terms
      (λ e. rw (queue e) (subst (P (u.usable + brought now u.pending)) (omega arith) (f e)))
      (λ n. let r = refills n in
      subst (λ (o : Option ℕ). P (refill now o (brought_in now u)).usable (brought now u.pending + adds now o u)) (sym r.2)
      (go n r.1 (leb r.1 now) (ap (brought now) r.0)))
    where
      go : (u.terms.kind ≡ 0 → ⊥) → (b : ℕ) (t : Bool) → brought now u.pending ≡ 0
          → P (cond t (refilled now b (brought_in now u)) (brought_in now u)).usable
          (brought now u.pending + cond t (leaves u.terms u.runnable u.terms.capacity - u.usable) 0)
      go n b true z = subst (P (leaves u.terms u.runnable u.terms.capacity)) (omega arith) (g n)
      go n b false z = subst (P (u.usable + brought now u.pending)) (omega arith) (subst (λ (n : ℕ). P n 0) (omega arith) h)

  pub usable-told : ((u.terms.kind ≡ 0 → ⊥) → u.usable ≤ leaves u.terms u.runnable u.terms.capacity)
      → (returned now u).usable ≡ u.usable + (tells now u).ticks
  usable-told m = by-due (λ (w n : ℕ). w ≡ u.usable + n) (λ e. refl) (λ n. omega (arith, m n)) (omega arith)

  pub told-most : u.usable + pending_ticks u ≤ u.terms.capacity → (tells now u).ticks ≤ u.terms.capacity
  told-most m =
      by-due (λ (w n : ℕ). n ≤ u.terms.capacity) (λ e. omega (arith, brought-all now u.pending))
      (λ n. omega (arith, leaves-most u.terms u.runnable u.terms.capacity)) (omega arith)

-- the charge of one VCPU
module _ (c : Card) (now : ℕ) (v : Vcpu) (s : Sound c.last v) (l : c.last ≤ now)
    (in_pace : holds v.terms.tunnel c.running ≡ true → now - c.last ≤ v.usable) where
  abbrev u : Vcpu
  u = charged_if c.last now c.running v

  orderly : Orderly (suc c.last) (c.last + v.terms.period) now u
  orderly = go (holds v.terms.tunnel c.running) refl
    where
      n : c.last + (now - c.last) ≡ now
      n = omega arith

      go : (b : Bool) → holds v.terms.tunnel c.running ≡ b
          → Orderly (suc c.last) (c.last + v.terms.period) now (cond b (charged c.last now v) v)
      go true e =
          subst (λ (m : ℕ). Orderly (suc c.last) (c.last + v.terms.period) m (charged c.last m v)) n
          (kept-charged c.last (now - c.last) v (in_pace e) s)
      go false e = orderly-later (suc c.last) (c.last + v.terms.period) c.last now v l s

  charged-usable : (d : ℕ) → Loses c now v d → u.usable + d ≡ v.usable
  unfolding charged
  charged-usable d (held e) = rw h (go (no_ticks c.last now) refl)
    where
      h : holds v.terms.tunnel c.running ≡ true
      h = rw e (eq-eqb v.terms.tunnel v.terms.tunnel refl)

      go : (b : Bool) → no_ticks c.last now ≡ b
          → (cond b v (charged_some c.last now v)).usable + (now - c.last) ≡ v.usable
      go true z = omega (arith, tests)
      go false z = omega (arith, in_pace h)
  charged-usable d (not-held n) = go (holds v.terms.tunnel c.running) refl
    where
      held_by : (o : Option ℕ) → holds v.terms.tunnel o ≡ true → o ≡ some v.terms.tunnel
      held_by none e = clash (sym e)
      held_by (some t) e = ap some (sym (eqb-true v.terms.tunnel t e))

      go : (b : Bool) → holds v.terms.tunnel c.running ≡ b → (cond b (charged c.last now v) v).usable + 0 ≡ v.usable
      go true e = absurd (n (held_by c.running e))
      go false e = omega arith

  -- the ticks told of it, where it is a VCPU that the plain facts of steps 1 and 2 speak of
  module _ (b : Budget c now v (returned now u)) where
    gained : (returned now u).usable + b.ticks ≡ v.usable + (tells now u).ticks
    gained =
        omega (
          arith,
          usable-told now u (λ e. (orderly.sporadic e).0) (λ n. let r = orderly.refills n in (r.0, r.2, r.3))
              (λ n. refill-more u (omega (arith, orderly.most)) orderly.polls),
          charged-usable b.ticks b.loses,
        )

    fell-due : v.terms.kind ≡ 0 → FellDue c.last now b.ticks v (tells now u).ticks
    fell-due z =
        let q = b.sporadic z in
        record {
          back = q.back;
          rest = (returned now u).pending;
          posted = q.posted;
          are_due = q.are_due;
          to_come = q.to_come;
          is_sum = omega (arith, q.usable, gained);
        }

    -- a polling VCPU that is not runnable has nothing, before and after
    polled-none : v.terms.kind ≡ 2 → v.runnable ≡ false → (tells now u).ticks ≡ 0
    polled-none p e =
        let r = b.refilled (λ z. omega arith) in
        let g = r.taken (ap (λ d. d.kind) b.same-terms ∙ p) (runnable-stepped c.last now c.running v ∙ e) in
        omega (arith, gained, s.polls p e, b.has_them)

    added : (v.terms.kind ≡ 0 → ⊥) → Added now b.ticks v (tells now u).ticks
    added n =
        let r = b.refilled n in
        go r.next r.given r.refill
        (λ f. r.usable (λ k. runnable-stepped c.last now c.running v ∙ f (sym (ap (λ d. d.kind) b.same-terms) ∙ k)))
      where
        go : (next given : ℕ) → Refill now b.ticks v next given
            → ((v.terms.kind ≡ 2 → v.runnable ≡ true) → (returned now u).usable ≡ given)
            → Added now b.ticks v (tells now u).ticks
        go next given (before a e h) f = subst (Added now b.ticks v) (sym none_yet) (not_yet a e h)
          where
            none_yet : (tells now u).ticks ≡ 0
            none_yet = kept-or-taken v.terms v.runnable (λ k. omega (arith, gained, f k, b.has_them)) polled-none
        go next given (full a m e h p q) f =
            subst (Added now b.ticks v) (omega (arith, gained, f q, b.has_them, s.most)) (filled a e h q)
        go next given (empty a m e h p q x) f = subst (Added now b.ticks v) (sym (polled-none q x)) (nothing a e h q x)

    -- and what step 2 reports of it; `us` are the VCPUs after the charge
    gets : Among v c.vcpus → ((t : ℕ) → count (named t) (after_charge c now) ≤ 1) → Among u (after_charge c now)
        → Gets c now v (tells now u).ticks
    gets m once k =
        record {
          ticks = b.ticks;
          loses = b.loses;
          sporadic = fell-due;
          refilled = added;
          then = returned now u;
          is-there = is-there c now v m;
          same-terms = b.same-terms;
          usable = gained;
          told = tells now u;
          is-told = map_among (tells now) (after_charge c now) u k;
          of_it = ap (λ d. d.tunnel) (sym (terms-returned now u) ∙ b.same-terms);
          with_them = refl;
          first-time = λ t e. next-says (returned now u) t (sym its-time ∙ e);
          no-time = λ e. next-none (returned now u) (sym its-time ∙ e);
        }
      where
        its-time : time_told (told_by c now) (returned now u) ≡ next (returned now u)
        its-time = told_of now (after_charge c now) once u k (returned now u) (ap (λ d. d.tunnel) (terms-returned now u))

-- step 1 on every VCPU
each-charged : (c : Card) (now : ℕ) → after_charge c now ≡ map (charged_if c.last now c.running) c.vcpus
each-charged c now = go c.running c.vcpus
  where
    go : (o : Option ℕ) (vs : List Vcpu) → charge c.last now o vs ≡ map (charged_if c.last now o) vs
    go none [] = refl
    go none (v ∷ vs) = ap (λ (l : List Vcpu). v ∷ l) (go none vs)
    go (some t) [] = refl
    go (some t) (v ∷ vs) = ap (λ (l : List Vcpu). charged_if c.last now (some t) v ∷ l) (go (some t) vs)

pub once-charged : (c : Card) (now : ℕ) → ((t : ℕ) → count (named t) c.vcpus ≤ 1) → (t : ℕ) → count (named t) (after_charge c now) ≤ 1
once-charged c now once t =
    omega (
      arith,
      once t,
      ap (count (named t)) (each-charged c now),
      count_same (named t) (named t) (charged_if c.last now c.running) c.vcpus
          (all_every (λ v. ap (λ d. eqb d.tunnel t) (terms_charged_if c.last now c.running v)) c.vcpus),
    )

-- one accepted call more, whatever calls came before
module _ (calls : List Call) (call : Call) (e : refusal (after calls) call.now call.asked ≡ none) where
  abbrev c : Card
  c = after calls

  abbrev step : Vcpu → Vcpu
  step = charged_if c.last call.now c.running

  abbrev part : Vcpu → ℕ
  part v = (tells call.now (step v)).ticks

  once : (t : ℕ) → count (named t) (after_charge c call.now) ≤ 1
  once = once-charged c call.now (reached calls).lawful.once

  in_pace : (v : Vcpu) → Among v c.vcpus → holds v.terms.tunnel c.running ≡ true → call.now - c.last ≤ v.usable
  in_pace = all_among _ c.vcpus (pace c _ _ (reached calls) call (passed c call.now call.asked e))

  onward : c.last ≤ call.now
  onward = (passed c call.now call.asked e).not-before

  sound : (v : Vcpu) → Among v c.vcpus → Sound c.last v
  sound = all_among (Sound c.last) c.vcpus (reached calls).lawful.sound

  each : (v : Vcpu) → Among v c.vcpus → Gets c call.now v (part v)
  each v m =
      gets c call.now v (sound v m) onward (in_pace v m)
      (fits-stepped calls call e v m (stepped c.last call.now c.running v) (inl refl)) m once
      (subst (λ (l : List Vcpu). Among (step v) l) (sym (each-charged c call.now)) (map_among step c.vcpus v m))

  is-total : total (told_by c call.now) ≡ sum part c.vcpus
  is-total =
      sum-map (λ t. t.ticks) (tells call.now) (after_charge c call.now)
      ∙ ap (sum (λ u. (tells call.now u).ticks)) (each-charged c call.now)
      ∙ sum-map (λ u. (tells call.now u).ticks) step c.vcpus

  part-most : (v : Vcpu) → Among v c.vcpus → part v ≤ 1_000_000
  part-most v m =
      let r = (sound v m).range in
      let k = orderly c call.now v (sound v m) onward (in_pace v m) in
      omega (
        arith,
        told-most call.now (step v) (λ e. (k.sporadic e).0) (λ n. let q = k.refills n in (q.0, q.2, q.3)) k.most,
        ap (λ d. d.capacity) (terms_charged_if c.last call.now c.running v),
        r.capacity-high,
        r.period-high,
      )

  from_told : (accepted c call).timer
      ≡ timer_told call.now (told_by c call.now) (after_change c call) (choose (after_change c call))
  unfolding settled
  from_told =
      sym (timer-from-told (told_by c call.now) call.now (after_change c call)
      (subst (λ (d : Card). All (Sound d.last) d.vcpus) (card-accepted c call e) (reached (call ∷ calls)).lawful.sound)
      (told-next call.now (after_charge c call.now) call.asked once))

  brings-accepted : Brings c call (total (told_by c call.now))
  brings-accepted =
      record {
        part = part;
        each = among_all (λ v. Gets c call.now v (part v)) c.vcpus each;
        is-total = is-total;
        amount = omega (
          arith,
          is-total,
          sum-most part 1_000_000 c.vcpus (among_all (λ v. part v ≤ 1_000_000) c.vcpus part-most),
          (reached calls).lawful.few,
        );
        timer-told = from_told;
      }

pub brings : (calls : List Call) (call : Call) → NoRow (after calls) call
    → Brings (after calls) call (reported (after calls) call).brought
brings calls call h = brings-accepted calls call (not-given (after calls) call h)

-- these facts allow one number
module _ (c : Card) (now : ℕ) (v : Vcpu) where
  one-due : (d n m : ℕ) → FellDue c.last now d v n → FellDue c.last now d v m → n ≡ m
  one-due d n m f g =
      let q : f.back ++ f.rest ≡ g.back ++ g.rest = one-queue c.last d v _ _ f.posted g.posted in
      omega (
        arith,
        f.is_sum,
        g.is_sum,
        (one_split now f.back f.rest f.are_due f.to_come).1,
        (one_split now g.back g.rest g.are_due g.to_come).1,
        ap (brought now) q,
      )

  one-added : (d n m : ℕ) → Added now d v n → Added now d v m → n ≡ m
  one-added d n m (not_yet a e h) (not_yet b f k) = refl
  one-added d n m (not_yet a e h) (filled b f k p) = let q = same v.boundary a b e f in absurd (omega arith)
  one-added d n m (not_yet a e h) (nothing b f k p q) = refl
  one-added d n m (filled a e h p) (not_yet b f k) = let q = same v.boundary a b e f in absurd (omega arith)
  one-added d n m (filled a e h p) (filled b f k q) = refl
  one-added d n m (filled a e h p) (nothing b f k q r) = clash (sym (p q) ∙ r)
  one-added d n m (nothing a e h p q) (not_yet b f k) = refl
  one-added d n m (nothing a e h p q) (filled b f k r) = clash (sym (r p) ∙ q)
  one-added d n m (nothing a e h p q) (nothing b f k r s) = refl

  one-part : (n m : ℕ) → Gets c now v n → Gets c now v m → n ≡ m
  one-part n m f g =
      by_kind v.terms
      (λ z. one-due g.ticks n m (subst (λ (d : ℕ). FellDue c.last now d v n) same-ticks (f.sporadic z)) (g.sporadic z))
      (λ k. one-added g.ticks n m (subst (λ (d : ℕ). Added now d v n) same-ticks (f.refilled k)) (g.refilled k))
    where
      same-ticks : f.ticks ≡ g.ticks
      same-ticks = one_loss c now v f.ticks g.ticks f.loses g.loses

pub one-total : (c : Card) (call : Call) (n m : ℕ) → Brings c call n → Brings c call m → n ≡ m
one-total c call n m f g = f.is-total ∙ go c.vcpus f.each g.each ∙ sym g.is-total
  where
    go : (vs : List Vcpu) → All (λ v. Gets c call.now v (f.part v)) vs → All (λ v. Gets c call.now v (g.part v)) vs
        → sum f.part vs ≡ sum g.part vs
    go [] h k = refl
    go (v ∷ vs) h k = omega (arith, one-part c call.now v (f.part v) (g.part v) h.0 k.0, go vs h.1 k.1)
