-- What holds of every VCPU on the card: its terms are in range, usable and pending make up C or, with boundaries, no more; its queue is
-- sorted and short, its next boundary near. Charge and return keep it. Assumes of a charge that the ticks held are no more than usable.
use mathlib.Core.Path.{◌≡◌, refl, ap, sym, ◌∙◌}
use mathlib.Core.Bool.{Bool, true, false, cond}
use mathlib.Core.List.{[]}
use mathlib.Core.Option.{Option, none, some}
use Prim.Native.Nat.{ℕ, suc, ◌+◌, ◌-◌, ◌≤◌, ◌<◌}
use native.Mathlib.Omega.{arith}
use lib.Dec.{leb}
use lib.ListN.{length}
use borrow.Author.Tests.{leb-true, leb-false}
use Rattle.rules.specs.Limits.{most_pending}
use Rattle.rules.specs.Vcpu.{Description, Vcpu, is_sporadic, admitted}
use Rattle.rules.specs.Charge.{no_ticks, charged_some, charged}
use Rattle.rules.specs.Change.{set_runnable}
use Rattle.rules.specs.Return.{brought, still, brought_in, boundary_after, refilled, refill, returned}
use Rattle.rules.specs.Meaning.{InRange}
use Rattle.rules.proofs.Tests.{no-some}
use Rattle.rules.proofs.ThreeKinds.{is-sporadic, not-sporadic, by_kind, leaves-most, leaves_all, leaves_none, boundary-after}
use Rattle.rules.proofs.Queue.{total, Rising, rising_wide, posts, brought-all, stays-behind}

-- the due times and the next boundary lie between `low` and `high`; the latest use ended by `now`
pub record Orderly (low high now : ℕ) (v : Vcpu) : Type 0 where
  pub range : InRange v.terms
  pub most : v.usable + total v.pending ≤ v.terms.capacity
  pub adds : v.pending_total ≡ total v.pending
  pub order : Rising low high v.pending
  pub few : length v.pending ≤ most_pending
  pub used : v.ended ≤ now
  pub sporadic : v.terms.kind ≡ 0 → (v.boundary ≡ none) × (v.usable + total v.pending ≡ v.terms.capacity)
  pub refills : (v.terms.kind ≡ 0 → ⊥)
      → (v.pending ≡ []) × (v.ended ≡ 0) × (b : ℕ) × (v.boundary ≡ some b) × (low ≤ b) × (b ≤ high)
  pub polls : v.terms.kind ≡ 2 → v.runnable ≡ false → v.usable ≡ 0

-- after an accepted call at `last` all that is pending, and the next boundary, is still to come, within one period
abbrev pub Sound : ℕ → Vcpu → Type 0
Sound last v = Orderly (suc last) (last + v.terms.period) last v

-- later
pub orderly-later : (low high now later : ℕ) (v : Vcpu) → now ≤ later → Orderly low high now v → Orderly low high later v
orderly-later low high now later v h k =
    record {
      range = k.range;
      most = k.most;
      adds = k.adds;
      order = k.order;
      few = k.few;
      used = omega (arith, k.used);
      sporadic = k.sporadic;
      refills = k.refills;
      polls = k.polls;
    }

pub sound-admitted : (now : ℕ) (d : Description) → InRange d → Sound now (admitted now d)
sound-admitted now d r =
    record {
      range = r;
      most = omega (arith, leaves-most d false d.capacity);
      adds = refl;
      order = tt;
      few = omega arith;
      used = omega arith;
      sporadic = λ e. (rw (is-sporadic d e), omega (arith, leaves_all d false d.capacity (λ p. absurd (omega arith))));
      refills = λ n. (refl, refl, now + d.period, rw (not-sporadic d n), omega (arith, r.period-low), omega arith);
      polls = λ p e. leaves_none d d.capacity p;
    }

pub sound-set : (last : ℕ) (b : Bool) (v : Vcpu) → Sound last v → Sound last (set_runnable b v)
sound-set last b v s =
    record {
      range = s.range;
      most = omega (arith, s.most, leaves-most v.terms b v.usable);
      adds = s.adds;
      order = s.order;
      few = s.few;
      used = s.used;
      sporadic = λ e. (
        (s.sporadic e).0,
        omega (arith, (s.sporadic e).1, leaves_all v.terms b v.usable (λ p. absurd (omega arith))),
      );
      refills = s.refills;
      polls = λ p e. rw e (leaves_none v.terms v.usable p);
    }

pub kept-charged : (last d : ℕ) (v : Vcpu) → d ≤ v.usable → Sound last v
    → Orderly (suc last) (last + v.terms.period) (last + d) (charged last (last + d) v)
unfolding charged
kept-charged last d v h s = go (no_ticks last (last + d)) refl
  where
    Kept : Vcpu → Type 0
    Kept = Orderly (suc last) (last + v.terms.period) (last + d)

    queued : v.terms.kind ≡ 0 → Kept (charged_some last (last + d) v)
    queued e =
        let p = posts last (last + d - last) v s.range.period-low s.order s.few in
        let w = s.sporadic e in
        let i : is_sporadic v.terms ≡ true = is-sporadic v.terms e in
        record {
          range = s.range;
          most = rw i (omega (arith, p.in_all, w.1));
          adds = rw i (omega (arith, p.in_all, s.adds));
          order = rw i p.order;
          few = rw i p.few;
          used = rw i (omega arith);
          sporadic = λ f. (w.0, rw i (omega (arith, p.in_all, w.1)));
          refills = λ n. absurd (n e);
          polls = λ q f. absurd (omega arith);
        }

    lessened : (v.terms.kind ≡ 0 → ⊥) → Kept (charged_some last (last + d) v)
    lessened n =
        let i : is_sporadic v.terms ≡ false = not-sporadic v.terms n in
        record {
          range = s.range;
          most = rw i (omega (arith, s.most));
          adds = rw i s.adds;
          order = rw i s.order;
          few = rw i s.few;
          used = rw i (omega (arith, s.used));
          sporadic = λ e. absurd (n e);
          refills = λ m. rw i (s.refills m);
          polls = λ q f. omega (arith, s.polls q f);
        }

    go : (b : Bool) → no_ticks last (last + d) ≡ b → Kept (cond b v (charged_some last (last + d) v))
    go true z = orderly-later (suc last) (last + v.terms.period) last (last + d) v (omega arith) s
    go false z = by_kind v.terms queued lessened

pub sound-returned : (low high now : ℕ) (v : Vcpu) → high ≤ now + v.terms.period → Orderly low high now v → Sound now (returned now v)
sound-returned low high now v h k = go v.boundary refl
  where
    -- where no boundary is passed
    waited : ((b : ℕ) → v.boundary ≡ some b → now < b) → Sound now (brought_in now v)
    waited f =
        let s = stays-behind now low high v.pending k.order in
        let a = brought-all now v.pending in
        record {
          range = k.range;
          most = omega (arith, a, k.most);
          adds = omega (arith, a, k.adds);
          order = rising_wide (suc now) high (suc now) (now + v.terms.period) (still now v.pending) (omega arith) h s.order;
          few = omega (arith, s.few, k.few);
          used = k.used;
          sporadic = λ e. ((k.sporadic e).0, omega (arith, a, (k.sporadic e).1));
          refills = λ n. let r = k.refills n in
              (ap (still now) r.0, r.1, r.2, r.3, omega (arith, f r.2 r.3), omega (arith, r.5));
          polls = λ p e. omega (arith, k.polls p e, ap (brought now) (k.refills (λ z. omega arith)).0);
        }

    passed : (b : ℕ) → v.boundary ≡ some b → b ≤ now → Sound now (refilled now b (brought_in now v))
    passed b e l =
        let n : v.terms.kind ≡ 0 → ⊥ = λ z. no-some (sym (k.sporadic z).0 ∙ e) in
        let r = k.refills n in
        let a = boundary-after now v.terms.period b k.range.period-low l in
        let q : still now v.pending ≡ [] = ap (still now) r.0 in
        record {
          range = k.range;
          most = rw q (omega (arith, leaves-most v.terms v.runnable v.terms.capacity));
          adds = omega (arith, brought-all now v.pending, k.adds);
          order = rw q tt;
          few = rw q (omega arith);
          used = k.used;
          sporadic = λ z. absurd (n z);
          refills = λ m. (q, r.1, boundary_after now v.terms.period b, refl, a.0, a.1);
          polls = λ p f. rw f (leaves_none v.terms v.terms.capacity p);
        }

    go : (o : Option ℕ) → v.boundary ≡ o → Sound now (refill now o (brought_in now v))
    go none e = waited (λ b f. no-some (sym e ∙ f))
    go (some b) e = pick (leb b now) refl
      where
        pick : (t : Bool) → leb b now ≡ t → Sound now (cond t (refilled now b (brought_in now v)) (brought_in now v))
        pick true l = passed b e (leb-true b now l)
        pick false l =
            waited (λ c f. let q : b ≡ c = cc in omega (arith, leb-false b now l))
