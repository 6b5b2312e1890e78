-- What the return step reports, on the written form: the ticks are the difference of the usable ones, the time is the head of the record.
-- Assumes nothing.
use Prim.Native.Nat.{ℕ, ◌+◌, ◌-◌, ◌≤◌}
use mathlib.Core.Path.{◌≡◌, refl, ap, ◌∙◌, subst}
use mathlib.Core.Bool.{Bool, true, false}
use mathlib.Core.Option.{none, some}
use native.Mathlib.Omega.{arith}
use Rattle.units.specs.Units.{moment, amount}
use Rattle.units.specs.declared.Amount.{Amount}
use Rattle.units.specs.declared.Moment.{Moment}
use Rattle.rules.specs.Vcpu.{leaves}
use Rattle.rules.specs.Vcpu.{Description as Terms}
use Rattle.rules.specs.Return.{returned}
use Rattle.rules.specs.Told.{tells}
use Rattle.rules.proofs.Brought.{usable-told}
use Rattle.turns.specs.declared.Kind.{Kind}
use Rattle.turns.specs.declared.Kind.TheVariants.{Sporadic, Deferrable, Polling}
use Rattle.turns.specs.declared.Vcpu.{Vcpu}
use Rattle.turns.specs.declared.Told.{Told}
use Rattle.turns.specs.Written.{paper_kind, boundary_at, written, shown}
use Rattle.turns.specs.Steps.{has_queue, left_of, head_of, bare, brought_to, Returnable}

no-boundary : (k : Kind) (m : Moment) → paper_kind k ≡ 0 → boundary_at k m ≡ none
no-boundary Sporadic m e = refl
no-boundary Deferrable m e = absurd (omega arith)
no-boundary Polling m e = absurd (omega arith)

its_boundary : (k : Kind) (m : Moment) → (paper_kind k ≡ 0 → ⊥) → (has_queue k ≡ false) × (boundary_at k m ≡ some m.0)
its_boundary Sporadic m n = absurd (n refl)
its_boundary Deferrable m n = (refl, refl)
its_boundary Polling m n = (refl, refl)

left-shown : (k : Kind) (b : Bool) (c : Amount) (d : Terms) → d.kind ≡ paper_kind k → (left_of k b c).0 ≡ leaves d b c.0
left-shown Sporadic b c d e = rw e
left-shown Deferrable b c d e = rw e
left-shown Polling true c d e = rw e
left-shown Polling false c d e = rw e

module _ (v : Vcpu) (now : Moment) (r : Returnable v now) where
  pub gains : (written (returned now.0 (bare v))).usable.0 ≡ v.usable.0 + (tells now.0 (bare v)).ticks
  unfolding written shown
  gains =
      usable-told now.0 (bare v) (no-boundary v.kind _)
      (λ n. let p = its_boundary v.kind _ n in (r.no-queue p.0, _, p.1))
      (λ n. subst (λ (m : ℕ). v.usable.0 ≤ m) (left-shown v.kind v.runnable v.capacity (bare v).terms refl)
      (r.fewer (its_boundary v.kind (moment 0) n).0))

  -- a report that has the difference and the head
  pub reports : (w : Vcpu) (ticks : Amount) (next : Moment) → w ≡ written (returned now.0 (bare v))
      → ticks ≡ amount (w.usable.0 - v.usable.0) → next ≡ moment (head_of w)
      → ◌≡◌ {A = Told} (record { ticks = ticks; next = next }) (brought_to now.0 (bare v))
  reports w ticks next e f g =
      same ticks (amount (tells now.0 (bare v)).ticks) next _
      (f ∙ ap amount (omega (arith, gains, ap (λ (x : Vcpu). x.usable.0) e))) (g ∙ ap (λ (x : Vcpu). moment (head_of x)) e)
    where
      same : (t t' : Amount) (m m' : Moment) → t ≡ t' → m ≡ m' → ◌≡◌ {A = Told} (record { ticks = t; next = m }) (record { ticks = t'; next = m' })
      same t t' m m' a b = rw (a, b)
