-- What a VCPU leaves behind when it is removed is what its stay owes, read off the history; and what a stay that has ended owes stays as
-- it is. Of one VCPU and its stay. Assumes nothing.
use mathlib.Core.Path.{◌≡◌, refl, ap, sym, ◌∙◌}
use mathlib.Core.Bool.{true, false, ◌&&◌}
use mathlib.Core.List.{List, [], ◌∷◌, ◌++◌, map}
use mathlib.Core.Logic.{◌↔◌, ⊎_elim}
use mathlib.Core.Option.{Option, some}
use Prim.Native.Nat.{ℕ, suc, ◌+◌, ◌≤◌, ◌<◌}
use native.Mathlib.Omega.{arith}
use lib.ListN.{length}
use Rattle.rules.specs.Vcpu.{Entry, Vcpu, times}
use Rattle.rules.specs.Remember.{later, latest as latest_of, leaves_until}
use Rattle.rules.specs.Charge.{waiting}
use Rattle.rules.specs.History.{ticks, holds}
use Rattle.rules.specs.Stays.{Stay, lasts, with_end, held}
use Rattle.rules.specs.Slices.{slices}
use Rattle.rules.specs.Boundaries.{latest}
use Rattle.rules.specs.Together.{returns_by, owes_until}
use Rattle.rules.proofs.Tests.{clash, no-some, cases}
use Rattle.rules.proofs.ThreeKinds.{by_kind}
use Rattle.rules.proofs.Slices.{slices-idle}
use Rattle.rules.proofs.LatestSlice.{none-later}
use Rattle.rules.proofs.Queue.{Rising, last_due, last-between, pend}
use Rattle.rules.proofs.Sound.{Sound}
use Rattle.rules.proofs.Held.{Dated, held_more, held-end}
use Rattle.rules.proofs.Lawful.{Pair}
use Rattle.rules.proofs.Together.{owes-sporadic, owes-refills}
use Rattle.rules.proofs.Memory.{leaves-within}

-- of times that rise the last is the latest
latest-rising : (low high : ℕ) (q : List Entry) → Rising low high q → waiting q ≡ true
    → latest_of (map (λ e. e.due) q ++ []) ≡ some (last_due q)
latest-rising low high [] r w = clash (sym w)
latest-rising low high (e ∷ []) r w = refl
latest-rising low high (e ∷ f ∷ q) r w =
    let l = last-between e.due high (f ∷ q) r.2 refl in
    let m : later e.due (some (last_due (f ∷ q))) ≡ last_due (f ∷ q) = omega arith in
    ap (λ (o : Option ℕ). some (later e.due o)) (latest-rising e.due high (f ∷ q) r.2 refl) ∙ ap some m

not-waiting : (q : List Entry) → waiting q ≡ false → q ≡ []
not-waiting [] w = refl
not-waiting (e ∷ q) w = clash w

-- a VCPU on the card leaves behind at `now` what its stay owes, where that is to come
abbrev pub LeavesIt : ℕ → List (Option ℕ) → Stay → Vcpu → Type 0
LeavesIt now h s v = (t : ℕ) → leaves_until v ≡ some t ↔ (owes_until h s now ≡ some t) × (now < t)

module _ (now : ℕ) (h : List (Option ℕ)) (s : Stay) (v : Vcpu) (k : Sound now v) (p : Pair now s v h) where
  abbrev T : ℕ
  T = v.terms.period

  just_that : leaves_until v ≡ owes_until h s now → LeavesIt now h s v
  just_that e t = (λ f. (sym e ∙ f, (leaves-within now v k t f).0), λ q. e ∙ q.0)

  leaves-queue : v.terms.kind ≡ 0 → LeavesIt now h s v
  leaves-queue i = ⊎_elim some-there none-there (cases (waiting v.pending))
    where
      owes : owes_until h s now ≡ returns_by T (slices T (held s h))
      owes =
          owes-sporadic h s now (ap (λ d. d.kind) (sym p.same-terms) ∙ i)
          ∙ ap (λ d. returns_by d.period (slices d.period (held s h))) (sym p.same-terms)

      queue : leaves_until v ≡ latest_of (map (λ e. e.due) v.pending ++ [])
      queue = ap (λ (o : Option ℕ). latest_of (map (λ e. e.due) v.pending ++ times o)) (k.sporadic i).0

      some-there : waiting v.pending ≡ true → LeavesIt now h s v
      some-there w =
          just_that (queue ∙ latest-rising (suc now) (now + T) v.pending k.order w ∙ sym ((p.tied i).latest w) ∙ sym owes)

      none-there : waiting v.pending ≡ false → LeavesIt now h s v
      none-there w t =
          let z : v.pending ≡ [] = not-waiting v.pending w in (
            λ f. no-some (sym (queue ∙ ap (λ (q : List Entry). latest_of (map (λ e. e.due) q ++ [])) z) ∙ f),
            λ q. absurd (omega (
              arith,
              q.1,
              none-later T (suc now) t (held s h) k.range.period-low
                  (omega (arith, (p.tied i).at_most (suc now) (omega arith), ap (pend (suc now)) z)) (sym owes ∙ q.0),
            )),
          )

  leaves-boundary : (v.terms.kind ≡ 0 → ⊥) → v.boundary ≡ some (latest s now + s.terms.period) → LeavesIt now h s v
  leaves-boundary n b =
      just_that
      (ap (λ (q : List Entry). latest_of (map (λ e. e.due) q ++ times v.boundary)) (k.refills n).0
      ∙ ap (λ (o : Option ℕ). latest_of (times o)) b
      ∙ sym (owes-refills h s now (λ e. n (ap (λ d. d.kind) p.same-terms ∙ e))))

  pub leaves_it : ((v.terms.kind ≡ 0 → ⊥) → v.boundary ≡ some (latest s now + s.terms.period)) → LeavesIt now h s v
  leaves_it b = by_kind v.terms leaves-queue (λ n. leaves-boundary n (b n))

-- a stay that has ended holds no tick more, and so owes what it did
pub owes-later : (s : Stay) (o : Option ℕ) (last d end : ℕ) (h : List (Option ℕ)) → Dated last s → last ≤ length h → s.until ≡ some end
    → owes_until (ticks d o h) s end ≡ owes_until h s end
owes-later s o last d end h g k e =
    let over : lasts s.until && holds s.terms.tunnel o ≡ false = ap (λ (u : Option ℕ). lasts u && holds s.terms.tunnel o) e in
    rw (held_more s o last d h g k, over, slices-idle s.terms.period d (held s h))

-- its end itself takes no tick of the past
pub owes-end : (now tunnel : ℕ) (s : Stay) (h : List (Option ℕ)) → length h ≤ now
    → owes_until h (with_end now tunnel s) now ≡ owes_until h s now
owes-end now tunnel s h k = rw (held-end now tunnel s h k)
