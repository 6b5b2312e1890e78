-- The latest slice of a stay: it returns its ticks one period after its start; all its ticks are held and none behind it; and where no
-- slice's return is to come, its own is not. Over plain ticks, with no card in sight. Assumes nothing.
use mathlib.Core.Path.{◌≡◌, refl, ap, sym, ◌∙◌, subst}
use mathlib.Core.Bool.{Bool, true, false}
use mathlib.Core.List.{List, [], ◌∷◌}
use mathlib.Core.Logic.{⊎_elim}
use mathlib.Core.Option.{none, some}
use Prim.Native.Nat.{ℕ, suc, ◌+◌, ◌-◌, ◌≤◌, ◌<◌}
use native.Mathlib.Omega.{arith}
use lib.Dec.{leb, ltb}
use lib.ListN.{length}
use Rattle.rules.specs.Slices.{slices}
use Rattle.rules.specs.Boundaries.{held_between}
use Rattle.rules.specs.Together.{returns_by}
use Rattle.rules.proofs.Tests.{tests, no-some, cases}
use Rattle.rules.proofs.Slices.{going, begun, going-short, going-not, going_on, going-cut, begun_in, begun-not}
use Rattle.rules.proofs.Slices.{slices_begin, slices_on}
use Rattle.rules.proofs.Boundaries.{between-end, between_none, between-held, between-behind}

-- a tick held last is of the slice that goes on, or of a new one
returns_held : (T : ℕ) (m : List Bool) → 1 ≤ T → returns_by T (slices T (true ∷ m)) ≡ some (length m - going T m + T)
returns_held T m pos = ⊎_elim on new (cases (ltb 0 (going T m)))
  where
    on : ltb 0 (going T m) ≡ true → returns_by T (slices T (true ∷ m)) ≡ some (length m - going T m + T)
    on e =
        let g = going-short T m in
        let p = slices_on T 1 m (omega (arith, tests)) (omega (arith, g.1 pos)) in
        ap (returns_by T) p.grows ∙ ap some (omega (arith, p.begun-at))

    new : ltb 0 (going T m) ≡ false → returns_by T (slices T (true ∷ m)) ≡ some (length m - going T m + T)
    new e =
        let g : going T m ≡ 0 = omega (arith, tests) in
        ap (returns_by T) (slices_begin T 1 m g (omega arith) pos) ∙ ap some (omega arith)

-- every tick from `low` to `high` is held
abbrev pub AllHeld : ℕ → ℕ → List Bool → Type 0
AllHeld low high m = (x : ℕ) → low ≤ x → x ≤ high → held_between low x m + low ≡ x

one-longer : (low : ℕ) (m : List Bool) → low ≤ length m → AllHeld low (length m) m → AllHeld low (suc (length m)) (true ∷ m)
one-longer low m l a x h k = ⊎_elim inside whole (cases (leb x (length m)))
  where
    inside : leb x (length m) ≡ true → held_between low x (true ∷ m) + low ≡ x
    inside e = omega (arith, tests, between-behind low x 1 m (omega (arith, tests)), a x h (omega (arith, tests)))

    whole : leb x (length m) ≡ false → held_between low x (true ∷ m) + low ≡ x
    whole e =
        omega (
          arith,
          tests,
          between-held low x 1 m l (omega (arith, tests)),
          between-end low x (length m) m (omega (arith, tests)) (omega arith),
          a (length m) l (omega arith),
        )

-- the slice that a next tick would go on with is held from its start on
run-held : (T : ℕ) (m : List Bool) → AllHeld (length m - going T m) (length m) m
run-held T [] = λ x h k. omega arith
run-held T (false ∷ m) =
    let g = going-not T m in
    λ x h k. omega (arith, between_none (suc (length m) - going T (false ∷ m)) x (false ∷ m) (omega arith))
run-held T (true ∷ m) = ⊎_elim (on (run-held T m)) cut (cases (ltb (suc (going T m)) T))
  where
    on : AllHeld (length m - going T m) (length m) m → ltb (suc (going T m)) T ≡ true
        → AllHeld (suc (length m) - going T (true ∷ m)) (suc (length m)) (true ∷ m)
    on ih e =
        let g = going_on T m (omega (arith, tests)) in
        let same : length m - going T m ≡ suc (length m) - going T (true ∷ m) = omega arith in
        subst (λ (low : ℕ). AllHeld low (suc (length m)) (true ∷ m)) same
        (one-longer (length m - going T m) m (omega arith) ih)

    cut : ltb (suc (going T m)) T ≡ false → AllHeld (suc (length m) - going T (true ∷ m)) (suc (length m)) (true ∷ m)
    cut e x h k =
        let g = going-cut T m (omega (arith, tests)) in
        omega (arith, between_none (suc (length m) - going T (true ∷ m)) x (true ∷ m) (omega arith))

-- the latest slice, whose return is due at t
pub record LatestSlice (T t : ℕ) (m : List Bool) : Type 0 where
  pub start : ℕ
  pub end : ℕ
  pub due : start + T ≡ t
  pub some-ticks : start < end
  pub short : end ≤ start + T
  pub held_throughout : AllHeld start end m
  pub none-behind : (low high : ℕ) → end ≤ low → held_between low high m ≡ 0

pub latest-slice : (T t : ℕ) (m : List Bool) → 1 ≤ T → returns_by T (slices T m) ≡ some t → LatestSlice T t m
latest-slice T t [] pos e = no-some e
latest-slice T t (false ∷ m) pos e =
    let s = latest-slice T t m pos e in
    record {
      start = s.start;
      end = s.end;
      due = s.due;
      some-ticks = s.some-ticks;
      short = s.short;
      held_throughout = λ x h k. omega (arith, s.held_throughout x h k);
      none-behind = λ low high h. omega (arith, s.none-behind low high h);
    }
latest-slice T t (true ∷ m) pos e =
    let g = going-short T m in
    let due : some (length m - going T m + T) ≡ some t = sym (returns_held T m pos) ∙ e in
    record {
      start = length m - going T m;
      end = suc (length m);
      due = cc;
      some-ticks = omega arith;
      short = omega (arith, g.1 pos);
      held_throughout = one-longer (length m - going T m) m (omega arith) (run-held T m);
      none-behind = λ low high h. between_none low high (true ∷ m) h;
    }

-- without a slice nothing is held
pub nothing-held : (T low high : ℕ) (m : List Bool) → 1 ≤ T → returns_by T (slices T m) ≡ none → held_between low high m ≡ 0
nothing-held T low high [] pos e = refl
nothing-held T low high (false ∷ m) pos e = omega (arith, nothing-held T low high m pos e)
nothing-held T low high (true ∷ m) pos e = no-some (sym e ∙ returns_held T m pos)

-- no return is due at x or later, and so not the latest
pub none-later : (T x t : ℕ) (m : List Bool) → 1 ≤ T → begun T x m ≡ 0 → returns_by T (slices T m) ≡ some t → t < x
none-later T x t [] pos z e = no-some e
none-later T x t (false ∷ m) pos z e = none-later T x t m pos (sym (begun-not T x m) ∙ z) e
none-later T x t (true ∷ m) pos z e =
    let due : some (length m - going T m + T) ≡ some t = sym (returns_held T m pos) ∙ e in
    let same : length m - going T m + T ≡ t = cc in
    ⊎_elim (λ k. absurd (omega (arith, begun_in T x m (omega (arith, tests))))) (λ k. omega (arith, tests)) (cases (leb x t))
