-- What somewhere, everywhere and first mean, each way round: a place with the test, the test at all places, the smallest place.
-- Assumes nothing.
use Prim.Native.Nat.{ℕ, zero, suc, ◌≤◌, ◌<◌}
use mathlib.Core.Path.{◌≡◌, refl, sym}
use mathlib.Core.Bool.{Bool, true, false, cond, ◌&&◌, ◌||◌}
use mathlib.Core.Logic.{◌⊎◌, inl, inr}
use native.Mathlib.Omega.{arith}
use native.Mathlib.Nat.{le-suc_iff}
use Rattle.model.specs.Search.{somewhere, everywhere, or_else, first}
use Rattle.model.proofs.Tests.{or_right, or_left, or-false, and-true, and_right, and_left, tested, clash}

module _ (f : ℕ → Bool) where
  pub somewhere-at : (n t : ℕ) → 1 ≤ t → t ≤ n → f t ≡ true → somewhere f n ≡ true
  somewhere-at zero t pos le h = absurd (omega arith)
  somewhere-at (suc n) t pos le h = go (le-suc_iff.0 le) (λ below. somewhere-at n t pos below h)
    where
      go : (t ≤ n) ⊎ (t ≡ suc n) → (t ≤ n → somewhere f n ≡ true) → (somewhere f n || f (suc n)) ≡ true
      go (inl below) early = or_left (somewhere f n) (f (suc n)) (early below)
      go (inr here) early = or_right (somewhere f n) (f (suc n)) (rw here at h)

  pub nowhere : (n : ℕ) → ((t : ℕ) → 1 ≤ t → t ≤ n → f t ≡ false) → somewhere f n ≡ false
  nowhere zero h = refl
  nowhere (suc n) h = or-false _ _ (nowhere n (λ t pos le. h t pos (omega arith))) (h (suc n) (omega arith) (omega arith))

  pub everywhere-at : (n t : ℕ) → 1 ≤ t → t ≤ n → f t ≡ false → everywhere f n ≡ false
  everywhere-at zero t pos le h = absurd (omega arith)
  everywhere-at (suc n) t pos le h = go (le-suc_iff.0 le) (λ below. everywhere-at n t pos below h)
    where
      go : (t ≤ n) ⊎ (t ≡ suc n) → (t ≤ n → everywhere f n ≡ false) → (everywhere f n && f (suc n)) ≡ false
      go (inl below) early = and_left (everywhere f n) (f (suc n)) (early below)
      go (inr here) early = and_right (everywhere f n) (f (suc n)) (rw here at h)

  pub everywhere-all : (n : ℕ) → ((t : ℕ) → 1 ≤ t → t ≤ n → f t ≡ true) → everywhere f n ≡ true
  everywhere-all zero h = refl
  everywhere-all (suc n) h =
      and-true _ _ (everywhere-all n (λ t pos le. h t pos (omega arith))) (h (suc n) (omega arith) (omega arith))

  pub first-none : (n : ℕ) → ((t : ℕ) → 1 ≤ t → t ≤ n → f t ≡ false) → first f n ≡ 0
  first-none zero h = refl
  first-none (suc n) h =
      rw (first-none n (λ t pos le. h t pos (omega arith))) (rw (h (suc n) (omega arith) (omega arith)))

  pub first-at : (n t : ℕ) → 1 ≤ t → t ≤ n → f t ≡ true → ((s : ℕ) → 1 ≤ s → s < t → f s ≡ false) → first f n ≡ t
  first-at zero t pos le h none = absurd (omega arith)
  first-at (suc n) t pos le h none = go t pos (le-suc_iff.0 le) (λ below. first-at n t pos below h none) h none
    where
      go : (t : ℕ) → 1 ≤ t → (t ≤ n) ⊎ (t ≡ suc n) → (t ≤ n → first f n ≡ t) → f t ≡ true
          → ((s : ℕ) → 1 ≤ s → s < t → f s ≡ false) → or_else (first f n) (cond (f (suc n)) (suc n) 0) ≡ t
      go zero pos w early h none = absurd (omega arith)
      go (suc t) pos (inl below) early h none = rw (early below)
      go (suc t) pos (inr here) early h none =
          rw (first-none n (λ s p l. none s p (omega arith))) (rw (rw here at h) (sym here))

-- r is the smallest place from 1 to n at which f holds, or 0 where there is none
pub record Smallest (f : ℕ → Bool) (n r : ℕ) : Type 0 where
  pub most : r ≤ n
  pub holds : 1 ≤ r → f r ≡ true
  pub least : (s : ℕ) → 1 ≤ s → s < r → f s ≡ false
  pub none : r ≡ 0 → (s : ℕ) → 1 ≤ s → s ≤ n → f s ≡ false

pub first-smallest : (f : ℕ → Bool) (n : ℕ) → Smallest f n (first f n)
first-smallest f zero =
    record {
      most = omega arith;
      holds = λ p. absurd (omega arith);
      least = λ s p l. absurd (omega arith);
      none = λ e s p l. absurd (omega arith);
    }
first-smallest f (suc n) = go (first f n) (first-smallest f n) (f (suc n)) refl
  where
    go : (r : ℕ) → Smallest f n r → (b : Bool) → f (suc n) ≡ b → Smallest f (suc n) (or_else r (cond b (suc n) 0))
    go zero i true e =
        record {
          most = omega arith;
          holds = λ p. e;
          least = λ s p l. i.none refl s p (omega arith);
          none = λ z s p l. absurd (omega arith);
        }
    go zero i false e =
        record {
          most = omega arith;
          holds = λ p. absurd (omega arith);
          least = λ s p l. absurd (omega arith);
          none = λ z s p l. step s p (le-suc_iff.0 l);
        }
      where
        step : (s : ℕ) → 1 ≤ s → (s ≤ n) ⊎ (s ≡ suc n) → f s ≡ false
        step s p (inl below) = i.none refl s p below
        step s p (inr here) = rw here e
    go (suc r) i b e =
        record {
          most = omega (arith, i.most);
          holds = i.holds;
          least = i.least;
          none = λ z s p l. absurd (omega arith);
        }

-- and there is only one such place
pub smallest-first : (f : ℕ → Bool) (n r : ℕ) → Smallest f n r → first f n ≡ r
smallest-first f n zero i = first-none f n (i.none refl)
smallest-first f n (suc r) i = first-at f n (suc r) (omega arith) i.most (i.holds (omega arith)) i.least

-- at none of the places from 1 to i
abbrev pub NoneOf : (ℕ → Bool) → ℕ → Type 0
NoneOf f i = (s : ℕ) → 1 ≤ s → s ≤ i → f s ≡ false

-- where a test grows, so does its holding somewhere
pub somewhere-grows : (f g : ℕ → Bool) (n : ℕ) → ((t : ℕ) → 1 ≤ t → f t ≡ true → g t ≡ true) → somewhere f n ≡ true → somewhere g n ≡ true
somewhere-grows f g zero h e = e
somewhere-grows f g (suc n) h e = go (tested (f (suc n))) (somewhere-grows f g n h)
  where
    go : (f (suc n) ≡ true) ⊎ (f (suc n) ≡ false) → (somewhere f n ≡ true → somewhere g n ≡ true) → (somewhere g n || g (suc n)) ≡ true
    go (inl here) early = or_right (somewhere g n) (g (suc n)) (h (suc n) (omega arith) here)
    go (inr gone) early = or_left (somewhere g n) (g (suc n)) (early (only (somewhere f n) (rw gone at e)))
      where
        only : (a : Bool) → (a || false) ≡ true → a ≡ true
        only true e = refl
        only false e = e

pub everywhere-has : (f : ℕ → Bool) (n t : ℕ) → 1 ≤ t → t ≤ n → everywhere f n ≡ true → f t ≡ true
everywhere-has f n t pos le h = go (tested (f t))
  where
    go : (f t ≡ true) ⊎ (f t ≡ false) → f t ≡ true
    go (inl e) = e
    go (inr e) = absurd (clash h (everywhere-at f n t pos le e))

-- tests that agree have one first place
pub first_agrees : (f g : ℕ → Bool) (n : ℕ) → ((t : ℕ) → 1 ≤ t → t ≤ n → f t ≡ g t) → first f n ≡ first g n
first_agrees f g zero h = refl
first_agrees f g (suc n) h = rw (first_agrees f g n (λ t p l. h t p (omega arith)), h (suc n) (omega arith) (omega arith))
