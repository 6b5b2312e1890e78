-- The decimal digits of a number are those of a tenth of it and one more, how many there are, and that they say that number.
-- Assumes nothing.
use Prim.Native.Nat.{ℕ, zero, suc, ◌+◌, ◌-◌, ◌*◌, ◌/◌, ◌%◌, ◌^◌, ◌≤◌, ◌<◌}
use mathlib.Core.Path.{◌≡◌, refl, ap, sym, ◌∙◌}
use mathlib.Core.Bool.{Bool, true, false}
use mathlib.Core.Logic.{◌⊎◌, inl, inr}
use mathlib.Core.List.{List, [], ◌∷◌, ◌++◌}
use native.Mathlib.Omega.{arith}
use native.Mathlib.Nat.{pow-suc, div-lt_iff_lt-mul}
use lib.Dec.{ltb}
use lib.ListN.{length, length-append}
use borrow.Author.Tests.{lt-ltb, le-ltb, ltb-true, ltb-false}
use Rattle.text.specs.Text.{figures, decimal, number_from, number}

pub figures-one : (k n : ℕ) → n < 10 → figures (suc k) n ≡ (48 + n) ∷ []
unfolding figures
figures-one k n h = rw (lt-ltb n 10 h)

pub figures-step : (k n : ℕ) → 10 ≤ n → figures (suc k) n ≡ figures k (n / 10) ++ ((48 + n % 10) ∷ [])
unfolding figures
figures-step k n h = rw (le-ltb n 10 h)

pub one-or-more : (n : ℕ) → (n < 10) ⊎ (10 ≤ n)
one-or-more n = go (ltb n 10) refl
  where
    go : (t : Bool) → ltb n 10 ≡ t → (n < 10) ⊎ (10 ≤ n)
    go true e = inl (ltb-true n 10 e)
    go false e = inr (ltb-false n 10 e)

pub figures-length : (k n : ℕ) → length (figures k n) ≤ k
unfolding figures
figures-length zero n = omega arith
figures-length (suc k) n = go (one-or-more n) (figures-length k (n / 10))
  where
    go : (n < 10) ⊎ (10 ≤ n) → length (figures k (n / 10)) ≤ k → length (figures (suc k) n) ≤ suc k
    go (inl h) r = rw (figures-one k n h) (omega arith)
    go (inr h) r = rw (figures-step k n h) (omega (arith, length-append (figures k (n / 10)) ((48 + n % 10) ∷ [])))

-- more places than a number needs change nothing
pub figures-more : (k n : ℕ) → n < 10 ^ suc k → figures (suc (suc k)) n ≡ figures (suc k) n
figures-more zero n h = figures-one 1 n h ∙ sym (figures-one 0 n h)
figures-more (suc k) n h = go (one-or-more n) (figures-more k (n / 10) ((div-lt_iff_lt-mul (omega arith)).1 (rw pow-suc at h)))
  where
    go : (n < 10) ⊎ (10 ≤ n) → figures (suc (suc k)) (n / 10) ≡ figures (suc k) (n / 10)
        → figures (suc (suc (suc k))) n ≡ figures (suc (suc k)) n
    go (inl h) r = figures-one (suc (suc k)) n h ∙ sym (figures-one (suc k) n h)
    go (inr h) r = figures-step (suc (suc k)) n h ∙ ap (λ (x : List ℕ). x ++ ((48 + n % 10) ∷ [])) r ∙ sym (figures-step (suc k) n h)

module _ (n : ℕ) (some : 10 ≤ n) (fits : n < 2 ^ 64) where
  tenth : figures 20 (n / 10) ≡ figures 19 (n / 10)
  tenth = figures-more 18 (n / 10) (omega arith)

  pub decimal-more : decimal n ≡ decimal (n / 10) ++ ((48 + n % 10) ∷ [])
  decimal-more = figures-step 19 n some ∙ ap (λ (x : List ℕ). x ++ ((48 + n % 10) ∷ [])) (sym tenth)

  pub longer : length (decimal n) ≡ length (decimal (n / 10)) + 1
  longer = rw decimal-more (length-append (decimal (n / 10)) ((48 + n % 10) ∷ []))

-- four digits at a time
pub longer_four : (n : ℕ) → 10000 ≤ n → n < 2 ^ 64 → length (decimal n) ≡ 4 + length (decimal (n / 10000))
longer_four n some fits =
    let d : n / 10 / 10 / 10 / 10 ≡ n / 10000 = omega arith in
    omega (
      arith,
      longer n (omega arith) fits,
      longer (n / 10) (omega arith) (omega arith),
      longer (n / 10 / 10) (omega arith) (omega arith),
      longer (n / 10 / 10 / 10) (omega arith) (omega arith),
      ap (λ (m : ℕ). length (decimal m)) d,
    )

pub one-digit : (n : ℕ) → n < 10 → length (decimal n) ≡ 1
one-digit n h = ap length (figures-one 19 n h)

pub some-digits : (n : ℕ) → n < 2 ^ 64 → 1 ≤ length (decimal n)
some-digits n fits = go (one-or-more n)
  where
    go : (n < 10) ⊎ (10 ≤ n) → 1 ≤ length (decimal n)
    go (inl h) = omega (arith, one-digit n h)
    go (inr h) = omega (arith, longer n h fits)

-- one digit says a number below ten, and more digits one of ten or more
pub at-most-one : (n : ℕ) → n < 2 ^ 64 → length (decimal n) ≤ 1 → n < 10
at-most-one n fits few = go (one-or-more n)
  where
    go : (n < 10) ⊎ (10 ≤ n) → n < 10
    go (inl h) = h
    go (inr h) = absurd (omega (arith, longer n h fits, some-digits (n / 10) (omega arith)))

pub several-digits : (n : ℕ) → 1 < length (decimal n) → 10 ≤ n
several-digits n some = go (one-or-more n)
  where
    go : (n < 10) ⊎ (10 ≤ n) → 10 ≤ n
    go (inl h) = absurd (omega (arith, one-digit n h))
    go (inr h) = h

pub two_digits : (n : ℕ) → 10 ≤ n → n < 100 → length (decimal n) ≡ 2
two_digits n some few = omega (arith, longer n some (omega arith), one-digit (n / 10) (omega arith))

pub three_digits : (n : ℕ) → 100 ≤ n → n < 1000 → length (decimal n) ≡ 3
three_digits n some few = omega (arith, longer n (omega arith) (omega arith), two_digits (n / 10) (omega arith) (omega arith))

pub four_digits : (n : ℕ) → 1000 ≤ n → n < 10000 → length (decimal n) ≡ 4
four_digits n some few = omega (arith, longer n (omega arith) (omega arith), three_digits (n / 10) (omega arith) (omega arith))

pub longer-eight : (n : ℕ) → 100000000 ≤ n → n < 2 ^ 64 → length (decimal n) ≡ 8 + length (decimal (n / 100000000))
longer-eight n some fits =
    let d : n / 10000 / 10000 ≡ n / 100000000 = omega arith in
    omega (
      arith,
      longer_four n (omega arith) fits,
      longer_four (n / 10000) (omega arith) (omega arith),
      ap (λ (m : ℕ). length (decimal m)) d,
    )

pub longer_twelve : (n : ℕ) → 1000000000000 ≤ n → n < 2 ^ 64 → length (decimal n) ≡ 12 + length (decimal (n / 1000000000000))
longer_twelve n some fits =
    let d : n / 100000000 / 10000 ≡ n / 1000000000000 = omega arith in
    omega (
      arith,
      longer-eight n (omega arith) fits,
      longer_four (n / 100000000) (omega arith) (omega arith),
      ap (λ (m : ℕ). length (decimal m)) d,
    )

pub longer_sixteen : (n : ℕ) → 10000000000000000 ≤ n → n < 2 ^ 64
    → length (decimal n) ≡ 16 + length (decimal (n / 10000000000000000))
longer_sixteen n some fits =
    let d : n / 1000000000000 / 10000 ≡ n / 10000000000000000 = omega arith in
    omega (
      arith,
      longer_twelve n (omega arith) fits,
      longer_four (n / 1000000000000) (omega arith) (omega arith),
      ap (λ (m : ℕ). length (decimal m)) d,
    )

number_append : (n : ℕ) (xs : List ℕ) (d : ℕ) → number_from n (xs ++ (d ∷ [])) ≡ number_from n xs * 10 + (d - 48)
number_append n [] d = refl
number_append n (x ∷ xs) d = number_append (n * 10 + (x - 48)) xs d

figures_say : (k n : ℕ) → n < 10 ^ suc k → number (figures (suc k) n) ≡ n
figures_say zero n h = ap number (figures-one 0 n h) ∙ omega arith
figures_say (suc k) n h = go (one-or-more n) (figures_say k (n / 10) ((div-lt_iff_lt-mul (omega arith)).1 (rw pow-suc at h)))
  where
    go : (n < 10) ⊎ (10 ≤ n) → number (figures (suc k) (n / 10)) ≡ n / 10 → number (figures (suc (suc k)) n) ≡ n
    go (inl few) r = ap number (figures-one (suc k) n few) ∙ omega arith
    go (inr some) r =
        ap number (figures-step (suc k) n some) ∙ number_append 0 (figures (suc k) (n / 10)) (48 + n % 10) ∙ omega (arith, r)

-- the digits of a number say that number
pub decimal-says : (n : ℕ) → n < 2 ^ 64 → number (decimal n) ≡ n
decimal-says n h = figures_say 19 n (omega arith)

-- how many digits a number has, by the tests of the code
pub ruleset short_widths = (one-digit, two_digits, three_digits, four_digits)

pub ruleset widths = (figures-length, longer_four, longer-eight, longer_twelve, longer_sixteen)
