-- The digits that bytes begin with, and that a number of one to four digits without leading zeros is the decimal text of what it says.
-- Assumes nothing.
use Prim.Native.Nat.{ℕ, zero, suc, ◌+◌, ◌-◌, ◌*◌, ◌/◌, ◌%◌, ◌^◌, ◌≤◌, ◌<◌}
use mathlib.Core.Path.{◌≡◌, refl, ap, sym, ◌∙◌}
use mathlib.Core.Bool.{Bool, true, false, cond, not, ◌&&◌, ◌||◌}
use mathlib.Core.Logic.{◌⊎◌, inl, inr}
use mathlib.Core.List.{List, [], ◌∷◌, ◌++◌}
use native.Mathlib.Omega.{arith}
use native.Mathlib.Nat.{pow-suc, div-lt_iff_lt-mul}
use lib.Dec.{leb, eqb}
use lib.ListN.{length, get_or, drop, length-append, get_or-append}
use borrow.Author.Tests.{le-leb, leb-true, eq-eqb, ne_eqb, eqb-true, eqb-false, not-true}
use Rattle.model.proofs.Tests.{and_both, and-true, or_left, or_right, below-or-from}
use Rattle.text.specs.Text.{figures, decimal, number}
use Rattle.text.proofs.Figures.{figures-one, figures-step, one-or-more, decimal-more, one-digit, two_digits, three_digits, four_digits}
use Rattle.sheets.specs.Sheet.{is_digit, digits, behind_digits, is_number}

-- digits, and what stands behind them
pub split : (bs : List ℕ) → bs ≡ digits bs ++ behind_digits bs
split [] = refl
split (b ∷ bs) = go (is_digit b) (split bs)
  where
    go : (t : Bool) → bs ≡ digits bs ++ behind_digits bs
        → b ∷ bs ≡ cond t (b ∷ digits bs) [] ++ drop (length (cond t (b ∷ digits bs) [])) (b ∷ bs)
    go true h = ap (λ (l : List ℕ). b ∷ l) h
    go false h = refl

pub few-digits : (bs : List ℕ) → length (digits bs) ≤ length bs
few-digits bs = omega (arith, ap length (split bs), length-append (digits bs) (behind_digits bs))

-- each is from 0 to 9
abbrev pub AllDigits : List ℕ → Type 0
AllDigits [] = Unit {0}
AllDigits (d ∷ ds) = (48 ≤ d) × (d ≤ 57) × AllDigits ds

pub digit-means : (b : ℕ) → is_digit b ≡ true → (48 ≤ b) × (b ≤ 57)
digit-means b e = let t = and_both (leb 48 b) (leb b 57) e in (leb-true 48 b t.0, leb-true b 57 t.1)

pub all_digits_lem : (bs : List ℕ) → AllDigits (digits bs)
all_digits_lem [] = tt
all_digits_lem (b ∷ bs) = go (is_digit b) refl (all_digits_lem bs)
  where
    go : (t : Bool) → is_digit b ≡ t → AllDigits (digits bs) → AllDigits (cond t (b ∷ digits bs) [])
    go true e h = let d = digit-means b e in (d.0, d.1, h)
    go false e h = tt

all_append : (xs ys : List ℕ) → AllDigits xs → AllDigits ys → AllDigits (xs ++ ys)
all_append [] ys a b = b
all_append (x ∷ xs) ys a b = (a.0, a.1, all_append xs ys a.2 b)

-- digits before another byte are all that are found
pub digits-before : (xs : List ℕ) (b : ℕ) (more : List ℕ) → AllDigits xs → is_digit b ≡ false → digits (xs ++ b ∷ more) ≡ xs
digits-before [] b more a e = rw e
digits-before (x ∷ xs) b more a e =
    rw (le-leb 48 x a.0, le-leb x 57 a.1) (ap (λ (l : List ℕ). x ∷ l) (digits-before xs b more a.2 e))

-- and digits alone are all digits
pub digits_whole : (xs : List ℕ) → AllDigits xs → digits xs ≡ xs
digits_whole [] a = refl
digits_whole (x ∷ xs) a = rw (le-leb 48 x a.0, le-leb x 57 a.1) (ap (λ (l : List ℕ). x ∷ l) (digits_whole xs a.2))

-- what the test of a number says
pub number-means : (ds : List ℕ) → is_number ds ≡ true
    → (1 ≤ length ds) × (length ds ≤ 4) × ((length ds ≡ 1) ⊎ (get_or ds 0 0 ≡ 48 → ⊥))
unfolding is_number
number-means ds e =
    let t = and_both (leb 1 (length ds) && leb (length ds) 4) (eqb (length ds) 1 || not (eqb (get_or ds 0 0) 48)) e in
    let s = and_both (leb 1 (length ds)) (leb (length ds) 4) t.0 in
    (leb-true 1 (length ds) s.0, leb-true (length ds) 4 s.1, go (eqb (length ds) 1) (eqb (get_or ds 0 0) 48) refl refl t.1)
  where
    go : (a b : Bool) → eqb (length ds) 1 ≡ a → eqb (get_or ds 0 0) 48 ≡ b → (a || not b) ≡ true
        → (length ds ≡ 1) ⊎ (get_or ds 0 0 ≡ 48 → ⊥)
    go true b p q h = inl (eqb-true (length ds) 1 p)
    go false b p q h = inr (eqb-false (get_or ds 0 0) 48 (q ∙ not-true b h))

pub is-number : (ds : List ℕ) → 1 ≤ length ds → length ds ≤ 4 → (length ds ≡ 1) ⊎ (get_or ds 0 0 ≡ 48 → ⊥) → is_number ds ≡ true
unfolding is_number
is-number ds some few first =
    and-true (leb 1 (length ds) && leb (length ds) 4) (eqb (length ds) 1 || not (eqb (get_or ds 0 0) 48))
    (and-true (leb 1 (length ds)) (leb (length ds) 4) (le-leb 1 (length ds) some) (le-leb (length ds) 4 few))
    (go first)
  where
    go : (length ds ≡ 1) ⊎ (get_or ds 0 0 ≡ 48 → ⊥) → (eqb (length ds) 1 || not (eqb (get_or ds 0 0) 48)) ≡ true
    go (inl h) = or_left (eqb (length ds) 1) (not (eqb (get_or ds 0 0) 48)) (eq-eqb (length ds) 1 h)
    go (inr h) = or_right (eqb (length ds) 1) (not (eqb (get_or ds 0 0) 48)) (ap not (ne_eqb (get_or ds 0 0) 48 h))

-- one digit, and one more
one : (n d : ℕ) → n ≡ d - 48 → 48 ≤ d → d ≤ 57 → decimal n ≡ d ∷ []
one n d e low high =
    let same : 48 + n ≡ d = omega arith in
    figures-one 19 n (omega arith) ∙ ap (λ (k : ℕ). k ∷ []) same

more : (n m d : ℕ) (ds : List ℕ) → n ≡ m * 10 + (d - 48) → 1 ≤ m → m ≤ 999 → 48 ≤ d → d ≤ 57 → decimal m ≡ ds
    → decimal n ≡ ds ++ (d ∷ [])
more n m d ds e a b low high r =
    let tenth : n / 10 ≡ m = omega arith in
    let last : 48 + n % 10 ≡ d = omega arith in
    decimal-more n (omega arith) (omega arith)
    ∙ ap (λ (k : ℕ). decimal k ++ ((48 + n % 10) ∷ [])) tenth
    ∙ ap (λ (k : ℕ). decimal m ++ (k ∷ [])) last
    ∙ ap (λ (l : List ℕ). l ++ (d ∷ [])) r

two : (p q : ℕ) → 49 ≤ p → p ≤ 57 → 48 ≤ q → q ≤ 57 → decimal (number (p ∷ q ∷ [])) ≡ p ∷ q ∷ []
two p q a b c d =
    more (number (p ∷ q ∷ [])) (number (p ∷ [])) q (p ∷ []) (omega arith) (omega arith) (omega arith) c d
    (one (number (p ∷ [])) p (omega arith) (omega arith) b)

-- so its decimal text is what stood there, and it is at most 9,999
pub said : (ds : List ℕ) → AllDigits ds → is_number ds ≡ true → (decimal (number ds) ≡ ds) × (number ds ≤ 9999)
said ds a e = let m = number-means ds e in go ds a m.0 m.1 m.2
  where
    go : (ds : List ℕ) → AllDigits ds → 1 ≤ length ds → length ds ≤ 4 → (length ds ≡ 1) ⊎ (get_or ds 0 0 ≡ 48 → ⊥)
        → (decimal (number ds) ≡ ds) × (number ds ≤ 9999)
    go [] a s f r = absurd (omega arith)
    go (p ∷ []) a s f r = (one (number (p ∷ [])) p (omega arith) (omega arith) (omega arith), omega arith)
    go (p ∷ q ∷ ds) a s f (inl r) = absurd (omega arith)
    go (p ∷ q ∷ []) a s f (inr r) = (two p q (omega arith) (omega arith) (omega arith) (omega arith), omega arith)
    go (p ∷ q ∷ x ∷ []) a s f (inr r) = (
      more (number (p ∷ q ∷ x ∷ [])) (number (p ∷ q ∷ [])) x (p ∷ q ∷ []) (omega arith) (omega arith) (omega arith) (omega arith) (omega arith)
          (two p q (omega arith) (omega arith) (omega arith) (omega arith)),
      omega arith,
    )
    go (p ∷ q ∷ x ∷ y ∷ []) a s f (inr r) = (
      more (number (p ∷ q ∷ x ∷ y ∷ [])) (number (p ∷ q ∷ x ∷ [])) y (p ∷ q ∷ x ∷ []) (omega arith) (omega arith) (omega arith) (omega arith)
          (omega arith)
          (more (number (p ∷ q ∷ x ∷ [])) (number (p ∷ q ∷ [])) x (p ∷ q ∷ []) (omega arith) (omega arith) (omega arith) (omega arith) (omega arith)
          (two p q (omega arith) (omega arith) (omega arith) (omega arith))),
      omega arith,
    )
    go (p ∷ q ∷ x ∷ y ∷ z ∷ ds) a s f (inr r) = absurd (omega arith)

-- the decimal text of a number: digits, no leading zero, and at most four of them up to 9,999
figures-digits : (k n : ℕ) → AllDigits (figures k n)
unfolding figures
figures-digits zero n = tt
figures-digits (suc k) n = go (one-or-more n) (figures-digits k (n / 10))
  where
    go : (n < 10) ⊎ (10 ≤ n) → AllDigits (figures k (n / 10)) → AllDigits (figures (suc k) n)
    go (inl h) r = rw (figures-one k n h) (omega arith, omega arith, tt)
    go (inr h) r = rw (figures-step k n h) (all_append (figures k (n / 10)) ((48 + n % 10) ∷ []) r (omega arith, omega arith, tt))

pub decimal-digits : (n : ℕ) → AllDigits (decimal n)
decimal-digits n = figures-digits 20 n

some-figures : (k n : ℕ) → 1 ≤ length (figures (suc k) n)
some-figures k n = go (one-or-more n)
  where
    go : (n < 10) ⊎ (10 ≤ n) → 1 ≤ length (figures (suc k) n)
    go (inl h) = omega (arith, ap length (figures-one k n h))
    go (inr h) =
        omega (arith, ap length (figures-step k n h), length-append (figures k (n / 10)) ((48 + n % 10) ∷ []))

first-digit : (k n : ℕ) → 1 ≤ n → n < 10 ^ suc k → get_or (figures (suc k) n) 0 0 ≡ 48 → ⊥
first-digit zero n some h e = omega (arith, ap (λ (l : List ℕ). get_or l 0 0) (figures-one 0 n h))
first-digit (suc k) n some h e = go (one-or-more n) (first-digit k (n / 10))
  where
    go : (n < 10) ⊎ (10 ≤ n) → (1 ≤ n / 10 → n / 10 < 10 ^ suc k → get_or (figures (suc k) (n / 10)) 0 0 ≡ 48 → ⊥) → ⊥
    go (inl few) r = omega (arith, ap (λ (l : List ℕ). get_or l 0 0) (figures-one (suc k) n few))
    go (inr lots) r =
        r (omega arith) ((div-lt_iff_lt-mul (omega arith)).1 (rw pow-suc at h))
        (sym (get_or-append (figures (suc k) (n / 10)) ((48 + n % 10) ∷ []) 0 0 (some-figures k (n / 10)))
        ∙ sym (ap (λ (l : List ℕ). get_or l 0 0) (figures-step (suc k) n lots))
        ∙ e)

pub decimal-number : (n : ℕ) → n ≤ 9999 → is_number (decimal n) ≡ true
decimal-number n most = is-number (decimal n) (some-figures 19 n) (few (one-or-more n)) (first (one-or-more n))
  where
    first : (n < 10) ⊎ (10 ≤ n) → (length (decimal n) ≡ 1) ⊎ (get_or (decimal n) 0 0 ≡ 48 → ⊥)
    first (inl h) = inl (one-digit n h)
    first (inr h) = inr (first-digit 19 n (omega arith) (omega arith))

    few : (n < 10) ⊎ (10 ≤ n) → length (decimal n) ≤ 4
    few (inl h) = omega (arith, one-digit n h)
    few (inr h) = more-than-one (below-or-from n 100) (below-or-from n 1000)
      where
        more-than-one : (n < 100) ⊎ (100 ≤ n) → (n < 1000) ⊎ (1000 ≤ n) → length (decimal n) ≤ 4
        more-than-one (inl a) b = omega (arith, two_digits n h a)
        more-than-one (inr a) (inl b) = omega (arith, three_digits n a b)
        more-than-one (inr a) (inr b) = omega (arith, four_digits n b (omega arith))
