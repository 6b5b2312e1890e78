-- Laws of the boundaries of a stay, and of the ticks held between two moments: at most C from one boundary to the next is at most 2C in
-- any window of T. Over plain ticks and stays, with no card in sight. Assumes nothing.
use mathlib.Core.Path.{◌≡◌, refl, ap, sym, ◌∙◌, subst}
use mathlib.Core.Bool.{Bool, true, false, cond, ◌&&◌}
use mathlib.Core.List.{List, [], ◌∷◌}
use mathlib.Core.Logic.{⊎_elim}
use mathlib.Core.Option.{Option, some}
use Prim.Native.Nat.{ℕ, zero, suc, ◌+◌, ◌-◌, ◌*◌, ◌/◌, ◌≤◌, ◌<◌}
use native.Mathlib.Omega.{arith}
use native.Mathlib.Nat.{div-add-mod', mod-lt, add-mul, mul-le-mul_right, div-eq_of_lt-le}
use lib.Dec.{leb, ltb}
use lib.ListN.{length, take, drop}
use borrow.Author.Tests.{le-leb, lt-leb, lt-ltb, le-ltb}
use Rattle.rules.specs.Return.{boundary_after}
use Rattle.rules.specs.History.{ticks}
use Rattle.rules.specs.Stays.{Stay, owns, held, held_ticks}
use Rattle.rules.specs.Boundaries.{held_between, boundary, latest}
use Rattle.rules.proofs.Tests.{tests, clash, cases, and_right}
use Rattle.rules.proofs.Lists.{length-ticks}
use Rattle.rules.proofs.Held.{length-held, owns_none, owns-over}
use Rattle.rules.proofs.Window.{Within}

-- one held tick, that begins at n
abbrev counts : ℕ → ℕ → ℕ → ℕ
counts low high n = cond (leb low n && ltb n high) 1 0

inside : (low high n : ℕ) → low ≤ n → n < high → counts low high n ≡ 1
inside low high n h k = rw (le-leb low n h, lt-ltb n high k)

under : (low high n : ℕ) → n < low → counts low high n ≡ 0
under low high n h = rw (lt-leb low n h)

over : (low high n : ℕ) → high ≤ n → counts low high n ≡ 0
over low high n h = rw (le-ltb n high h, and_right (leb low n))

-- ticks that are not held count nowhere
pub between-idle : (low high d : ℕ) (m : List Bool) → held_between low high (ticks d false m) ≡ held_between low high m
between-idle low high zero m = refl
between-idle low high (suc d) m = omega (arith, between-idle low high d m)

-- held ticks count where they lie
pub between-held : (low high d : ℕ) (m : List Bool) → low ≤ length m → length m + d ≤ high
    → held_between low high (ticks d true m) ≡ d + held_between low high m
between-held low high zero m h k = omega arith
between-held low high (suc d) m h k =
    let n = length-ticks d true m in
    omega (
      arith,
      inside low high (length (ticks d true m)) (omega arith) (omega arith),
      between-held low high d m h (omega arith),
    )

pub between-before : (low high d : ℕ) (m : List Bool) → length m + d ≤ low → held_between low high (ticks d true m) ≡ held_between low high m
between-before low high zero m h = refl
between-before low high (suc d) m h =
    let n = length-ticks d true m in
    omega (arith, under low high (length (ticks d true m)) (omega arith), between-before low high d m (omega arith))

pub between-behind : (low high d : ℕ) (m : List Bool) → high ≤ length m → held_between low high (ticks d true m) ≡ held_between low high m
between-behind low high zero m h = refl
between-behind low high (suc d) m h =
    let n = length-ticks d true m in
    omega (arith, over low high (length (ticks d true m)) (omega arith), between-behind low high d m h)

-- nothing is held from the end of the ticks on
pub between_none : (low high : ℕ) (m : List Bool) → length m ≤ low → held_between low high m ≡ 0
between_none low high [] h = refl
between_none low high (true ∷ m) h = omega (arith, under low high (length m) (omega arith), between_none low high m (omega arith))
between_none low high (false ∷ m) h = omega (arith, between_none low high m (omega arith))

pub between-end : (low high high' : ℕ) (m : List Bool) → length m ≤ high → length m ≤ high'
    → held_between low high m ≡ held_between low high' m
between-end low high high' [] h k = refl
between-end low high high' (true ∷ m) h k =
    rw (lt-ltb (length m) high (omega arith), lt-ltb (length m) high' (omega arith))
    (ap (λ (n : ℕ). cond (leb low (length m) && true) 1 0 + n) (between-end low high high' m (omega arith) (omega arith)))
between-end low high high' (false ∷ m) h k = omega (arith, between-end low high high' m (omega arith) (omega arith))

pub between_split : (low middle high : ℕ) (m : List Bool)
    → held_between low high m ≤ held_between low middle m + held_between middle high m
between_split low middle high [] = omega arith
between_split low middle high (false ∷ m) = omega (arith, between_split low middle high m)
between_split low middle high (true ∷ m) = omega (arith, one (length m), between_split low middle high m)
  where
    one : (n : ℕ) → counts low high n ≤ counts low middle n + counts middle high n
    one n = go (leb low n) (ltb n middle) (leb middle n) (ltb n high) refl refl
      where
        go : (a b c d : Bool) → ltb n middle ≡ b → leb middle n ≡ c → cond (a && d) 1 0 ≤ cond (a && b) 1 0 + cond (c && d) 1 0
        go false b c d e f = omega arith
        go true b c false e f = omega arith
        go true true c true e f = omega arith
        go true false true true e f = omega arith
        go true false false true e f = absurd (omega (arith, tests))

pub between_both : (low middle high : ℕ) (m : List Bool) → low ≤ middle → middle ≤ high
    → held_between low middle m + held_between middle high m ≤ held_between low high m
between_both low middle high [] h k = omega arith
between_both low middle high (false ∷ m) h k = omega (arith, between_both low middle high m h k)
between_both low middle high (true ∷ m) h k = omega (arith, one (length m), between_both low middle high m h k)
  where
    one : (n : ℕ) → counts low middle n + counts middle high n ≤ counts low high n
    one n = ⊎_elim late early (cases (leb middle n))
      where
        late : leb middle n ≡ true → counts low middle n + counts middle high n ≤ counts low high n
        late e =
            let l : leb low n ≡ true = le-leb low n (omega (arith, tests)) in
            rw (over low middle n (omega (arith, tests)), e, l) (omega arith)

        early : leb middle n ≡ false → counts low middle n + counts middle high n ≤ counts low high n
        early e =
            let l : ltb n middle ≡ true = lt-ltb n middle (omega (arith, tests)) in
            let u : ltb n high ≡ true = lt-ltb n high (omega (arith, tests)) in
            rw (under middle high n (omega (arith, tests)), l, u) (omega arith)

-- between moments further apart there is no less
pub between_wide : (low high low' high' : ℕ) (m : List Bool) → low' ≤ low → low ≤ high → high ≤ high'
    → held_between low high m ≤ held_between low' high' m
between_wide low high low' high' m h k l =
    omega (arith, between_both low' low high m h k, between_both low' high high' m (omega arith) l)

pub between-most : (low high : ℕ) (m : List Bool) → held_between low high m ≤ high - low
between-most low high [] = omega arith
between-most low high (false ∷ m) = omega (arith, between-most low high m)
between-most low high (true ∷ m) = go (leb low (length m)) (ltb (length m) high) refl refl (between-most low high m)
    (between-most low (length m) m)
  where
    go : (a b : Bool) → leb low (length m) ≡ a → ltb (length m) high ≡ b → held_between low high m ≤ high - low
        → held_between low (length m) m ≤ length m - low → cond (a && b) 1 0 + held_between low high m ≤ high - low
    go true true e f ih ih' =
        omega (arith, tests, between-end low high (length m) m (omega (arith, tests)) (omega arith))
    go true false e f ih ih' = omega arith
    go false b e f ih ih' = omega arith

-- a window lies between the moments that it covers
pub window-between : (T k low high : ℕ) (m : List Bool)
    → ((n : ℕ) → n + k < length m → length m ≤ n + k + T → (low ≤ n) × (n < high)) → held_ticks (take T (drop k m)) ≤ held_between low high m
window-between zero k low high m f = omega arith
window-between (suc T) zero low high [] f = omega arith
window-between (suc T) (suc k) low high [] f = omega arith
window-between (suc T) (suc k) low high (b ∷ m) f =
    omega (arith, window-between (suc T) k low high m (λ n h l. f n (omega arith) (omega arith)))
window-between (suc T) zero low high (false ∷ m) f =
    omega (arith, window-between T 0 low high m (λ n h l. f n (omega arith) (omega arith)))
window-between (suc T) zero low high (true ∷ m) f =
    let p = f (length m) (omega arith) (omega arith) in
    omega (
      arith,
      inside low high (length m) p.0 p.1,
      window-between T 0 low high m (λ n h l. f n (omega arith) (omega arith)),
    )

outside : (b : Bool) (low high n : ℕ) → (low ≤ n → n < high → b ≡ false)
    → cond (b && leb low n && ltb n high) 1 0 ≤ 0
outside b low high n f = go b (leb low n) (ltb n high) refl refl f
  where
    go : (b x y : Bool) → leb low n ≡ x → ltb n high ≡ y → (low ≤ n → n < high → b ≡ false) → cond (b && x && y) 1 0 ≤ 0
    go false x y e g f = omega arith
    go true false y e g f = omega arith
    go true true false e g f = omega arith
    go true true true e g f = clash (f (omega (arith, tests)) (omega (arith, tests)))

at_most_one : (b x y : Bool) → cond (b && x && y) 1 0 ≤ cond b 1 0
at_most_one false x y = omega arith
at_most_one true false y = omega arith
at_most_one true true false = omega arith
at_most_one true true true = omega arith

-- .. and covers those between the moments
between-window : (T k low high : ℕ) (m : List Bool)
    → ((n : ℕ) → low ≤ n → n < high → n < length m → (n + k < length m) × (length m ≤ n + k + T))
    → held_between low high m ≤ held_ticks (take T (drop k m))
between-window T k low high [] f = omega arith
between-window T (suc k) low high (b ∷ m) f =
    omega (
      arith,
      outside b low high (length m) (λ h l. absurd (omega (arith, (f (length m) h l (omega arith)).0))),
      between-window T k low high m (λ n h l j. let p = f n h l (omega arith) in (omega (arith, p.0), omega (arith, p.1))),
    )
between-window zero zero low high (b ∷ m) f =
    omega (
      arith,
      outside b low high (length m) (λ h l. absurd (omega (arith, (f (length m) h l (omega arith)).1))),
      between-window 0 0 low high m (λ n h l j. (omega arith, omega (arith, (f n h l (omega arith)).1))),
    )
between-window (suc T) zero low high (b ∷ m) f =
    omega (
      arith,
      at_most_one b (leb low (length m)) (ltb (length m) high),
      between-window T 0 low high m (λ n h l j. (omega arith, omega (arith, (f n h l (omega arith)).1))),
    )

-- at most C in any window of T, said by the moments that it covers
abbrev pub Anywhere : ℕ → ℕ → List Bool → Type 0
Anywhere T C m = (low : ℕ) → held_between low (low + T) m ≤ C

pub within-anywhere : (T C : ℕ) (m : List Bool) → Within T C m → Anywhere T C m
within-anywhere T C m w low =
    let k : ℕ = length m - (low + T) in
    omega (arith, between-window T k low (low + T) m (λ n h l j. (omega arith, omega arith)), w k)

-- between moments at which it owns no tick a stay holds nothing
between_unowned : (s : Stay) (low high : ℕ) (h : List (Option ℕ)) → ((o : Option ℕ) (n : ℕ) → low ≤ n → n < high → owns s o n ≡ false)
    → held_between low high (held s h) ≡ 0
between_unowned s low high [] f = refl
between_unowned s low high (o ∷ h) f =
    omega (
      arith,
      subst (λ (n : ℕ). cond (owns s o (length h) && leb low n && ltb n high) 1 0 ≤ 0) (sym (length-held s h))
          (outside (owns s o (length h)) low high (length h) (f o (length h))),
      between_unowned s low high h f,
    )

-- so before its admission
pub between_admission : (s : Stay) (h : List (Option ℕ)) → held_between 0 s.from (held s h) ≡ 0
between_admission s h = between_unowned s 0 s.from h (λ o n l k. owns_none s o n k)

-- and from its end on
pub between-over : (s : Stay) (end low high : ℕ) (h : List (Option ℕ)) → s.until ≡ some end → end ≤ low
    → held_between low high (held s h) ≡ 0
between-over s end low high h e k = between_unowned s low high h (λ o n l j. owns-over s o end n e (omega arith))

-- at most C from one boundary to the next, and from its admission to the first
abbrev pub Once : List Bool → Stay → Type 0
Once m s = (k : ℕ) → held_between (boundary s k) (boundary s (k + 1)) m ≤ s.terms.capacity

pub boundary-next : (s : Stay) (k : ℕ) → boundary s (k + 1) ≡ boundary s k + s.terms.period
boundary-next s k = omega (arith, add-mul k 1 s.terms.period)

boundary-later : (s : Stay) (j k : ℕ) → j ≤ k → boundary s j ≤ boundary s k
boundary-later s j k h = omega (arith, mul-le-mul_right s.terms.period h)

pub once-idle : (s : Stay) (d : ℕ) (m : List Bool) → Once m s → Once (ticks d false m) s
once-idle s d m once k = omega (arith, between-idle (boundary s k) (boundary s (k + 1)) d m, once k)

-- so at most 2C in any window of T, which meets at most two of these
pub twice : (s : Stay) (m : List Bool) → held_between 0 s.from m ≡ 0 → Once m s → (before : ℕ)
    → held_ticks (take s.terms.period (drop before m)) ≤ 2 * s.terms.capacity
twice s m z once before = ⊎_elim early late (cases (ltb low s.from))
  where
    T : ℕ
    T = s.terms.period

    low : ℕ
    low = length m - before - T

    first : boundary s 0 ≡ s.from
    first = omega arith

    two : (k : ℕ) → held_between (boundary s k) (boundary s (k + 1 + 1)) m ≤ 2 * s.terms.capacity
    two k =
        omega (
          arith,
          between_split (boundary s k) (boundary s (k + 1)) (boundary s (k + 1 + 1)) m,
          once k,
          once (k + 1),
        )

    early : ltb low s.from ≡ true → held_ticks (take T (drop before m)) ≤ 2 * s.terms.capacity
    early e =
        omega (
          arith,
          window-between T before 0 (boundary s (0 + 1 + 1)) m (λ n h k. (omega arith, omega (arith, tests))),
          between_split 0 (boundary s 0) (boundary s (0 + 1 + 1)) m,
          ap (λ (n : ℕ). held_between 0 n m) first ∙ z,
          two 0,
        )

    late : ltb low s.from ≡ false → held_ticks (take T (drop before m)) ≤ 2 * s.terms.capacity
    late e =
        let k : ℕ = (low - s.from) / T in
        omega (
          arith,
          window-between T before (boundary s k) (boundary s (k + 1 + 1)) m (λ n h l. inWindow n h l),
          two k,
        )
      where
        inWindow : (n : ℕ) → n + before < length m → length m ≤ n + before + T
            → (boundary s ((low - s.from) / T) ≤ n) × (n < boundary s ((low - s.from) / T + 1 + 1))
        inWindow n h l =
            let p : 1 ≤ T = omega arith in
            let d = div-add-mod' (low - s.from) T in
            let r = mod-lt (low - s.from) p in
            let b = boundary-next s ((low - s.from) / T) in
            let c = boundary-next s ((low - s.from) / T + 1) in
            (omega (arith, tests), omega (arith, tests))

-- the latest boundary is the last one by `now`, the only one less than a period before it
module _ (s : Stay) (pos : 1 ≤ s.terms.period) where
  abbrev T : ℕ
  T = s.terms.period

  pub latest-by : (now : ℕ) → s.from ≤ now → (latest s now ≤ now) × (now < latest s now + T)
  latest-by now h =
      let e = div-add-mod' (now - s.from) T in
      let l = mod-lt (now - s.from) pos in
      (omega arith, omega arith)

  latest-is : (now k : ℕ) → boundary s k ≤ now → now < boundary s k + T → latest s now ≡ boundary s k
  latest-is now k h l =
      ap (boundary s) (div-eq_of_lt-le T (omega arith) (omega (arith, add-mul k 1 T)))

  -- no boundary passes
  pub stays-latest : (last now : ℕ) → s.from ≤ last → last ≤ now → now < latest s last + T → latest s now ≡ latest s last
  stays-latest last now f h l = latest-is now ((last - s.from) / T) (omega (arith, (latest-by last f).0)) l

  -- one passes, or more
  pub comes-later : (last now : ℕ) → s.from ≤ last → latest s last + T ≤ now
      → (latest s last + T ≤ latest s now) × (boundary_after now T (latest s last + T) ≡ latest s now + T)
  comes-later last now f h =
      let b : ℕ = latest s last + T in
      let d = div-add-mod' (now - b) T in
      let r = mod-lt (now - b) pos in
      let q : ℕ = (last - s.from) / T in
      let j : ℕ = (now - b) / T in
      let e : boundary s (q + 1 + j) ≡ b + j * T = omega (arith, add-mul (q + 1) j T, add-mul q 1 T) in
      let l = latest-is now (q + 1 + j) (omega arith) (omega arith) in
      (omega arith, omega (arith, add-mul j 1 T))

  -- d more ticks, held before the next boundary
  pub once-held : (d last : ℕ) (m : List Bool) → length m ≡ last → s.from ≤ last → last + d ≤ latest s last + T
      → d + held_between (latest s last) last m ≤ s.terms.capacity → Once m s → Once (ticks d true m) s
  once-held d last m l f b c once k = ⊎_elim earlier (λ n. ⊎_elim later (this n) (cases (ltb q k))) (cases (ltb k q))
    where
      q : ℕ
      q = (last - s.from) / T

      Then : ℕ → Type 0
      Then j = held_between (boundary s j) (boundary s (j + 1)) (ticks d true m) ≤ s.terms.capacity

      earlier : ltb k q ≡ true → Then k
      earlier e =
          let h = boundary-later s (k + 1) q (omega (arith, tests)) in
          omega (
            arith,
            between-behind (boundary s k) (boundary s (k + 1)) d m (omega (arith, (latest-by last f).0)),
            once k,
          )

      later : ltb q k ≡ true → Then k
      later e =
          let h = boundary-later s (q + 1) k (omega (arith, tests)) in
          omega (
            arith,
            between-before (boundary s k) (boundary s (k + 1)) d m (omega (arith, boundary-next s q)),
            once k,
          )

      this : ltb k q ≡ false → ltb q k ≡ false → Then k
      this n e =
          let same : q ≡ k = omega (arith, tests, n) in
          let by = latest-by last f in
          let high = boundary-next s q in
          subst Then same
          (omega (
            arith,
            between-held (boundary s q) (boundary s (q + 1)) d m (omega arith) (omega arith),
            between-end (boundary s q) (boundary s (q + 1)) last m (omega arith) (omega arith),
          ))
