-- The slices of a stay, tick by tick. `going` is how long the slice is that a next held tick would go on with, `begun` counts the held
-- ticks whose slice began at a moment s with x ≤ s + T; then what d held ticks more do to the list of slices. Assumes nothing.
use mathlib.Core.Path.{◌≡◌, refl, ap, ◌∙◌, subst}
use mathlib.Core.Bool.{Bool, true, false, cond}
use mathlib.Core.List.{List, [], ◌∷◌}
use mathlib.Core.Logic.{⊎_elim}
use Prim.Native.Nat.{ℕ, zero, suc, ◌+◌, ◌-◌, ◌≤◌, ◌<◌}
use native.Mathlib.Omega.{arith}
use native.Mathlib.Numerals.{add-one}
use lib.Dec.{leb, ltb, eqb}
use lib.ListN.{length, get_or, take}
use borrow.Author.Tests.{leb-true, leb-false, ltb-true, ltb-false, le-leb, lt-leb, lt-ltb, le-ltb, eq-eqb, ne_eqb}
use Rattle.rules.specs.History.{ticks}
use Rattle.rules.specs.Stays.{held_ticks}
use Rattle.rules.specs.Slices.{Slice, uncut, goes_on, grow, slices}
use Rattle.rules.proofs.Tests.{tests, clash, cases, and-true}
use Rattle.rules.proofs.Lists.{length-ticks}

unfoldable pub going : ℕ → List Bool → ℕ
going T [] = 0
going T (true ∷ m) = cond (ltb (suc (going T m)) T) (suc (going T m)) 0
going T (false ∷ m) = 0

unfoldable pub begun : ℕ → ℕ → List Bool → ℕ
begun T x [] = 0
begun T x (true ∷ m) = cond (leb x (length m - going T m + T)) 1 0 + begun T x m
begun T x (false ∷ m) = begun T x m

pub going_on : (T : ℕ) (m : List Bool) → suc (going T m) < T → going T (true ∷ m) ≡ suc (going T m)
unfolding going
going_on T m h = rw (lt-ltb (suc (going T m)) T h)

pub going-cut : (T : ℕ) (m : List Bool) → T ≤ suc (going T m) → going T (true ∷ m) ≡ 0
unfolding going
going-cut T m h = rw (le-ltb (suc (going T m)) T h)

pub going-not : (T : ℕ) (m : List Bool) → going T (false ∷ m) ≡ 0
unfolding going
going-not T m = refl

going-none : (T : ℕ) → going T [] ≡ 0
unfolding going
going-none T = refl

pub begun_in : (T x : ℕ) (m : List Bool) → x ≤ length m - going T m + T → begun T x (true ∷ m) ≡ suc (begun T x m)
unfolding begun
begun_in T x m h = rw (le-leb x (length m - going T m + T) h) (omega arith)

begun-out : (T x : ℕ) (m : List Bool) → length m - going T m + T < x → begun T x (true ∷ m) ≡ begun T x m
unfolding begun
begun-out T x m h = rw (lt-leb x (length m - going T m + T) h) (omega arith)

pub begun-not : (T x : ℕ) (m : List Bool) → begun T x (false ∷ m) ≡ begun T x m
unfolding begun
begun-not T x m = refl

pub begun-none : (T x : ℕ) → begun T x [] ≡ 0
unfolding begun
begun-none T x = refl

-- it goes on, or is cut, or there is nothing to go on with
pub going-short : (T : ℕ) (m : List Bool) → (going T m ≤ length m) × (1 ≤ T → going T m < T)
going-short T [] = (omega (arith, going-none T), λ h. omega (arith, going-none T))
going-short T (false ∷ m) = (omega (arith, going-not T m), λ h. omega (arith, going-not T m))
going-short T (true ∷ m) =
    let ih = going-short T m in
    ⊎_elim (λ e. on (ltb-true (suc (going T m)) T e) ih) (λ e. cut (ltb-false (suc (going T m)) T e)) (cases (ltb (suc (going T m)) T))
  where
    on : suc (going T m) < T → (going T m ≤ length m) × (1 ≤ T → going T m < T)
        → (going T (true ∷ m) ≤ suc (length m)) × (1 ≤ T → going T (true ∷ m) < T)
    on h ih = (omega (arith, going_on T m h), λ k. omega (arith, going_on T m h))

    cut : T ≤ suc (going T m) → (going T (true ∷ m) ≤ suc (length m)) × (1 ≤ T → going T (true ∷ m) < T)
    cut h = (omega (arith, going-cut T m h), λ k. omega (arith, going-cut T m h))

-- a tick not held ends the run
pub going-gap : (T i : ℕ) (m : List Bool) → get_or m i false ≡ false → going T m ≤ i
going-gap T i [] e = omega (arith, going-none T)
going-gap T i (false ∷ m) e = omega (arith, going-not T m)
going-gap T zero (true ∷ m) e = clash e
going-gap T (suc i) (true ∷ m) e =
    let ih = going-gap T i m e in
    ⊎_elim (λ f. omega (arith, ih, going_on T m (ltb-true (suc (going T m)) T f)))
    (λ f. omega (arith, going-cut T m (ltb-false (suc (going T m)) T f))) (cases (ltb (suc (going T m)) T))

-- where the slice is not cut among them, d held ticks more all belong to the slice that goes on; its return falls due at D
pub record More (T d D : ℕ) (m : List Bool) : Type 0 where
  pub counted : (x : ℕ) → x ≤ D → begun T x (ticks d true m) ≡ d + begun T x m
  pub uncounted : (x : ℕ) → D < x → begun T x (ticks d true m) ≡ begun T x m
  pub still_going : going T m + d < T → going T (ticks d true m) ≡ going T m + d
  pub is_cut : 1 ≤ d → going T m + d ≡ T → going T (ticks d true m) ≡ 0

pub more : (T d D : ℕ) (m : List Bool) → D + going T m ≡ length m + T → going T m + d ≤ T → More T d D m
more T zero D m e h = record {
  counted = λ x k. omega arith;
  uncounted = λ x k. refl;
  still_going = λ k. omega arith;
  is_cut = λ h k. absurd
      (omega arith);
}
more T (suc d) D m e h = step (more T d D m e (omega arith))
  where
    step : More T d D m → More T (suc d) D m
    step r =
        let g : going T (ticks d true m) ≡ going T m + d = r.still_going (omega arith) in
        let n : length (ticks d true m) ≡ d + length m = length-ticks d true m in
        let s : going T m ≤ length m = (going-short T m).0 in
        record {
          counted = λ x k. omega (arith, begun_in T x (ticks d true m) (omega arith), r.counted x k);
          uncounted = λ x k. omega (arith, begun-out T x (ticks d true m) (omega arith), r.uncounted x k);
          still_going = λ k. omega (arith, going_on T (ticks d true m) (omega arith));
          is_cut = λ j k. going-cut T (ticks d true m) (omega arith);
        }

-- ticks not held
pub begun-idle : (T x d : ℕ) (m : List Bool) → begun T x (ticks d false m) ≡ begun T x m
begun-idle T x zero m = refl
begun-idle T x (suc d) m = begun-not T x (ticks d false m) ∙ begun-idle T x d m

-- at most one more for each tick
pub begun-most : (T x d : ℕ) (m : List Bool) → begun T x (ticks d true m) ≤ d + begun T x m
begun-most T x zero m = omega arith
begun-most T x (suc d) m =
    let ih = begun-most T x d m in
    let n = ticks d true m in
    ⊎_elim (λ f. omega (arith, ih, begun_in T x (ticks d true m) (leb-true x (length (ticks d true m) - going T (ticks d true m) + T) f)))
    (λ f. omega (arith, ih, begun-out T x (ticks d true m) (leb-false x (length (ticks d true m) - going T (ticks d true m) + T) f)))
    (cases (leb x (length (ticks d true m) - going T (ticks d true m) + T)))

-- the ticks of the slice that goes on are counted while its return is to come
pub going-counted : (T x : ℕ) (m : List Bool) → x ≤ length m - going T m + T → going T m ≤ begun T x m
going-counted T x [] h = omega (arith, going-none T)
going-counted T x (false ∷ m) h = omega (arith, going-not T m)
going-counted T x (true ∷ m) h =
    ⊎_elim (λ f. on (ltb-true (suc (going T m)) T f) (λ k. going-counted T x m k))
    (λ f. omega (arith, going-cut T m (ltb-false (suc (going T m)) T f))) (cases (ltb (suc (going T m)) T))
  where
    on : suc (going T m) < T → (x ≤ length m - going T m + T → going T m ≤ begun T x m) → going T (true ∷ m) ≤ begun T x (true ∷ m)
    on k ih =
        let g : going T (true ∷ m) ≡ suc (going T m) = going_on T m k in
        let l : x ≤ length m - going T m + T = omega (arith, h) in
        omega (arith, begun_in T x m l, ih l)

-- The ticks of the latest i are of slices begun among them, where the tick before those is not held.
pub fresh : (T x i : ℕ) (m : List Bool) → get_or m i false ≡ false → x ≤ length m - i + T → held_ticks (take i m) ≤ begun T x m
fresh T x i [] e h = nil i
  where
    nil : (i : ℕ) → held_ticks (take i []) ≤ begun T x []
    nil zero = omega arith
    nil (suc i) = omega arith
fresh T x zero (b ∷ m) e h = omega arith
fresh T x (suc i) (false ∷ m) e h = omega (arith, begun-not T x m, fresh T x i m e (omega (arith, h)))
fresh T x (suc i) (true ∷ m) e h =
    omega (arith, begun_in T x m (omega (arith, h, going-gap T i m e)), fresh T x i m e (omega (arith, h)))

-- the list of slices

-- they lie apart, each with a tick at least, and all end by `n`
abbrev pub Apart : ℕ → List Slice → Type 0
Apart n [] = Unit {0}
Apart n (s ∷ ss) = (1 ≤ s.long) × (s.start + s.long ≤ n) × Apart s.start ss

-- how long the slice is that a tick held at `n` goes on with
abbrev latest : ℕ → ℕ → List Slice → ℕ
latest T n [] = 0
latest T n (s ∷ ss) = cond (goes_on T n s) s.long 0

abbrev pub longer : ℕ → Slice → Slice
longer d s = record { start = s.start; long = s.long + d }

goes_on_says : (T n : ℕ) (s : Slice) → goes_on T n s ≡ true → (s.start + s.long ≡ n) × (s.long < T)
goes_on_says T n s e =
    let p = and-true (eqb (s.start + s.long) n) (uncut T s) e in
    (omega (arith, tests, p.0), omega (arith, tests, p.1))

grow_on : (T n : ℕ) (s : Slice) (ss : List Slice) → s.start + s.long ≡ n → s.long < T → grow T n (s ∷ ss) ≡ longer 1 s ∷ ss
grow_on T n s ss e h =
    let u : uncut T s ≡ true = omega (arith, lt-ltb) in
    rw (eq-eqb (s.start + s.long) n e, u)

-- what a list of slices says of the run that ends at `n`, g ticks long
record Said (T n g : ℕ) (ss : List Slice) : Type 0 where
  run : latest T n ss ≡ g
  apart : Apart n ss

begins-said : (T n : ℕ) (ss : List Slice) → Apart n ss
    → Said T (suc n) (cond (ltb 1 T) 1 0) (record { start = n; long = 1 } ∷ ss)
begins-said T n ss a =
    record { run = rw (eq-eqb (n + 1) (suc n) (omega arith)); apart = (omega arith, omega arith, a) }

grown : (T n g : ℕ) (ss : List Slice) → Said T n g ss → Said T (suc n) (cond (ltb (suc g) T) (suc g) 0) (grow T n ss)
grown T n g [] a = subst (λ (g : ℕ). Said T (suc n) (cond (ltb (suc g) T) (suc g) 0) (grow T n [])) a.run (begins-said T n [] tt)
grown T n g (s ∷ ss) a = go (goes_on T n s) refl a.run
  where
    go : (t : Bool) → goes_on T n s ≡ t → cond t s.long 0 ≡ g
        → Said T (suc n) (cond (ltb (suc g) T) (suc g) 0) (cond t (longer 1 s ∷ ss) (record { start = n; long = 1 } ∷ s ∷ ss))
    go false f p =
        subst (λ (g : ℕ). Said T (suc n) (cond (ltb (suc g) T) (suc g) 0) (record { start = n; long = 1 } ∷ s ∷ ss)) p
        (begins-said T n (s ∷ ss) a.apart)
    go true f p =
        let q = goes_on_says T n s f in
        subst (λ (g : ℕ). Said T (suc n) (cond (ltb (suc g) T) (suc g) 0) (longer 1 s ∷ ss)) p
        (record {
          run = rw (eq-eqb (s.start + (s.long + 1)) (suc n) (omega arith), add-one);
          apart = (omega arith, omega arith, a.apart.2);
        })

said : (T : ℕ) (m : List Bool) → Said T (length m) (going T m) (slices T m)
unfolding going
said T [] = record { run = refl; apart = tt }
said T (false ∷ m) = over (slices T m) (said T m).apart
  where
    over : (ss : List Slice) → Apart (length m) ss → Said T (suc (length m)) 0 ss
    over [] a = record { run = refl; apart = tt }
    over (s ∷ ss) a =
        record { run = rw (ne_eqb (s.start + s.long) (suc (length m)) (omega (arith, a.1))); apart = (a.0, omega (arith, a.1), a.2) }
said T (true ∷ m) = grown T (length m) (going T m) (slices T m) (said T m)

pub slices-apart : (T : ℕ) (m : List Bool) → Apart (length m) (slices T m)
slices-apart T m = (said T m).apart

pub slices-idle : (T d : ℕ) (m : List Bool) → slices T (ticks d false m) ≡ slices T m
slices-idle T zero m = refl
slices-idle T (suc d) m = slices-idle T d m

-- d held ticks more, the first of which begins a slice
pub slices_begin : (T d : ℕ) (m : List Bool) → going T m ≡ 0 → 1 ≤ d → d ≤ T
    → slices T (ticks d true m) ≡ record { start = length m; long = d } ∷ slices T m
slices_begin T zero m g h k = absurd (omega arith)
slices_begin T (suc zero) m g h k = new (slices T m) (said T m)
  where
    new : (ss : List Slice) → Said T (length m) (going T m) ss → grow T (length m) ss ≡ record { start = length m; long = 1 } ∷ ss
    new [] a = refl
    new (s ∷ ss) a = go (goes_on T (length m) s) refl a.run
      where
        go : (t : Bool) → goes_on T (length m) s ≡ t → cond t s.long 0 ≡ going T m
            → cond t (longer 1 s ∷ ss) (record { start = length m; long = 1 } ∷ s ∷ ss) ≡ record { start = length m; long = 1 } ∷ s ∷ ss
        go false f p = refl
        go true f p = absurd (omega (arith, a.apart.0))
slices_begin T (suc (suc d)) m g h k =
    let e : length (ticks (suc d) true m) ≡ suc d + length m = length-ticks (suc d) true m in
    let f : suc d + 1 ≡ suc (suc d) = omega arith in
    rw (slices_begin T (suc d) m g (omega arith) (omega arith), e)
    (grow_on T (suc d + length m) (record { start = length m; long = suc d }) (slices T m) (omega arith) (omega arith)
    ∙ ap (λ (n : ℕ). record { start = length m; long = n } ∷ slices T m) f)

-- d held ticks more, of a slice that goes on
pub record GoesOn (T d : ℕ) (m : List Bool) : Type 0 where
  pub slice : Slice
  pub before : List Slice
  pub is-latest : slices T m ≡ slice ∷ before
  pub as_long : slice.long ≡ going T m
  pub begun-at : slice.start + going T m ≡ length m
  pub grows : slices T (ticks d true m) ≡ longer d slice ∷ before

pub slices_on : (T d : ℕ) (m : List Bool) → 0 < going T m → going T m + d ≤ T → GoesOn T d m
slices_on T zero m g h = last (slices T m) refl (said T m)
  where
    last : (ss : List Slice) → slices T m ≡ ss → Said T (length m) (going T m) ss → GoesOn T 0 m
    last [] e a = absurd (omega (arith, a.run))
    last (s ∷ ss) e a = go (goes_on T (length m) s) refl a.run
      where
        go : (t : Bool) → goes_on T (length m) s ≡ t → cond t s.long 0 ≡ going T m → GoesOn T 0 m
        go false f p = absurd (omega arith)
        go true f p =
            let q = goes_on_says T (length m) s f in
            let z : s.long ≡ s.long + 0 = omega arith in
            record {
              slice = s;
              before = ss;
              is-latest = e;
              as_long = p;
              begun-at = omega arith;
              grows = e ∙ ap (λ (n : ℕ). record { start = s.start; long = n } ∷ ss) z;
            }
slices_on T (suc d) m g h = step (slices_on T d m g (omega arith))
  where
    step : GoesOn T d m → GoesOn T (suc d) m
    step p =
        let n : length (ticks d true m) ≡ d + length m = length-ticks d true m in
        let z : p.slice.long + d + 1 ≡ p.slice.long + suc d = omega arith in
        record {
          slice = p.slice;
          before = p.before;
          is-latest = p.is-latest;
          as_long = p.as_long;
          begun-at = p.begun-at;
          grows = rw p.grows
              (grow_on T (length (ticks d true m)) (longer d p.slice) p.before
              (omega (arith, p.begun-at, p.as_long)) (omega (arith, p.as_long))
              ∙ ap (λ (k : ℕ). record { start = p.slice.start; long = k } ∷ p.before) z);
        }
