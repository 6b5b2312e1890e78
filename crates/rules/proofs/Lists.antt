-- Laws of the words on lists: a fact of every one, membership, keeping, counting, sums, a map, and one list behind another.
-- Assumes nothing.
use mathlib.Core.Path.{◌≡◌, refl, ap, sym, ◌∙◌, subst}
use mathlib.Core.Bool.{Bool, true, false, cond, not, ◌&&◌}
use mathlib.Core.List.{List, [], ◌∷◌, ◌++◌, map}
use mathlib.Core.Logic.{◌⊎◌, inl, inr, ⊎_elim}
use Prim.Native.Nat.{ℕ, zero, suc, ◌+◌, ◌*◌, ◌≤◌, ◌<◌}
use native.Mathlib.Nat.{suc-mul}
use native.Mathlib.Omega.{arith}
use lib.ListN.{length}
use Rattle.rules.specs.Lists.{keep, any, count, sum, All, Among}
use Rattle.rules.specs.History.{ticks}
use Rattle.rules.proofs.Tests.{clash, same_test, and-true, or-false, or-true, or_right}

module _ {A : Type 0} where
  pub all_imp : {P Q : A → Type 0} → ((a : A) → P a → Q a) → (l : List A) → All P l → All Q l
  all_imp f [] h = tt
  all_imp f (a ∷ l) h = (f a h.0, all_imp f l h.1)

  pub all_both : {P Q R : A → Type 0} → ((a : A) → P a → Q a → R a) → (l : List A) → All P l → All Q l → All R l
  all_both f [] h k = tt
  all_both f (a ∷ l) h k = (f a h.0 k.0, all_both f l h.1 k.1)

  pub all_every : {P : A → Type 0} → ((a : A) → P a) → (l : List A) → All P l
  all_every f [] = tt
  all_every f (a ∷ l) = (f a, all_every f l)

  pub all_map : {B : Type 0} {P : A → Type 0} (Q : B → Type 0) (g : A → B) → ((a : A) → P a → Q (g a)) → (l : List A) → All P l
      → All Q (map g l)
  all_map Q g f [] h = tt
  all_map Q g f (a ∷ l) h = (f a h.0, all_map Q g f l h.1)

  pub all_map_both : {B : Type 0} {P Q : A → Type 0} (R : B → Type 0) (g : A → B) → ((a : A) → P a → Q a → R (g a)) → (l : List A)
      → All P l → All Q l → All R (map g l)
  all_map_both R g f [] h k = tt
  all_map_both R g f (a ∷ l) h k = (f a h.0 k.0, all_map_both R g f l h.1 k.1)

  pub all_map_among : {B : Type 0} (P : A → Type 0) (R : B → Type 0) (g : A → B) (l : List A) → ((a : A) → Among a l → P a → R (g a))
      → All P l → All R (map g l)
  all_map_among P R g [] f h = tt
  all_map_among P R g (a ∷ l) f h = (f a (inl refl) h.0, all_map_among P R g l (λ b m. f b (inr m)) h.1)

  pub all_among : (P : A → Type 0) (l : List A) → All P l → (a : A) → Among a l → P a
  all_among P [] h a m = elim m [ ]
  all_among P (b ∷ l) h a (inl e) = subst P (sym e) h.0
  all_among P (b ∷ l) h a (inr m) = all_among P l h.1 a m

  pub among_all : (P : A → Type 0) (l : List A) → ((a : A) → Among a l → P a) → All P l
  among_all P [] f = tt
  among_all P (b ∷ l) f = (f b (inl refl), among_all P l (λ a m. f a (inr m)))

  pub among_map : {B : Type 0} (g : A → B) (l : List A) (b : B) → Among b (map g l) → (a : A) × Among a l × (b ≡ g a)
  among_map {B = B} g [] b m = elim m [ ]
  among_map g (a ∷ l) b (inl e) = (a, inl refl, e)
  among_map g (a ∷ l) b (inr m) = let p = among_map g l b m in (p.0, inr p.1, p.2)

  pub map_among : {B : Type 0} (g : A → B) (l : List A) (a : A) → Among a l → Among (g a) (map g l)
  map_among {B = B} g [] a m = elim m [ ]
  map_among g (b ∷ l) a (inl e) = inl (ap g e)
  map_among g (b ∷ l) a (inr m) = inr (map_among g l a m)

  pub among_append : (l k : List A) (a : A) → Among a (l ++ k) → Among a l ⊎ Among a k
  among_append [] k a m = inr m
  among_append (b ∷ l) k a (inl e) = inl (inl e)
  among_append (b ∷ l) k a (inr m) = ⊎_elim (λ n. inl (inr n)) (λ n. inr n) (among_append l k a m)

  pub append_among : (l k : List A) (a : A) → Among a l ⊎ Among a k → Among a (l ++ k)
  append_among [] k a (inl m) = elim m [ ]
  append_among [] k a (inr m) = m
  append_among (b ∷ l) k a (inl (inl e)) = inl e
  append_among (b ∷ l) k a (inl (inr m)) = inr (append_among l k a (inl m))
  append_among (b ∷ l) k a (inr m) = inr (append_among l k a (inr m))

  pub all_keep : (P : A → Type 0) (test : A → Bool) (l : List A) → All P l → All P (keep test l)
  all_keep P test [] h = tt
  all_keep P test (a ∷ l) h = go (test a) (all_keep P test l h.1)
    where
      go : (t : Bool) → All P (keep test l) → All P (cond t (a ∷ keep test l) (keep test l))
      go true k = (h.0, k)
      go false k = k

  pub among_keep : (test : A → Bool) (l : List A) (a : A) → Among a (keep test l) → Among a l × (test a ≡ true)
  among_keep test [] a m = elim m [ ]
  among_keep test (b ∷ l) a m = go (test b) refl (λ k. among_keep test l a k) m
    where
      go : (t : Bool) → test b ≡ t → (Among a (keep test l) → Among a l × (test a ≡ true))
          → Among a (cond t (b ∷ keep test l) (keep test l)) → ((a ≡ b) ⊎ Among a l) × (test a ≡ true)
      go true e ih (inl f) = (inl f, rw f e)
      go true e ih (inr k) = (inr (ih k).0, (ih k).1)
      go false e ih k = (inr (ih k).0, (ih k).1)

  pub keep_among : (test : A → Bool) (l : List A) (a : A) → Among a l → test a ≡ true → Among a (keep test l)
  keep_among test [] a m e = elim m [ ]
  keep_among test (b ∷ l) a (inl f) e = rw (subst (λ (x : A). test x ≡ true) f e) (inl f)
  keep_among test (b ∷ l) a (inr m) e = go (test b) (keep_among test l a m e)
    where
      go : (t : Bool) → Among a (keep test l) → Among a (cond t (b ∷ keep test l) (keep test l))
      go true k = inr k
      go false k = k

  -- what holds of all that are kept holds of all that pass
  pub all-kept : (P : A → Type 0) (test : A → Bool) (l : List A) → All P (keep test l) → All (λ a. test a ≡ true → P a) l
  all-kept P test l h = among_all _ l (λ a m e. all_among P (keep test l) h a (keep_among test l a m e))

  pub none_kept : (test : A → Bool) (l : List A) → keep test l ≡ [] → All (λ a. test a ≡ false) l
  none_kept test [] e = tt
  none_kept test (a ∷ l) e = go (test a) refl (λ f. none_kept test l f) e
    where
      go : (t : Bool) → test a ≡ t → (keep test l ≡ [] → All (λ b. test b ≡ false) l) → cond t (a ∷ keep test l) (keep test l) ≡ []
          → (test a ≡ false) × All (λ b. test b ≡ false) l
      go true f ih e = let z : ◌≡◌ {A = ℕ} 0 1 = cc in absurd (omega arith)
      go false f ih e = (f, ih e)

  pub keeps-none : (test : A → Bool) (l : List A) → All (λ a. test a ≡ false) l → keep test l ≡ []
  keeps-none test [] h = refl
  keeps-none test (a ∷ l) h = rw h.0 (keeps-none test l h.1)

  pub count_none : (test : A → Bool) (l : List A) → All (λ a. test a ≡ false) l → count test l ≡ 0
  count_none test [] h = refl
  count_none test (a ∷ l) h = rw h.0 (omega (arith, count_none test l h.1))

  pub any_false : (test : A → Bool) (l : List A) → any test l ≡ false → All (λ a. test a ≡ false) l
  any_false test [] h = tt
  any_false test (a ∷ l) h =
      let p : (test a ≡ false) × (any test l ≡ false) = or-false (test a) (any test l) h in
      (p.0, any_false test l p.1)

  pub any_among : (test : A → Bool) (l : List A) (a : A) → Among a l → test a ≡ true → any test l ≡ true
  any_among test [] a m e = elim m [ ]
  any_among test (b ∷ l) a (inl f) e = rw (subst (λ (x : A). test x ≡ true) f e)
  any_among test (b ∷ l) a (inr m) e = rw (any_among test l a m e) (or_right (test b))

  pub any-one : (test : A → Bool) (l : List A) → any test l ≡ true → (a : A) × Among a l × (test a ≡ true)
  any-one test [] e = clash (sym e)
  any-one test (b ∷ l) e = go (or-true (test b) (any test l) e) (λ f. any-one test l f)
    where
      go : (test b ≡ true) ⊎ (any test l ≡ true) → (any test l ≡ true → (a : A) × Among a l × (test a ≡ true))
          → (a : A) × Among a (b ∷ l) × (test a ≡ true)
      go (inl f) ih = (b, inl refl, f)
      go (inr f) ih = let p = ih f in (p.0, inr p.1, p.2)

  pub count_among : (test : A → Bool) (l : List A) (a : A) → Among a l → test a ≡ true → 1 ≤ count test l
  count_among test [] a m e = elim m [ ]
  count_among test (b ∷ l) a (inl f) e = rw (subst (λ (x : A). test x ≡ true) f e) (omega arith)
  count_among test (b ∷ l) a (inr m) e = omega (arith, count_among test l a m e)

  pub some_one : (test : A → Bool) (l : List A) → 1 ≤ count test l → (a : A) × (Among a l) × (test a ≡ true)
  some_one test [] h = absurd (omega arith)
  some_one test (b ∷ l) h = go (test b) refl h (λ k. some_one test l k)
    where
      go : (t : Bool) → test b ≡ t → 1 ≤ cond t 1 0 + count test l → (1 ≤ count test l → (a : A) × (Among a l) × (test a ≡ true))
          → (a : A) × (Among a (b ∷ l)) × (test a ≡ true)
      go true e k ih = (b, inl refl, e)
      go false e k ih = let p = ih (omega arith) in (p.0, inr p.1, p.2)

  -- the same tests all along, the same count
  pub count_same : {B : Type 0} (test : A → Bool) (test' : B → Bool) (g : A → B) (l : List A) → All (λ a. test' (g a) ≡ test a) l
      → count test' (map g l) ≡ count test l
  count_same test test' g [] h = refl
  count_same test test' g (a ∷ l) h = rw (h.0, count_same test test' g l h.1)

  pub any_same : {B : Type 0} (test : A → Bool) (test' : B → Bool) (g : A → B) (l : List A) → ((a : A) → test' (g a) ≡ test a)
      → any test' (map g l) ≡ any test l
  any_same test test' g [] h = refl
  any_same test test' g (a ∷ l) h = rw (h a, any_same test test' g l h)

  -- of those that pass, at most one is there: two of them are the same
  pub only_one : (test : A → Bool) (l : List A) → count test l ≤ 1 → (a b : A) → Among a l → Among b l → test a ≡ true → test b ≡ true
      → a ≡ b
  only_one test [] h a b m _ p q = elim m [ ]
  only_one test (c ∷ l) h a b (inl e) (inl f) p q = e ∙ sym f
  only_one test (c ∷ l) h a b (inl e) (inr n) p q =
      let t : test c ≡ true = subst (λ (x : A). test x ≡ true) e p in
      absurd (omega (arith, count_among test l b n q, rw t at h))
  only_one test (c ∷ l) h a b (inr m) (inl f) p q =
      let t : test c ≡ true = subst (λ (x : A). test x ≡ true) f q in
      absurd (omega (arith, count_among test l a m p, rw t at h))
  only_one test (c ∷ l) h a b (inr m) (inr n) p q = only_one test l (omega arith) a b m n p q

  pub any-only : (test also : A → Bool) (l : List A) → count test l ≤ 1 → (a : A) → Among a l → test a ≡ true
      → any (λ b. test b && also b) l ≡ also a
  any-only test also l h a m e =
      same_test (any (λ b. test b && also b) l) (also a) found (λ f. any_among (λ b. test b && also b) l a m (rw (e, f)))
    where
      found : any (λ b. test b && also b) l ≡ true → also a ≡ true
      found f =
          let p = any-one (λ b. test b && also b) l f in
          let q = and-true (test p.0) (also p.0) p.2 in
          subst (λ (b : A). also b ≡ true) (only_one test l h p.0 a p.1 m q.0 e) q.1

  pub length-ticks : (d : ℕ) (a : A) (l : List A) → length (ticks d a l) ≡ d + length l
  length-ticks zero a l = omega arith
  length-ticks (suc d) a l = omega (arith, length-ticks d a l)

  pub all_append : (P : A → Type 0) (l m : List A) → All P l → All P m → All P (l ++ m)
  all_append P [] m h k = k
  all_append P (a ∷ l) m h k = (h.0, all_append P l m h.1 k)

  pub count-append : (test : A → Bool) (l m : List A) → count test (l ++ m) ≡ count test l + count test m
  count-append test [] m = omega arith
  count-append test (a ∷ l) m = omega (arith, count-append test l m)

  pub length-keep : (test : A → Bool) (l : List A) → length (keep test l) ≤ length l
  length-keep test [] = omega arith
  length-keep test (a ∷ l) = go (test a) (length-keep test l)
    where
      go : (t : Bool) → length (keep test l) ≤ length l → length (cond t (a ∷ keep test l) (keep test l)) ≤ suc (length l)
      go true k = omega arith
      go false k = omega arith

  pub length-kept : (test : A → Bool) (l : List A) → length (keep test l) ≡ count test l
  length-kept test [] = refl
  length-kept test (a ∷ l) = go (test a) (length-kept test l)
    where
      go : (t : Bool) → length (keep test l) ≡ count test l
          → length (cond t (a ∷ keep test l) (keep test l)) ≡ cond t 1 0 + count test l
      go true e = omega arith
      go false e = omega arith

  pub count-keep : (test kept : A → Bool) (l : List A) → count test (keep kept l) ≤ count test l
  count-keep test kept [] = omega arith
  count-keep test kept (a ∷ l) = go (kept a) (count-keep test kept l)
    where
      go : (t : Bool) → count test (keep kept l) ≤ count test l
          → count test (cond t (a ∷ keep kept l) (keep kept l)) ≤ cond (test a) 1 0 + count test l
      go true k = omega arith
      go false k = omega arith

  -- without those that pass there are so many fewer
  pub length_without : (test : A → Bool) (l : List A) → length (keep (λ a. not (test a)) l) + count test l ≡ length l
  length_without test [] = refl
  length_without test (a ∷ l) = go (test a) (length_without test l)
    where
      go : (t : Bool) → length (keep (λ a. not (test a)) l) + count test l ≡ length l
          → length (cond (not t) (a ∷ keep (λ a. not (test a)) l) (keep (λ a. not (test a)) l)) + (cond t 1 0 + count test l)
          ≡ suc (length l)
      go true k = omega arith
      go false k = omega arith

  -- a sum of numbers none of which is above m, and of those that a map makes
  pub sum-most : (f : A → ℕ) (m : ℕ) (l : List A) → All (λ a. f a ≤ m) l → sum f l ≤ length l * m
  sum-most f m [] h = omega arith
  sum-most f m (a ∷ l) h = omega (arith, h.0, sum-most f m l h.1, suc-mul (length l) m)

  pub sum-map : {B : Type 0} (f : B → ℕ) (g : A → B) (l : List A) → sum f (map g l) ≡ sum (λ a. f (g a)) l
  sum-map f g [] = refl
  sum-map f g (a ∷ l) = omega (arith, sum-map f g l)

  -- the sum over those that pass a test, and over the others
  pub sum-without : (test : A → Bool) (f : A → ℕ) (l : List A)
      → sum f (keep (λ a. not (test a)) l) + sum (λ a. cond (test a) (f a) 0) l ≡ sum f l
  sum-without test f [] = refl
  sum-without test f (a ∷ l) = go (test a) (sum-without test f l)
    where
      rest : List A
      rest = keep (λ b. not (test b)) l

      go : (t : Bool) → sum f rest + sum (λ b. cond (test b) (f b) 0) l ≡ sum f l
          → sum f (cond (not t) (a ∷ rest) rest) + (cond t (f a) 0 + sum (λ b. cond (test b) (f b) 0) l) ≡ f a + sum f l
      go true k = omega arith
      go false k = omega arith

  -- where nobody passes it is 0, and where one does, the number of that one
  pub sum-none : (test : A → Bool) (f : A → ℕ) (l : List A) → count test l ≡ 0 → sum (λ a. cond (test a) (f a) 0) l ≡ 0
  sum-none test f [] h = refl
  sum-none test f (a ∷ l) h = go (test a) h (λ k. sum-none test f l k)
    where
      go : (t : Bool) → cond t 1 0 + count test l ≡ 0 → (count test l ≡ 0 → sum (λ a. cond (test a) (f a) 0) l ≡ 0)
          → cond t (f a) 0 + sum (λ a. cond (test a) (f a) 0) l ≡ 0
      go true k ih = absurd (omega arith)
      go false k ih = omega (arith, ih (omega arith))

  pub sum_one : (test : A → Bool) (f : A → ℕ) (n : ℕ) (l : List A) → count test l ≡ 1 → All (λ a. test a ≡ true → f a ≡ n) l
      → sum (λ a. cond (test a) (f a) 0) l ≡ n
  sum_one test f n [] h k = absurd (omega arith)
  sum_one test f n (a ∷ l) h k = go (test a) refl h (λ m. sum_one test f n l m k.1)
    where
      go : (t : Bool) → test a ≡ t → cond t 1 0 + count test l ≡ 1 → (count test l ≡ 1 → sum (λ a. cond (test a) (f a) 0) l ≡ n)
          → cond t (f a) 0 + sum (λ a. cond (test a) (f a) 0) l ≡ n
      go true e m ih = omega (arith, k.0 e, sum-none test f l (omega arith))
      go false e m ih = omega (arith, ih (omega arith))

  pub sum_same : (f g : A → ℕ) (l : List A) → All (λ a. f a ≡ g a) l → sum f l ≡ sum g l
  sum_same f g [] h = refl
  sum_same f g (a ∷ l) h = omega (arith, h.0, sum_same f g l h.1)

  pub sum_both : (f g : A → ℕ) (l : List A) → sum (λ a. f a + g a) l ≡ sum f l + sum g l
  sum_both f g [] = refl
  sum_both f g (a ∷ l) = omega (arith, sum_both f g l)

  pub sum_among : (f : A → ℕ) (l : List A) (a : A) → Among a l → f a ≤ sum f l
  sum_among f [] a m = elim m [ ]
  sum_among f (b ∷ l) a (inl e) = rw e (omega arith)
  sum_among f (b ∷ l) a (inr m) = omega (arith, sum_among f l a m)

  pub count_most : (test : A → Bool) (l : List A) → count test l ≤ length l
  count_most test [] = omega arith
  count_most test (a ∷ l) = go (test a) (count_most test l)
    where
      go : (t : Bool) → count test l ≤ length l → cond t 1 0 + count test l ≤ suc (length l)
      go true k = omega arith
      go false k = omega arith

  -- a test that fewer pass, by one at the least
  pub count-fewer : (f g : A → Bool) → ((a : A) → g a ≡ true → f a ≡ true) → (l : List A) → count g l ≤ count f l
  count-fewer f g h [] = omega arith
  count-fewer f g h (a ∷ l) = go (g a) refl (count-fewer f g h l)
    where
      go : (t : Bool) → g a ≡ t → count g l ≤ count f l → cond t 1 0 + count g l ≤ cond (f a) 1 0 + count f l
      go true e k = rw (h a e) (omega arith)
      go false e k = omega arith

  pub count_less : (f g : A → Bool) → ((a : A) → g a ≡ true → f a ≡ true) → (l : List A) (a : A) → Among a l → f a ≡ true → g a ≡ false
      → count g l < count f l
  count_less f g h [] a m p q = elim m [ ]
  count_less f g h (b ∷ l) a (inl e) p q =
      rw (subst (λ (x : A). f x ≡ true) e p, subst (λ (x : A). g x ≡ false) e q) (omega (arith, count-fewer f g h l))
  count_less f g h (b ∷ l) a (inr m) p q = go (g b) refl (count_less f g h l a m p q)
    where
      go : (t : Bool) → g b ≡ t → count g l < count f l → cond t 1 0 + count g l < cond (f b) 1 0 + count f l
      go true e k = rw (h b e) (omega arith)
      go false e k = omega arith
