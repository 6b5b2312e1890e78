-- A list laid into an array: reading and writing a place, one more at the end, one put in, one taken out, the first ones taken out, the
-- front, a front laid anew, and each one changed.
-- Assumes nothing.
use Prim.Native.Nat.{ℕ, zero, suc, ◌+◌, ◌≤◌, ◌<◌}
use mathlib.Core.Path.{◌≡◌, refl, ap, sym, ◌∙◌}
use mathlib.Core.List.{List, [], ◌∷◌, ◌++◌, map, append_assoc, append-nil}
use native.Mathlib.Omega.{arith}
use native.Mathlib.Numerals.{add-one}
use lib.ListN.{length, take, drop, get_or, set, replicate, replicate-append-replicate, length-drop}
use lib.Seq.{get_or_at, set_at, set-append_left}
use Rattle.rules.specs.Lists.{All}
use Rattle.turns.specs.Laid.{laid}
use Rattle.turns.specs.Places.{inserted, removed}

module _ {A : Type 0} where
  -- put in at a place, and taken out of one
  abbrev pub put_at : ℕ → A → List A → List A
  put_at zero a l = a ∷ l
  put_at (suc i) a [] = a ∷ []
  put_at (suc i) a (x ∷ l) = x ∷ put_at i a l

  abbrev pub cut_at : ℕ → List A → List A
  cut_at i [] = []
  cut_at zero (x ∷ l) = l
  cut_at (suc i) (x ∷ l) = x ∷ cut_at i l

module _ {A B : Type 0} (f : A → B) (z : B) where
  pub laid-length : (k : ℕ) (l : List A) → length (laid k f z l) ≡ k
  unfolding laid
  laid-length zero l = refl
  laid-length (suc k) [] = ap suc (laid-length k [])
  laid-length (suc k) (a ∷ l) = ap suc (laid-length k l)

  pub laid-get : (k : ℕ) (l : List A) (i : ℕ) (a : A) (b : B) → i < length l → length l ≤ k → get_or (laid k f z l) i b ≡ f (get_or l i a)
  unfolding laid
  laid-get k [] i a b h g = absurd (omega arith)
  laid-get zero (x ∷ l) i a b h g = absurd (omega arith)
  laid-get (suc k) (x ∷ l) zero a b h g = refl
  laid-get (suc k) (x ∷ l) (suc i) a b h g = laid-get k l i a b (omega arith) (omega arith)

  pub laid-set : (k : ℕ) (l : List A) (i : ℕ) (a : A) → i < length l → length l ≤ k → set (laid k f z l) i (f a) ≡ laid k f z (set l i a)
  unfolding laid
  laid-set k [] i a h g = absurd (omega arith)
  laid-set zero (x ∷ l) i a h g = absurd (omega arith)
  laid-set (suc k) (x ∷ l) zero a h g = refl
  laid-set (suc k) (x ∷ l) (suc i) a h g = ap (λ (r : List B). f x ∷ r) (laid-set k l i a (omega arith) (omega arith))

  pub laid_end : (k : ℕ) (l : List A) (a : A) → length l < k → set (laid k f z l) (length l) (f a) ≡ laid k f z (l ++ a ∷ [])
  unfolding laid
  laid_end zero l a h = absurd (omega arith)
  laid_end (suc k) [] a h = refl
  laid_end (suc k) (x ∷ l) a h = ap (λ (r : List B). f x ∷ r) (laid_end k l a (omega arith))

  pub laid_more : (k : ℕ) (l : List A) → length l ≤ k → laid (suc k) f z l ≡ laid k f z l ++ z ∷ []
  unfolding laid
  laid_more zero [] h = refl
  laid_more zero (x ∷ l) h = absurd (omega arith)
  laid_more (suc k) [] h = ap (λ (r : List B). z ∷ r) (laid_more k [] (omega arith))
  laid_more (suc k) (x ∷ l) h = ap (λ (r : List B). f x ∷ r) (laid_more k l (omega arith))

  filled : (k : ℕ) → inserted 0 z (laid k f z []) ≡ laid k f z []
  unfolding laid
  filled zero = refl
  filled (suc k) = ap (λ (r : List B). z ∷ r) (filled k)

  pushed : (k : ℕ) (l : List A) (a : A) → length l < k → inserted 0 (f a) (laid k f z l) ≡ laid k f z (a ∷ l)
  unfolding laid
  pushed zero l a h = absurd (omega arith)
  pushed (suc k) [] a h = ap (λ (r : List B). f a ∷ r) (filled k)
  pushed (suc k) (x ∷ l) a h = ap (λ (r : List B). f a ∷ r) (pushed k l x (omega arith))

  pub laid-put : (k : ℕ) (l : List A) (i : ℕ) (a : A) → i ≤ length l → length l < k
      → inserted i (f a) (laid k f z l) ≡ laid k f z (put_at i a l)
  unfolding laid
  laid-put k l zero a h g = pushed k l a g
  laid-put k [] (suc i) a h g = absurd (omega arith)
  laid-put zero (x ∷ l) (suc i) a h g = absurd (omega arith)
  laid-put (suc k) (x ∷ l) (suc i) a h g = ap (λ (r : List B). f x ∷ r) (laid-put k l i a (omega arith) (omega arith))

  pub laid-cut : (k : ℕ) (l : List A) (i : ℕ) → i < length l → length l ≤ k → removed i z (laid k f z l) ≡ laid k f z (cut_at i l)
  unfolding laid
  laid-cut k [] i h g = absurd (omega arith)
  laid-cut zero (x ∷ l) i h g = absurd (omega arith)
  laid-cut (suc k) (x ∷ l) zero h g = sym (laid_more k l (omega arith))
  laid-cut (suc k) (x ∷ l) (suc i) h g = ap (λ (r : List B). f x ∷ r) (laid-cut k l i (omega arith) (omega arith))

  pub laid-drop : (k n : ℕ) (l : List A) → n ≤ length l → length l ≤ k → laid k f z (drop n l) ≡ drop n (laid k f z l) ++ replicate n z
  unfolding laid
  laid-drop k zero l h g = sym (append-nil (laid k f z l))
  laid-drop k (suc n) [] h g = absurd (omega arith)
  laid-drop zero (suc n) (x ∷ l) h g = absurd (omega arith)
  laid-drop (suc k) (suc n) (x ∷ l) h g =
      laid_more k (drop n l) (omega (arith, length-drop n l))
      ∙ ap (λ (r : List B). r ++ z ∷ []) (laid-drop k n l (omega arith) (omega arith))
      ∙ append_assoc (drop n (laid k f z l)) (replicate n z) (z ∷ [])
      ∙ ap (λ (r : List B). drop n (laid k f z l) ++ r) (replicate-append-replicate n 1 z ∙ ap (λ (m : ℕ). replicate m z) (add-one n))

  pub laid-front : (k : ℕ) (l : List A) → length l ≤ k → take (length l) (laid k f z l) ≡ map f l
  unfolding laid
  laid-front k [] h = refl
  laid-front zero (x ∷ l) h = absurd (omega arith)
  laid-front (suc k) (x ∷ l) h = ap (λ (r : List B). f x ∷ r) (laid-front k l (omega arith))

  -- a front of k places laid anew, before what stood there
  pub front-get : (k : ℕ) (l : List A) (x : B) (r : List B) (b : B) → get_or (laid k f z l ++ x ∷ r) k b ≡ x
  unfolding laid
  front-get k l x r b = get_or_at (laid k f z l) x r b k (laid-length k l)

  pub front_vacate : (k : ℕ) (l : List A) (x : B) (r : List B) → length l ≤ k → set (laid k f z l ++ x ∷ r) k z ≡ laid (suc k) f z l ++ r
  front_vacate k l x r h =
      set_at (laid k f z l) x r z k (laid-length k l)
      ∙ sym (append_assoc (laid k f z l) (z ∷ []) r)
      ∙ ap (λ (q : List B). q ++ r) (sym (laid_more k l h))

  pub front-end : (k : ℕ) (l : List A) (a : A) (r : List B) → length l < k
      → set (laid k f z l ++ r) (length l) (f a) ≡ laid k f z (l ++ a ∷ []) ++ r
  front-end k l a r h =
      set-append_left (laid k f z l) r (length l) (f a) (omega (arith, laid-length k l))
      ∙ ap (λ (q : List B). q ++ r) (laid_end k l a h)

  pub front-all : (k n : ℕ) (l m : List A) → length l ≤ k → length m ≤ k → k ≤ n → laid k f z l ++ drop k (laid n f z m) ≡ laid n f z l
  unfolding laid
  front-all zero n [] [] h g e = refl
  front-all zero n (a ∷ l) m h g e = absurd (omega arith)
  front-all zero n [] (b ∷ m) h g e = absurd (omega arith)
  front-all (suc k) zero l m h g e = absurd (omega arith)
  front-all (suc k) (suc n) [] [] h g e = ap (λ (r : List B). z ∷ r) (front-all k n [] [] (omega arith) (omega arith) (omega arith))
  front-all (suc k) (suc n) [] (b ∷ m) h g e = ap (λ (r : List B). z ∷ r) (front-all k n [] m (omega arith) (omega arith) (omega arith))
  front-all (suc k) (suc n) (a ∷ l) [] h g e = ap (λ (r : List B). f a ∷ r) (front-all k n l [] (omega arith) (omega arith) (omega arith))
  front-all (suc k) (suc n) (a ∷ l) (b ∷ m) h g e =
      ap (λ (r : List B). f a ∷ r) (front-all k n l m (omega arith) (omega arith) (omega arith))

-- two lists laid alike, the second each of the first changed
pub laid-map : {A B C : Type 0} (f : A → C) (g : B → C) (h : A → B) (z : C) (k : ℕ) (l : List A) → All (λ a. f a ≡ g (h a)) l
    → laid k f z l ≡ laid k g z (map h l)
unfolding laid
laid-map f g h z zero l e = refl
laid-map f g h z (suc k) [] e = ap (λ r. z ∷ r) (laid-map f g h z k [] e)
laid-map f g h z (suc k) (a ∷ l) e = rw (e.0, laid-map f g h z k l e.1)

-- behind the elements it holds the filler
pub laid-blank : {A B : Type 0} (f : A → B) (z : B) (k m : ℕ) (l : List A) → k ≡ length l + m
    → drop (length l) (laid k f z l) ≡ replicate m z
unfolding laid
laid-blank f z zero m (a ∷ l) h = absurd (omega arith)
laid-blank f z (suc k) m (a ∷ l) h = laid-blank f z k m l (omega arith)
laid-blank f z zero zero [] h = refl
laid-blank f z zero (suc m) [] h = absurd (omega arith)
laid-blank f z (suc k) zero [] h = absurd (omega arith)
laid-blank f z (suc k) (suc m) [] h = ap (λ r. z ∷ r) (laid-blank f z k m [] (omega arith))
