-- A text cut at each byte b: where the first piece ends, and what stands behind it. Assumes nothing.
use Prim.Native.Nat.{ℕ, suc, ◌+◌, ◌-◌, ◌≤◌, ◌<◌}
use mathlib.Core.Path.{◌≡◌, refl, ap, sym, ◌∙◌}
use mathlib.Core.Bool.{Bool, true, false, cond}
use mathlib.Core.List.{List, [], ◌∷◌}
use native.Mathlib.Omega.{arith}
use native.Mathlib.Numerals.{add-one}
use lib.Dec.{eqb, ltb}
use lib.ListN.{length, take, drop, length-drop}
use lib.Seq.{take_all}
use borrow.Author.Tests.{ltb-true, ltb-false}
use Rattle.std.specs.Prelude.{Option, Some, None, position, unwrap_or}
use Rattle.std.specs.List.{position_or_len, slice_split, onto_first}
use Rattle.std.proofs.lemmas.List.Recursion.{is_position_or_len}
use Rattle.queries.specs.Meaning.{until, behind}
use Rattle.queries.specs.Private.{pieces}

pub until-few : (b : ℕ) (t : List ℕ) → length (until b t) ≤ length t
until-few b [] = omega arith
until-few b (x ∷ t) = go (eqb x b) (until-few b t)
  where
    go : (c : Bool) → length (until b t) ≤ length t → length (cond c [] (x ∷ until b t)) ≤ suc (length t)
    go true h = omega arith
    go false h = omega arith

pub until-take : (b : ℕ) (t : List ℕ) → take (length (until b t)) t ≡ until b t
until-take b [] = refl
until-take b (x ∷ t) = go (eqb x b) (until-take b t)
  where
    go : (c : Bool) → take (length (until b t)) t ≡ until b t
        → take (length (cond c [] (x ∷ until b t))) (x ∷ t) ≡ cond c [] (x ∷ until b t)
    go true h = refl
    go false h = ap (λ (l : List ℕ). x ∷ l) h

-- no piece behind the first, or another one behind the byte that ends it
pub behind-none : (b : ℕ) (t : List ℕ) → length (until b t) ≡ length t → behind b t ≡ []
behind-none b [] h = refl
behind-none b (x ∷ t) h = go (eqb x b) h (behind-none b t)
  where
    go : (c : Bool) → length (cond c [] (x ∷ until b t)) ≡ suc (length t) → (length (until b t) ≡ length t → behind b t ≡ [])
        → cond c (until b t ∷ behind b t) (behind b t) ≡ []
    go true h r = absurd (omega arith)
    go false h r = r (omega arith)

pub behind_more : (b : ℕ) (t : List ℕ) → length (until b t) < length t → behind b t ≡ pieces b (drop (suc (length (until b t))) t)
behind_more b [] h = absurd (omega arith)
behind_more b (x ∷ t) h = go (eqb x b) h (behind_more b t)
  where
    go : (c : Bool) → length (cond c [] (x ∷ until b t)) < suc (length t)
        → (length (until b t) < length t → behind b t ≡ pieces b (drop (suc (length (until b t))) t))
        → cond c (until b t ∷ behind b t) (behind b t) ≡ pieces b (drop (suc (length (cond c [] (x ∷ until b t)))) (x ∷ t))
    go true h r = refl
    go false h r = r (omega arith)

-- the library's search finds where the first piece ends
index_until : (b : ℕ) (t : List ℕ) → length (until b t) ≡ position_or_len (λ x. eqb x b) t
index_until b t = is_position_or_len (λ (s : List ℕ). length (until b s)) (λ x. eqb x b) refl (λ x s. go (eqb x b) x s) t
  where
    go : (c : Bool) (x : ℕ) (s : List ℕ) → length (cond c [] (x ∷ until b s)) ≡ cond c 0 (1 + length (until b s))
    go true x s = refl
    go false x s = omega arith

pub found : (b : ℕ) (t : List ℕ) (o : Option ℕ) → o ≡ position (λ x. eqb x b) t → unwrap_or o (length t) ≡ length (until b t)
found b t o e = ap (λ (p : Option ℕ). unwrap_or p (length t)) e ∙ go (ltb n (length t)) refl ∙ sym (index_until b t)
  where
    n : ℕ
    n = position_or_len (λ x. eqb x b) t

    whole : ltb n (length t) ≡ false → length t ≡ n
    whole h = omega (arith, ltb-false n (length t) h, index_until b t, until-few b t)

    go : (c : Bool) → ltb n (length t) ≡ c → unwrap_or (cond c (Some n) None) (length t) ≡ n
    go true h = refl
    go false h = whole h

-- and so in what stands behind `from`, which code names by its length
pub found_behind : (b : ℕ) (s : List ℕ) (from r : ℕ) (o : Option ℕ)
    → o ≡ position (λ x. eqb x b) (take (length s - from) (drop from s))
    → r ≡ unwrap_or o (length (take (length s - from) (drop from s)))
    → r ≡ length (until b (drop from s))
found_behind b s from r o e q =
    q
    ∙ found b (take (length s - from) (drop from s)) o e
    ∙ ap (λ (l : List ℕ). length (until b l)) (take_all (length s - from) (drop from s) (omega (arith, length-drop from s)))

-- what it finds, as a place in the list
abbrev place : Option ℕ → ℕ
place o = unwrap_or o 0

abbrev is_there : Option ℕ → ℕ
is_there None = 0
is_there (Some n) = 1

module _ (b : ℕ) (t : List ℕ) (o : Option ℕ) (e : o ≡ position (λ x. eqb x b) t) where
  abbrev m : ℕ
  m = position_or_len (λ x. eqb x b) t

  pub cut-some : (n : ℕ) → o ≡ Some n → (n < length t) × (take n t ≡ until b t) × (behind b t ≡ pieces b (drop (n + 1) t))
  cut-some n s = go (ltb m (length t)) refl (sym e ∙ s)
    where
      go : (c : Bool) → ltb m (length t) ≡ c → cond c (Some m) None ≡ Some n
          → (n < length t) × (take n t ≡ until b t) × (behind b t ≡ pieces b (drop (n + 1) t))
      go true h q =
          let i : m ≡ n = ap place q in
          let l : length (until b t) ≡ n = sym (found b t o e) ∙ ap (λ (p : Option ℕ). unwrap_or p (length t)) s in
          let low = ltb-true m (length t) h in (
            omega arith,
            ap (λ (k : ℕ). take k t) (sym l) ∙ until-take b t,
            behind_more b t (omega arith) ∙ rw (l, add-one),
          )
      go false h q = let z : ◌≡◌ {A = ℕ} 0 1 = ap is_there q in absurd (omega arith)

  pub cut-none : o ≡ None → (t ≡ until b t) × (behind b t ≡ [])
  cut-none s = go (ltb m (length t)) refl (sym e ∙ s)
    where
      go : (c : Bool) → ltb m (length t) ≡ c → cond c (Some m) None ≡ None → (t ≡ until b t) × (behind b t ≡ [])
      go true h q = let z : ◌≡◌ {A = ℕ} 1 0 = ap is_there q in absurd (omega arith)
      go false h q =
          let l : length (until b t) ≡ length t = sym (found b t o e) ∙ ap (λ (p : Option ℕ). unwrap_or p (length t)) s in
          (sym (take_all (length (until b t)) t (omega arith)) ∙ until-take b t, behind-none b t l)

-- the library's parts are the pieces
pub parts-are : (b : ℕ) (s : List ℕ) → slice_split (λ x. eqb x b) s ≡ pieces b s
parts-are b [] = refl
parts-are b (x ∷ s) = go (eqb x b) (parts-are b s)
  where
    go : (c : Bool) → slice_split (λ x. eqb x b) s ≡ pieces b s
        → cond c ([] ∷ slice_split (λ x. eqb x b) s) (onto_first x (slice_split (λ x. eqb x b) s))
        ≡ (cond c [] (x ∷ until b s) ∷ cond c (until b s ∷ behind b s) (behind b s))
    go true h = ap (λ (l : List (List ℕ)). [] ∷ l) h
    go false h = ap (onto_first x) h

-- a piece that begins at `from` and ends at `end`
module _ (b : ℕ) (s : List ℕ) (from end : ℕ) (inside : from ≤ length s) (e : end ≡ from + length (until b (drop from s))) where
  pub end-inside : (from ≤ end) × (end ≤ length s)
  end-inside = (omega arith, omega (arith, until-few b (drop from s), length-drop from s))

  pub piece_is : take (end - from) (drop from s) ≡ until b (drop from s)
  piece_is =
      let n : end - from ≡ length (until b (drop from s)) = omega arith in
      ap (λ (m : ℕ). take m (drop from s)) n ∙ until-take b (drop from s)
