-- The fields of a line, read one after the other: what was read, and what is left. Assumes nothing.
use Prim.Native.Nat.{ℕ, suc, ◌+◌, ◌≤◌, ◌<◌}
use mathlib.Core.Path.{◌≡◌, refl, ap, sym, ◌∙◌}
use mathlib.Core.Bool.{Bool, true, false, cond, not, ◌||◌}
use mathlib.Core.List.{List, [], ◌∷◌}
use mathlib.Core.Logic.{◌⊎◌, inl, inr}
use native.Mathlib.Omega.{arith}
use native.Mathlib.Nat.{add-zero}
use native.Mathlib.Numerals.{add-one}
use lib.Dec.{leb, ltb}
use lib.ListN.{length, get_or, drop, set, length-set}
use lib.Seq.{get_or-drop, drop-cons}
use borrow.Author.Tests.{lt-ltb, le-ltb, le-leb, lt-leb}
use Rattle.std.specs.Prelude.{Option, Some, None, unwrap_or, Ok, Err}
use Rattle.std.proofs.lemmas.List.{drop_all}
use Rattle.model.proofs.Tests.{or_left, or_right, or-false, below-or-from}
use Rattle.queries.specs.declared.answers.Fault.TheVariants.{BadField}
use Rattle.queries.specs.declared.ask.Word.{Word}
use Rattle.queries.specs.Text.{said, bad_field}
use Rattle.queries.specs.Meaning.{heads, too_many, is_number, first_bad}
use Rattle.queries.specs.Private.{capped, number_read, kept_at, FieldsAre}
use Rattle.queries.proofs.Tasks.{stored_next}

abbrev is_there : Option ℕ → Bool
is_there (Some n) = true
is_there None = false

said-number : (f : List ℕ) (n : ℕ) → Some n ≡ number_read f → (is_number f ≡ true) × (n ≡ capped f)
said-number f n e = go (is_number f) e
  where
    go : (t : Bool) → Some n ≡ cond t (Some (capped f)) None → (t ≡ true) × (n ≡ capped f)
    go true h = (refl, ap (λ (o : Option ℕ). unwrap_or o 0) h)
    go false h = let s : true ≡ false = ap is_there h in let z : ◌≡◌ {A = ℕ} 0 1 = cc in absurd (omega arith)

said-none : (f : List ℕ) → None ≡ number_read f → is_number f ≡ false
said-none f e = go (is_number f) e
  where
    go : (t : Bool) → None ≡ cond t (Some (capped f)) None → t ≡ false
    go true h = sym (ap is_there h)
    go false h = refl

-- the first bad field, of a field and those behind it
module _ (w : Word) (k : ℕ) (f : List ℕ) (fs : List (List ℕ)) where
  bad-here : (too_many w k || not (is_number f)) ≡ true → first_bad w k (f ∷ fs) ≡ k
  unfolding first_bad
  bad-here e = rw e

  bad-later : (too_many w k || not (is_number f)) ≡ false → first_bad w k (f ∷ fs) ≡ first_bad w (suc k) fs
  unfolding first_bad
  bad-later e = rw e

bad-end : (w : Word) (k : ℕ) → first_bad w k [] ≡ cond (leb k (heads w)) k 0
unfolding first_bad
bad-end w k = refl

-- the fields fs, of which `count` were read
module _ (w : Word) (fs : List (List ℕ)) where
  pub record Reading (numbers : List ℕ) (count : ℕ) : Type 0 where
    pub size : length numbers ≡ 37
    pub same-bad : first_bad w 1 fs ≡ first_bad w (suc count) (drop count fs)
    pub kept : (i : ℕ) → i < 37 → i < count → get_or numbers i 0 ≡ capped (get_or fs i [])

  module _ (numbers : List ℕ) (count : ℕ) (r : Reading numbers count) where
    -- the place of the bad field is told
    told : first_bad w 1 fs ≡ count + 1 → FieldsAre w fs (Err (BadField (count + 1)))
    told e = (omega arith, ap (λ (k : ℕ). said bad_field (k ∷ [])) (sym e))

    -- a field f
    module _ (f : List ℕ) (more : count < length fs) (is : f ≡ get_or fs count f) where
      here : drop count fs ≡ f ∷ drop (suc count) fs
      here = drop-cons fs count f more ∙ ap (λ (x : List ℕ). x ∷ drop (suc count) fs) (sym is)

      there : get_or fs count [] ≡ f
      there =
          ap (λ (k : ℕ). get_or fs k []) (sym (add-zero count))
          ∙ sym (get_or-drop count fs 0 [])
          ∙ ap (λ (l : List (List ℕ)). get_or l 0 []) here

      stops : (too_many w (count + 1) || not (is_number f)) ≡ true → FieldsAre w fs (Err (BadField (count + 1)))
      stops bad =
          told (rw add-one (r.same-bad ∙ ap (first_bad w (suc count)) here
          ∙ bad-here w (suc count) f (drop (suc count) fs) (rw add-one at bad)))

      pub too_many_here : too_many w (count + 1) ≡ true → FieldsAre w fs (Err (BadField (count + 1)))
      too_many_here t = stops (or_left (too_many w (count + 1)) (not (is_number f)) t)

      pub no_number : None ≡ number_read f → FieldsAre w fs (Err (BadField (count + 1)))
      no_number t = stops (or_right (too_many w (count + 1)) (not (is_number f)) (ap not (said-none f t)))

      -- and one that is not bad
      module _ (n : ℕ) (few : too_many w (count + 1) ≡ false) (says : Some n ≡ number_read f) where
        kept_more : (i : ℕ) → i < 37 → i < count + 1 → get_or (kept_at numbers count n) i 0 ≡ capped (get_or fs i [])
        kept_more i a b = go (below-or-from count 37)
          where
            value : n ≡ capped (get_or fs count [])
            value = (said-number f n says).1 ∙ ap capped (sym there)

            go : (count < 37) ⊎ (37 ≤ count) → get_or (kept_at numbers count n) i 0 ≡ capped (get_or fs i [])
            go (inl room) =
                rw (lt-ltb count 37 room, value)
                (stored_next numbers (λ (j : ℕ). capped (get_or fs j [])) count (omega (arith, r.size)) (λ j h. r.kept j (omega arith) h) i b)
            go (inr full) = rw (le-ltb count 37 full) (r.kept i a (omega arith))

        size-more : length (kept_at numbers count n) ≡ 37
        size-more = go (ltb count 37)
          where
            go : (t : Bool) → length (cond t (set numbers count n) numbers) ≡ 37
            go true = length-set numbers count n ∙ r.size
            go false = r.size

        pub next_field : Reading (kept_at numbers count n) (count + 1)
        next_field = record {
          size = size-more;
          same-bad =
              rw add-one
              (r.same-bad ∙ ap (first_bad w (suc count)) here
              ∙ bad-later w (suc count) f (drop (suc count) fs)
              (or-false (too_many w (suc count)) (not (is_number f)) (rw add-one at few) (ap not (said-number f n says).0)));
          kept = kept_more;
        }

    -- no field is left
    module _ (all : count ≡ length fs) where
      ends : first_bad w 1 fs ≡ cond (leb (count + 1) (heads w)) (count + 1) 0
      ends = rw add-one (r.same-bad ∙ ap (first_bad w (suc count)) (drop_all count fs (omega arith)) ∙ bad-end w (suc count))

      pub missing : count + 1 ≤ heads w → FieldsAre w fs (Err (BadField (count + 1)))
      missing h = told (ends ∙ rw (le-leb (count + 1) (heads w) h))

      pub all-read : heads w < count + 1 → FieldsAre w fs (Ok (record { numbers = numbers; count = count }))
      all-read h = (ends ∙ rw (lt-leb (count + 1) (heads w) h), all, λ i a b. r.kept i a (omega arith))
