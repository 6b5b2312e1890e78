-- The least budget, in either form: passing grows with the budget, so that one failing budget settles all below it, and the search may
-- begin above it. Assumes nothing.
use Prim.Native.Nat.{ℕ, zero, suc, ◌-◌, ◌≤◌, ◌<◌}
use Rattle.std.specs.Prelude.{Option, Some, None, is_some}
use mathlib.Core.Path.{◌≡◌, refl, ap, sym, ◌∙◌}
use mathlib.Core.Bool.{Bool, true, false, ◌&&◌}
use mathlib.Core.List.{List}
use mathlib.Core.Logic.{◌⊎◌, inl, inr}
use native.Mathlib.Omega.{arith}
use lib.Dec.{leb, eqb}
use borrow.Author.Tests.{le-leb, lt-leb, eqb-true, eqb-false}
use lib.ListN.{length}
use Rattle.model.specs.Search.{first}
use Rattle.model.specs.Form.{Form}
use Rattle.model.specs.Share.{meets, passes}
use Rattle.model.proofs.Tests.{below-or-from, tested, clash}
use Rattle.model.proofs.Places.{everywhere-has, everywhere-all, first-at, first-none, first_agrees, Smallest, first-smallest}
use Rattle.shares.specs.Private.{IsTaskList, NoneUpTo, place_of}
use Rattle.shares.proofs.RowLaws.{place_none, place_some, place_is}
use Rattle.shares.proofs.Walk.{meets-grows}

module _ (form : Form) (P : ℕ) (ps es : List ℕ) (tasks : IsTaskList ps es) where
  pub passes-grows : (B C : ℕ) → 1 ≤ B → B ≤ C → C ≤ P → passes form P ps es B ≡ true → passes form P ps es C ≡ true
  unfolding passes
  passes-grows B C pos h fits e = everywhere-all (λ i. meets form P C ps es i) (length ps) (λ i p l. at i p l)
    where
      at : (i : ℕ) → 1 ≤ i → i ≤ length ps → meets form P C ps es i ≡ true
      at zero p l = absurd (omega arith)
      at (suc i) p l =
          meets-grows form P B C ps es tasks pos h fits i l (everywhere-has (λ i. meets form P B ps es i) (length ps) (suc i) p l e)

  pub fails-below : (C : ℕ) → C ≤ P → passes form P ps es C ≡ false → NoneUpTo form P ps es C
  fails-below C fits e x pos h = go (tested (passes form P ps es x))
    where
      go : (passes form P ps es x ≡ true) ⊎ (passes form P ps es x ≡ false) → passes form P ps es x ≡ false
      go (inl t) = absurd (clash (passes-grows x C pos h fits t) e)
      go (inr f) = f

  -- the search from b to b
  pub one-fails : (b : ℕ) → 1 ≤ b → 0 ≡ first (λ x. leb b x && passes form P ps es x) b → passes form P ps es b ≡ false
  one-fails b pos e =
      go (leb b b) (le-leb b b (omega arith))
      ((first-smallest (λ x. leb b x && passes form P ps es x) b).none (sym e) b pos (omega arith))
    where
      go : (t : Bool) → t ≡ true → (t && passes form P ps es b) ≡ false → passes form P ps es b ≡ false
      go true q h = h
      go false q h = absurd (clash q refl)

  pub one_passes : (b r : ℕ) → (r ≡ 0 → ⊥) → r ≡ first (λ x. leb b x && passes form P ps es x) b → passes form P ps es b ≡ true
  one_passes b r some-r e = go (below-or-from r b)
    where
      s : Smallest (λ x. leb b x && passes form P ps es x) b (first (λ x. leb b x && passes form P ps es x) b)
      s = first-smallest (λ x. leb b x && passes form P ps es x) b

      found : (leb b r && passes form P ps es r) ≡ true
      found = rw e (s.holds (omega (arith, e)))

      go : (r < b) ⊎ (b ≤ r) → passes form P ps es b ≡ true
      go (inl early) = absurd (early_one (leb b r) (lt-leb b r early) found)
        where
          early_one : (t : Bool) → t ≡ false → (t && passes form P ps es r) ≡ true → ⊥
          early_one true q h = clash refl q
          early_one false q h = clash h refl
      go (inr late) = here (leb b r) found
        where
          same : r ≡ b
          same = omega (arith, s.most, e)

          here : (t : Bool) → (t && passes form P ps es r) ≡ true → passes form P ps es b ≡ true
          here true h = rw same at h
          here false h = absurd (clash h refl)

  pub one_tells : (b : ℕ) (found : Option ℕ) → 1 ≤ b → found ≡ place_of (first (λ x. leb b x && passes form P ps es x) b)
      → is_some found ≡ passes form P ps es b
  one_tells b found pos e = ap is_some e ∙ go (eqb r 0) refl
    where
      r : ℕ
      r = first (λ x. leb b x && passes form P ps es x) b

      go : (t : Bool) → eqb r 0 ≡ t → is_some (place_of r) ≡ passes form P ps es b
      go true z = rw (place_none r (eqb-true r 0 z)) (sym (one-fails b pos (sym (eqb-true r 0 z))))
      go false z = rw (place_some r (omega (arith, eqb-false r 0 z))) (sym (one_passes b r (eqb-false r 0 z) refl))

  -- the search up to a cap: the cap itself is tried, then what is above a failing budget
  pub least_none : (cap : ℕ) → cap ≤ P → (cap ≡ 0) ⊎ (passes form P ps es cap ≡ false) → None ≡ place_of (first (passes form P ps es) cap)
  least_none cap fits (inl e) = sym (place_none _ (rw e))
  least_none cap fits (inr e) = sym (place_none _ (first-none (passes form P ps es) cap (fails-below cap fits e)))

  pub least_cap : (cap : ℕ) → 1 ≤ cap → NoneUpTo form P ps es (cap - 1) → passes form P ps es cap ≡ true
      → Some cap ≡ place_of (first (passes form P ps es) cap)
  least_cap cap pos none e =
      place_is cap _ pos (sym (first-at (passes form P ps es) cap cap pos (omega arith) e (λ x p l. none x p (omega arith))))

  pub skip : (from cap : ℕ) → 1 ≤ from → NoneUpTo form P ps es (from - 1)
      → first (λ x. leb from x && passes form P ps es x) cap ≡ first (passes form P ps es) cap
  skip from cap pos none =
      first_agrees (λ x. leb from x && passes form P ps es x) (passes form P ps es) cap (λ x p l. at x p (below-or-from x from))
    where
      at : (x : ℕ) → 1 ≤ x → (x < from) ⊎ (from ≤ x) → (leb from x && passes form P ps es x) ≡ passes form P ps es x
      at x p (inl low) = rw (lt-leb from x low) (sym (none x p (omega arith)))
      at x p (inr high) = rw (le-leb from x high)
