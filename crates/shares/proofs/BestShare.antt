-- The best share from period to period, in either form: searching the next period up to its cap, and replacing where that finds a budget,
-- is the better of two, and a period that the form does not take changes nothing. Assumes nothing.
use Prim.Native.Nat.{ℕ, zero, suc, ◌+◌, ◌*◌, ◌-◌, ◌/◌, ◌≤◌, ◌<◌}
use mathlib.Core.Path.{◌≡◌, refl, ap, sym, ◌∙◌}
use mathlib.Core.Bool.{Bool, true, false, cond}
use mathlib.Core.List.{List}
use mathlib.Core.Logic.{◌⊎◌, inl, inr}
use native.Mathlib.Omega.{arith}
use native.Mathlib.Nat.{le-div_iff_mul-le, mul-le-mul_right, div-le_of_le-mul}
use lib.Dec.{eqb}
use borrow.Author.Tests.{le-leb, lt-leb, eq-eqb, ne_eqb, eqb-true, eqb-false}
use Rattle.model.specs.Search.{first}
use Rattle.model.specs.Form.{Form, takes}
use Rattle.model.specs.Share.{Share, passes, least_of, better, best_of}
use Rattle.model.proofs.Tests.{below-or-from}
use Rattle.model.proofs.Places.{Smallest, first-smallest, first-at, first-none}
use Rattle.std.specs.Prelude.{Option, Some, None}
use Rattle.shares.specs.declared.answers.Share.{Share as CodeShare}
use Rattle.shares.specs.Private.{IsOffered, place_of, paper_best, cap_of}
use Rattle.shares.proofs.RowLaws.{place_zero, place_at}

-- a share that was offered, or none: its budget is at most its period, and that in range
pub record Offered (s : Share) : Type 0 where
  pub budget-most : s.budget ≤ s.period
  pub period-most : s.period ≤ 2000

-- the share (P, B) where there is a budget, else s
unfoldable pub replaced_by : Share → ℕ → ℕ → Share
replaced_by s P B = cond (eqb B 0) s (record { period = P; budget = B })

pub cap_none : (s : Share) (P : ℕ) → s.budget ≡ 0 → cap_of s P ≡ P
unfolding cap_of
cap_none s P e = rw (eq-eqb s.budget 0 e)

pub cap_some : (s : Share) (P : ℕ) → (s.budget ≡ 0 → ⊥) → cap_of s P ≡ s.budget * P / s.period
unfolding cap_of
cap_some s P e = rw (ne_eqb s.budget 0 e)

pub replaced_none : (s : Share) (P B : ℕ) → B ≡ 0 → replaced_by s P B ≡ s
unfolding replaced_by
replaced_none s P B e = rw (eq-eqb B 0 e)

pub replaced_some : (s : Share) (P B : ℕ) → (B ≡ 0 → ⊥) → replaced_by s P B ≡ record { period = P; budget = B }
unfolding replaced_by
replaced_some s P B e = rw (ne_eqb B 0 e)

better-none : (s t : Share) → t.budget ≡ 0 → better s t ≡ s
unfolding better
better-none s t e = rw (eq-eqb t.budget 0 e)

better-first : (s t : Share) → (t.budget ≡ 0 → ⊥) → s.budget ≡ 0 → better s t ≡ t
unfolding better
better-first s t n e = rw (ne_eqb t.budget 0 n, eq-eqb s.budget 0 e)

better-new : (s t : Share) → (t.budget ≡ 0 → ⊥) → (s.budget ≡ 0 → ⊥) → t.budget * s.period ≤ s.budget * t.period → better s t ≡ t
unfolding better
better-new s t n m h = rw (ne_eqb t.budget 0 n, ne_eqb s.budget 0 m, le-leb (t.budget * s.period) (s.budget * t.period) h)

better-old : (s t : Share) → (t.budget ≡ 0 → ⊥) → (s.budget ≡ 0 → ⊥) → s.budget * t.period < t.budget * s.period → better s t ≡ s
unfolding better
better-old s t n m h = rw (ne_eqb t.budget 0 n, ne_eqb s.budget 0 m, lt-leb (t.budget * s.period) (s.budget * t.period) h)

-- a cap is at most its period
pub cap_most : (s : Share) (P : ℕ) → Offered s → cap_of s P ≤ P
cap_most s P o = go (eqb s.budget 0) refl
  where
    go : (b : Bool) → eqb s.budget 0 ≡ b → cap_of s P ≤ P
    go true e = omega (arith, cap_none s P (eqb-true _ _ e))
    go false e =
        let most = div-le_of_le-mul s.period {m = s.budget * P} {n = P} (mul-le-mul_right P o.budget-most) in
        omega (arith, cap_some s P (eqb-false _ _ e), most)

-- up to a number at or above the least place the first one is the least place; below it there is none
first-upto : (f : ℕ → Bool) (n m r : ℕ) → Smallest f n r → 1 ≤ r → r ≤ m → first f m ≡ r
first-upto f n m r s pos h = first-at f m r pos h (s.holds pos) s.least

first-before : (f : ℕ → Bool) (n m r : ℕ) → Smallest f n r → m < r → first f m ≡ 0
first-before f n m r s h = first-none f m (λ t p l. s.least t p (omega arith))

first-nowhere : (f : ℕ → Bool) (n m r : ℕ) → Smallest f n r → r ≡ 0 → m ≤ n → first f m ≡ 0
first-nowhere f n m r s e h = first-none f m (λ t p l. s.none e t p (omega arith))

module _ (f : ℕ → Bool) (s : Share) (P : ℕ) (o : Offered s) where
  abbrev new : ℕ → Share
  new r = record { period = P; budget = r }

  next : (r : ℕ) → Smallest f P r → replaced_by s P (first f (cap_of s P)) ≡ better s (new r)
  next r i = go (eqb r 0) refl (eqb s.budget 0) refl
    where
      go : (b : Bool) → eqb r 0 ≡ b → (c : Bool) → eqb s.budget 0 ≡ c → replaced_by s P (first f (cap_of s P)) ≡ better s (new r)
      go true e c k =
          let z : r ≡ 0 = eqb-true r 0 e in
          replaced_none s P _ (first-nowhere f P (cap_of s P) r i z (cap_most s P o)) ∙ sym (better-none s (new r) z)
      go false e true k =
          let n : r ≡ 0 → ⊥ = eqb-false r 0 e in
          let z : s.budget ≡ 0 = eqb-true s.budget 0 k in
          let found : first f (cap_of s P) ≡ r = first-upto f P (cap_of s P) r i (omega arith) (omega (arith, cap_none s P z, i.most)) in
          rw found (replaced_some s P r n ∙ sym (better-first s (new r) n z))
      go false e false k = fraction (eqb-false r 0 e) (eqb-false s.budget 0 k) (below-or-from (s.budget * P) (r * s.period))
        where
          fraction : (r ≡ 0 → ⊥) → (s.budget ≡ 0 → ⊥) → (s.budget * P < r * s.period) ⊎ (r * s.period ≤ s.budget * P)
              → replaced_by s P (first f (cap_of s P)) ≡ better s (new r)
          fraction n m (inr le) =
              let pos : 0 < s.period = omega (arith, o.budget-most) in
              let found : first f (cap_of s P) ≡ r =
              first-upto f P (cap_of s P) r i (omega arith) (omega (arith, cap_some s P m, (le-div_iff_mul-le pos).1 le)) in
              rw found (replaced_some s P r n ∙ sym (better-new s (new r) n m le))
          fraction n m (inl lt) =
              replaced_none s P _ (first-before f P (cap_of s P) r i (low (below-or-from (cap_of s P) r)))
              ∙ sym (better-old s (new r) n m lt)
            where
              low : (cap_of s P < r) ⊎ (r ≤ cap_of s P) → cap_of s P < r
              low (inl below) = below
              low (inr from) =
                  let pos : 0 < s.period = omega (arith, o.budget-most) in
                  absurd (omega (arith, (le-div_iff_mul-le {x = r} {y = s.budget * P} pos).0 (omega (arith, cap_some s P m))))

-- the best up to p, from the best up to p - 1: of a period that the form takes, and of one that it does not
pub best-next : (form : Form) (ps es : List ℕ) (s : Share) (p : ℕ) → 1 ≤ p → Offered s → takes form p ps ≡ true
    → s ≡ best_of form ps es (p - 1) → replaced_by s p (first (passes form p ps es) (cap_of s p)) ≡ best_of form ps es (p + 1 - 1)
unfolding best_of least_of
best-next form ps es s zero pos o taken e = absurd (omega arith)
best-next form ps es s (suc n) pos o taken e =
    let a : suc n - 1 ≡ n = omega arith in
    let b : suc n + 1 - 1 ≡ suc n = omega arith in
    let f : ℕ → Bool = passes form (suc n) ps es in
    rw b
    (rw taken
    (next f s (suc n) o (first f (suc n)) (first-smallest f (suc n))
    ∙ ap (λ (t : Share). better t (record { period = suc n; budget = first f (suc n) }))
    (e ∙ ap (λ (k : ℕ). best_of form ps es k) a)))

pub best_skips : (form : Form) (ps es : List ℕ) (p : ℕ) → 1 ≤ p → takes form p ps ≡ false
    → best_of form ps es (p - 1) ≡ best_of form ps es (p + 1 - 1)
unfolding best_of
best_skips form ps es zero pos skipped = absurd (omega arith)
best_skips form ps es (suc n) pos skipped =
    let a : suc n - 1 ≡ n = omega arith in
    let b : suc n + 1 - 1 ≡ suc n = omega arith in
    rw (a, b) (rw skipped)

-- the best share so far as the code has it: none, or one with some budget
pub offered_of : (best : Option CodeShare) → IsOffered best → Offered (paper_best best)
offered_of None o = record { budget-most = omega arith; period-most = omega arith }
offered_of (Some s) o = record { budget-most = o.1; period-most = o.2 }

-- a period with no budget leaves it; one with a budget up to the cap replaces it
module _ (form : Form) (ps es : List ℕ) (best : Option CodeShare) (p : ℕ) (pos : 1 ≤ p) (o : IsOffered best) (taken : takes form p ps ≡ true)
    (e : paper_best best ≡ best_of form ps es (p - 1)) where
  next_of : replaced_by (paper_best best) p (first (passes form p ps es) (cap_of (paper_best best) p)) ≡ best_of form ps es (p + 1 - 1)
  next_of = best-next form ps es (paper_best best) p pos (offered_of best o) taken e

  pub best_kept : None ≡ place_of (first (passes form p ps es) (cap_of (paper_best best) p)) → paper_best best ≡ best_of form ps es (p + 1 - 1)
  best_kept none = sym (replaced_none (paper_best best) p _ (place_zero _ none)) ∙ next_of

  pub best_replaced : (b : ℕ) → Some b ≡ place_of (first (passes form p ps es) (cap_of (paper_best best) p))
      → (record { period = p; budget = b } ≡ best_of form ps es (p + 1 - 1)) × (1 ≤ b) × (b ≤ p)
  best_replaced b some =
      let n = first (passes form p ps es) (cap_of (paper_best best) p) in
      let at = place_at b n some in
      let most : n ≤ cap_of (paper_best best) p = (first-smallest (passes form p ps es) (cap_of (paper_best best) p)).most in (
        ap (λ (b : ℕ). record { period = p; budget = b }) (sym at.0) ∙ sym (replaced_some (paper_best best) p n (λ z. omega (arith, at))) ∙ next_of,
        at.1,
        omega (arith, at.0, most, cap_most (paper_best best) p (offered_of best o)),
      )
