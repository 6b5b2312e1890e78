-- A number that is kept and the number that was written are alike: equal, or both above every limit, so that each row treats them alike.
-- Assumes nothing.
use Prim.Native.Nat.{ℕ, ◌≤◌, ◌<◌, min}
use mathlib.Core.Path.{◌≡◌, refl}
use mathlib.Core.Bool.{Bool, true, false, not, ◌&&◌, ◌||◌, or-true}
use mathlib.Core.Logic.{◌⊎◌, inl, inr}
use native.Mathlib.Omega.{arith}
use lib.Dec.{leb, ltb}
use borrow.Author.Tests.{lt-ltb, lt-leb, leb-true, leb-false}
use Rattle.model.proofs.Tests.{and_right, and_both}
use Rattle.model.specs.Form.{Form}
use Rattle.model.specs.Reply.{Reply}
use Rattle.model.specs.Rows.{within, in_range, row, supply_reply}

-- equal, or both above m
abbrev pub Alike : ℕ → ℕ → ℕ → Type 0
Alike m a b = (a ≡ b) ⊎ ((m < a) × (m < b))

-- a number that is kept: itself, or 9,999 where it is above that
pub alike-kept : (n : ℕ) → Alike 3000 (min n 9999) n
alike-kept n = go (leb n 9999) refl
  where
    go : (t : Bool) → leb n 9999 ≡ t → Alike 3000 (min n 9999) n
    go true e = inl (omega (arith, leb-true n 9999 e))
    go false e = inr (omega (arith, leb-false n 9999 e))

-- the rows on P and B, and on t, see no difference
far-outside : (a n : ℕ) → n ≤ 3000 → 3000 < a → within a n ≡ false
far-outside a n h k = and_right (leb 1 a) (leb a n) (lt-leb a n (omega arith))

pub within-limit : (a n : ℕ) → within a n ≡ true → a ≤ n
within-limit a n e = leb-true a n (and_both (leb 1 a) (leb a n) e).1

abbrev pub bad-share : ℕ → ℕ → Bool
bad-share P B = not (in_range P B)

pub share_large : (P B : ℕ) → 3000 < P → bad-share P B ≡ true
share_large P B h = rw (far-outside P 2000 (omega arith) h)

pub budget_large : (P B : ℕ) → 3000 < B → bad-share P B ≡ true
budget_large P B h = go (within P 2000) refl
  where
    go : (t : Bool) → within P 2000 ≡ t → not (t && within B P) ≡ true
    go true e = rw (far-outside B P (omega (arith, within-limit P 2000 e)) h)
    go false e = refl

pub share-alike : (P P' B B' : ℕ) → Alike 3000 P P' → Alike 3000 B B' → (X X' : Reply) → ((P ≡ P') → (B ≡ B') → X ≡ X')
    → row (bad-share P B) 33 0 X ≡ row (bad-share P' B') 33 0 X'
share-alike P P' B B' (inl p) (inl q) X X' r = rw (p, q, r p q)
share-alike P P' B B' (inl p) (inr q) X X' r = rw (budget_large P B q.0, budget_large P' B' q.1)
share-alike P P' B B' (inr p) b X X' r = rw (share_large P B p.0, share_large P' B' p.1)

pub period-alike : (P P' : ℕ) → Alike 3000 P P' → (X X' : Reply) → ((P ≡ P') → X ≡ X')
    → row (not (within P 2000)) 33 0 X ≡ row (not (within P' 2000)) 33 0 X'
period-alike P P' (inl p) X X' r = rw (p, r p)
period-alike P P' (inr p) X X' r = rw (far-outside P 2000 (omega arith) p.0, far-outside P' 2000 (omega arith) p.1)

abbrev bad-length : ℕ → ℕ → ℕ → Bool
bad-length n i t = ltb 2000 t || not (within i n)

pub length-alike : (n i i' t t' : ℕ) → n ≤ 3000 → Alike 3000 i i' → Alike 3000 t t' → (X X' : Reply) → ((i ≡ i') → (t ≡ t') → X ≡ X')
    → row (bad-length n i t) 35 0 X ≡ row (bad-length n i' t') 35 0 X'
length-alike n i i' t t' h (inl p) (inl q) X X' r = rw (p, q, r p q)
length-alike n i i' t t' h (inr p) (inl q) X X' r = rw (q, far-outside i n h p.0, far-outside i' n h p.1, or-true)
length-alike n i i' t t' h a (inr q) X X' r = rw (lt-ltb 2000 t (omega (arith, q.0)), lt-ltb 2000 t' (omega (arith, q.1)))

pub supply-alike : (form : Form) (P P' B B' t t' : ℕ) → Alike 3000 P P' → Alike 3000 B B' → Alike 3000 t t'
    → supply_reply form P B t ≡ supply_reply form P' B' t'
unfolding supply_reply
supply-alike form P P' B B' t t' p b (inl q) = share-alike P P' B B' p b _ _ (λ e f. rw (e, f, q))
supply-alike form P P' B B' t t' p b (inr q) =
    share-alike P P' B B' p b _ _ (λ e f. rw (lt-ltb 2000 t (omega (arith, q.0)), lt-ltb 2000 t' (omega (arith, q.1))))
