-- Of `least` and `best`, in both forms: 34 exactly where no budget passes, and a result exactly where it is the least budget, the best
-- interface. Both rest on the reply table. Assumes nothing.
use Prim.Native.Nat.{ℕ, zero, suc, ◌≤◌}
use mathlib.Core.Path.{◌≡◌, refl, subst}
use mathlib.Core.Bool.{true}
use mathlib.Core.List.{List, [], ◌∷◌}
use mathlib.Core.Logic.{◌↔◌}
use native.Mathlib.Omega.{arith}
use lib.Dec.{leb}
use borrow.Author.Tests.{leb-true}
use lib.ListN.{get_or}
use Rattle.model.specs.Form.{Form}
use Rattle.model.specs.Share.{Share}
use Rattle.model.specs.Reply.{gives, refuses}
use Rattle.model.specs.Rows.{within, in_range}
use Rattle.model.specs.Meaning.{IsLeast, NoBudget, IsBest, NoShare}
use Rattle.model.specs.Asked.{Work, Asked, least, best, reply_to}
use Rattle.model.specs.Table.{Row, row_30, row_31, row_32, row_33, row_34, row_35, row_36, rows, First}
use Rattle.model.specs.Table.{LengthOut, NonePasses, Result, Accepted}
use Rattle.model.proofs.Tests.{and_both}
use Rattle.model.proofs.Meaning.{same-share}
use Rattle.model.proofs.Table.{of_34, table}

pub is_within : (x n : ℕ) → within x n ≡ true → (1 ≤ x) × (x ≤ n)
is_within x n h = let w = and_both (leb 1 x) (leb x n) h in (leb-true _ _ w.0, leb-true _ _ w.1)

pub in_range_lem : (p e : ℕ) → in_range p e ≡ true → ((1 ≤ p) × (p ≤ 2000)) × ((1 ≤ e) × (e ≤ p))
in_range_lem p e h =
    let both = and_both (within p 2000) (within e p) h in
    (is_within p 2000 both.0, is_within e p both.1)

-- row 34 stands below all others
pub lowest : (place : ℕ) → get_or rows place 0 ≡ 34 → 6 ≤ place
lowest zero e = absurd (omega (arith, e))
lowest (suc zero) e = absurd (omega (arith, e))
lowest (suc (suc zero)) e = absurd (omega (arith, e))
lowest (suc (suc (suc zero))) e = absurd (omega (arith, e))
lowest (suc (suc (suc (suc zero)))) e = absurd (omega (arith, e))
lowest (suc (suc (suc (suc (suc zero))))) e = absurd (omega (arith, e))
lowest (suc (suc (suc (suc (suc (suc place)))))) e = omega arith

-- of what asks for no length only row 34 is left below rows 30 to 33 and 36
module _ (asked : Asked) (no_length : LengthOut asked → ⊥) where
  only_34 : Accepted asked → (n d : ℕ) → Row asked n d → n ≡ 34
  only_34 a n d (row_30 x) = absurd (a 0 0 (omega arith) (row_30 x))
  only_34 a n d (row_31 k x) = absurd (a 1 k (omega arith) (row_31 k x))
  only_34 a n d (row_32 k x) = absurd (a 2 k (omega arith) (row_32 k x))
  only_34 a n d (row_33 x) = absurd (a 3 0 (omega arith) (row_33 x))
  only_34 a n d (row_36 x) = absurd (a 4 0 (omega arith) (row_36 x))
  only_34 a n d (row_35 x) = absurd (no_length x)
  only_34 a n d (row_34 x) = refl

  is_34 : (reply_to asked ≡ refuses 34 0) ↔ (Accepted asked × NonePasses asked)
  is_34 = (λ e. there (((table asked).refused 34 0).0 e), λ h. ((table asked).refused 34 0).1 (back h))
    where
      there : First asked 34 0 → Accepted asked × NonePasses asked
      there f = (λ p d l. f.none_above p d (omega (arith, lowest f.place f.stands)), of_34 asked 0 f.applies)

      back : Accepted asked × NonePasses asked → First asked 34 0
      back h =
          record {
            place = 6;
            stands = refl;
            applies = row_34 h.1;
            none_above = λ p d l r. omega (arith, l, lowest p (only_34 h.0 (get_or rows p 0) d r));
          }

  is-given : (values : List ℕ) → (NonePasses asked → Result asked values → ⊥)
      → (reply_to asked ≡ gives values) ↔ (Accepted asked × Result asked values)
  is-given values some = (
    λ e. let g = ((table asked).given values).0 e in (λ p d l. g.0 (get_or rows p 0) d, g.1),
    λ h. ((table asked).given values).1
        (λ n d r. some (of_34 asked d (subst (λ (k : ℕ). Row asked k d) (only_34 h.0 n d r) r)) h.1, h.1),
  )

module _ (form : Form) (w : Work) (P : ℕ) where
  abbrev ps : List ℕ
  ps = w.periods

  abbrev es : List ℕ
  es = w.costs

  pub least_34 : (reply_to (least form w P) ≡ refuses 34 0) ↔ (Accepted (least form w P) × NoBudget form P ps es)
  least_34 = is_34 (least form w P) (λ x. x)

  pub least-given : (B : ℕ) → (reply_to (least form w P) ≡ gives (B ∷ [])) ↔ (Accepted (least form w P) × IsLeast form P ps es B)
  least-given B = (λ h. let g = e.0 h in (g.0, same g.1), λ h. e.1 (h.0, (B, refl, h.1)))
    where
      same : Result (least form w P) (B ∷ []) → IsLeast form P ps es B
      same r = let o : r.0 ≡ B = cc r.1 in rw o at r.2

      e : (reply_to (least form w P) ≡ gives (B ∷ [])) ↔ (Accepted (least form w P) × Result (least form w P) (B ∷ []))
      e = is-given (least form w P) (λ x. x) (B ∷ []) (λ none r. let i = same r in none B i.from_1 i.to_P i.passing)

  pub best_34 : (reply_to (best form w P) ≡ refuses 34 0) ↔ (Accepted (best form w P) × NoShare form P ps es)
  best_34 = is_34 (best form w P) (λ x. x)

  pub best-given : (s : Share) → (reply_to (best form w P) ≡ gives (s.period ∷ s.budget ∷ [])) ↔ (Accepted (best form w P) × IsBest form P ps es s)
  best-given s = (λ h. let g = e.0 h in (g.0, same g.1), λ h. e.1 (h.0, (s, refl, h.1)))
    where
      same : Result (best form w P) (s.period ∷ s.budget ∷ []) → IsBest form P ps es s
      same r = let o : r.0 ≡ s = same-share r.0 s (cc r.1) (cc r.1) in rw o at r.2

      some : NoShare form P ps es → IsBest form P ps es s → ⊥
      some none i = none s.period i.offered s.budget i.least.from_1 i.least.to_P i.least.passing

      e : (reply_to (best form w P) ≡ gives (s.period ∷ s.budget ∷ []))
          ↔ (Accepted (best form w P) × Result (best form w P) (s.period ∷ s.budget ∷ []))
      e = is-given (best form w P) (λ x. x) (s.period ∷ s.budget ∷ []) (λ none r. some none (same r))
