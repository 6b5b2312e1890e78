-- What the definitions of specs/Share.antt mean, in the plain statements of specs/Meaning.antt: passing, the least budget and the best
-- interface, each way round. For any lists of periods of at least 1, refused ones too. Assumes nothing.
use Prim.Native.Nat.{ℕ, zero, suc, ◌*◌, ◌-◌, ◌≤◌, ◌<◌}
use mathlib.Core.Path.{◌≡◌, refl, ap, sym, ◌∙◌, subst}
use mathlib.Core.Bool.{Bool, true, false, cond, ◌||◌}
use mathlib.Core.List.{List}
use mathlib.Core.Logic.{◌⊎◌, inl, inr, ◌↔◌}
use native.Mathlib.Omega.{arith}
use native.Mathlib.Nat.{le-suc_iff, eq-zero-or-pos, mul_right_comm, mul-le-mul_right, le_of_mul-le-mul_right}
use lib.Dec.{leb, eqb}
use borrow.Author.Tests.{le-leb, leb-true, leb-false, eqb-true, eqb-false}
use lib.ListN.{length, get_or}
use Rattle.model.specs.Search.{somewhere}
use Rattle.model.specs.Form.{Form, takes}
use Rattle.model.specs.Supply.{supply_of}
use Rattle.model.specs.Demand.{demand_of}
use Rattle.model.specs.Share.{Share, enough, meets, passes, least_of, better, best_of}
use Rattle.model.specs.Meaning.{Takes, Met, Pass, IsLeast, NoBudget, Offers, IsBest, NoShare}
use Rattle.model.proofs.Tests.{Tells, tested, clash, below-or-from}
use Rattle.model.proofs.Divides.{takes-tells}
use Rattle.model.proofs.Places.{somewhere-at, everywhere-has, everywhere-all, Smallest, first-smallest}
use Rattle.model.proofs.Supply.{supply-means, supply-only}
use Rattle.model.proofs.Demand.{demand-means, demand-only}

-- periods of at least 1: a ceil exists
abbrev pub Whole : List ℕ → Type 0
Whole ps = (k : ℕ) → k < length ps → 1 ≤ get_or ps k 0

-- a test that holds somewhere holds at a number
somewhere-has : (f : ℕ → Bool) (n : ℕ) → somewhere f n ≡ true → (t : ℕ) × (1 ≤ t) × (t ≤ n) × (f t ≡ true)
somewhere-has f zero e = absurd (clash e refl)
somewhere-has f (suc n) e = go (tested (f (suc n))) (somewhere f n) (somewhere-has f n) e
  where
    go : (f (suc n) ≡ true) ⊎ (f (suc n) ≡ false) → (b : Bool) → (b ≡ true → (t : ℕ) × (1 ≤ t) × (t ≤ n) × (f t ≡ true))
        → (b || f (suc n)) ≡ true → (t : ℕ) × (1 ≤ t) × (t ≤ suc n) × (f t ≡ true)
    go (inl here) b early e = (suc n, omega arith, omega arith, here)
    go (inr gone) true early e = let r = early refl in (r.0, r.1, omega (arith, r.2), r.3)
    go (inr gone) false early e = absurd (clash e gone)

module _ (form : Form) (P B : ℕ) (ps es : List ℕ) where
  met-meets : (i : ℕ) → Met form P B ps es i → meets form P B ps es i ≡ true
  unfolding meets
  met-meets i m =
      let s = supply-only P B m.t form m.supply m.supplied in
      let d = demand-only ps es i m.t m.demand m.demanded in
      somewhere-at (λ t. enough form P B ps es i t) (get_or ps (i - 1) 0) m.t m.from_1 m.to_p
      (le-leb (demand_of ps es i m.t) (supply_of form P B m.t)
      (subst (λ (x : ℕ). x ≤ supply_of form P B m.t) (sym d) (subst (λ (x : ℕ). m.demand ≤ x) (sym s) m.enough)))

  pub pass-passes : Pass form P B ps es → passes form P ps es B ≡ true
  unfolding passes
  pass-passes h = everywhere-all (λ i. meets form P B ps es i) (length ps) (λ i p l. met-meets i (h i p l))

  module _ (pos : 1 ≤ P) (whole : Whole ps) where
    pub meets-means : (i : ℕ) → i ≤ length ps → meets form P B ps es i ≡ true ↔ Met form P B ps es i
    unfolding meets
    meets-means i l = (there, met-meets i)
      where
        there : somewhere (λ t. enough form P B ps es i t) (get_or ps (i - 1) 0) ≡ true → Met form P B ps es i
        there e =
            let r = somewhere-has (λ t. enough form P B ps es i t) (get_or ps (i - 1) 0) e in
            record {
              t = r.0;
              supply = supply_of form P B r.0;
              demand = demand_of ps es i r.0;
              from_1 = r.1;
              to_p = r.2;
              supplied = supply-means P B r.0 form pos;
              demanded = demand-means ps es i r.0 (λ k h. whole k (omega arith));
              enough = leb-true _ _ r.3;
            }

    pub passes-means : passes form P ps es B ≡ true ↔ Pass form P B ps es
    unfolding passes
    passes-means = (
      λ e i p l. (meets-means i l).0 (everywhere-has (λ i. meets form P B ps es i) (length ps) i p l e),
      pass-passes,
    )

module _ (form : Form) (P : ℕ) (ps es : List ℕ) where
  found : Smallest (passes form P ps es) P (least_of form P ps es)
  unfolding least_of
  found = first-smallest (passes form P ps es) P

  fails : (B : ℕ) → passes form P ps es B ≡ false → Pass form P B ps es → ⊥
  fails B e h = clash (pass-passes form P B ps es h) e

  -- the least budget is at most any that passes
  under : (C : ℕ) → 1 ≤ C → Pass form P C ps es → least_of form P ps es ≤ C
  under C p h = go (below-or-from C (least_of form P ps es))
    where
      go : (C < least_of form P ps es) ⊎ (least_of form P ps es ≤ C) → least_of form P ps es ≤ C
      go (inl below) = absurd (fails C (found.least C p below) h)
      go (inr from) = from

  module _ (whole : Whole ps) where
    pub least-means : 1 ≤ least_of form P ps es → IsLeast form P ps es (least_of form P ps es)
    least-means some-B =
        record {
          from_1 = some-B;
          to_P = found.most;
          passing = (passes-means form P (least_of form P ps es) ps es (omega (arith, found.most)) whole).0 (found.holds some-B);
          smallest = under;
        }

    pub least-none : least_of form P ps es ≡ 0 ↔ NoBudget form P ps es
    least-none = (λ z B p l. fails B (found.none z B p l), λ h. go h (eq-zero-or-pos (least_of form P ps es)))
      where
        go : NoBudget form P ps es → (least_of form P ps es ≡ 0) ⊎ (0 < least_of form P ps es) → least_of form P ps es ≡ 0
        go h (inl z) = z
        go h (inr p) = absurd (h (least_of form P ps es) p found.most (least-means p).passing)

    pub least-only : (B : ℕ) → IsLeast form P ps es B → least_of form P ps es ≡ B
    least-only B i = go (eq-zero-or-pos (least_of form P ps es))
      where
        go : (least_of form P ps es ≡ 0) ⊎ (0 < least_of form P ps es) → least_of form P ps es ≡ B
        go (inl z) = absurd (least-none.0 z B i.from_1 i.to_P i.passing)
        go (inr p) = omega (arith, under B i.from_1 i.passing, i.smallest (least_of form P ps es) p (least-means p).passing)

-- a share is its period and its budget
pub same-share : (s t : Share) → s.period ≡ t.period → s.budget ≡ t.budget → s ≡ t
same-share s t p b = ap (λ (P : ℕ). made P s.budget) p ∙ ap (made t.period) b
  where
    made : ℕ → ℕ → Share
    made P B = record { period = P; budget = B }

-- fractions: a/b at most c/d, that at most e/f
across : (a b c d e f : ℕ) → 1 ≤ d → a * d ≤ c * b → c * f ≤ e * d → a * f ≤ e * b
across a b c d e f pos h k =
    let one : a * d * f ≤ c * b * f = mul-le-mul_right f h in
    let two : c * f * b ≤ e * d * b = mul-le-mul_right b k in
    le_of_mul-le-mul_right {k = d}
    (omega (arith, one, two, mul_right_comm a d f, mul_right_comm c b f, mul_right_comm e d b)) pos

-- none has a share, or the best one is had
record Outcome (form : Form) (n : ℕ) (ps es : List ℕ) (s : Share) : Type 0 where
  none : s.budget ≡ 0 → NoShare form n ps es
  some : 1 ≤ s.budget → IsBest form n ps es s

module _ (form : Form) (ps es : List ℕ) (whole : Whole ps) (n : ℕ) (s : Share) (o : Outcome form n ps es s) where
  abbrev r : ℕ
  r = least_of form (suc n) ps es

  abbrev new : Share
  new = record { period = suc n; budget = r }

  -- what is shown of the periods up to n, and of the next, holds up to the next
  upto : (A : ℕ → ℕ → Type 0) → ((Q C : ℕ) → Offers form n ps Q → 1 ≤ C → C ≤ Q → Pass form Q C ps es → A Q C)
      → ((C : ℕ) → Takes form (suc n) ps → 1 ≤ C → C ≤ suc n → Pass form (suc n) C ps es → A (suc n) C)
      → (Q C : ℕ) → Offers form (suc n) ps Q → 1 ≤ C → C ≤ Q → Pass form Q C ps es → A Q C
  upto A early last Q C q p m h = go Q (le-suc_iff.0 q.1) q m h
    where
      go : (Q : ℕ) → (Q ≤ n) ⊎ (Q ≡ suc n) → Offers form (suc n) ps Q → C ≤ Q → Pass form Q C ps es → A Q C
      go Q (inl below) q m h = early Q C (q.0, below, q.2) p m h
      go Q (inr here) q m h = rw here (last C (rw here at q.2) p (omega arith) (rw here at h))

  -- none of the next period's budgets passes, or the form does not take it
  abbrev NoneNext : Type 0
  NoneNext = (C : ℕ) → Takes form (suc n) ps → 1 ≤ C → C ≤ suc n → Pass form (suc n) C ps es → ⊥

  keeps-none : NoneNext → s.budget ≡ 0 → NoShare form (suc n) ps es
  keeps-none next e Q q C p m h = upto (λ Q C. ⊥) (λ Q C q p m h. o.none e Q q C p m h) next Q C q p m h

  -- the earlier best stays where the next period has no budget or a larger fraction
  keeps : 1 ≤ s.budget
      → ((C : ℕ) → Takes form (suc n) ps → 1 ≤ C → C ≤ suc n → Pass form (suc n) C ps es → s.budget * suc n < C * s.period)
      → IsBest form (suc n) ps es s
  keeps p worse =
      let i = o.some p in
      record {
        offered = (i.offered.0, omega (arith, i.offered.1), i.offered.2);
        least = i.least;
        smallest = upto (λ Q C. s.budget * Q ≤ C * s.period) i.smallest (λ C f p m h. omega (arith, worse C f p m h));
        tie = upto (λ Q C. s.budget * Q ≡ C * s.period → Q ≤ s.period) i.tie (λ C f p m h e. absurd (omega (arith, worse C f p m h)));
      }

  -- the next period takes its place where no earlier one has a smaller fraction
  replaces : Takes form (suc n) ps → 1 ≤ r
      → ((Q C : ℕ) → Offers form n ps Q → 1 ≤ C → C ≤ Q → Pass form Q C ps es → r * Q ≤ C * suc n) → IsBest form (suc n) ps es new
  replaces fits p early =
      record {
        offered = (omega arith, omega arith, fits);
        least = least-means form (suc n) ps es whole p;
        smallest = upto (λ Q C. r * Q ≤ C * suc n) early (λ C f p m h. mul-le-mul_right (suc n) (under form (suc n) ps es C p h));
        tie = λ Q C q p m h e. q.1;
      }

  -- a period that the form does not take changes nothing
  skip : (Takes form (suc n) ps → ⊥) → Outcome form (suc n) ps es s
  skip not = record { none = keeps-none (λ C f p m h. not f); some = λ p. keeps p (λ C f q m h. absurd (not f)) }

  step : Takes form (suc n) ps → Outcome form (suc n) ps es (better s new)
  unfolding better
  step fits = go (eqb r 0) refl (eqb s.budget 0) refl (leb (r * s.period) (s.budget * suc n)) refl
    where
      go : (a : Bool) → eqb r 0 ≡ a → (b : Bool) → eqb s.budget 0 ≡ b → (c : Bool) → leb (r * s.period) (s.budget * suc n) ≡ c
          → Outcome form (suc n) ps es (cond a s (cond b new (cond c new s)))
      go true ea b eb c ec =
          let next : NoneNext = λ C f p m h. (least-none form (suc n) ps es whole).0 (eqb-true r 0 ea) C p m h in
          record { none = keeps-none next; some = λ p. keeps p (λ C f p m h. absurd (next C f p m h)) }
      go false ea true eb c ec =
          let none = o.none (eqb-true s.budget 0 eb) in
          record {
            none = λ z. absurd (eqb-false r 0 ea z);
            some = λ p. replaces fits p (λ Q C q p m h. absurd (none Q q C p m h));
          }
      go false ea false eb true ec =
          let i = o.some (omega (arith, eqb-false s.budget 0 eb)) in
          record {
            none = λ z. absurd (eqb-false r 0 ea z);
            some = λ p.
                replaces fits p
                (λ Q C q p m h. across r (suc n) s.budget s.period C Q i.offered.0 (leb-true _ _ ec) (i.smallest Q C q p m h));
          }
      go false ea false eb false ec =
          let more = leb-false (r * s.period) (s.budget * suc n) ec in
          record {
            none = λ z. absurd (eqb-false s.budget 0 eb z);
            some = λ p. keeps p (λ C f p m h. omega (arith, more, mul-le-mul_right s.period (under form (suc n) ps es C p h)));
          }

outcome : (form : Form) (ps es : List ℕ) → Whole ps → (n : ℕ) → Outcome form n ps es (best_of form ps es n)
unfolding best_of
outcome form ps es whole zero = record { none = λ z Q q. absurd (omega (arith, q.0, q.1)); some = λ p. absurd (omega arith) }
outcome form ps es whole (suc n) = go (best_of form ps es n) (outcome form ps es whole n) (takes form (suc n) ps) (takes-tells form (suc n) ps)
  where
    go : (s : Share) → Outcome form n ps es s → (b : Bool) → Tells b (Takes form (suc n) ps)
        → Outcome form (suc n) ps es (cond b (better s (record { period = suc n; budget = least_of form (suc n) ps es })) s)
    go s so_far true t = step form ps es whole n s so_far (t.0 refl)
    go s so_far false t = skip form ps es whole n s so_far (t.1 refl)

module _ (form : Form) (ps es : List ℕ) (whole : Whole ps) (n : ℕ) where
  pub best-means : 1 ≤ (best_of form ps es n).budget → IsBest form n ps es (best_of form ps es n)
  best-means = (outcome form ps es whole n).some

  pub best_none : (best_of form ps es n).budget ≡ 0 ↔ NoShare form n ps es
  best_none = ((outcome form ps es whole n).none, λ h. go h (eq-zero-or-pos (best_of form ps es n).budget))
    where
      go : NoShare form n ps es → ((best_of form ps es n).budget ≡ 0) ⊎ (0 < (best_of form ps es n).budget) → (best_of form ps es n).budget ≡ 0
      go h (inl z) = z
      go h (inr p) =
          let i = best-means p in
          absurd (h (best_of form ps es n).period i.offered (best_of form ps es n).budget p i.least.to_P i.least.passing)

  -- what holds of a best one and any share that passes holds of it and another best one
  of_another : (A : ℕ → ℕ → Type 0) → ((Q C : ℕ) → Offers form n ps Q → 1 ≤ C → C ≤ Q → Pass form Q C ps es → A Q C)
      → (s : Share) → IsBest form n ps es s → A s.period s.budget
  of_another A h s j = h s.period s.budget j.offered j.least.from_1 j.least.to_P j.least.passing

  -- of two best ones each has no larger fraction than the other, then no larger period
  pub best-only : (s : Share) → IsBest form n ps es s → best_of form ps es n ≡ s
  best-only s j = go (eq-zero-or-pos (best_of form ps es n).budget)
    where
      go : ((best_of form ps es n).budget ≡ 0) ⊎ (0 < (best_of form ps es n).budget) → best_of form ps es n ≡ s
      go (inl z) = absurd (of_another (λ Q C. ⊥) (λ Q C q p m h. best_none.0 z Q q C p m h) s j)
      go (inr p) = same (best_of form ps es n) (best-means p)
        where
          same : (t : Share) → IsBest form n ps es t → t ≡ s
          same t i =
              let one = of_another (λ Q C. t.budget * Q ≤ C * t.period) i.smallest s j in
              let two = of_another (λ Q C. s.budget * Q ≤ C * s.period) j.smallest t i in
              let even : t.budget * s.period ≡ s.budget * t.period = omega (arith, one, two) in
              let up = of_another (λ Q C. t.budget * Q ≡ C * t.period → Q ≤ t.period) i.tie s j even in
              let down = of_another (λ Q C. s.budget * Q ≡ C * s.period → Q ≤ s.period) j.tie t i (sym even) in
              let period : t.period ≡ s.period = omega (arith, up, down) in
              let mine = least-only form t.period ps es whole t.budget i.least in
              let other = least-only form s.period ps es whole s.budget j.least in
              same-share t s period (sym mine ∙ ap (λ (P : ℕ). least_of form P ps es) period ∙ other)
