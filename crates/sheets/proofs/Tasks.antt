-- The tasks that the loop of `read` has gathered: they and what the lines left give make what all lines give, and a sheet keeps them.
-- Assumes nothing.
use Prim.Native.Nat.{ℕ, zero, suc, ◌+◌, ◌-◌, ◌≤◌, ◌<◌}
use mathlib.Core.Path.{◌≡◌, refl, ap, sym, ◌∙◌}
use mathlib.Core.Bool.{true, false}
use mathlib.Core.List.{List, [], ◌∷◌, ◌++◌, append-nil}
use native.Mathlib.Omega.{arith}
use native.Mathlib.Numerals.{add-one}
use lib.ListN.{length, drop, set, replicate, length-set, length-append}
use lib.Seq.{drop-drop, drop-set-lt, append_snoc}
use Rattle.std.specs.Prelude.{Option, Some, None}
use Rattle.text.specs.Text.{number}
use Rattle.model.specs.Asked.{Work}
use Rattle.sheets.specs.declared.sheet.Sheet.TheInside.{Inside}
use Rattle.sheets.specs.Kept.{ValidSheet}
use Rattle.sheets.specs.Sheet.{Read, sheet, bad, digits, cost_at, is_line, behind_line, no_tasks, before, read_from, read_of}
use Rattle.sheets.specs.Private.{Small, behind, and_task, Pushed}
use Rattle.sheets.proofs.OneLine.{read_none, read_more, read-bad, read-line}

-- one number stored
small-set : (l : List ℕ) (k v : ℕ) → Small l → v ≤ 9999 → Small (set l k v)
small-set [] k v s h i = s i
small-set (x ∷ l) zero v s h zero = h
small-set (x ∷ l) zero v s h (suc i) = s (suc i)
small-set (x ∷ l) (suc k) v s h zero = s 0
small-set (x ∷ l) (suc k) v s h (suc i) = small-set l k v (λ j. s (suc j)) h i

none-set : (l : List ℕ) (k v : ℕ) → k < 16 → drop k l ≡ replicate (16 - k) 0 → drop (k + 1) (set l k v) ≡ replicate (16 - (k + 1)) 0
none-set l k v room none =
    let more : 16 - k ≡ suc (16 - (k + 1)) = omega arith in
    drop-set-lt (k + 1) l k v (omega arith)
    ∙ sym (drop-drop 1 k l)
    ∙ ap (drop 1) none
    ∙ ap (λ (n : ℕ). drop 1 (replicate n 0)) more

pub pushed_valid : (s : Inside) (p e : ℕ) → ValidSheet s → (s.count ≡ 16 → ⊥) → p ≤ 9999 → e ≤ 9999
    → ValidSheet (record { count = s.count + 1; periods = set s.periods s.count p; costs = set s.costs s.count e })
pushed_valid s p e v room a b =
    let few : s.count < 16 = omega (arith, v.few, room) in
    record {
      few = omega arith;
      sized_periods = length-set s.periods s.count p ∙ v.sized_periods;
      sized_costs = length-set s.costs s.count e ∙ v.sized_costs;
      small-periods = small-set s.periods s.count p v.small-periods a;
      small-costs = small-set s.costs s.count e v.small-costs b;
      no-more-periods = none-set s.periods s.count p few v.no-more-periods;
      no-more-costs = none-set s.costs s.count e few v.no-more-costs;
    }

behind-none : (r : Read) → r ≡ behind [] [] r
behind-none (sheet w) = refl
behind-none (bad k) = refl

behind-one : (ps es : List ℕ) (p e : ℕ) (r : Read) → behind ps es (before p e r) ≡ behind (ps ++ (p ∷ [])) (es ++ (e ∷ [])) r
behind-one ps es p e (sheet w) =
    ap (λ (l : List ℕ). sheet (record { periods = l; costs = es ++ (e ∷ w.costs) })) (sym (append_snoc ps p w.periods))
    ∙ ap (λ (l : List ℕ). sheet (record { periods = (ps ++ (p ∷ [])) ++ w.periods; costs = l })) (sym (append_snoc es e w.costs))
behind-one ps es p e (bad k) = refl

-- what the tasks so far and the bytes left give
abbrev pub so_far : Work → List ℕ → Read
so_far w bs = behind w.periods w.costs (read_from (16 - length w.periods) (suc (length w.periods)) bs)

pub gathered_none : (bytes : List ℕ) → read_of bytes ≡ so_far no_tasks bytes
gathered_none bytes = behind-none (read_of bytes)

empty : (bs : List ℕ) → length bs ≡ 0 → bs ≡ []
empty [] e = refl
empty (b ∷ bs) e = absurd (omega arith)

module _ (bytes bs : List ℕ) (w : Work) (g : read_of bytes ≡ so_far w bs) where
  abbrev ps : List ℕ
  ps = w.periods

  abbrev es : List ℕ
  es = w.costs

  abbrev n : ℕ
  n = length w.periods

  pub all_lines : length bs ≡ 0 → sheet w ≡ read_of bytes
  all_lines none =
      sym
      (g
      ∙ ap (so_far w) (empty bs none)
      ∙ ap (behind ps es) (read_none (16 - n) (suc n))
      ∙ ap (λ (l : List ℕ). sheet (record { periods = l; costs = es ++ [] })) (append-nil ps)
      ∙ ap (λ (l : List ℕ). sheet (record { periods = ps; costs = l })) (append-nil es))

  pub line_too_many : n ≡ 16 → 1 ≤ length bs → bad (n + 1) ≡ read_of bytes
  line_too_many full some =
      let none : 16 - n ≡ 0 = omega arith in
      sym
      (g
      ∙ ap (behind ps es) (ap (λ (k : ℕ). read_from k (suc n) bs) none ∙ read_more (suc n) bs some)
      ∙ ap bad (sym (add-one n)))

  pub bad-line : n ≤ 16 → 1 ≤ length bs → is_line bs ≡ false → bad (n + 1) ≡ read_of bytes
  bad-line few some e = sym (g ∙ ap (behind ps es) (stop (16 - n)) ∙ ap bad (sym (add-one n)))
    where
      stop : (k : ℕ) → read_from k (suc n) bs ≡ bad (suc n)
      stop zero = read_more (suc n) bs some
      stop (suc k) = read-bad k (suc n) bs some e

  module _ (p e : ℕ) (rest : List ℕ) (line : is_line bs ≡ true) (period : p ≡ number (digits bs)) (cost : e ≡ number (digits (cost_at bs)))
      (left : rest ≡ behind_line bs) where
    one-line : (k : ℕ) → read_from (suc k) (suc n) bs ≡ before p e (read_from k (suc (suc n)) rest)
    one-line k =
        read-line k (suc n) bs line
        ∙ ap (λ (x : ℕ). before x (number (digits (cost_at bs))) (read_from k (suc (suc n)) (behind_line bs))) (sym period)
        ∙ ap (λ (x : ℕ). before p x (read_from k (suc (suc n)) (behind_line bs))) (sym cost)
        ∙ ap (λ (l : List ℕ). before p e (read_from k (suc (suc n)) l)) (sym left)

    pub gathered-more : n < 16 → read_of bytes ≡ so_far (and_task w p e) rest
    gathered-more room =
        let more : 16 - n ≡ suc (16 - suc n) = omega arith in
        let size : suc n ≡ length (ps ++ (p ∷ [])) = omega (arith, length-append ps (p ∷ [])) in
        g
        ∙ ap (behind ps es) (ap (λ (k : ℕ). read_from k (suc n) bs) more ∙ one-line (16 - suc n))
        ∙ behind-one ps es p e (read_from (16 - suc n) (suc (suc n)) rest)
        ∙ ap (λ (k : ℕ). behind (ps ++ (p ∷ [])) (es ++ (e ∷ [])) (read_from (16 - k) (suc k) rest)) size

-- what a push tells
pub full-push : (w : Work) (p e : ℕ) (v : Work) (r : Option (Unit {0})) → Pushed w p e v r → r ≡ None → length w.periods ≡ 16
full-push w p e v None h k = h.0
full-push w p e v (Some u) h k = cc

pub pushed : (w : Work) (p e : ℕ) (v : Work) (r : Option (Unit {0})) (u : Unit {0}) → Pushed w p e v r → r ≡ Some u
    → (length w.periods < 16) × (v ≡ and_task w p e)
pushed w p e v None u h k = cc
pushed w p e v (Some x) u h k = h
