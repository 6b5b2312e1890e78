-- The bytes that begin with a line are that line's text and the bytes behind it, and how lines are read one after the other.
-- Assumes nothing.
use Prim.Native.Nat.{ℕ, zero, suc, ◌≤◌}
use mathlib.Core.Path.{◌≡◌, refl, ap, sym, ◌∙◌, subst}
use mathlib.Core.Bool.{Bool, true, false, cond, ◌&&◌}
use mathlib.Core.List.{List, [], ◌∷◌, ◌++◌, append_assoc}
use native.Mathlib.Omega.{arith}
use lib.ListN.{length, drop}
use lib.Seq.{drop-append_seam}
use borrow.Author.Tests.{eqb-true}
use Rattle.model.proofs.Tests.{and_both, and-true, clash}
use Rattle.text.specs.Text.{decimal, number}
use Rattle.text.proofs.Figures.{decimal-says}
use Rattle.sheets.specs.Sheet.{sheet, bad, is_digit, digits, behind_digits, is_number, starts, cost_at, is_line, behind_line}
use Rattle.sheets.specs.Sheet.{no_tasks, before, read_from, line_of}
use Rattle.sheets.proofs.Digits.{split, all_digits_lem, digits-before, said, decimal-digits, decimal-number}

starts_with : (b : ℕ) (xs : List ℕ) → starts b xs ≡ true → xs ≡ b ∷ drop 1 xs
starts_with b [] e = absurd (clash e refl)
starts_with b (x ∷ xs) e = ap (λ (y : ℕ). y ∷ xs) (eqb-true x b e)

-- what the test of a line says
pub record Parts (bs : List ℕ) : Type 0 where
  pub period : is_number (digits bs) ≡ true
  pub space : starts 32 (behind_digits bs) ≡ true
  pub cost : is_number (digits (cost_at bs)) ≡ true
  pub end : starts 10 (behind_digits (cost_at bs)) ≡ true

pub line-parts : (bs : List ℕ) → is_line bs ≡ true → Parts bs
unfolding is_line
line-parts bs e =
    let t = and_both (is_number (digits bs) && starts 32 (behind_digits bs))
    (is_number (digits (cost_at bs)) && starts 10 (behind_digits (cost_at bs))) e in
    let front = and_both (is_number (digits bs)) (starts 32 (behind_digits bs)) t.0 in
    let back = and_both (is_number (digits (cost_at bs))) (starts 10 (behind_digits (cost_at bs))) t.1 in
    record { period = front.0; space = front.1; cost = back.0; end = back.1 }

pub is-line : (bs : List ℕ) → Parts bs → is_line bs ≡ true
unfolding is_line
is-line bs p =
    and-true (is_number (digits bs) && starts 32 (behind_digits bs)) (is_number (digits (cost_at bs)) && starts 10 (behind_digits (cost_at bs)))
    (and-true (is_number (digits bs)) (starts 32 (behind_digits bs)) p.period p.space)
    (and-true (is_number (digits (cost_at bs))) (starts 10 (behind_digits (cost_at bs))) p.cost p.end)

-- a line and what stands behind it, without the inner brackets
line-and : (p e : ℕ) (more : List ℕ) → line_of p e ++ more ≡ decimal p ++ (32 ∷ (decimal e ++ (10 ∷ more)))
line-and p e more =
    append_assoc (decimal p) (32 ∷ (decimal e ++ (10 ∷ []))) more
    ∙ ap (λ (l : List ℕ). decimal p ++ (32 ∷ l)) (append_assoc (decimal e) (10 ∷ []) more)

-- bytes that begin with a line
pub record Begins (bs : List ℕ) (p e : ℕ) (more : List ℕ) : Type 0 where
  pub same : bs ≡ line_of p e ++ more
  pub small-period : p ≤ 9999
  pub small-cost : e ≤ 9999

pub line-said : (bs : List ℕ) → is_line bs ≡ true → Begins bs (number (digits bs)) (number (digits (cost_at bs))) (behind_line bs)
line-said bs t =
    let l = line-parts bs t in
    let period = said (digits bs) (all_digits_lem bs) l.period in
    let cost = said (digits (cost_at bs)) (all_digits_lem (cost_at bs)) l.cost in
    record {
      same =
          split bs
          ∙ ap (λ (r : List ℕ). digits bs ++ r) (starts_with 32 (behind_digits bs) l.space)
          ∙ ap (λ (r : List ℕ). digits bs ++ (32 ∷ r))
          (split (cost_at bs) ∙ ap (λ (r : List ℕ). digits (cost_at bs) ++ r) (starts_with 10 (behind_digits (cost_at bs)) l.end))
          ∙ ap (λ (d : List ℕ). d ++ (32 ∷ (digits (cost_at bs) ++ (10 ∷ behind_line bs)))) (sym period.0)
          ∙ ap (λ (d : List ℕ). decimal (number (digits bs)) ++ (32 ∷ (d ++ (10 ∷ behind_line bs)))) (sym cost.0)
          ∙ sym (line-and (number (digits bs)) (number (digits (cost_at bs))) (behind_line bs));
      small-period = period.1;
      small-cost = cost.1;
    }

-- and what the test makes of a line
pub record Reads (bs : List ℕ) (p e : ℕ) (more : List ℕ) : Type 0 where
  pub line : is_line bs ≡ true
  pub period : number (digits bs) ≡ p
  pub cost : number (digits (cost_at bs)) ≡ e
  pub rest : behind_line bs ≡ more

-- the digits of a number before another byte
module _ (n b : ℕ) (more : List ℕ) (other : is_digit b ≡ false) where
  found : digits (decimal n ++ (b ∷ more)) ≡ decimal n
  found = digits-before (decimal n) b more (decimal-digits n) other

  behind-found : behind_digits (decimal n ++ (b ∷ more)) ≡ b ∷ more
  behind-found =
      ap (λ (l : List ℕ). drop (length l) (decimal n ++ (b ∷ more))) found ∙ drop-append_seam (decimal n) (b ∷ more)

pub line_reads : (bs : List ℕ) (p e : ℕ) (more : List ℕ) → Begins bs p e more → Reads bs p e more
line_reads bs p e more begins = subst (λ (l : List ℕ). Reads l p e more) (sym (begins.same ∙ line-and p e more)) reads
  where
    rest : List ℕ
    rest = decimal e ++ (10 ∷ more)

    line : List ℕ
    line = decimal p ++ (32 ∷ rest)

    at-cost : cost_at line ≡ rest
    at-cost = ap (drop 1) (behind-found p 32 rest refl)

    period : digits line ≡ decimal p
    period = found p 32 rest refl

    cost : digits (cost_at line) ≡ decimal e
    cost = ap digits at-cost ∙ found e 10 more refl

    behind-cost : behind_digits (cost_at line) ≡ 10 ∷ more
    behind-cost = ap behind_digits at-cost ∙ behind-found e 10 more refl

    reads : Reads line p e more
    reads = record {
      line =
          is-line line
          (record {
            period = ap is_number period ∙ decimal-number p begins.small-period;
            space = ap (starts 32) (behind-found p 32 rest refl);
            cost = ap is_number cost ∙ decimal-number e begins.small-cost;
            end = ap (starts 10) behind-cost;
          });
      period = ap number period ∙ decimal-says p (omega (arith, begins.small-period));
      cost = ap number cost ∙ decimal-says e (omega (arith, begins.small-cost));
      rest = ap (drop 1) behind-cost;
    }

-- how lines are read
pub read_none : (n k : ℕ) → read_from n k [] ≡ sheet no_tasks
unfolding read_from
read_none zero k = refl
read_none (suc n) k = refl

pub read_more : (k : ℕ) (bs : List ℕ) → 1 ≤ length bs → read_from 0 k bs ≡ bad k
unfolding read_from
read_more k [] h = absurd (omega arith)
read_more k (b ∷ bs) h = refl

pub read-bad : (n k : ℕ) (bs : List ℕ) → 1 ≤ length bs → is_line bs ≡ false → read_from (suc n) k bs ≡ bad k
unfolding read_from
read-bad n k [] h e = absurd (omega arith)
read-bad n k (b ∷ bs) h e = rw e

pub some_bytes : (bs : List ℕ) → is_line bs ≡ true → 1 ≤ length bs
unfolding is_line is_number
some_bytes [] e = absurd (clash e refl)
some_bytes (b ∷ bs) e = omega arith

pub read-line : (n k : ℕ) (bs : List ℕ) → is_line bs ≡ true
    → read_from (suc n) k bs ≡ before (number (digits bs)) (number (digits (cost_at bs))) (read_from n (suc k) (behind_line bs))
unfolding read_from
read-line n k [] e = absurd (omega (arith, some_bytes [] e))
read-line n k (b ∷ bs) e =
    ap (λ (t : Bool). cond t (before (number (digits (b ∷ bs))) (number (digits (cost_at (b ∷ bs)))) (read_from n (suc k) (behind_line (b ∷ bs)))) (bad k))
    e
