-- The digits that bytes begin with, a number and a line, as the code finds them there. Assumes nothing.
use Prim.Native.Nat.{ℕ, zero, suc, ◌+◌, ◌-◌, ◌*◌, ◌≤◌, ◌<◌}
use mathlib.Core.Path.{◌≡◌, refl, ap, sym, ◌∙◌, subst}
use mathlib.Core.Bool.{Bool, true, false, cond, ◌&&◌}
use mathlib.Core.List.{List, [], ◌∷◌, ◌++◌}
use native.Mathlib.Omega.{arith}
use native.Mathlib.Numerals.{add-one}
use lib.ListN.{length, get_or, take, drop, length-append}
use lib.Seq.{drop-cons, take-append_seam}
use Rattle.std.specs.List.{prefix_len}
use Rattle.std.specs.Prelude.{Option, Some, None, option_map}
use Rattle.std.specs.Borrow.{Bor}
use Rattle.text.specs.Text.{decimal, number, number_from}
use Rattle.sheets.specs.Sheet.{is_digit, digits, behind_digits, is_number, starts, cost_at, is_line, behind_line, line_of}
use Rattle.sheets.specs.Private.{number_read, after, ending, cost_read, behind_period, line_read, line_seen}
use Rattle.sheets.proofs.OneLine.{line-said}
use Rattle.sheets.proofs.Digits.{few-digits, split, AllDigits, all_digits_lem, digits_whole, is-number, said}

-- the digits are the bytes up to the first that is none
pub taken : (bs : List ℕ) → take (prefix_len is_digit bs) bs ≡ digits bs
taken [] = refl
taken (b ∷ bs) = go (is_digit b) (taken bs)
  where
    go : (t : Bool) → take (prefix_len is_digit bs) bs ≡ digits bs
        → take (cond t (1 + prefix_len is_digit bs) 0) (b ∷ bs) ≡ cond t (b ∷ digits bs) []
    go true h =
        let one : 1 + prefix_len is_digit bs ≡ suc (prefix_len is_digit bs) = omega arith in
        ap (λ (k : ℕ). take k (b ∷ bs)) one ∙ ap (λ (l : List ℕ). b ∷ l) h
    go false h = refl

pub front : (bs : List ℕ) → take (length (digits bs)) bs ≡ digits bs
front bs = ap (take (length (digits bs))) (split bs) ∙ take-append_seam (digits bs) (behind_digits bs)

-- digits alone are all digits
pub only_digits : (bs : List ℕ) → digits (digits bs) ≡ digits bs
only_digits bs = digits_whole (digits bs) (all_digits_lem bs)

-- more digits make no number smaller
number-grows : (n : ℕ) (ds : List ℕ) → n ≤ number_from n ds
number-grows n [] = omega arith
number-grows n (d ∷ ds) = omega (arith, number-grows (n * 10 + (d - 48)) ds)

all-at : (ds : List ℕ) (k : ℕ) → AllDigits ds → k < length ds → (48 ≤ get_or ds k 0) × (get_or ds k 0 ≤ 57)
all-at [] k a h = absurd (omega arith)
all-at (d ∷ ds) zero a h = (a.0, a.1)
all-at (d ∷ ds) (suc k) a h = all-at ds k a.2 (omega arith)

-- one turn of the loop that reads a number
pub record Turn (s : List ℕ) (n k : ℕ) : Type 0 where
  pub low : 48 ≤ get_or s k 0
  pub high : get_or s k 0 ≤ 57
  pub fits : n * 10 + (get_or s k 0 - 48) ≤ number s
  pub same : number_from (n * 10 + (get_or s k 0 - 48)) (drop (k + 1) s) ≡ number s

pub turn : (s : List ℕ) (n k : ℕ) → digits s ≡ s → k < length s → number_from n (drop k s) ≡ number s → Turn s n k
turn s n k all inside same =
    let d = all-at s k (subst AllDigits all (all_digits_lem s)) inside in
    let next : number_from (n * 10 + (get_or s k 0 - 48)) (drop (suc k) s) ≡ number s = sym (ap (number_from n) (drop-cons s k 0 inside)) ∙ same in
    record {
      low = d.0;
      high = d.1;
      fits = omega (arith, next, number-grows (n * 10 + (get_or s k 0 - 48)) (drop (suc k) s));
      same = rw add-one next;
    }

-- a number of one to four digits is small
pub digits-fit : (s : List ℕ) → is_number (digits s) ≡ true → number (digits s) ≤ 9999
digits-fit s e = (said (digits s) (all_digits_lem s) e).1

pub ruleset cuts = (front, only_digits, few-digits, digits-fit)

-- a line, piece by piece
after-is : (b : ℕ) (xs : List ℕ) → after b xs ≡ cond (starts b xs) (Some (drop 1 xs)) None
after-is b [] = refl
after-is b (x ∷ xs) = refl

ending-is : (p e : ℕ) (xs : List ℕ) → ending p (Some (e, xs)) ≡ cond (starts 10 xs) (Some (p, e, drop 1 xs)) None
ending-is p e xs = ap (λ (o : Option (List ℕ)). option_map found o) (after-is 10 xs) ∙ go (starts 10 xs)
  where
    found : List ℕ → ℕ × ℕ × List ℕ
    found ys = (p, e, ys)

    go : (t : Bool) → option_map found (cond t (Some (drop 1 xs)) None) ≡ cond t (Some (p, e, drop 1 xs)) None
    go true = refl
    go false = refl

cost-is : (p : ℕ) (xs : List ℕ)
    → cost_read p (Some xs) ≡ cond (is_number (digits xs) && starts 10 (behind_digits xs)) (Some (p, number (digits xs), drop 1 (behind_digits xs))) None
unfolding number_read
cost-is p xs = go (is_number (digits xs))
  where
    go : (t : Bool) → ending p (cond t (Some (number (digits xs), behind_digits xs)) None)
        ≡ cond (t && starts 10 (behind_digits xs)) (Some (p, number (digits xs), drop 1 (behind_digits xs))) None
    go true = ending-is p (number (digits xs)) (behind_digits xs)
    go false = refl

pub line-is : (bs : List ℕ) → line_read bs ≡ cond (is_line bs) (Some (number (digits bs), number (digits (cost_at bs)), behind_line bs)) None
unfolding line_read number_read is_line
line-is bs = go (is_number (digits bs))
  where
    p : ℕ
    p = number (digits bs)

    all : Option (ℕ × ℕ × List ℕ)
    all = Some (number (digits bs), number (digits (cost_at bs)), behind_line bs)

    rest : Bool
    rest = is_number (digits (cost_at bs)) && starts 10 (behind_digits (cost_at bs))

    spaced : (t : Bool) → cost_read p (cond t (Some (cost_at bs)) None) ≡ cond (t && rest) all None
    spaced true = cost-is p (cost_at bs)
    spaced false = refl

    go : (t : Bool) → behind_period (cond t (Some (p, behind_digits bs)) None) ≡ cond ((t && starts 32 (behind_digits bs)) && rest) all None
    go true = ap (cost_read p) (after-is 32 (behind_digits bs)) ∙ spaced (starts 32 (behind_digits bs))
    go false = refl

-- a line that was read, and one that was not
abbrev said_line : List ℕ → Option (ℕ × ℕ × List ℕ)
said_line bs = Some (number (digits bs), number (digits (cost_at bs)), behind_line bs)

pub no_line : (bs : List ℕ) → None ≡ line_read bs → is_line bs ≡ false
no_line bs e = go (is_line bs) (e ∙ line-is bs)
  where
    go : (t : Bool) → None ≡ cond t (said_line bs) None → t ≡ false
    go true h = cc
    go false h = refl

pub record LineIs (bs : List ℕ) (p e : ℕ) (rest : List ℕ) : Type 0 where
  pub line : is_line bs ≡ true
  pub period : p ≡ number (digits bs)
  pub cost : e ≡ number (digits (cost_at bs))
  pub left : rest ≡ behind_line bs

line_said : (bs : List ℕ) (p e : ℕ) (rest : List ℕ) → line_read bs ≡ Some (p, e, rest) → LineIs bs p e rest
line_said bs p e rest h = go (is_line bs) refl (sym (line-is bs) ∙ h)
  where
    found : Option (ℕ × ℕ × List ℕ) → ℕ × ℕ × List ℕ
    found None = (0, 0, [])
    found (Some l) = l

    go : (t : Bool) → is_line bs ≡ t → cond t (said_line bs) None ≡ Some (p, e, rest) → LineIs bs p e rest
    go true l k = record {
      line = l;
      period = sym (ap (λ o. (found o).0) k);
      cost = sym (ap (λ o. (found o).1) k);
      left = sym (ap (λ o. (found o).2) k);
    }
    go false l k = cc

-- as the code sees them
pub found_none : (bs : List ℕ) (r : Option (ℕ × ℕ × Bor (List ℕ))) → line_seen r ≡ line_read bs → r ≡ None → is_line bs ≡ false
found_none bs r h e = no_line bs (sym (ap line_seen e) ∙ h)

pub found_line : (bs : List ℕ) (r : Option (ℕ × ℕ × Bor (List ℕ))) (p e : ℕ) (b : Bor (List ℕ)) → line_seen r ≡ line_read bs
    → r ≡ Some (p, e, b) → LineIs bs p e b.now
found_line bs r p e b h k = line_said bs p e b.now (sym h ∙ ap line_seen k)

-- its numbers are small, and less is left than there was
pub small_line : (bs : List ℕ) (p e : ℕ) (rest : List ℕ) → LineIs bs p e rest → (p ≤ 9999) × (e ≤ 9999)
small_line bs p e rest l =
    let b = line-said bs l.line in (omega (arith, b.small-period, l.period), omega (arith, b.small-cost, l.cost))

pub less-left : (bs : List ℕ) (p e : ℕ) (rest : List ℕ) → LineIs bs p e rest → length rest < length bs
less-left bs p e rest l =
    let b = line-said bs l.line in
    omega (
      arith,
      ap length b.same,
      ap length l.left,
      length-append (line_of (number (digits bs)) (number (digits (cost_at bs)))) (behind_line bs),
      length-append (decimal (number (digits bs))) (32 ∷ (decimal (number (digits (cost_at bs))) ++ (10 ∷ []))),
    )
