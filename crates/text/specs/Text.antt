-- The pieces that the lines of both programs are made of: numbers in decimal, fields, and bytes put at a place. Assumes nothing.
use Rattle.std.specs.Prelude.{ℕ, zero, suc, ◌+◌, ◌-◌, ◌*◌, ◌/◌, ◌%◌, Bool, true, false, cond, ◌&&◌, List, [], ◌∷◌, ◌++◌, ◌≡◌, ltb, eqb, length, drop}
use Rattle.std.proofs.lemmas.List.Edits.{sets}

-- the decimal digits of n, the most significant first, at most k of them
unfoldable pub figures : ℕ → ℕ → List ℕ
figures zero n = []
figures (suc k) n = cond (ltb n 10) ((48 + n) ∷ []) (figures k (n / 10) ++ ((48 + n % 10) ∷ []))

-- a number below 2 ^ 64 has at most 20
abbrev pub decimal : ℕ → List ℕ
decimal n = figures 20 n

-- the number that the digits behind n make of it
abbrev pub number_from : ℕ → List ℕ → ℕ
number_from n [] = n
number_from n (b ∷ bs) = number_from (n * 10 + (b - 48)) bs

abbrev pub number : List ℕ → ℕ
number digits = number_from 0 digits

-- the bytes are those of a word
abbrev pub same : List ℕ → List ℕ → Bool
same [] [] = true
same [] (y ∷ ys) = false
same (x ∷ xs) [] = false
same (x ∷ xs) (y ∷ ys) = eqb x y && same xs ys

-- "ok", "no"
abbrev pub ok : List ℕ
ok = 111 ∷ 107 ∷ []

abbrev pub no : List ℕ
no = 110 ∷ 111 ∷ []

-- each field behind a space, then a newline
abbrev pub fields : List (List ℕ) → List ℕ
fields [] = 10 ∷ []
fields (f ∷ fs) = (32 ∷ f) ++ fields fs

-- a text at the start, and the rest as it was
abbrev pub over : List ℕ → List ℕ → List ℕ
over text before = text ++ drop (length text) before

-- `after` is `before` with xs at the place `at`, and `next` is the place behind them
pub record Put (before : List ℕ) (at : ℕ) (xs after : List ℕ) (next : ℕ) : Type 0 where
  pub behind : next ≡ at + length xs
  pub stored : after ≡ sets before at xs

-- a space and the digits of n, where 20 of them would have room behind it at the place `at`; else nothing
abbrev pub field_in : List ℕ → ℕ → ℕ → List ℕ
field_in out at n = cond (ltb (length out) (at + 21)) [] (32 ∷ decimal n)

-- a newline, where it has room
abbrev pub end_in : List ℕ → ℕ → List ℕ
end_in out at = cond (ltb at (length out)) (10 ∷ []) []

-- a text, where all of it has room
abbrev pub text_in : List ℕ → ℕ → List ℕ → List ℕ
text_in out at text = cond (ltb (length out) (at + length text)) [] text
