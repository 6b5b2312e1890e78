-- A line shows its reply and no other, so that the replies can be read off what is written. Assumes of a reply only that its numbers are
-- below 2 ^ 64, which its declared types guarantee.
use Prim.Native.Nat.{ℕ, zero, suc, ◌+◌, ◌/◌, ◌%◌, ◌^◌, ◌≤◌, ◌<◌}
use mathlib.Core.Path.{◌≡◌, refl, ap, sym, ◌∙◌, subst}
use mathlib.Core.Logic.{◌⊎◌, inl, inr}
use mathlib.Core.List.{List, [], ◌∷◌, ◌++◌}
use mathlib.Core.Option.{Option, none, some}
use Rattle.std.specs.Prelude.{Result, Ok, Err}
use Rattle.std.specs.Result.{MatchResult, IsErrAnd}
use Rattle.std.proofs.lemmas.Result.{err_from_is_err_and}
use native.Mathlib.Omega.{arith}
use Rattle.rules.specs.Lists.{All}
use Rattle.rules.specs.Refuse.{Refusal as RefusalRule}
use Rattle.rules.specs.Turn.{Report as ReportRule}
use Rattle.rules.specs.Turn.{Reply as Said}
use Rattle.rules.specs.Turn.{ok, refused}
use Rattle.turns.specs.declared.Report.{Report}
use Rattle.turns.specs.declared.Refusal.{Refusal}
use Rattle.turns.specs.Calls.{paper_reply, report_said, reply_said}
use Rattle.turns.proofs.Paper.{said-paper}
use Rattle.rules.proofs.Lists.{all_imp}
use Rattle.text.specs.Text.{figures, decimal, number, fields}
use Rattle.text.proofs.Figures.{one-or-more, figures-one, figures-step, decimal-says}
use Rattle.records.specs.declared.answers.BadRecord.{BadRecord}
use Rattle.records.specs.Answer.{paper_bad}
use Rattle.lines.specs.declared.line.Row.{Row}
use Rattle.lines.specs.Text.{dash, or_dash, refusal_text, line_said, line_of, row_of, record_row, row_said}

-- no space and no newline in it
abbrev Plain : List ℕ → Type 0
Plain f = All (λ b. 33 ≤ b) f

apart : (f g : List ℕ) (a b : ℕ) (x y : List ℕ) → Plain f → Plain g → a ≤ 32 → b ≤ 32 → f ++ (a ∷ x) ≡ g ++ (b ∷ y)
    → (f ≡ g) × (a ∷ x ≡ b ∷ y)
apart [] [] a b x y p q m n e = (refl, e)
apart [] (d ∷ g) a b x y p q m n e = let h : a ≡ d = cc in absurd (omega (arith, h, q.0))
apart (c ∷ f) [] a b x y p q m n e = let h : c ≡ b = cc in absurd (omega (arith, h, p.0))
apart (c ∷ f) (d ∷ g) a b x y p q m n e =
    let h : c ≡ d = cc in
    let t : f ++ (a ∷ x) ≡ g ++ (b ∷ y) = cc in
    let r = apart f g a b x y p.1 q.1 m n t in
    (ap (λ (z : ℕ). z ∷ f) h ∙ ap (λ (l : List ℕ). d ∷ l) r.0, r.1)

front-apart : (f g : List ℕ) (fs gs : List (List ℕ)) → Plain f → Plain g → f ++ fields fs ≡ g ++ fields gs
    → (f ≡ g) × (fields fs ≡ fields gs)
front-apart f g [] [] p q e = apart f g 10 10 [] [] p q (omega arith) (omega arith) e
front-apart f g [] (k ∷ gs) p q e = apart f g 10 32 [] (k ++ fields gs) p q (omega arith) (omega arith) e
front-apart f g (h ∷ fs) [] p q e = apart f g 32 10 (h ++ fields fs) [] p q (omega arith) (omega arith) e
front-apart f g (h ∷ fs) (k ∷ gs) p q e = apart f g 32 32 (h ++ fields fs) (k ++ fields gs) p q (omega arith) (omega arith) e

next_field : (f g : List ℕ) (fs gs : List (List ℕ)) → Plain f → Plain g → fields (f ∷ fs) ≡ fields (g ∷ gs)
    → (f ≡ g) × (fields fs ≡ fields gs)
next_field f g fs gs p q e = let t : f ++ fields fs ≡ g ++ fields gs = cc in front-apart f g fs gs p q t

digits-then : (xs ys : List ℕ) → All (λ b. 48 ≤ b) xs → All (λ b. 48 ≤ b) ys → All (λ b. 48 ≤ b) (xs ++ ys)
digits-then [] ys h k = k
digits-then (x ∷ xs) ys h k = (h.0, digits-then xs ys h.1 k)

digits : (k n : ℕ) → All (λ b. 48 ≤ b) (figures k n)
unfolding figures
digits zero n = tt
digits (suc k) n = go (one-or-more n) (digits k (n / 10))
  where
    go : (n < 10) ⊎ (10 ≤ n) → All (λ b. 48 ≤ b) (figures k (n / 10)) → All (λ b. 48 ≤ b) (figures (suc k) n)
    go (inl h) r = rw (figures-one k n h) (omega arith, tt)
    go (inr h) r = rw (figures-step k n h) (digits-then (figures k (n / 10)) ((48 + n % 10) ∷ []) r (omega arith, tt))

plain-decimal : (n : ℕ) → Plain (decimal n)
plain-decimal n = all_imp (λ b h. omega arith) (decimal n) (digits 20 n)

same_number : (n m : ℕ) → n < 2 ^ 64 → m < 2 ^ 64 → decimal n ≡ decimal m → n ≡ m
same_number n m h k e = sym (decimal-says n h) ∙ ap number e ∙ decimal-says m k

no-dash : {A : Type 0} (n : ℕ) → dash ≡ decimal n → A
no-dash n e = absurd (omega (arith, (subst (All (λ b. 48 ≤ b)) (sym e) (digits 20 n)).0))

abbrev pub IfThereFits : Option ℕ → Type 0
IfThereFits none = Unit {0}
IfThereFits (some n) = n < 2 ^ 64

-- its numbers are below 2 ^ 64
abbrev pub Fits : Said → Type 0
Fits (ok r) =
    (r.time < 2 ^ 64) × (IfThereFits r.run) × (r.usable < 2 ^ 64) × (IfThereFits r.timer) × (r.brought < 2 ^ 64)
Fits (refused r) = (r.number < 2 ^ 64) × (r.detail < 2 ^ 64)

plain-dash : (o : Option ℕ) → Plain (or_dash o)
plain-dash none = (omega arith, tt)
plain-dash (some n) = plain-decimal n

same-dash : (o p : Option ℕ) → IfThereFits o → IfThereFits p → or_dash o ≡ or_dash p → o ≡ p
same-dash none none p q e = refl
same-dash none (some n) p q e = no-dash n e
same-dash (some n) none p q e = no-dash n (sym e)
same-dash (some n) (some m) p q e = ap some (same_number n m p q e)

same-report : {a a' : ℕ} {h h' : Option ℕ} {u u' : ℕ} {t t' : Option ℕ} {b b' : ℕ} → a ≡ a' → h ≡ h' → u ≡ u' → t ≡ t' → b ≡ b'
    → ◌≡◌ {A = ReportRule} (record { time = a; run = h; usable = u; timer = t; brought = b })
    (record { time = a'; run = h'; usable = u'; timer = t'; brought = b' })
same-report e f g k l = rw (e, f, g, k, l)

same-refusal : {a a' b b' : ℕ} → a ≡ a' → b ≡ b'
    → ◌≡◌ {A = RefusalRule} (record { number = a; detail = b }) (record { number = a'; detail = b' })
same-refusal e f = rw (e, f)

-- a line shows the numbers of its reply and no others, those of a record that is not read among them
pub said-shows : (r q : Said) → Fits r → Fits q → line_said r ≡ line_said q → r ≡ q
said-shows (ok r) (refused q) p k e = let z : ◌≡◌ {A = ℕ} 111 110 = cc in absurd (omega arith)
said-shows (refused r) (ok q) p k e = let z : ◌≡◌ {A = ℕ} 110 111 = cc in absurd (omega arith)
said-shows (refused r) (refused q) p k e =
    let s : fields (decimal r.number ∷ decimal r.detail ∷ []) ≡ fields (decimal q.number ∷ decimal q.detail ∷ []) = cc in
    let a = next_field (decimal r.number) (decimal q.number) (decimal r.detail ∷ []) (decimal q.detail ∷ [])
    (plain-decimal r.number) (plain-decimal q.number) s in
    let b = next_field (decimal r.detail) (decimal q.detail) [] [] (plain-decimal r.detail) (plain-decimal q.detail) a.1 in
    ap refused
    (same-refusal (same_number r.number q.number p.0 k.0 a.0) (same_number r.detail q.detail p.1 k.1 b.0))
said-shows (ok r) (ok q) p k e =
    let t : ReportRule → List (List ℕ) = λ x. decimal x.brought ∷ [] in
    let m : ReportRule → List (List ℕ) = λ x. or_dash x.timer ∷ t x in
    let u : ReportRule → List (List ℕ) = λ x. decimal x.usable ∷ m x in
    let h : ReportRule → List (List ℕ) = λ x. or_dash x.run ∷ u x in
    let s : fields (decimal r.time ∷ h r) ≡ fields (decimal q.time ∷ h q) = cc in
    let a = next_field (decimal r.time) (decimal q.time) (h r) (h q)
    (plain-decimal r.time) (plain-decimal q.time) s in
    let b = next_field (or_dash r.run) (or_dash q.run) (u r) (u q) (plain-dash r.run) (plain-dash q.run) a.1 in
    let c = next_field (decimal r.usable) (decimal q.usable) (m r) (m q)
    (plain-decimal r.usable) (plain-decimal q.usable) b.1 in
    let d = next_field (or_dash r.timer) (or_dash q.timer) (t r) (t q) (plain-dash r.timer) (plain-dash q.timer) c.1 in
    let i = next_field (decimal r.brought) (decimal q.brought) [] []
    (plain-decimal r.brought) (plain-decimal q.brought) d.1 in
    ap ok
    (same-report (same_number r.time q.time p.0 k.0 a.0) (same-dash r.run q.run p.1 k.1 b.0)
    (same_number r.usable q.usable p.2 k.2 c.0) (same-dash r.timer q.timer p.3 k.3 d.0)
    (same_number r.brought q.brought p.4 k.4 i.0))

-- a line shows its reply and no other
pub line-shows : (r q : Result Report Refusal) → Fits (paper_reply r) → Fits (paper_reply q) → line_of r ≡ line_of q → r ≡ q
line-shows r q p k e = sym (said-paper r) ∙ ap reply_said (said-shows (paper_reply r) (paper_reply q) p k e) ∙ said-paper q

-- a call's reply, its refusal made a row
abbrev pub rowed : Result Report Refusal → Result Report Row
rowed (Ok r) = Ok r
rowed (Err x) = Err (row_of x)

-- .. which is what `map_err(Row::from)` makes of it: `Row::from` gives `row_of`
pub rowed-is : (r : Result Report Refusal) (m : Result Report Row)
    → MatchResult r (λ x. m ≡ Ok x) (λ x. IsErrAnd m (λ row. row ≡ row_of x)) → m ≡ rowed r
rowed-is (Ok r) m h = h
rowed-is (Err x) m h = let p = err_from_is_err_and m h in p.1 ∙ ap Err p.2

-- its line is that of the reply
pub rowed-line : (r : Result Report Refusal) → line_said (row_said (rowed r)) ≡ line_of r
rowed-line (Ok r) = refl
rowed-line (Err x) = refl

-- the line of a record's refusal, made a row, is the one that `serve` writes
pub record-line : (b : BadRecord) → line_said (row_said (Err (record_row b))) ≡ refusal_text (paper_bad b)
record-line b = refl

-- the other way: the reply that has these numbers and values
abbrev row_back : Said → Result Report Row
row_back (ok r) = Ok (report_said r)
row_back (refused r) = Err (record { number = r.number; detail = r.detail })

rows-again : (r : Result Report Row) → row_back (row_said r) ≡ r
rows-again (Ok r) = ap rowed (said-paper (Ok r))
rows-again (Err x) = refl

-- a line of `write_line` shows its reply and no other, whatever the number and the detail of a refusal
pub row-shows : (r q : Result Report Row) → Fits (row_said r) → Fits (row_said q) → line_said (row_said r) ≡ line_said (row_said q) → r ≡ q
row-shows r q p k e = sym (rows-again r) ∙ ap row_back (said-shows (row_said r) (row_said q) p k e) ∙ rows-again q
