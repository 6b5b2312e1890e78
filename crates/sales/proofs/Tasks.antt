-- The fields of tasks, put one after the other, and how many bytes they and the lines of a sheet have at most. Assumes nothing.
use Prim.Native.Nat.{ℕ, zero, suc, ◌+◌, ◌*◌, ◌≤◌, ◌<◌}
use mathlib.Core.Path.{◌≡◌, ap, sym, ◌∙◌}
use mathlib.Core.Bool.{Bool, cond}
use mathlib.Core.List.{List, [], ◌∷◌, ◌++◌, append_assoc, append-nil}
use native.Mathlib.Omega.{arith}
use native.Mathlib.Numerals.{add-one}
use lib.ListN.{length, get_or, take, length-append}
use borrow.Author.Tests.{le-ltb}
use Rattle.std.proofs.Common.{Result, Ok, Err}
use Rattle.text.specs.Text.{decimal, no, field_in, text_in, end_in, over, Put}
use Rattle.text.proofs.Figures.{figures-length}
use Rattle.text.proofs.Writing.{put_as, put_two, put-size, put-over, text-put, field_put, end-put, field-behind}
use Rattle.model.specs.Reply.{Reply, gives, refuses}
use Rattle.model.specs.Rows.{row}
use Rattle.queries.specs.Text.{Written, line_of as replyLine}
use Rattle.sheets.specs.Sheet.{line_of, written}
use Rattle.sheets.specs.declared.answers.NoRoom.{NoRoom}
use Rattle.sheets.specs.Paper.{paper_writing, write_reply, written_in}
use Rattle.sales.specs.Sales.{task_fields}

-- the fields of one task
abbrev pub pair : ℕ → ℕ → List ℕ
pair p e = (32 ∷ decimal p) ++ (32 ∷ decimal e)

step : (p e : ℕ) (xs ys : List ℕ) → (32 ∷ decimal p) ++ ((32 ∷ decimal e) ++ (xs ++ ys)) ≡ ((32 ∷ decimal p) ++ ((32 ∷ decimal e) ++ xs)) ++ ys
step p e xs ys =
    ap (λ (l : List ℕ). (32 ∷ decimal p) ++ l) (sym (append_assoc (32 ∷ decimal e) xs ys))
    ∙ sym (append_assoc (32 ∷ decimal p) ((32 ∷ decimal e) ++ xs) ys)

-- one task more
pub tasks-more : (k : ℕ) (ps es : List ℕ) → k < length ps
    → task_fields (take (suc k) ps) es ≡ task_fields (take k ps) es ++ pair (get_or ps k 0) (get_or es k 0)
tasks-more k [] es h = absurd (omega arith)
tasks-more zero (p ∷ ps) es h = ap (λ (l : List ℕ). (32 ∷ decimal p) ++ l) (append-nil (32 ∷ decimal (get_or es 0 0)))
tasks-more (suc k) (p ∷ ps) [] h =
    ap (λ (l : List ℕ). (32 ∷ decimal p) ++ ((32 ∷ decimal 0) ++ l)) (tasks-more k ps [] (omega arith))
    ∙ step p 0 (task_fields (take k ps) []) (pair (get_or ps k 0) 0)
tasks-more (suc k) (p ∷ ps) (e ∷ es) h =
    ap (λ (l : List ℕ). (32 ∷ decimal p) ++ ((32 ∷ decimal e) ++ l)) (tasks-more k ps es (omega arith))
    ∙ step p e (task_fields (take k ps) es) (pair (get_or ps k 0) (get_or es k 0))

-- two numbers put, n told as the period and m as the cost
pub task-put : (ps es : List ℕ) (k n m : ℕ) {o o₁ o₂ o₃ : List ℕ} {a b c d : ℕ} → k < length ps → n ≡ get_or ps k 0 → m ≡ get_or es k 0
    → a + (k + 1) * 42 ≤ length o → Put o a (task_fields (take k ps) es) o₁ b × (b ≤ a + k * 42) → Put o₁ b (field_in o₁ b n) o₂ c
    → Put o₂ c (field_in o₂ c m) o₃ d → Put o a (task_fields (take (k + 1) ps) es) o₃ d × (d ≤ a + (k + 1) * 42)
task-put ps es k n m {o} {o₁} {o₂} {o₃} {a} {b} {c} {d} h e f room p q r =
    let one = field-behind (k * 42) n (get_or ps k 0) e (omega arith) p q in
    let two = field-behind (k * 42 + 21) m (get_or es k 0) f (omega arith) one r in
    let all : (task_fields (take k ps) es ++ (32 ∷ decimal (get_or ps k 0))) ++ (32 ∷ decimal (get_or es k 0)) ≡ task_fields (take (k + 1) ps) es =
    append_assoc (task_fields (take k ps) es) (32 ∷ decimal (get_or ps k 0)) (32 ∷ decimal (get_or es k 0))
    ∙ sym (tasks-more k ps es h)
    ∙ ap (λ (j : ℕ). task_fields (take j ps) es) (sym (add-one k)) in
    (put_as all two.0, omega (arith, two.1))

-- the lines of tasks have at most 42 bytes each
pub written-few : (ps es : List ℕ) → length (written ps es) ≤ length ps * 42
written-few [] es = omega arith
written-few (p ∷ ps) [] = omega arith
written-few (p ∷ ps) (e ∷ es) =
    omega (
      arith,
      written-few ps es,
      length-append (line_of p e) (written ps es),
      length-append (decimal p) (32 ∷ (decimal e ++ (10 ∷ []))),
      length-append (decimal e) (10 ∷ []),
      figures-length 20 p,
      figures-length 20 e,
    )

-- the number of a result of one value, told apart from a refusal
abbrev value_of : Reply → ℕ
value_of (gives []) = 0
value_of (gives (n ∷ ns)) = suc n
value_of (refuses number detail) = 0

-- a text that has room is written whole
module _ (text area : List ℕ) (fits : length text ≤ length area) where
  gives_size : write_reply text area ≡ gives (length text ∷ [])
  unfolding write_reply
  gives_size = ap (λ (t : Bool). row t 40 0 (gives (length text ∷ []))) (le-ltb (length area) (length text) fits)

  is-over : written_in text area ≡ over text area
  unfolding written_in
  is-over = ap (λ (t : Bool). cond t area (over text area)) (le-ltb (length area) (length text) fits)

  pub wrote : (w : Result ℕ NoRoom) (after : List ℕ) (n : ℕ) → paper_writing w ≡ write_reply text area → after ≡ written_in text area → w ≡ Ok n
      → Written text area after n
  wrote w after n e f h =
      let same : suc n ≡ suc (length text) = ap (λ (x : Result ℕ NoRoom). value_of (paper_writing x)) (sym h) ∙ ap value_of (e ∙ gives_size) in
      record { count = omega (arith, same); whole = f ∙ is-over }

  pub not-refused : (w : Result ℕ NoRoom) (r : NoRoom) → paper_writing w ≡ write_reply text area → w ≡ Err r → ⊥
  not-refused w r e h =
      let same : 0 ≡ suc (length text) = ap (λ (x : Result ℕ NoRoom). value_of (paper_writing x)) (sym h) ∙ ap value_of (e ∙ gives_size) in
      omega (arith, same)

-- the refusal of a bad line
pub refusal-put : (o : List ℕ) (k n m : ℕ) {o₁ o₂ o₃ o₄ : List ℕ} {a b c d : ℕ} → n ≡ 37 → m ≡ k → 1024 ≤ length o → Put o 0 (text_in o 0 no) o₁ a
    → Put o₁ a (field_in o₁ a n) o₂ b → Put o₂ b (field_in o₂ b m) o₃ c → Put o₃ c (end_in o₃ c) o₄ d
    → Written (replyLine (refuses 37 k)) o o₄ d
refusal-put o k n m {o₁} {o₂} {o₃} {o₄} {a} {b} {c} {d} e f room p q r s =
    let first = text-put o 0 no (omega arith) p in
    let second = field_put o₁ a n (omega (arith, first.behind, put-size first)) q in
    let third = field_put o₂ b m (omega (arith, first.behind, put-size first, second.1, put-size second.0)) r in
    let size : length o₃ ≡ length o = put-size third.0 ∙ put-size second.0 ∙ put-size first in
    let last = end-put o₃ c (omega (arith, first.behind, second.1, third.1, size)) s in
    let all : Put o 0 (replyLine (refuses 37 k)) o₄ d =
    put_two first
    (put_two (put_as (ap (λ (x : ℕ). 32 ∷ decimal x) e) second.0)
    (put_two (put_as (ap (λ (x : ℕ). 32 ∷ decimal x) f) third.0) last.0)) in
    record { count = omega (arith, all.behind); whole = put-over (omega (arith, first.behind, second.1, third.1, last.1)) all }
