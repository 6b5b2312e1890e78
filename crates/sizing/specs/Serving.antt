-- Serving in one piece: a line that waits, a line that has ended, and that any bytes served and then what waits with those that come
-- later give what all of them give in one piece. Assumes nothing.
use Prim.Native.Nat.{ℕ, zero, suc, ◌≤◌, ◌<◌}
use mathlib.Core.Path.{◌≡◌, refl, ap, sym, ◌∙◌, subst}
use mathlib.Core.Bool.{Bool, true, false, cond, ◌||◌}
use mathlib.Core.List.{List, [], ◌∷◌, ◌++◌, append_assoc}
use native.Mathlib.Omega.{arith}
use native.Mathlib.Nat.{zero-add}
use lib.Dec.{eqb}
use lib.ListN.{length, drop, length-append, length-drop}
use lib.Seq.{drop-length, drop-drop, drop-append-le}
use borrow.Author.Tests.{eqb-true, eqb-false, ltb-true, lt-ltb}
use Rattle.model.proofs.Tests.{or_neither}
use Rattle.queries.specs.Text.{said, bad_line}
use Rattle.queries.specs.Meaning.{until, behind, is_long}
use Rattle.queries.proofs.Meaning.{long-means}
use Rattle.queries.proofs.Pieces.{until-few, behind-none, behind_more}
use Rattle.sizing.specs.Program.{Run, further, rests, line_answer, served, serve_of}
use Rattle.sizing.specs.Cutting.{until-all, until-ended, begun_goes_on}

pub run-same : {a b : Bool} {m n : ℕ} {x y : List ℕ} → a ≡ b → m ≡ n → x ≡ y
    → ◌≡◌ {A = Run} (record { long = a; used = m; text = x }) (record { long = b; used = n; text = y })
run-same e f g = rw (e, f, g)

pub in_three : (a b c : Run) → further (further a b) c ≡ further a (further b c)
in_three a b c = run-same refl (omega arith) (append_assoc a.text b.text c.text)

-- the line l, which has ended and is answered, and then the rest
abbrev pub line_then : Bool → List ℕ → Run → Run
line_then long l next = further (record { long = false; used = suc (length l); text = line_answer long l }) next

module _ (long : Bool) (s : List ℕ) where
  pub serve_rest : length (until 10 s) ≡ length s → serve_of long s ≡ rests long s
  serve_rest h = ap (served long (until 10 s)) (behind-none 10 s h) ∙ ap (rests long) (until-all 10 s h)

  pub serve_line : length (until 10 s) < length s
      → serve_of long s ≡ line_then long (until 10 s) (serve_of false (drop (suc (length (until 10 s))) s))
  serve_line h = ap (served long (until 10 s)) (behind_more 10 s h)

-- a line that is too long is answered `bad line`, and is so with more behind it
module _ (long : Bool) (l m : List ℕ) (h : (long || is_long l) ≡ true) where
  still-long : (long || is_long (l ++ m)) ≡ true
  still-long = go long h
    where
      go : (t : Bool) → (t || is_long l) ≡ true → (t || is_long (l ++ m)) ≡ true
      go true e = refl
      go false e = lt-ltb 65535 (length (l ++ m)) (omega (arith, ltb-true 65535 (length l) e, length-append l m))

  told-bad : line_answer long (l ++ m) ≡ said bad_line []
  told-bad = go long still-long
    where
      go : (t : Bool) → (t || is_long (l ++ m)) ≡ true → line_answer t (l ++ m) ≡ said bad_line []
      go true e = refl
      go false e = sym (long-means (l ++ m) (ltb-true 65535 (length (l ++ m)) e))

  let_go : (ms : List (List ℕ)) → served long (l ++ m) ms ≡ further (record { long = true; used = length l; text = [] }) (served true m ms)
  let_go [] = run-same still-long (ap (λ (t : Bool). cond t (length (l ++ m)) 0) still-long ∙ length-append l m) refl
  let_go (n ∷ ms) = run-same refl (omega (arith, length-append l m)) (ap (λ (x : List ℕ). x ++ (served false n ms).text) told-bad)

-- bytes a without a newline, and b behind them
module _ (long : Bool) (a b : List ℕ) (h : length (until 10 a) ≡ length a) where
  abbrev Cut : Run → Type 0
  Cut run = serve_of long (a ++ b) ≡ further run (serve_of run.long (drop run.used a ++ b))

  rest-cut : Cut (rests long a)
  rest-cut = go (long || is_long a) refl
    where
      go : (t : Bool) → (long || is_long a) ≡ t
          → Cut (record { long = t; used = cond t (length a) 0; text = [] })
      go true e =
          let p = begun_goes_on 10 a b h in
          ap (λ (l : List ℕ). served long l (behind 10 (a ++ b))) p.0
          ∙ ap (served long (a ++ until 10 b)) p.1
          ∙ let_go long a (until 10 b) e (behind 10 b)
          ∙ ap (λ (l : List ℕ). further (record { long = true; used = length a; text = [] }) (serve_of true (l ++ b))) (sym (drop-length a))
      go false e =
          ap (λ (t : Bool). serve_of t (a ++ b)) (or_neither long (is_long a) e).0
          ∙ run-same refl (sym (zero-add (serve_of false (a ++ b)).used)) refl

  pub begun-cut : Cut (serve_of long a)
  begun-cut = subst Cut (sym (serve_rest long a h)) rest-cut

module _ (a b : List ℕ) (h : length (until 10 a) < length a) where
  -- what stands behind the first line of a, with b behind it
  behind-first : drop (suc (length (until 10 (a ++ b)))) (a ++ b) ≡ drop (suc (length (until 10 a))) a ++ b
  behind-first =
      ap (λ (l : List ℕ). drop (suc (length l)) (a ++ b)) (until-ended 10 a b h)
      ∙ drop-append-le (suc (length (until 10 a))) a b h

  first-line : (long : Bool)
      → serve_of long (a ++ b) ≡ line_then long (until 10 a) (serve_of false (drop (suc (length (until 10 a))) a ++ b))
  first-line long =
      serve_line long (a ++ b) (omega (arith, ap length (until-ended 10 a b h), length-append a b))
      ∙ ap (λ (s : List ℕ). line_then long (until 10 (a ++ b)) (serve_of false s)) behind-first
      ∙ ap (λ (l : List ℕ). line_then long l (serve_of false (drop (suc (length (until 10 a))) a ++ b))) (until-ended 10 a b h)

abbrev CutAt : Bool → List ℕ → List ℕ → Type 0
CutAt long a b = serve_of long (a ++ b) ≡ further (serve_of long a) (serve_of (serve_of long a).long (drop (serve_of long a).used a ++ b))

-- the first line of a has ended, and what stands behind it was cut so
line-cut : (long : Bool) (a b : List ℕ) → length (until 10 a) < length a → CutAt false (drop (suc (length (until 10 a))) a) b → CutAt long a b
line-cut long a b h later =
    let k : ℕ = suc (length (until 10 a)) in
    let next : Run = serve_of false (drop k a) in
    let line : Run = record { long = false; used = k; text = line_answer long (until 10 a) } in
    subst (λ (run : Run). serve_of long (a ++ b) ≡ further run (serve_of run.long (drop run.used a ++ b)))
    (sym (serve_line long a h))
    (first-line a b h long
    ∙ ap (further line) later
    ∙ sym (in_three line next (serve_of next.long (drop next.used (drop k a) ++ b)))
    ∙ ap (λ (s : List ℕ). further (further line next) (serve_of next.long (s ++ b))) (drop-drop next.used k a))

begun-or-line : (long : Bool) (a b : List ℕ)
    → (length (until 10 a) < length a → CutAt false (drop (suc (length (until 10 a))) a) b) → CutAt long a b
begun-or-line long a b later = go (eqb (length (until 10 a)) (length a)) refl
  where
    go : (t : Bool) → eqb (length (until 10 a)) (length a) ≡ t → CutAt long a b
    go true e = begun-cut long a b (eqb-true (length (until 10 a)) (length a) e)
    go false e =
        let few : length (until 10 a) < length a = omega (arith, eqb-false (length (until 10 a)) (length a) e, until-few 10 a) in
        line-cut long a b few (later few)

cut-within : (n : ℕ) (long : Bool) (a b : List ℕ) → length a ≤ n → CutAt long a b
cut-within zero long a b h = begun-or-line long a b (λ few. absurd (omega arith))
cut-within (suc n) long a b h =
    begun-or-line long a b
    (λ few. cut-within n false (drop (suc (length (until 10 a))) a) b (omega (arith, length-drop (suc (length (until 10 a))) a)))

-- bytes served, and then what waits with those that come later
pub any-cut : (long : Bool) (a b : List ℕ) → CutAt long a b
any-cut long a b = cut-within (length a) long a b (omega arith)
