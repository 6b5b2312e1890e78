-- What serving in one piece leaves: the line that has begun, unless it is too long; at the end of the input nothing. And what it
-- answers: the lines that have ended, and at the end of the input all of it. Assumes nothing.
use Prim.Native.Nat.{ℕ, ◌+◌}
use mathlib.Core.Path.{◌≡◌, refl, ap, sym, ◌∙◌}
use mathlib.Core.Bool.{Bool, true, false, cond}
use mathlib.Core.List.{List, [], ◌∷◌, ◌++◌, append_assoc}
use native.Mathlib.Omega.{arith}
use lib.ListN.{length, drop}
use Rattle.queries.specs.Meaning.{until, behind, is_long, line_means, lines_mean, input_means}
use Rattle.reads.specs.Machine.{ended}
use Rattle.sizing.specs.Program.{Run, served, serve_of, newline}
use Rattle.sizing.specs.Meaning.{all_but_last, last_of, ended_lines, begun_line, Begins}
use Rattle.sizing.specs.Cutting.{end-behind, all-sizes}
use Rattle.sizing.specs.Serving.{any-cut}
use Rattle.sizing.specs.Laws.{waiting, used-or-waits}

waits-last : (l : List ℕ) (ms : List (List ℕ)) → waiting false l ms ≡ cond (is_long (last_of l ms)) 0 (length (last_of l ms))
waits-last l [] = refl
waits-last l (m ∷ ms) = waits-last m ms

long-last : (l : List ℕ) (ms : List (List ℕ)) → (served false l ms).long ≡ is_long (last_of l ms)
long-last l [] = refl
long-last l (m ∷ ms) = long-last m ms

-- the line that has begun waits, or is known to be too long
pub begun-waits : (s : List ℕ)
    → ((serve_of false s).long ≡ is_long (begun_line s))
    × ((serve_of false s).used + cond (is_long (begun_line s)) 0 (length (begun_line s)) ≡ length s)
begun-waits s =
    let l : List ℕ = until 10 s in
    let ms : List (List ℕ) = behind 10 s in (
      long-last l ms,
      ap (λ (n : ℕ). (serve_of false s).used + n) (sym (waits-last l ms)) ∙ used-or-waits false l ms ∙ all-sizes 10 s,
    )

none-waits : (long : Bool) (l : List ℕ) (ms : List (List ℕ)) → waiting long l (ms ++ ([] ∷ [])) ≡ 0
none-waits long l [] = refl
none-waits long l (m ∷ ms) = none-waits false m ms

pub end-used : (long : Bool) (s : List ℕ) → (serve_of long (ended newline true s)).used ≡ length (ended newline true s)
end-used long s =
    let t : List ℕ = s ++ (10 ∷ []) in
    let e = end-behind 10 s in
    let none : waiting long (until 10 t) (behind 10 t) ≡ 0 =
    ap (waiting long (until 10 t)) e.1 ∙ none-waits long (until 10 t) (behind 10 s) in
    omega (arith, none, used-or-waits long (until 10 t) (behind 10 t), all-sizes 10 t)

text-lines : (l : List ℕ) (ms : List (List ℕ)) → (served false l ms).text ≡ lines_mean (all_but_last l ms)
text-lines l [] = refl
text-lines l (m ∷ ms) = ap (λ (x : List ℕ). line_means l ++ x) (text-lines m ms)

pub ended-answered : (s : List ℕ) → (serve_of false s).text ≡ lines_mean (ended_lines s)
ended-answered s = text-lines (until 10 s) (behind 10 s)

all_but_end : (l : List ℕ) (ms : List (List ℕ)) → all_but_last l (ms ++ ([] ∷ [])) ≡ l ∷ ms
all_but_end l [] = refl
all_but_end l (m ∷ ms) = ap (λ (x : List (List ℕ)). l ∷ x) (all_but_end m ms)

pub all-answered : (s : List ℕ) → (serve_of false (ended newline true s)).text ≡ input_means s
all-answered s =
    let e = end-behind 10 s in
    ended-answered (s ++ (10 ∷ []))
    ∙ ap (λ (l : List ℕ). lines_mean (all_but_last l (behind 10 (s ++ (10 ∷ []))))) e.0
    ∙ ap (λ (ms : List (List ℕ)). lines_mean (all_but_last (until 10 s) ms)) e.1
    ∙ ap lines_mean (all_but_end (until 10 s) (behind 10 s))

-- what is answered stands, whatever comes
pub answers_begin : (s later : List ℕ) → Begins (serve_of false s).text (input_means (s ++ later))
answers_begin s later =
    let first : Run = serve_of false s in
    let more : List ℕ = later ++ (10 ∷ []) in
    record {
      rest = (serve_of first.long (drop first.used s ++ more)).text;
      is =
          sym (all-answered (s ++ later))
          ∙ ap (λ (l : List ℕ). (serve_of false l).text) (append_assoc s later (10 ∷ []))
          ∙ ap (λ (r : Run). r.text) (any-cut false s more);
    }
