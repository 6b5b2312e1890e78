-- What `sales` answers to an input (document 02, No. 13, for the people who sell): a question, and the old tool's sheet behind it. The
-- answers are those of the sizing half to a line with the sheet's tasks. Assumes nothing.
use Rattle.std.specs.Prelude.{ℕ, zero, suc, Option, None, Some, min, Bool, cond, not, ◌&&◌, List, [], ◌∷◌, ◌++◌, eqb, length, get_or, drop}
use Rattle.text.specs.Text.{decimal, same}
use Rattle.model.specs.Reply.{refuses}
use Rattle.model.specs.Asked.{Work}
use Rattle.queries.specs.Text.{said, bad_word, bad_field, bad_line, line_of}
use Rattle.queries.specs.Meaning.{until, behind, trimmed, is_long, line_means}
use Rattle.sheets.specs.Sheet.{Read, sheet, bad, read_of, written}

-- the question is the first line, without a carriage return at its end
abbrev pub question_of : List ℕ → List ℕ
question_of s = trimmed (until 10 s)

-- the sheet is all that stands behind the first newline
abbrev pub sheet_of : List ℕ → List ℕ
sheet_of s = drop (suc (length (until 10 s))) s

-- "help", "sheet"
abbrev pub help_word : List ℕ
help_word = 104 ∷ 101 ∷ 108 ∷ 112 ∷ []

abbrev pub sheet_word : List ℕ
sheet_word = 115 ∷ 104 ∷ 101 ∷ 101 ∷ 116 ∷ []

-- "help | sheet | check P B | least P | best PMAX, a newline, and the sheet: lines of period, one space, cost"
unfoldable pub help : List ℕ
help =
    104 ∷ 101 ∷ 108 ∷ 112 ∷ 32 ∷ 124 ∷ 32 ∷ 115 ∷ 104 ∷ 101 ∷ 101 ∷ 116 ∷ 32 ∷ 124 ∷ 32 ∷ 99 ∷ 104 ∷ 101 ∷ 99 ∷ 107 ∷ 32 ∷ 80 ∷ 32 ∷ 66 ∷
    32 ∷ 124 ∷ 32 ∷ 108 ∷ 101 ∷ 97 ∷ 115 ∷ 116 ∷ 32 ∷ 80 ∷ 32 ∷ 124 ∷ 32 ∷ 98 ∷ 101 ∷ 115 ∷ 116 ∷ 32 ∷ 80 ∷ 77 ∷ 65 ∷ 88 ∷ 44 ∷ 32 ∷
    97 ∷ 32 ∷ 110 ∷ 101 ∷ 119 ∷ 108 ∷ 105 ∷ 110 ∷ 101 ∷ 44 ∷ 32 ∷ 97 ∷ 110 ∷ 100 ∷ 32 ∷ 116 ∷ 104 ∷ 101 ∷ 32 ∷ 115 ∷ 104 ∷ 101 ∷ 101 ∷ 116 ∷
    58 ∷ 32 ∷ 108 ∷ 105 ∷ 110 ∷ 101 ∷ 115 ∷ 32 ∷ 111 ∷ 102 ∷ 32 ∷ 112 ∷ 101 ∷ 114 ∷ 105 ∷ 111 ∷ 100 ∷ 44 ∷ 32 ∷ 111 ∷ 110 ∷ 101 ∷ 32 ∷ 115 ∷
    112 ∷ 97 ∷ 99 ∷ 101 ∷ 44 ∷ 32 ∷ 99 ∷ 111 ∷ 115 ∷ 116 ∷ []

-- "ordinary ", "aligned ": the names of the forms; the second is also how a line asks in that form
abbrev pub ordinary : List ℕ
ordinary = 111 ∷ 114 ∷ 100 ∷ 105 ∷ 110 ∷ 97 ∷ 114 ∷ 121 ∷ 32 ∷ []

abbrev pub aligned : List ℕ
aligned = 97 ∷ 108 ∷ 105 ∷ 103 ∷ 110 ∷ 101 ∷ 100 ∷ 32 ∷ []

-- for each task a space, its period, a space and its cost, which stands at the same place of the other list
abbrev pub task_fields : List ℕ → List ℕ → List ℕ
task_fields [] es = []
task_fields (p ∷ ps) es = (32 ∷ decimal p) ++ ((32 ∷ decimal (get_or es 0 0)) ++ task_fields ps (drop 1 es))

-- an answer behind the name of its form; where there is no answer, nothing
abbrev pub named : List ℕ → List ℕ → List ℕ
named name answer = cond (eqb (length answer) 0) [] (name ++ answer)

-- what the sizing half answers to the line in the ordinary form, and in the aligned one
abbrev pub both_forms : List ℕ → List ℕ
both_forms line = named ordinary (line_means line) ++ named aligned (line_means (aligned ++ line))

-- "check", "least", "best"
abbrev pub check_word : List ℕ
check_word = 99 ∷ 104 ∷ 101 ∷ 99 ∷ 107 ∷ []

abbrev pub least_word : List ℕ
least_word = 108 ∷ 101 ∷ 97 ∷ 115 ∷ 116 ∷ []

abbrev pub best_word : List ℕ
best_word = 98 ∷ 101 ∷ 115 ∷ 116 ∷ []

-- how many fields a question of this word has, 0 for any other word: check P B, least P, best PMAX
unfoldable pub wanted : List ℕ → ℕ
wanted word = cond (same word check_word) 2 (cond (same word least_word) 1 (cond (same word best_word) 1 0))

-- such a number of fields, none for 0
abbrev pub wants_of : ℕ → Option ℕ
wants_of zero = None
wants_of (suc n) = Some (suc n)

-- and how many it has: one behind each space
abbrev pub given : List ℕ → ℕ
given question = length (behind 32 question)

-- what is wrong with a question that asks nothing of a sheet, or has not its own fields: the first that is missing or too many
abbrev pub unasked : ℕ → ℕ → List ℕ
unasked w g = cond (eqb w 0) (said bad_word []) (said bad_field (suc (min g w) ∷ []))

-- a question has its own fields and no others: what is missing would be taken from the sheet
abbrev pub is_asked : ℕ → ℕ → Bool
is_asked w g = not (eqb w 0) && eqb g w

-- it is put to the sizing half with the sheet's tasks behind it
unfoldable pub to_sizing : List ℕ → Work → List ℕ
to_sizing question w =
    cond (is_asked (wanted (until 32 question)) (given question)) (both_forms (question ++ task_fields w.periods w.costs))
    (unasked (wanted (until 32 question)) (given question))

-- the question "sheet" asks for the sheet itself
abbrev pub to_sheet : List ℕ → Work → List ℕ
to_sheet question w =
    cond (same question sheet_word) (written w.periods w.costs) (to_sizing question w)

-- of a bad sheet, the refusal with the number of its first bad line
abbrev pub answered : List ℕ → Read → List ℕ
answered question (sheet w) = to_sheet question w
answered question (bad k) = line_of (refuses 37 k)

-- the answer to the input s
unfoldable pub answer_to : List ℕ → List ℕ
answer_to s =
    cond (is_long s) (said bad_line [])
    (cond (same (question_of s) help_word) (said help [])
    (answered (question_of s) (read_of (sheet_of s))))
