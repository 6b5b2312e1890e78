-- The lines that are written, as bytes: a text, then each number behind a space, then a newline. Assumes nothing.
use Rattle.std.specs.Prelude.{ℕ, cond, List, [], ◌∷◌, ◌++◌, map, ◌≡◌, ltb, length}
use Rattle.text.specs.Text.{decimal, fields, ok, no, over}
use Rattle.model.specs.Reply.{Reply, gives, refuses}

-- a text, then the numbers as fields
abbrev pub said : List ℕ → List ℕ → List ℕ
said text numbers = text ++ fields (map decimal numbers)

-- "bad word", "bad field", "bad line"
abbrev pub bad_word : List ℕ
bad_word = 98 ∷ 97 ∷ 100 ∷ 32 ∷ 119 ∷ 111 ∷ 114 ∷ 100 ∷ []

abbrev pub bad_field : List ℕ
bad_field = 98 ∷ 97 ∷ 100 ∷ 32 ∷ 102 ∷ 105 ∷ 101 ∷ 108 ∷ 100 ∷ []

abbrev pub bad_line : List ℕ
bad_line = 98 ∷ 97 ∷ 100 ∷ 32 ∷ 108 ∷ 105 ∷ 110 ∷ 101 ∷ []

-- "supply P B t | demand i t TASKS | check P B TASKS | least P TASKS | best PMAX TASKS (TASKS: period cost period cost ..)
-- | aligned before supply, check, least or best: for tasks released at starts of a resource period"
unfoldable pub help : List ℕ
help =
    115 ∷ 117 ∷ 112 ∷ 112 ∷ 108 ∷ 121 ∷ 32 ∷ 80 ∷ 32 ∷ 66 ∷ 32 ∷ 116 ∷ 32 ∷ 124 ∷ 32 ∷ 100 ∷ 101 ∷ 109 ∷ 97 ∷ 110 ∷ 100 ∷ 32 ∷ 105 ∷ 32 ∷
    116 ∷ 32 ∷ 84 ∷ 65 ∷ 83 ∷ 75 ∷ 83 ∷ 32 ∷ 124 ∷ 32 ∷ 99 ∷ 104 ∷ 101 ∷ 99 ∷ 107 ∷ 32 ∷ 80 ∷ 32 ∷ 66 ∷ 32 ∷ 84 ∷ 65 ∷ 83 ∷ 75 ∷ 83 ∷ 32 ∷
    124 ∷ 32 ∷ 108 ∷ 101 ∷ 97 ∷ 115 ∷ 116 ∷ 32 ∷ 80 ∷ 32 ∷ 84 ∷ 65 ∷ 83 ∷ 75 ∷ 83 ∷ 32 ∷ 124 ∷ 32 ∷ 98 ∷ 101 ∷ 115 ∷ 116 ∷ 32 ∷ 80 ∷ 77 ∷
    65 ∷ 88 ∷ 32 ∷ 84 ∷ 65 ∷ 83 ∷ 75 ∷ 83 ∷ 32 ∷ 40 ∷ 84 ∷ 65 ∷ 83 ∷ 75 ∷ 83 ∷ 58 ∷ 32 ∷ 112 ∷ 101 ∷ 114 ∷ 105 ∷ 111 ∷ 100 ∷ 32 ∷ 99 ∷ 111 ∷
    115 ∷ 116 ∷ 32 ∷ 112 ∷ 101 ∷ 114 ∷ 105 ∷ 111 ∷ 100 ∷ 32 ∷ 99 ∷ 111 ∷ 115 ∷ 116 ∷ 32 ∷ 46 ∷ 46 ∷ 41 ∷ 32 ∷ 124 ∷ 32 ∷ 97 ∷ 108 ∷ 105 ∷
    103 ∷ 110 ∷ 101 ∷ 100 ∷ 32 ∷ 98 ∷ 101 ∷ 102 ∷ 111 ∷ 114 ∷ 101 ∷ 32 ∷ 115 ∷ 117 ∷ 112 ∷ 112 ∷ 108 ∷ 121 ∷ 44 ∷ 32 ∷ 99 ∷ 104 ∷ 101 ∷ 99 ∷
    107 ∷ 44 ∷ 32 ∷ 108 ∷ 101 ∷ 97 ∷ 115 ∷ 116 ∷ 32 ∷ 111 ∷ 114 ∷ 32 ∷ 98 ∷ 101 ∷ 115 ∷ 116 ∷ 58 ∷ 32 ∷ 102 ∷ 111 ∷ 114 ∷ 32 ∷ 116 ∷ 97 ∷
    115 ∷ 107 ∷ 115 ∷ 32 ∷ 114 ∷ 101 ∷ 108 ∷ 101 ∷ 97 ∷ 115 ∷ 101 ∷ 100 ∷ 32 ∷ 97 ∷ 116 ∷ 32 ∷ 115 ∷ 116 ∷ 97 ∷ 114 ∷ 116 ∷ 115 ∷ 32 ∷ 111 ∷
    102 ∷ 32 ∷ 97 ∷ 32 ∷ 114 ∷ 101 ∷ 115 ∷ 111 ∷ 117 ∷ 114 ∷ 99 ∷ 101 ∷ 32 ∷ 112 ∷ 101 ∷ 114 ∷ 105 ∷ 111 ∷ 100 ∷ []

-- the line of a paper's reply: ok and the values, or no, the number and the detail
abbrev pub line_of : Reply → List ℕ
line_of (gives values) = said ok values
line_of (refuses number detail) = said no (number ∷ detail ∷ [])

-- no line of an answer is longer: a text of at most 216 bytes, two numbers behind a space each, and a newline
abbrev pub longest : ℕ
longest = 259

-- the answer, where a longest one has room
abbrev pub answer_in : List ℕ → List ℕ → List ℕ
answer_in answer out = cond (ltb (length out) longest) [] answer

-- `after` is `before` with the text at its start, the rest as it was, and n is how many bytes the text has
pub record Written (text before after : List ℕ) (n : ℕ) : Type 0 where
  pub count : n ≡ length text
  pub whole : after ≡ over text before
