-- Inputs and their answers, computed through the meaning of an input: document 01's examples as sheets, the sheet itself, a bad line, a
-- sheet of none, and questions that have not their own fields. Assumes nothing.
use Prim.Native.Nat.{ℕ}
use mathlib.Core.Path.{◌≡◌, refl}
use mathlib.Core.List.{List, [], ◌∷◌}
use Rattle.text.specs.Text.{figures}
use Rattle.model.specs.Form.{pairwise, multiples}
use Rattle.model.specs.Supply.{supply_of}
use Rattle.model.specs.Share.{meets, passes, least_of}
use Rattle.model.specs.Rows.{tasks_rows, check_reply, least_reply}
use Rattle.queries.specs.Meaning.{spoken_of, first_bad, line_means}
use Rattle.sheets.specs.Sheet.{is_number, is_line, read_from}
use Rattle.sales.specs.Sales.{wanted, to_sizing, answer_to}

-- an input and its answer
pub record Example : Type 0 where
  pub input : List ℕ
  pub answer : List ℕ

abbrev pub Hold : List Example → Type 0
Hold [] = Unit
Hold (x ∷ rest) = (answer_to x.input ≡ x.answer) × Hold rest

abbrev pub examples : List Example
examples =
    -- "check 5 3\n5 1\n10 3\n" is answered "ordinary ok 0\naligned ok 1\n"
    record {
      input = 99 ∷ 104 ∷ 101 ∷ 99 ∷ 107 ∷ 32 ∷ 53 ∷ 32 ∷ 51 ∷ 10 ∷ 53 ∷ 32 ∷ 49 ∷ 10 ∷ 49 ∷ 48 ∷ 32 ∷ 51 ∷ 10 ∷ [];
      answer = 111 ∷ 114 ∷ 100 ∷ 105 ∷ 110 ∷ 97 ∷ 114 ∷ 121 ∷ 32 ∷ 111 ∷ 107 ∷ 32 ∷ 48 ∷ 10 ∷ 97 ∷ 108 ∷ 105 ∷ 103 ∷ 110 ∷ 101 ∷ 100 ∷ 32 ∷ 111 ∷ 107 ∷ 32 ∷ 49 ∷ 10 ∷ [];
    }
    -- "least 5\r\n5 1\n10 3\n" is answered "ordinary ok 4\naligned ok 3\n"
    ∷ record {
      input = 108 ∷ 101 ∷ 97 ∷ 115 ∷ 116 ∷ 32 ∷ 53 ∷ 13 ∷ 10 ∷ 53 ∷ 32 ∷ 49 ∷ 10 ∷ 49 ∷ 48 ∷ 32 ∷ 51 ∷ 10 ∷ [];
      answer = 111 ∷ 114 ∷ 100 ∷ 105 ∷ 110 ∷ 97 ∷ 114 ∷ 121 ∷ 32 ∷ 111 ∷ 107 ∷ 32 ∷ 52 ∷ 10 ∷ 97 ∷ 108 ∷ 105 ∷ 103 ∷ 110 ∷ 101 ∷ 100 ∷ 32 ∷ 111 ∷ 107 ∷ 32 ∷ 51 ∷ 10 ∷ [];
    }
    -- "sheet\n5 1\n10 3\n" is answered "5 1\n10 3\n"
    ∷ record {
      input = 115 ∷ 104 ∷ 101 ∷ 101 ∷ 116 ∷ 10 ∷ 53 ∷ 32 ∷ 49 ∷ 10 ∷ 49 ∷ 48 ∷ 32 ∷ 51 ∷ 10 ∷ [];
      answer = 53 ∷ 32 ∷ 49 ∷ 10 ∷ 49 ∷ 48 ∷ 32 ∷ 51 ∷ 10 ∷ [];
    }
    -- "sheet\n5 1\n10 03\n" is answered "no 37 2\n"
    ∷ record {
      input = 115 ∷ 104 ∷ 101 ∷ 101 ∷ 116 ∷ 10 ∷ 53 ∷ 32 ∷ 49 ∷ 10 ∷ 49 ∷ 48 ∷ 32 ∷ 48 ∷ 51 ∷ 10 ∷ [];
      answer = 110 ∷ 111 ∷ 32 ∷ 51 ∷ 55 ∷ 32 ∷ 50 ∷ 10 ∷ [];
    }
    -- "least 5" is answered "ordinary no 30 0\naligned no 30 0\n"
    ∷ record {
      input = 108 ∷ 101 ∷ 97 ∷ 115 ∷ 116 ∷ 32 ∷ 53 ∷ [];
      answer = 111 ∷ 114 ∷ 100 ∷ 105 ∷ 110 ∷ 97 ∷ 114 ∷ 121 ∷ 32 ∷ 110 ∷ 111 ∷ 32 ∷ 51 ∷ 48 ∷ 32 ∷ 48 ∷ 10 ∷ 97 ∷ 108 ∷ 105 ∷ 103 ∷ 110 ∷ 101 ∷ 100 ∷ 32 ∷ 110 ∷ 111 ∷ 32 ∷ 51 ∷ 48 ∷ 32 ∷ 48 ∷ 10 ∷ [];
    }
    -- "check 5\n5 1\n" is answered "bad field 2\n"
    ∷ record {
      input = 99 ∷ 104 ∷ 101 ∷ 99 ∷ 107 ∷ 32 ∷ 53 ∷ 10 ∷ 53 ∷ 32 ∷ 49 ∷ 10 ∷ [];
      answer = 98 ∷ 97 ∷ 100 ∷ 32 ∷ 102 ∷ 105 ∷ 101 ∷ 108 ∷ 100 ∷ 32 ∷ 50 ∷ 10 ∷ [];
    }
    -- "best 5 6\n5 1\n" is answered "bad field 2\n"
    ∷ record {
      input = 98 ∷ 101 ∷ 115 ∷ 116 ∷ 32 ∷ 53 ∷ 32 ∷ 54 ∷ 10 ∷ 53 ∷ 32 ∷ 49 ∷ 10 ∷ [];
      answer = 98 ∷ 97 ∷ 100 ∷ 32 ∷ 102 ∷ 105 ∷ 101 ∷ 108 ∷ 100 ∷ 32 ∷ 50 ∷ 10 ∷ [];
    }
    -- "price\n5 1\n" is answered "bad word\n"
    ∷ record {
      input = 112 ∷ 114 ∷ 105 ∷ 99 ∷ 101 ∷ 10 ∷ 53 ∷ 32 ∷ 49 ∷ 10 ∷ [];
      answer = 98 ∷ 97 ∷ 100 ∷ 32 ∷ 119 ∷ 111 ∷ 114 ∷ 100 ∷ 10 ∷ [];
    }
    -- "" is answered "bad word\n"
    ∷ record {
      input = [];
      answer = 98 ∷ 97 ∷ 100 ∷ 32 ∷ 119 ∷ 111 ∷ 114 ∷ 100 ∷ 10 ∷ [];
    }
    ∷ []

pub hold : Hold examples
unfolding figures pairwise multiples supply_of meets passes least_of tasks_rows check_reply least_reply spoken_of first_bad line_means is_number is_line read_from wanted to_sizing answer_to
hold = (refl, (refl, (refl, (refl, (refl, (refl, (refl, (refl, (refl, tt)))))))))
