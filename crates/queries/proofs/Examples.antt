-- Lines of README, some of document 01's examples as lines, and lines of the aligned form, computed through the meaning of a line.
-- Assumes nothing.
use Prim.Native.Nat.{ℕ}
use mathlib.Core.Path.{◌≡◌, refl}
use mathlib.Core.List.{List, [], ◌∷◌}
use Rattle.text.specs.Text.{figures}
use Rattle.model.specs.Form.{pairwise, multiples}
use Rattle.model.specs.Supply.{supply_of}
use Rattle.model.specs.Share.{meets, passes, least_of, better, best_of}
use Rattle.model.specs.Rows.{tasks_rows, supply_reply, demand_reply, check_reply, least_reply, best_reply}
use Rattle.queries.specs.Meaning.{spoken_of, first_bad, line_means}

-- a line and its answer
pub record Example : Type 0 where
  pub line : List ℕ
  pub answer : List ℕ

abbrev pub Hold : List Example → Type 0
Hold [] = Unit
Hold (x ∷ rest) = (line_means x.line ≡ x.answer) × Hold rest

abbrev pub examples : List Example
examples =
    -- "supply 4 3 7" is answered "ok 4"
    record { line = 115 ∷ 117 ∷ 112 ∷ 112 ∷ 108 ∷ 121 ∷ 32 ∷ 52 ∷ 32 ∷ 51 ∷ 32 ∷ 55 ∷ []; answer = 111 ∷ 107 ∷ 32 ∷ 52 ∷ 10 ∷ [] }
    -- "demand 2 5 5 1 10 3" is answered "ok 4"
    ∷ record { line = 100 ∷ 101 ∷ 109 ∷ 97 ∷ 110 ∷ 100 ∷ 32 ∷ 50 ∷ 32 ∷ 53 ∷ 32 ∷ 53 ∷ 32 ∷ 49 ∷ 32 ∷ 49 ∷ 48 ∷ 32 ∷ 51 ∷ []; answer = 111 ∷ 107 ∷ 32 ∷ 52 ∷ 10 ∷ [] }
    -- "check 3 2 5 1 10 3" is answered "ok 1"
    ∷ record { line = 99 ∷ 104 ∷ 101 ∷ 99 ∷ 107 ∷ 32 ∷ 51 ∷ 32 ∷ 50 ∷ 32 ∷ 53 ∷ 32 ∷ 49 ∷ 32 ∷ 49 ∷ 48 ∷ 32 ∷ 51 ∷ []; answer = 111 ∷ 107 ∷ 32 ∷ 49 ∷ 10 ∷ [] }
    -- "least 5 5 1 10 3" is answered "ok 4"
    ∷ record { line = 108 ∷ 101 ∷ 97 ∷ 115 ∷ 116 ∷ 32 ∷ 53 ∷ 32 ∷ 53 ∷ 32 ∷ 49 ∷ 32 ∷ 49 ∷ 48 ∷ 32 ∷ 51 ∷ []; answer = 111 ∷ 107 ∷ 32 ∷ 52 ∷ 10 ∷ [] }
    -- "best 5 5 1 10 3" is answered "ok 3 2"
    ∷ record { line = 98 ∷ 101 ∷ 115 ∷ 116 ∷ 32 ∷ 53 ∷ 32 ∷ 53 ∷ 32 ∷ 49 ∷ 32 ∷ 49 ∷ 48 ∷ 32 ∷ 51 ∷ []; answer = 111 ∷ 107 ∷ 32 ∷ 51 ∷ 32 ∷ 50 ∷ 10 ∷ [] }
    -- "supply 4 3 7 1" is answered "bad field 4"
    ∷ record { line = 115 ∷ 117 ∷ 112 ∷ 112 ∷ 108 ∷ 121 ∷ 32 ∷ 52 ∷ 32 ∷ 51 ∷ 32 ∷ 55 ∷ 32 ∷ 49 ∷ []; answer = 98 ∷ 97 ∷ 100 ∷ 32 ∷ 102 ∷ 105 ∷ 101 ∷ 108 ∷ 100 ∷ 32 ∷ 52 ∷ 10 ∷ [] }
    -- "help 1" is answered "bad field 1"
    ∷ record { line = 104 ∷ 101 ∷ 108 ∷ 112 ∷ 32 ∷ 49 ∷ []; answer = 98 ∷ 97 ∷ 100 ∷ 32 ∷ 102 ∷ 105 ∷ 101 ∷ 108 ∷ 100 ∷ 32 ∷ 49 ∷ 10 ∷ [] }
    -- "best 5 5 x\r" is answered "bad field 3"
    ∷ record { line = 98 ∷ 101 ∷ 115 ∷ 116 ∷ 32 ∷ 53 ∷ 32 ∷ 53 ∷ 32 ∷ 120 ∷ 13 ∷ []; answer = 98 ∷ 97 ∷ 100 ∷ 32 ∷ 102 ∷ 105 ∷ 101 ∷ 108 ∷ 100 ∷ 32 ∷ 51 ∷ 10 ∷ [] }
    -- "price 3" is answered "bad word"
    ∷ record { line = 112 ∷ 114 ∷ 105 ∷ 99 ∷ 101 ∷ 32 ∷ 51 ∷ []; answer = 98 ∷ 97 ∷ 100 ∷ 32 ∷ 119 ∷ 111 ∷ 114 ∷ 100 ∷ 10 ∷ [] }
    -- "aligned supply 4 3 7" is answered "ok 5"
    ∷ record { line = 97 ∷ 108 ∷ 105 ∷ 103 ∷ 110 ∷ 101 ∷ 100 ∷ 32 ∷ 115 ∷ 117 ∷ 112 ∷ 112 ∷ 108 ∷ 121 ∷ 32 ∷ 52 ∷ 32 ∷ 51 ∷ 32 ∷ 55 ∷ []; answer = 111 ∷ 107 ∷ 32 ∷ 53 ∷ 10 ∷ [] }
    -- "aligned check 5 3 5 1 10 3" is answered "ok 1"
    ∷ record { line = 97 ∷ 108 ∷ 105 ∷ 103 ∷ 110 ∷ 101 ∷ 100 ∷ 32 ∷ 99 ∷ 104 ∷ 101 ∷ 99 ∷ 107 ∷ 32 ∷ 53 ∷ 32 ∷ 51 ∷ 32 ∷ 53 ∷ 32 ∷ 49 ∷ 32 ∷ 49 ∷ 48 ∷ 32 ∷ 51 ∷ []; answer = 111 ∷ 107 ∷ 32 ∷ 49 ∷ 10 ∷ [] }
    -- "aligned least 5 5 1 10 3" is answered "ok 3"
    ∷ record { line = 97 ∷ 108 ∷ 105 ∷ 103 ∷ 110 ∷ 101 ∷ 100 ∷ 32 ∷ 108 ∷ 101 ∷ 97 ∷ 115 ∷ 116 ∷ 32 ∷ 53 ∷ 32 ∷ 53 ∷ 32 ∷ 49 ∷ 32 ∷ 49 ∷ 48 ∷ 32 ∷ 51 ∷ []; answer = 111 ∷ 107 ∷ 32 ∷ 51 ∷ 10 ∷ [] }
    -- "aligned best 5 5 1 10 3" is answered "ok 5 3"
    ∷ record { line = 97 ∷ 108 ∷ 105 ∷ 103 ∷ 110 ∷ 101 ∷ 100 ∷ 32 ∷ 98 ∷ 101 ∷ 115 ∷ 116 ∷ 32 ∷ 53 ∷ 32 ∷ 53 ∷ 32 ∷ 49 ∷ 32 ∷ 49 ∷ 48 ∷ 32 ∷ 51 ∷ []; answer = 111 ∷ 107 ∷ 32 ∷ 53 ∷ 32 ∷ 51 ∷ 10 ∷ [] }
    -- "aligned check 3 2 5 1 10 3" is answered "no 36 0"
    ∷ record { line = 97 ∷ 108 ∷ 105 ∷ 103 ∷ 110 ∷ 101 ∷ 100 ∷ 32 ∷ 99 ∷ 104 ∷ 101 ∷ 99 ∷ 107 ∷ 32 ∷ 51 ∷ 32 ∷ 50 ∷ 32 ∷ 53 ∷ 32 ∷ 49 ∷ 32 ∷ 49 ∷ 48 ∷ 32 ∷ 51 ∷ []; answer = 110 ∷ 111 ∷ 32 ∷ 51 ∷ 54 ∷ 32 ∷ 48 ∷ 10 ∷ [] }
    -- "aligned least 3 5 1 10 3" is answered "no 36 0"
    ∷ record { line = 97 ∷ 108 ∷ 105 ∷ 103 ∷ 110 ∷ 101 ∷ 100 ∷ 32 ∷ 108 ∷ 101 ∷ 97 ∷ 115 ∷ 116 ∷ 32 ∷ 51 ∷ 32 ∷ 53 ∷ 32 ∷ 49 ∷ 32 ∷ 49 ∷ 48 ∷ 32 ∷ 51 ∷ []; answer = 110 ∷ 111 ∷ 32 ∷ 51 ∷ 54 ∷ 32 ∷ 48 ∷ 10 ∷ [] }
    -- "aligned best 5 5 1 8 3" is answered "no 36 0"
    ∷ record { line = 97 ∷ 108 ∷ 105 ∷ 103 ∷ 110 ∷ 101 ∷ 100 ∷ 32 ∷ 98 ∷ 101 ∷ 115 ∷ 116 ∷ 32 ∷ 53 ∷ 32 ∷ 53 ∷ 32 ∷ 49 ∷ 32 ∷ 56 ∷ 32 ∷ 51 ∷ []; answer = 110 ∷ 111 ∷ 32 ∷ 51 ∷ 54 ∷ 32 ∷ 48 ∷ 10 ∷ [] }
    -- "aligned" is answered "bad word"
    ∷ record { line = 97 ∷ 108 ∷ 105 ∷ 103 ∷ 110 ∷ 101 ∷ 100 ∷ []; answer = 98 ∷ 97 ∷ 100 ∷ 32 ∷ 119 ∷ 111 ∷ 114 ∷ 100 ∷ 10 ∷ [] }
    -- "aligned demand 1 5 5 1" is answered "bad word"
    ∷ record { line = 97 ∷ 108 ∷ 105 ∷ 103 ∷ 110 ∷ 101 ∷ 100 ∷ 32 ∷ 100 ∷ 101 ∷ 109 ∷ 97 ∷ 110 ∷ 100 ∷ 32 ∷ 49 ∷ 32 ∷ 53 ∷ 32 ∷ 53 ∷ 32 ∷ 49 ∷ []; answer = 98 ∷ 97 ∷ 100 ∷ 32 ∷ 119 ∷ 111 ∷ 114 ∷ 100 ∷ 10 ∷ [] }
    -- "aligned help" is answered "bad word"
    ∷ record { line = 97 ∷ 108 ∷ 105 ∷ 103 ∷ 110 ∷ 101 ∷ 100 ∷ 32 ∷ 104 ∷ 101 ∷ 108 ∷ 112 ∷ []; answer = 98 ∷ 97 ∷ 100 ∷ 32 ∷ 119 ∷ 111 ∷ 114 ∷ 100 ∷ 10 ∷ [] }
    -- "aligned  supply 4 3 7" is answered "bad word"
    ∷ record { line = 97 ∷ 108 ∷ 105 ∷ 103 ∷ 110 ∷ 101 ∷ 100 ∷ 32 ∷ 32 ∷ 115 ∷ 117 ∷ 112 ∷ 112 ∷ 108 ∷ 121 ∷ 32 ∷ 52 ∷ 32 ∷ 51 ∷ 32 ∷ 55 ∷ []; answer = 98 ∷ 97 ∷ 100 ∷ 32 ∷ 119 ∷ 111 ∷ 114 ∷ 100 ∷ 10 ∷ [] }
    -- "aligned aligned supply 4 3 7" is answered "bad word"
    ∷ record { line = 97 ∷ 108 ∷ 105 ∷ 103 ∷ 110 ∷ 101 ∷ 100 ∷ 32 ∷ 97 ∷ 108 ∷ 105 ∷ 103 ∷ 110 ∷ 101 ∷ 100 ∷ 32 ∷ 115 ∷ 117 ∷ 112 ∷ 112 ∷ 108 ∷ 121 ∷ 32 ∷ 52 ∷ 32 ∷ 51 ∷ 32 ∷ 55 ∷ []; answer = 98 ∷ 97 ∷ 100 ∷ 32 ∷ 119 ∷ 111 ∷ 114 ∷ 100 ∷ 10 ∷ [] }
    -- "aligned supply 4 3" is answered "bad field 3"
    ∷ record { line = 97 ∷ 108 ∷ 105 ∷ 103 ∷ 110 ∷ 101 ∷ 100 ∷ 32 ∷ 115 ∷ 117 ∷ 112 ∷ 112 ∷ 108 ∷ 121 ∷ 32 ∷ 52 ∷ 32 ∷ 51 ∷ []; answer = 98 ∷ 97 ∷ 100 ∷ 32 ∷ 102 ∷ 105 ∷ 101 ∷ 108 ∷ 100 ∷ 32 ∷ 51 ∷ 10 ∷ [] }
    -- "aligned check 5 x 5 1" is answered "bad field 2"
    ∷ record { line = 97 ∷ 108 ∷ 105 ∷ 103 ∷ 110 ∷ 101 ∷ 100 ∷ 32 ∷ 99 ∷ 104 ∷ 101 ∷ 99 ∷ 107 ∷ 32 ∷ 53 ∷ 32 ∷ 120 ∷ 32 ∷ 53 ∷ 32 ∷ 49 ∷ []; answer = 98 ∷ 97 ∷ 100 ∷ 32 ∷ 102 ∷ 105 ∷ 101 ∷ 108 ∷ 100 ∷ 32 ∷ 50 ∷ 10 ∷ [] }
    ∷ []

pub each_holds : Hold examples
unfolding figures pairwise multiples supply_of meets passes least_of better best_of tasks_rows supply_reply demand_reply check_reply least_reply best_reply spoken_of first_bad line_means
each_holds =
    (refl, (refl, (refl, (refl, (refl, (refl, (refl, (refl, (refl, (refl, (refl, (refl, (refl, (refl, (refl, (refl, (refl, (refl, (refl, (refl, (refl, (refl, (refl, tt)))))))))))))))))))))))
