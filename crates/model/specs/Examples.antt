-- Document 01, "Sizing examples, to be proved": what is asked and the complete reply, as one list; places of the first bad task by
-- document 02, No. 2; and the aligned form by its No. 13. proofs/Examples.antt proves them all. No code cites them. Assumes nothing.
use Rattle.std.specs.Prelude.{ℕ, ◌≡◌, List, [], ◌∷◌}
use Rattle.model.specs.Form.{ordinary, aligned}
use Rattle.model.specs.Reply.{Reply, gives, refuses}
use Rattle.model.specs.Asked.{Work, Asked, supply, demand, check, least, best, reply_to}

pub record Example : Type 0 where
  pub asked : Asked
  pub reply : Reply

-- each example of a list gets its reply
abbrev pub Hold : List Example → Type 0
Hold [] = Unit
Hold (x ∷ rest) = (reply_to x.asked ≡ x.reply) × Hold rest

-- W is the tasks (period 5, cost 1), (10, 3); W11 and W12 are those of P11 and P12
abbrev pub W : Work
W = record { periods = 5 ∷ 10 ∷ []; costs = 1 ∷ 3 ∷ [] }

abbrev pub W11 : Work
W11 = record { periods = 2 ∷ 4 ∷ []; costs = 2 ∷ 1 ∷ [] }

abbrev pub W12 : Work
W12 = record { periods = 1 ∷ []; costs = 1 ∷ [] }

-- P1 to P12 in order; P is P11's. Passes is 1, doesn't is 0.
abbrev pub examples : ℕ → List Example
examples P =
    record { asked = supply ordinary 4 3 2; reply = gives (0 ∷ []) }
    ∷ record { asked = supply ordinary 4 3 5; reply = gives (3 ∷ []) }
    ∷ record { asked = supply ordinary 4 3 7; reply = gives (4 ∷ []) }
    ∷ record { asked = supply ordinary 5 5 9; reply = gives (9 ∷ []) }
    ∷ record { asked = demand W 2 5; reply = gives (4 ∷ []) }
    ∷ record { asked = demand W 2 6; reply = gives (5 ∷ []) }
    ∷ record { asked = least ordinary W 5; reply = gives (4 ∷ []) }
    ∷ record { asked = check ordinary W 3 2; reply = gives (1 ∷ []) }
    ∷ record { asked = check ordinary W 4 2; reply = gives (0 ∷ []) }
    ∷ record { asked = best ordinary W 5; reply = gives (3 ∷ 2 ∷ []) }
    ∷ record { asked = least ordinary W11 P; reply = refuses 34 0 }
    ∷ record { asked = best ordinary W12 3; reply = gives (3 ∷ 3 ∷ []) }
    ∷ []

-- the third and the fourth task are out of range, one by its cost and one by its period, and the second one's period falls
abbrev pub TwoOut : Work
TwoOut = record { periods = 5 ∷ 4 ∷ 10 ∷ 2001 ∷ []; costs = 1 ∷ 1 ∷ 11 ∷ 1 ∷ [] }

-- the second period is that of the first; the fourth and the fifth fall
abbrev pub TwoFalls : Work
TwoFalls = record { periods = 5 ∷ 5 ∷ 10 ∷ 8 ∷ 6 ∷ []; costs = 1 ∷ 1 ∷ 1 ∷ 1 ∷ 1 ∷ [] }

-- "For 31 and 32 it becomes the first such task's place, counted from 1"
abbrev pub first_places : List Example
first_places =
    record { asked = demand TwoOut 1 5; reply = refuses 31 3 }
    ∷ record { asked = check ordinary TwoOut 3 2; reply = refuses 31 3 }
    ∷ record { asked = least ordinary TwoFalls 5; reply = refuses 32 4 }
    ∷ record { asked = best ordinary TwoFalls 5; reply = refuses 32 4 }
    ∷ []

-- periods that do not divide each other, and too much for any budget
abbrev pub Unlike : Work
Unlike = record { periods = 4 ∷ 6 ∷ []; costs = 4 ∷ 1 ∷ [] }

-- No. 13: the aligned form of P1 to P3, P7 to P10 and P12. P = 3 and 4 do not divide W's periods, so that best up to 4 has (1, 1) alone,
-- where the ordinary form has (3, 2). Row 36 is behind 33 and before 34
abbrev pub aligned_examples : List Example
aligned_examples =
    record { asked = supply aligned 4 3 2; reply = gives (1 ∷ []) }
    ∷ record { asked = supply aligned 4 3 5; reply = gives (3 ∷ []) }
    ∷ record { asked = supply aligned 4 3 7; reply = gives (5 ∷ []) }
    ∷ record { asked = least aligned W 5; reply = gives (3 ∷ []) }
    ∷ record { asked = check aligned W 3 2; reply = refuses 36 0 }
    ∷ record { asked = check aligned W 5 2; reply = gives (0 ∷ []) }
    ∷ record { asked = check aligned W 5 3; reply = gives (1 ∷ []) }
    ∷ record { asked = best aligned W 5; reply = gives (5 ∷ 3 ∷ []) }
    ∷ record { asked = best ordinary W 4; reply = gives (3 ∷ 2 ∷ []) }
    ∷ record { asked = best aligned W 4; reply = gives (1 ∷ 1 ∷ []) }
    ∷ record { asked = least aligned W11 2; reply = refuses 34 0 }
    ∷ record { asked = best aligned W12 3; reply = gives (1 ∷ 1 ∷ []) }
    ∷ record { asked = least aligned W 4; reply = refuses 36 0 }
    ∷ record { asked = least aligned Unlike 2; reply = refuses 36 0 }
    ∷ record { asked = least ordinary Unlike 2; reply = refuses 34 0 }
    ∷ record { asked = best aligned Unlike 5; reply = refuses 36 0 }
    ∷ record { asked = best aligned Unlike 0; reply = refuses 33 0 }
    ∷ record { asked = check aligned Unlike 5 6; reply = refuses 33 0 }
    ∷ record { asked = supply aligned 5 3 6; reply = gives (3 ∷ []) }
    ∷ record { asked = check aligned Unlike 2 2; reply = refuses 36 0 }
    ∷ record { asked = least aligned Unlike 0; reply = refuses 33 0 }
    ∷ record { asked = best aligned (record { periods = 2 ∷ 4 ∷ 6 ∷ []; costs = 1 ∷ 1 ∷ 1 ∷ [] }) 2; reply = refuses 36 0 }
    ∷ record { asked = least aligned TwoFalls 5; reply = refuses 32 4 }
    ∷ []
