-- What can be asked of the sizing half, and the complete reply to it.
-- Assumes nothing.
use Rattle.std.specs.Prelude.{ℕ, List}
use Rattle.model.specs.Form.{Form}
use Rattle.model.specs.Reply.{Reply}
use Rattle.model.specs.Rows.{supply_reply, demand_reply, check_reply, least_reply, best_reply}

-- a task list: task k is at k - 1 in both
pub record Work : Type 0 where
  pub periods : List ℕ
  pub costs : List ℕ

-- supply form P B t; demand work i t; check form work P B; least form work P; best form work P-max
pub data Asked : Type 0 where
  supply : Form → ℕ → ℕ → ℕ → Asked
  demand : Work → ℕ → ℕ → Asked
  check : Form → Work → ℕ → ℕ → Asked
  least : Form → Work → ℕ → Asked
  best : Form → Work → ℕ → Asked

-- the complete reply of the public function that is asked
abbrev pub reply_to : Asked → Reply
reply_to (supply form P B t) = supply_reply form P B t
reply_to (demand w i t) = demand_reply w.periods w.costs i t
reply_to (check form w P B) = check_reply form w.periods w.costs P B
reply_to (least form w P) = least_reply form w.periods w.costs P
reply_to (best form w P-max) = best_reply form w.periods w.costs P-max
