-- Document 02, No. 13: what the least budgets of the two forms have to do with each other. Proved in proofs/Forms.antt. Assumes nothing.
use Rattle.std.specs.Prelude.{ℕ, ◌*◌, ◌-◌, ◌≤◌, ◌≡◌, ◌⊎◌, ◌↔◌, [], ◌∷◌, length, get_or}
use Rattle.model.specs.Form.{ordinary, aligned}
use Rattle.model.specs.Reply.{gives, refuses}
use Rattle.model.specs.Meaning.{IsCeil, IsDemand}
use Rattle.model.specs.Asked.{Work, least, reply_to}
use Rattle.model.specs.Table.{Accepted}

-- the last task's period, the longest
abbrev pub last_period : Work → ℕ
last_period w = get_or w.periods (length w.periods - 1) 0

-- D is what all tasks demand over it. Where they are aligned all periods divide it, so that D/L is Σ e/p, L being that period
abbrev pub OverLast : Work → ℕ → Type 0
OverLast w D = IsDemand w.periods w.costs (length w.periods) (last_period w) D

pub record Forms (w : Work) (P : ℕ) : Type 0 where
  -- "the aligned least budget is never more than the ordinary one, where that exists"; 36 is then the only other reply
  pub never-more : (B : ℕ) → reply_to (least ordinary w P) ≡ gives (B ∷ [])
      → (reply_to (least aligned w P) ≡ refuses 36 0) ⊎ ((C : ℕ) × (reply_to (least aligned w P) ≡ gives (C ∷ [])) × (C ≤ B))
  -- and where the periods are aligned it is ceil(P·D/L), L the last period, if that is at most P
  pub exact : (B D : ℕ) → OverLast w D
      → (reply_to (least aligned w P) ≡ gives (B ∷ [])) ↔ (Accepted (least aligned w P) × IsCeil (P * D) (last_period w) B × (B ≤ P))
  -- where 36 is not given, 34 is given in both forms or in neither
  pub both_34 : Accepted (least aligned w P) → (reply_to (least ordinary w P) ≡ refuses 34 0) ↔ (reply_to (least aligned w P) ≡ refuses 34 0)
