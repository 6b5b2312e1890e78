-- Document 01's reply to a question of the sizing half: a result or a refusal.
-- Assumes nothing.
use Rattle.std.specs.Prelude.{ℕ, List}

-- a result's values, or a refusal's number and detail
pub data Reply : Type 0 where
  gives : List ℕ → Reply
  refuses : ℕ → ℕ → Reply
