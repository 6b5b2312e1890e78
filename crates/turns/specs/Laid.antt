-- A list laid into an array of fixed length: its elements first, and a filler behind them.
-- Assumes nothing.
use Rattle.std.specs.Prelude.{ℕ, zero, suc, List, [], ◌∷◌}

module _ {A B : Type 0} where
  unfoldable pub laid : ℕ → (A → B) → B → List A → List B
  laid zero f z l = []
  laid (suc k) f z [] = z ∷ laid k f z []
  laid (suc k) f z (a ∷ l) = f a ∷ laid k f z l
