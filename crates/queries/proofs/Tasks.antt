-- The numbers that are kept, and those that are handed to `shares`. Assumes nothing.
use Prim.Native.Nat.{ℕ, ◌+◌, ◌≤◌, ◌<◌}
use mathlib.Core.Path.{◌≡◌, ◌∙◌}
use mathlib.Core.List.{List}
use mathlib.Core.Logic.{◌⊎◌, inl, inr}
use native.Mathlib.Omega.{arith}
use lib.ListN.{length, get_or, set}
use lib.Seq.{get_or-set_same, get_or-set_other}
use Rattle.model.proofs.Tests.{below-or-from}

-- one more number stored: the first k are those that f says, and so are the first k + 1
pub stored_next : (l : List ℕ) (f : ℕ → ℕ) (k : ℕ) → k < length l → ((i : ℕ) → i < k → get_or l i 0 ≡ f i)
    → (i : ℕ) → i < k + 1 → get_or (set l k (f k)) i 0 ≡ f i
stored_next l f k room done i low = go (below-or-from i k)
  where
    go : (i < k) ⊎ (k ≤ i) → get_or (set l k (f k)) i 0 ≡ f i
    go (inl h) = get_or-set_other l k i (f k) 0 (λ e. absurd (omega arith)) ∙ done i h
    go (inr h) =
        let same : i ≡ k = omega arith in
        rw same (get_or-set_same l k (f k) 0 room)
