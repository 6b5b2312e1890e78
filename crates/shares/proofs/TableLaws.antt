-- Where the table of demands has a task's demand over a length. Assumes nothing.
use Prim.Native.Nat.{ℕ, suc, ◌+◌, ◌*◌, ◌/◌, ◌%◌, ◌<◌}
use mathlib.Core.Path.{◌≡◌}
use mathlib.Core.List.{List}
use native.Mathlib.Omega.{arith}
use lib.ListN.{length, get_or}
use Rattle.model.specs.Demand.{demand_of}
use Rattle.shares.specs.Private.{Cells}

module _ (ps es : List ℕ) where
  pub cell_at : (cells : List ℕ) (m t i : ℕ) → Cells ps es cells m → i < 16 → i < length ps → t * 16 + i < m
      → get_or cells (t * 16 + i) 0 ≡ demand_of ps es (suc i) t
  cell_at cells m t i right few some-i h =
      let column : (t * 16 + i) % 16 ≡ i = omega arith in
      let line : (t * 16 + i) / 16 ≡ t = omega arith in
      let cell = right (t * 16 + i) h (omega arith) in
      rw (column, line) at cell
