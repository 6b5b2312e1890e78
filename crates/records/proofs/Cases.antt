-- The five cases of reading: short header, unknown tag, another length, short payload, whole record.
-- Assumes nothing.
use Prim.Native.Nat.{ℕ, ◌+◌, ◌≤◌, ◌<◌}
use native.Mathlib.Omega.{arith}
use mathlib.Core.Path.{◌≡◌, ap}
use mathlib.Core.Bool.{true, false}
use mathlib.Core.List.{List}
use lib.ListN.{length}
use borrow.Author.Tests.{lt-ltb, le-ltb, eq-eqb, ne_eqb}
use Rattle.records.specs.Record.{Reading, event, no, known, payload, tag, length_said, call, reading}
use Rattle.records.specs.Answer.{read_said, read_spec}

module _ (offset : ℕ) (s : List ℕ) where
  pub short-header : length s < 3 → reading offset s ≡ no offset 20
  unfolding reading
  short-header h = rw (lt-ltb (length s) 3 h)

  pub unknown-tag : 3 ≤ length s → known (tag s) ≡ false → reading offset s ≡ no offset 21
  unfolding reading
  unknown-tag h k = rw (le-ltb (length s) 3 h, k)

  pub other_length : 3 ≤ length s → known (tag s) ≡ true → (length_said s ≡ payload (tag s) → ⊥) → reading offset s ≡ no offset 22
  unfolding reading
  other_length h k n = rw (le-ltb (length s) 3 h, k, ne_eqb (length_said s) (payload (tag s)) n)

  pub short-payload : 3 ≤ length s → known (tag s) ≡ true → length_said s ≡ payload (tag s) → length s < 3 + payload (tag s)
      → reading offset s ≡ no offset 20
  unfolding reading
  short-payload h k n p =
      rw (le-ltb (length s) 3 h, k, eq-eqb (length_said s) (payload (tag s)) n, lt-ltb (length s) (3 + payload (tag s)) p)

  pub whole-record : known (tag s) ≡ true → length_said s ≡ payload (tag s) → 3 + payload (tag s) ≤ length s
      → reading offset s ≡ event (call s)
  unfolding reading
  whole-record k n p =
      let h : 3 ≤ length s = omega arith in
      rw (le-ltb (length s) 3 h, k, eq-eqb (length_said s) (payload (tag s)) n, le-ltb (length s) (3 + payload (tag s)) p)

  -- what `read` answers, from what reading says
  pub answers : (r : Reading) → reading offset s ≡ r → read_spec offset s ≡ read_said r
  unfolding read_spec
  answers r e = ap read_said e
