-- The offset of a refusal's detail: told as it is where it has 64 bits, as the largest number of 64 bits where it has more; and telling
-- it twice changes nothing. Assumes nothing.
use Prim.Native.Nat.{ℕ, ◌^◌, ◌<◌}
use native.Mathlib.Omega.{arith}
use mathlib.Core.Path.{◌≡◌, refl, subst}
use mathlib.Core.Bool.{Bool, true, false}
use mathlib.Core.List.{List}
use lib.Dec.{ltb}
use borrow.Author.Tests.{ltb-true, ltb-false}
use Rattle.records.specs.Record.{told, reading}
use Rattle.records.specs.Answer.{read_spec}
use Rattle.records.specs.Rows.{Detail, is_offset, is_largest}

pub told_is : (offset : ℕ) → offset < 2 ^ 64 → told offset ≡ offset
told_is offset h = omega arith

-- the plain facts name one detail, the one that the rule tells
pub detail-is : (offset detail : ℕ) → Detail offset detail → detail ≡ told offset
detail-is offset detail (is_offset h) = omega arith
detail-is offset detail (is_largest h) = omega arith

pub told-detail : (offset : ℕ) → Detail offset (told offset)
told-detail offset = go (ltb offset (2 ^ 64)) refl
  where
    go : (b : Bool) → ltb offset (2 ^ 64) ≡ b → Detail offset (told offset)
    go true b = let h = ltb-true offset (2 ^ 64) b in subst (Detail offset) (omega arith) (is_offset h)
    go false b = let h = ltb-false offset (2 ^ 64) b in subst (Detail offset) (omega arith) (is_largest h)

-- reading tells the offset, so that it may be told before
pub read_told : (offset : ℕ) (s : List ℕ) → read_spec (told offset) s ≡ read_spec offset s
unfolding read_spec reading
read_told offset s = let e : told (told offset) ≡ told offset = omega arith in rw e
