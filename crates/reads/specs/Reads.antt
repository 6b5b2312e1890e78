-- Reads, and what came by them; and what a write leaves. A read is told by the bytes that it left and by its answer; what the system's calls
-- read and write no contract says. Assumes nothing.
use Rattle.std.specs.Prelude.{◌≡◌, ⊤, ℕ, ◌-◌, ◌≤◌, ◌<◌, Bool, false, true, cond, ◌&&◌, List, [], ◌∷◌, ◌++◌, leb, eqb, length, get_or, take, drop, Option, Some, None}
use Rattle.std.specs.Io.KnownBytes.{Appends, Keeps, Consumes, IsAtEnd}
use Rattle.std.proofs.Math.Seq.{slice}

-- no run uses so many bytes; a proved loop has to end
abbrev pub most_bytes : ℕ
most_bytes = 18446744073709000000

-- the bytes from `from` to `end` in front, where there are such; the others as they are
abbrev pub moved : ℕ → ℕ → List ℕ → List ℕ
moved from end l = cond (leb from end && leb end (length l)) (slice from end l ++ drop (end - from) l) l

abbrev pub Bytes : List ℕ → Type 0
Bytes l = (i : ℕ) → get_or l i 0 < 256

-- what a read into n bytes may answer: none where it failed, or how many bytes it brought, at most n
abbrev pub Moved : ℕ → Option ℕ → Type 0
Moved n (Some k) = k ≤ n
Moved n None = ⊤

-- what such a read into `part` takes of the bytes that a reader has left, where these are known: nothing where it failed, else those it
-- brought; it brings none at the end alone, or where there is no room
abbrev pub Brings : Option (List ℕ) → Option (List ℕ) → Option ℕ → List ℕ → Type 0
Brings before after (Some k) part = Consumes before after (take k part) × (k ≡ 0 → 0 < length part → IsAtEnd after)
Brings before after None part = Keeps before after

-- a front of the bytes was written
abbrev pub HasWrittenSome : Option (List ℕ) → Option (List ℕ) → List ℕ → Type 0
HasWrittenSome before after bytes = (n : ℕ) × (n ≤ length bytes) × Appends before after (take n bytes)

-- how many bytes a read brought
abbrev pub count_of : Option ℕ → ℕ
count_of (Some k) = k
count_of None = 0

-- a read: the part that it was lent, as it left it, and its answer, which `read_part` promises not to be above the part's length
pub record Read : Type 0 where
  pub part : List ℕ
  pub are_bytes : Bytes part
  pub got : Option ℕ
  pub some-room : 1 ≤ length part
  pub in_room : Moved (length part) got

abbrev pub brought : Read → List ℕ
brought x = take (count_of x.got) x.part

-- all bytes that came. Here and below the latest read stands first
abbrev pub came : List Read → List ℕ
came [] = []
came (x ∷ before) = came before ++ brought x

-- whether the latest read answered 0, the end of the input
abbrev pub is_zero : Option ℕ → Bool
is_zero (Some k) = eqb k 0
is_zero None = false

abbrev pub at_end : List Read → Bool
at_end [] = false
at_end (x ∷ before) = is_zero x.got

-- whether the latest read failed
abbrev pub is_failure : Option ℕ → Bool
is_failure (Some k) = false
is_failure None = true

abbrev pub has_failed : List Read → Bool
has_failed [] = false
has_failed (x ∷ before) = is_failure x.got
