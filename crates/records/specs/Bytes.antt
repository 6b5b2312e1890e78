-- Big-endian numbers: the number of some bytes, and the bytes of a number.
-- Assumes nothing.
use Rattle.std.specs.Prelude.{ℕ, zero, suc, ◌+◌, ◌*◌, ◌/◌, ◌%◌, ◌<◌, List, [], ◌∷◌, ◌++◌, get_or}
use Rattle.rules.specs.Lists.{All}

-- every one is a byte
abbrev pub AreBytes : List ℕ → Type 0
AreBytes s = All (λ b. b < 256) s

-- the number of the `width` bytes from `at` on
abbrev pub number : List ℕ → ℕ → ℕ → ℕ
number s at zero = 0
number s at (suc width) = number s at width * 256 + get_or s (at + width) 0

-- the `width` bytes of a number
abbrev pub bytes_of : ℕ → ℕ → List ℕ
bytes_of zero n = []
bytes_of (suc width) n = bytes_of width (n / 256) ++ (n % 256 ∷ [])
