-- The bytes that reads bring: as many as they answer, and bytes all. Assumes nothing.
use Rattle.std.proofs.Common.{◌≡◌, ℕ, zero, suc, ◌≤◌, List, [], ◌∷◌, ◌++◌, length, take, length-take, ap, ◌∙◌, subst, arith, Option, Some}
use Rattle.reads.specs.Reads.{Bytes, Moved, Read, count_of, brought, came}

-- a read that answers k brings k bytes
pub brings : (x : Read) (k : ℕ) → x.got ≡ Some k → length (brought x) ≡ k
brings x k e =
    let few : k ≤ length x.part = subst (Moved (length x.part)) e x.in_room in
    ap (λ (z : Option ℕ). length (take (count_of z) x.part)) e ∙ omega (arith, length-take k x.part)

pub bytes-before : (n : ℕ) (l : List ℕ) → Bytes l → Bytes (take n l)
bytes-before zero l h i = omega arith
bytes-before (suc n) [] h i = omega arith
bytes-before (suc n) (b ∷ l) h zero = h 0
bytes-before (suc n) (b ∷ l) h (suc i) = bytes-before n l (λ k. h (suc k)) i

pub bytes_both : (l k : List ℕ) → Bytes l → Bytes k → Bytes (l ++ k)
bytes_both [] k h g i = g i
bytes_both (b ∷ l) k h g zero = h 0
bytes_both (b ∷ l) k h g (suc i) = bytes_both l k (λ n. h (suc n)) g i

pub came-bytes : (reads : List Read) → Bytes (came reads)
came-bytes [] = λ i. omega arith
came-bytes (x ∷ before) =
    bytes_both (came before) (brought x) (came-bytes before) (bytes-before (count_of x.got) x.part x.are_bytes)
