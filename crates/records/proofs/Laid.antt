-- Laws of bytes laid over a list: one part behind the other, what the library's copy leaves, and the library's bytes of a number.
-- Assumes nothing.
use Prim.Native.Nat.{ℕ, zero, suc, ◌+◌, ◌/◌, ◌%◌, ◌^◌, ◌≤◌}
use native.Mathlib.Omega.{arith}
use mathlib.Core.Path.{◌≡◌, refl, ap, sym, ◌∙◌}
use mathlib.Core.List.{List, [], ◌∷◌, ◌++◌, append_assoc}
use lib.ListN.{length, set, take, drop, length-append}
use lib.Seq.{sets-eq, drop-drop}
use borrow.Rule.Slice.PartMut.{put_mid}
use Rattle.std.specs.Int.{byte_at, bytes_high_first}
use native.Mathlib.Nat.{div-div-eq-div-mul, pow-suc}
use Rattle.records.specs.Bytes.{bytes_of}
use Rattle.records.specs.Encode.{laid}

pub length-bytes : (w n : ℕ) → length (bytes_of w n) ≡ w
length-bytes zero n = refl
length-bytes (suc w) n = length-append (bytes_of w (n / 256)) (n % 256 ∷ []) ∙ omega (arith, length-bytes w (n / 256))

-- laid one behind the other
laid_both : (s : List ℕ) (at to : ℕ) (xs ys : List ℕ) → to ≡ at + length xs → laid (laid s at xs) to ys ≡ laid s at (xs ++ ys)
unfolding laid
laid_both s at to [] ys e = let z : to ≡ at = omega arith in rw z
laid_both s at to (x ∷ xs) ys e = laid_both (set s at x) (suc at) to xs ys (omega arith)

-- a part laid behind what lies at the front
pub laid-behind : (s o o' : List ℕ) (at : ℕ) (xs ys zs : List ℕ) → at ≡ length xs → ys ≡ zs
    → o ≡ laid s 0 xs → o' ≡ laid o at ys → o' ≡ laid s 0 (xs ++ zs)
laid-behind s o o' at xs ys zs e f p q =
    q ∙ ap (laid o at) f ∙ ap (λ (l : List ℕ). laid l at zs) p ∙ laid_both s 0 at xs zs (omega arith)

-- what the library's copy into the part from `at` on leaves
pub copied : (s ys zs : List ℕ) (at k : ℕ) → ys ≡ zs → k ≡ length zs → at + length zs ≤ length s → put_mid at k s ys ≡ laid s at zs
unfolding laid
copied s ys zs at k f e h = rw (f, e, drop-drop (length zs) at s) (sym (append_assoc (take at s) zs (drop (at + length zs) s)) ∙ sym (sets-eq zs s at h))

-- the library's bytes of a number, the highest first
shifted : (k n : ℕ) → byte_at (suc k) n ≡ byte_at k (n / 256)
shifted zero n = refl
shifted (suc k) n = ap (λ (m : ℕ). m % 256) (ap (λ (m : ℕ). n / m) (omega (arith, pow-suc 256 (suc k))) ∙ sym (div-div-eq-div-mul n 256 (256 ^ suc k)))

pub high-first : (w n : ℕ) → bytes_high_first w n ≡ bytes_of w n
high-first zero n = refl
high-first (suc w) n = one-more w n ∙ ap (λ (l : List ℕ). l ++ (n % 256 ∷ [])) (high-first w (n / 256))
  where
    one-more : (w n : ℕ) → bytes_high_first (suc w) n ≡ bytes_high_first w (n / 256) ++ (n % 256 ∷ [])
    one-more zero n = refl
    one-more (suc w) n = rw (shifted w n, one-more w n)
