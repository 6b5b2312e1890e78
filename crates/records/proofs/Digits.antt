-- Laws of big-endian numbers, over the width: bytes behind and before do not matter, the bytes of a number give it back, and one byte
-- more. Assumes nothing.
use Prim.Native.Nat.{ℕ, zero, suc, ◌+◌, ◌/◌, ◌%◌, ◌^◌, ◌≤◌, ◌<◌}
use native.Mathlib.Nat.{zero-add, pow-suc}
use native.Mathlib.Omega.{arith}
use mathlib.Core.Path.{◌≡◌, refl, ap, sym, ◌∙◌}
use mathlib.Core.List.{List, [], ◌∷◌, ◌++◌}
use lib.ListN.{length, get_or, take, drop, length-drop, get_or-append}
use lib.Seq.{get_or-append-add, get_or_at, take-suc, get_or-drop}
use Rattle.records.specs.Bytes.{AreBytes, number, bytes_of}
use Rattle.records.proofs.Laid.{length-bytes}

pub number_append : (w at : ℕ) (s t : List ℕ) → at + w ≤ length s → number (s ++ t) at w ≡ number s at w
number_append zero at s t h = refl
number_append (suc w) at s t h = rw (number_append w at s t (omega arith), get_or-append s t 0 (at + w) (omega arith))

pub number_behind : (w : ℕ) (a s : List ℕ) → number (a ++ s) (length a) w ≡ number s 0 w
number_behind zero a s = refl
number_behind (suc w) a s = rw (number_behind w a s, get_or-append-add a s w 0, zero-add w)

pub number-bytes : (w n : ℕ) → n < 256 ^ w → number (bytes_of w n) 0 w ≡ n
number-bytes zero n h = omega arith
number-bytes (suc w) n h =
    let front : number (bytes_of w (n / 256) ++ (n % 256 ∷ [])) 0 w ≡ n / 256 =
    number_append w 0 (bytes_of w (n / 256)) (n % 256 ∷ []) (omega (arith, length-bytes w (n / 256)))
    ∙ number-bytes w (n / 256) (omega (arith, pow-suc 256 w)) in
    let last : get_or (bytes_of w (n / 256) ++ (n % 256 ∷ [])) (0 + w) 0 ≡ n % 256 =
    get_or_at (bytes_of w (n / 256)) (n % 256) [] 0 (0 + w) (length-bytes w (n / 256) ∙ sym (zero-add w)) in
    rw (front, last) (omega arith)

-- a number stands where its bytes stand
pub number-field : (a b : List ℕ) (w n : ℕ) → n < 256 ^ w → number (a ++ (bytes_of w n ++ b)) (length a) w ≡ n
number-field a b w n h =
    number_behind w a (bytes_of w n ++ b)
    ∙ number_append w 0 (bytes_of w n) b (omega (arith, length-bytes w n))
    ∙ number-bytes w n h

-- one byte more of a part
pub take_more : (s : List ℕ) (at w : ℕ) → at + suc w ≤ length s → take (suc w) (drop at s) ≡ take w (drop at s) ++ (get_or s (at + w) 0 ∷ [])
take_more s at w h =
    take-suc (drop at s) w 0 (omega (arith, length-drop at s))
    ∙ ap (λ (x : ℕ). take w (drop at s) ++ (x ∷ [])) (get_or-drop at s w 0)

append-bytes : (s t : List ℕ) → AreBytes s → AreBytes t → AreBytes (s ++ t)
append-bytes [] t h k = k
append-bytes (b ∷ s) t h k = (h.0, append-bytes s t h.1 k)

-- the bytes of a number are bytes, before others too
pub bytes_below : (w n : ℕ) → AreBytes (bytes_of w n)
bytes_below zero n = tt
bytes_below (suc w) n = append-bytes (bytes_of w (n / 256)) (n % 256 ∷ []) (bytes_below w (n / 256)) (omega arith, tt)

pub bytes-then : (w n : ℕ) (t : List ℕ) → AreBytes t → AreBytes (bytes_of w n ++ t)
bytes-then w n t h = append-bytes (bytes_of w n) t (bytes_below w n) h
