-- The numbers that the bytes begin with, in plain facts (`Begins`), are the numbers that the rule reads at their places.
-- Assumes nothing.
use Prim.Native.Nat.{ℕ, zero, suc, ◌+◌, ◌*◌, ◌^◌, ◌≤◌}
use native.Mathlib.Nat.{pow-suc, mul_assoc}
use native.Mathlib.Numerals.{add-one}
use native.Mathlib.Omega.{arith}
use mathlib.Core.Path.{◌≡◌, refl, ap, sym, ◌∙◌, subst}
use mathlib.Core.List.{List, [], ◌∷◌, ◌++◌}
use lib.ListN.{length, take, drop, get_or, length-append, length-drop, take-append-drop}
use lib.Seq.{length-take-le, drop-drop, take_at, drop_at}
use Rattle.records.specs.Bytes.{number}
use Rattle.records.specs.Rows.{big_endian, Begins}
use Rattle.records.proofs.Digits.{take_more}

-- a byte more, behind the others
big_more : (bytes : List ℕ) (b : ℕ) → big_endian (bytes ++ (b ∷ [])) ≡ big_endian bytes * 256 + b
big_more [] b = omega arith
big_more (a ∷ bytes) b =
    let n : ℕ = 256 ^ length bytes in
    let l : length (bytes ++ (b ∷ [])) ≡ suc (length bytes) = length-append bytes (b ∷ []) ∙ add-one (length bytes) in
    let p : a * 256 ^ length (bytes ++ (b ∷ [])) ≡ a * n * 256 =
    ap (λ (k : ℕ). a * 256 ^ k) l ∙ ap (λ (k : ℕ). a * k) (pow-suc 256 (length bytes)) ∙ sym (mul_assoc a n 256) in
    omega (arith, p, big_more bytes b)

number_big : (s : List ℕ) (w at : ℕ) → at + w ≤ length s → number s at w ≡ big_endian (take w (drop at s))
number_big s zero at h = refl
number_big s (suc w) at h =
    rw (number_big s w at (omega arith)) (sym (ap big_endian (take_more s at w h) ∙ big_more (take w (drop at s)) (get_or s (at + w) 0)))

-- the numbers stand one behind the other from `at` on
abbrev pub Stand : List ℕ → ℕ → List (ℕ × ℕ) → Type 0
Stand s at [] = Unit {0}
Stand s at (field ∷ fields) = (at + field.1 ≤ length s) × (number s at field.1 ≡ field.0) × Stand s (at + field.1) fields

pub begins : (s : List ℕ) (at : ℕ) (fields : List (ℕ × ℕ)) → Stand s at fields → Begins (drop at s) fields
begins s at [] h = tt
begins s at (field ∷ fields) h =
    let w : ℕ = field.1 in
    let x : List ℕ = drop at s in (
      take w x,
      drop (at + w) s,
      sym (take-append-drop w x) ∙ ap (λ (r : List ℕ). take w x ++ r) (drop-drop w at s),
      length-take-le w x (omega (arith, length-drop at s, h.0)),
      sym (number_big s w at h.0) ∙ h.1,
      begins s (at + w) fields h.2,
    )

pub stand : (s : List ℕ) (at : ℕ) (fields : List (ℕ × ℕ)) → at ≤ length s → Begins (drop at s) fields → Stand s at fields
stand s at [] h b = tt
stand s at (field ∷ fields) h b =
    let w : ℕ = field.1 in
    let x : List ℕ = drop at s in
    let long : at + w ≤ length s = omega (arith, length-drop at s, ap length b.2, length-append b.0 b.1, b.3) in
    let front : take w x ≡ b.0 = ap (take w) b.2 ∙ take_at b.0 b.1 w b.3 in
    let behind : b.1 ≡ drop (at + w) s = sym (drop_at b.0 b.1 w b.3) ∙ ap (drop w) (sym b.2) ∙ drop-drop w at s in (
      long,
      number_big s w at long ∙ ap big_endian front ∙ b.4,
      stand s (at + w) fields long (subst (λ (r : List ℕ). Begins r fields) behind b.5),
    )
