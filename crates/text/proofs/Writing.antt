-- What is written one after the other stands in one piece, a number that is written from its last digit to its first stands
-- as its digits, a text byte by byte as that text, and where there is room each is put whole. Assumes nothing.
use Prim.Native.Nat.{ℕ, suc, ◌+◌, ◌-◌, ◌/◌, ◌%◌, ◌^◌, ◌≤◌, ◌<◌}
use mathlib.Core.Path.{◌≡◌, refl, ap, sym, ◌∙◌}
use mathlib.Core.Bool.{cond}
use mathlib.Core.List.{List, [], ◌∷◌, ◌++◌}
use native.Mathlib.Omega.{arith}
use native.Mathlib.Nat.{add-zero, zero-add, add-suc, suc-add}
use native.Mathlib.Numerals.{add-one}
use lib.Dec.{ltb}
use lib.ListN.{length, set, length-append}
use lib.Seq.{sets, sets-eq, length-sets, set_comm, take-length}
use borrow.Author.Tests.{lt-ltb, le-ltb}
use borrow.Rule.Slice.PartMut.{put_mid}
use Rattle.std.proofs.lemmas.Slice.{put_mid-paste}
use Rattle.text.specs.Text.{decimal, field_in, end_in, text_in, over, Put}
use Rattle.text.proofs.Figures.{decimal-more, longer, figures-one, figures-length, several-digits, at-most-one}

pub sets_append : (l : List ℕ) (i : ℕ) (xs ys : List ℕ) → sets l i (xs ++ ys) ≡ sets (sets l i xs) (i + length xs) ys
sets_append l i [] ys = rw add-zero
sets_append l i (x ∷ xs) ys = sets_append (set l i x) (suc i) xs ys ∙ rw (add-suc, suc-add)

pub put_two : {o o₁ o₂ xs ys : List ℕ} {a b c : ℕ} → Put o a xs o₁ b → Put o₁ b ys o₂ c → Put o a (xs ++ ys) o₂ c
put_two {o} {o₁} {o₂} {xs} {ys} {a} {b} {c} p q = record {
  behind = omega (arith, length-append xs ys, p.behind, q.behind);
  stored = q.stored ∙ rw (p.stored, p.behind, sets_append);
}

-- a store behind a text commutes with it
sets_set : (l : List ℕ) (i j : ℕ) (xs : List ℕ) (x : ℕ) → i + length xs ≤ j → sets (set l j x) i xs ≡ set (sets l i xs) j x
sets_set l i j [] x h = refl
sets_set l i j (y ∷ ys) x h =
    ap (λ (k : List ℕ). sets k (suc i) ys) (set_comm l j i x y (λ e. absurd (omega arith)))
    ∙ sets_set (set l i y) (suc i) j ys x (omega arith)

-- the last digit first: the rest of the number is still to be put
pub last-digit : (o : List ℕ) (at i n : ℕ) → 10 ≤ n → n < 2 ^ 64 → i ≡ at + length (decimal n)
    → sets (set o (i - 1) (48 + n % 10)) at (decimal (n / 10)) ≡ sets o at (decimal n)
last-digit o at i n some fits e =
    let p : i - 1 ≡ at + length (decimal (n / 10)) = omega (arith, longer n some fits) in
    sets_set o at (i - 1) (decimal (n / 10)) (48 + n % 10) (omega arith)
    ∙ ap (λ (k : ℕ). set (sets o at (decimal (n / 10))) k (48 + n % 10)) p
    ∙ sym (sets_append o at (decimal (n / 10)) ((48 + n % 10) ∷ []))
    ∙ ap (sets o at) (sym (decimal-more n some fits))

pub first-digit : (o : List ℕ) (at n : ℕ) → n < 10 → set o at (48 + n) ≡ sets o at (decimal n)
first-digit o at n h = sym (ap (sets o at) (figures-one 19 n h))

pub ruleset digits = (last-digit, first-digit, figures-length, longer, several-digits, at-most-one)

-- a text at the start of a slice that has room for it
pub put-over : {o o' xs : List ℕ} {n : ℕ} → n ≤ length o → Put o 0 xs o' n → o' ≡ over xs o
put-over {o} {o'} {xs} {n} fits p = p.stored ∙ sets-eq xs o 0 (omega (arith, p.behind)) ∙ rw zero-add

-- the same text under another name
pub put_as : {o o' xs ys : List ℕ} {a b : ℕ} → xs ≡ ys → Put o a xs o' b → Put o a ys o' b
put_as {o} {o'} {xs} {ys} {a} {b} e p =
    record { behind = p.behind ∙ ap (λ (l : List ℕ). a + length l) e; stored = p.stored ∙ ap (sets o a) e }

-- a byte before a text, and two bytes
pub put_first : (o : List ℕ) (a x : ℕ) {o' xs : List ℕ} {b : ℕ} → Put (set o a x) (a + 1) xs o' b → Put o a (x ∷ xs) o' b
put_first o a x {o'} {xs} {b} p = record { behind = omega (arith, p.behind); stored = p.stored ∙ rw add-one }

pub put_letters : (o : List ℕ) (a x y : ℕ) → Put o a (x ∷ y ∷ []) (set (set o a x) (a + 1) y) (a + 2)
put_letters o a x y = record { behind = omega arith; stored = rw add-one }

-- putting keeps the length
pub put-size : {o o' xs : List ℕ} {a b : ℕ} → Put o a xs o' b → length o' ≡ length o
put-size {o} {o'} {xs} {a} {b} p = ap length p.stored ∙ length-sets o a xs

-- a part of a slice that is written whole
pub put_part : (o xs : List ℕ) (a k : ℕ) {ys : List ℕ} → a + length xs ≤ length o → k ≡ length xs → ys ≡ xs
    → Put o a xs (put_mid a k o ys) (a + length xs)
put_part o xs a k {ys} room all same =
    let part = put_mid-paste a k o ys xs (length xs) same (sym all) refl in
    record { behind = refl; stored = part ∙ rw (take-length xs) (sym (sets-eq xs o a room)) }

-- where there is room all is put
pub room_fits : (o : List ℕ) (m : ℕ) (xs : List ℕ) → m ≤ length o → cond (ltb (length o) m) [] xs ≡ xs
room_fits o m xs room = rw (le-ltb (length o) m room)

pub end_fits : (o : List ℕ) (a : ℕ) → a < length o → end_in o a ≡ 10 ∷ []
end_fits o a room = rw (lt-ltb a (length o) room)

-- so where there is room the promises are plain
pub field_put : (o : List ℕ) (a n : ℕ) {o' : List ℕ} {b : ℕ} → a + 21 ≤ length o → Put o a (field_in o a n) o' b
    → Put o a (32 ∷ decimal n) o' b × (b ≤ a + 21)
field_put o a n room p =
    let q = put_as (room_fits o (a + 21) (32 ∷ decimal n) room) p in (q, omega (arith, q.behind, figures-length 20 n))

pub end-put : (o : List ℕ) (a : ℕ) {o' : List ℕ} {b : ℕ} → a < length o → Put o a (end_in o a) o' b
    → Put o a (10 ∷ []) o' b × (b ≤ a + 1)
end-put o a room p = let q = put_as (end_fits o a room) p in (q, omega (arith, q.behind))

pub text-put : (o : List ℕ) (a : ℕ) (xs : List ℕ) {o' : List ℕ} {b : ℕ} → a + length xs ≤ length o → Put o a (text_in o a xs) o' b
    → Put o a xs o' b
text-put o a xs room p = put_as (room_fits o (a + length xs) xs room) p

-- behind a text of at most k bytes: another of at most m, a field (n, told as m), and the end
pub put-behind : {o o₁ o₂ xs ys : List ℕ} {a b c : ℕ} (k m : ℕ) → Put o a xs o₁ b × (b ≤ a + k) → Put o₁ b ys o₂ c × (c ≤ b + m)
    → Put o a (xs ++ ys) o₂ c × (c ≤ a + (k + m))
put-behind k m p q = (put_two p.0 q.0, omega (arith, p.1, q.1))

pub field-behind : {o o₁ o₂ xs : List ℕ} {a b c : ℕ} (k n m : ℕ) → n ≡ m → a + (k + 21) ≤ length o
    → Put o a xs o₁ b × (b ≤ a + k) → Put o₁ b (field_in o₁ b n) o₂ c
    → Put o a (xs ++ (32 ∷ decimal m)) o₂ c × (c ≤ a + (k + 21))
field-behind {o} {o₁} {o₂} {xs} {a} {b} {c} k n m e room p q =
    let r = field_put o₁ b n (omega (arith, p.1, put-size p.0)) q in
    put-behind k 21 p (put_as (ap (λ (x : ℕ). 32 ∷ decimal x) e) r.0, r.1)

pub end-behind : {o o₁ o₂ xs : List ℕ} {a b c : ℕ} (k : ℕ) → a + (k + 1) ≤ length o
    → Put o a xs o₁ b × (b ≤ a + k) → Put o₁ b (end_in o₁ b) o₂ c → Put o a (xs ++ (10 ∷ [])) o₂ c × (c ≤ a + (k + 1))
end-behind {o} {o₁} {o₂} {xs} {a} {b} {c} k room p q = put-behind k 1 p (end-put o₁ b (omega (arith, p.1, put-size p.0)) q)
