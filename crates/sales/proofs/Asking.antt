-- What a question has and wants: its fields counted byte by byte, and what is put where they are not its own. Assumes nothing.
use Prim.Native.Nat.{ℕ, zero, suc, ◌≤◌, min}
use mathlib.Core.Path.{◌≡◌, refl, ap, sym, ◌∙◌, subst}
use mathlib.Core.Bool.{Bool, true, false, cond}
use mathlib.Core.List.{List, [], ◌∷◌, ◌++◌}
use native.Mathlib.Omega.{arith}
use lib.Dec.{eqb}
use Rattle.std.specs.Prelude.{filter}
use Rattle.std.proofs.Common.{Some, None, rules, tests}
use lib.ListN.{length, take}
use borrow.Author.Tests.{eq-eqb, ne_eqb}
use Rattle.text.specs.Text.{decimal, field_in, text_in, end_in, Put}
use Rattle.text.proofs.Writing.{put_as, put_two, put-size, put-over, text-put, field_put, end-put}
use Rattle.model.specs.Asked.{Work}
use Rattle.queries.specs.Text.{said, bad_word, bad_field, Written}
use Rattle.queries.specs.Meaning.{until, behind}
use Rattle.queries.proofs.Pieces.{until-take}
use Rattle.sales.specs.Sales.{task_fields, both_forms, wants_of, wanted, given, is_asked, unasked, to_sizing}

-- one field behind each space
pub given-spaces : (s : List ℕ) → length (filter (λ (b : ℕ). eqb b 32) s) ≡ given s
given-spaces [] = refl
given-spaces (x ∷ xs) = go (eqb x 32) (given-spaces xs)
  where
    go : (t : Bool) → length (filter (λ (b : ℕ). eqb b 32) xs) ≡ given xs
        → length (cond t (x ∷ filter (λ (b : ℕ). eqb b 32) xs) (filter (λ (b : ℕ). eqb b 32) xs)) ≡ length (cond t (until 32 xs ∷ behind 32 xs) (behind 32 xs))
    go true h = ap suc h
    go false h = h

-- a bad field
pub field_told : (o : List ℕ) (k n : ℕ) {o₁ o₂ o₃ : List ℕ} {a b c : ℕ} → n ≡ k → 1024 ≤ length o → Put o 0 (text_in o 0 bad_field) o₁ a
    → Put o₁ a (field_in o₁ a n) o₂ b → Put o₂ b (end_in o₂ b) o₃ c → Written (said bad_field (k ∷ [])) o o₃ c
field_told o k n {o₁} {o₂} {o₃} {a} {b} {c} e room p q r =
    let first = text-put o 0 bad_field (omega arith) p in
    let second = field_put o₁ a n (omega (arith, first.behind, put-size first)) q in
    let size : length o₂ ≡ length o = put-size second.0 ∙ put-size first in
    let last = end-put o₂ b (omega (arith, first.behind, second.1, size)) r in
    let all : Put o 0 (said bad_field (k ∷ [])) o₃ c =
    put_two first (put_two (put_as (ap (λ (x : ℕ). 32 ∷ decimal x) e) second.0) last.0) in
    record { count = omega (arith, all.behind); whole = put-over (omega (arith, first.behind, second.1, last.1)) all }

-- a bad word
pub word_told : (o : List ℕ) {o₁ : List ℕ} {a : ℕ} → 1024 ≤ length o → Put o 0 (text_in o 0 (said bad_word [])) o₁ a → Written (said bad_word []) o o₁ a
word_told o room p =
    let all = text-put o 0 (said bad_word []) (omega arith) p in
    record { count = omega (arith, all.behind); whole = put-over (omega (arith, all.behind)) all }

-- which of the two
pub no_word : (w g : ℕ) → w ≡ 0 → said bad_word [] ≡ unasked w g
no_word w g e = rw (eq-eqb w 0 e)

pub bad-place : (w g k : ℕ) → (w ≡ 0 → ⊥) → k ≡ suc (min g w) → said bad_field (k ∷ []) ≡ unasked w g
bad-place w g k e h = rw (ne_eqb w 0 e) (ap (λ (n : ℕ). said bad_field (n ∷ [])) h)

-- a word that wants none, and one that wants some
pub wants_none : (n : ℕ) → None ≡ wants_of n → n ≡ 0
wants_none zero e = refl
wants_none (suc n) e = search (rules, tests, e)

pub wants_some : (n w : ℕ) → Some w ≡ wants_of n → (n ≡ w) × (1 ≤ w)
wants_some zero w e = search (rules, tests, e)
wants_some (suc n) w e = search (rules, tests, arith, e)

-- its own fields, or another number of them
pub as_many : (w g : ℕ) → 1 ≤ w → g ≡ w → is_asked w g ≡ true
as_many w g h e = rw (ne_eqb w 0 (λ z. omega arith), eq-eqb g w e) refl

pub not_as_many : (w g : ℕ) → 1 ≤ w → (g ≡ w → ⊥) → is_asked w g ≡ false
not_as_many w g h e = rw (ne_eqb w 0 (λ z. omega arith), ne_eqb g w e) refl

-- the word is what stands before the first space
pub of_word : (q : List ℕ) (end n : ℕ) → end ≡ length (until 32 q) → n ≡ wanted (take end q) → n ≡ wanted (until 32 q)
of_word q end n e h = h ∙ ap (λ (k : ℕ). wanted (take k q)) e ∙ ap wanted (until-take 32 q)

-- a question that can be put, or what is wrong with it
pub either_way : (q : List ℕ) (w : Work) (out after : List ℕ) (n a b : ℕ) (t : Bool) → a ≡ wanted (until 32 q) → b ≡ given q → is_asked a b ≡ t
    → Written (cond t (both_forms (q ++ task_fields w.periods w.costs)) (unasked a b)) out after n → Written (to_sizing q w) out after n
unfolding to_sizing
either_way q w out after n a b t ea eb et h =
    subst (λ (x : ℕ). Written (cond (is_asked x (given q)) (both_forms (q ++ task_fields w.periods w.costs)) (unasked x (given q))) out after n) ea
    (subst (λ (y : ℕ). Written (cond (is_asked a y) (both_forms (q ++ task_fields w.periods w.costs)) (unasked a y)) out after n) eb
    (subst (λ (z : Bool). Written (cond z (both_forms (q ++ task_fields w.periods w.costs)) (unasked a b)) out after n) (sym et) h))
