-- An answer behind the name of its form, put in parts, and the two lines that are asked. Assumes nothing.
use Prim.Native.Nat.{ℕ, ◌+◌, ◌-◌, ◌≤◌}
use mathlib.Core.Path.{◌≡◌, refl, ap, sym, ◌∙◌, subst}
use mathlib.Core.Bool.{Bool, cond}
use mathlib.Core.List.{List, [], ◌++◌}
use native.Mathlib.Omega.{arith}
use lib.ListN.{length, take, drop, length-append, length-drop}
use lib.Seq.{take_at}
use borrow.Author.Tests.{le-ltb, eq-eqb, ne_eqb}
use Rattle.text.specs.Text.{text_in, Put}
use Rattle.text.proofs.Writing.{put_as, put_two, put-over, put-size, text-put}
use Rattle.queries.specs.Text.{longest, answer_in, Written}
use Rattle.sales.specs.Sales.{aligned, named}

-- a longest answer has room, so the answer stands in front
pub record InFront (answer left : List ℕ) (n : ℕ) : Type 0 where
  pub size_is : n ≡ length answer
  pub within : n ≤ length left
  pub front : take n left ≡ answer

pub in_front : (answer room left : List ℕ) (n : ℕ) → longest ≤ length room → length left ≡ length room
    → Written (answer_in answer room) room left n → InFront answer left n
in_front answer room left n some size w =
    let all : answer_in answer room ≡ answer = ap (λ (t : Bool). cond t [] answer) (le-ltb (length room) longest some) in
    let v : Written answer room left n = subst (λ (l : List ℕ). Written l room left n) all w in
    let whole : length left ≡ length answer + (length room - length answer) =
    ap length v.whole ∙ length-append answer (drop (length answer) room) ∙ omega (arith, length-drop (length answer) room) in
    record {
      size_is = v.count;
      within = omega (arith, v.count, whole, size);
      front = ap (take n) v.whole ∙ take_at answer (drop (length answer) room) n (sym v.count);
    }

module _ (name answer left : List ℕ) (n : ℕ) (f : InFront answer left n) (o : List ℕ) (at : ℕ) where
  pub none_named : n ≡ 0 → Put o at (named name answer) o at
  none_named e =
      let none : named name answer ≡ [] =
      ap (λ (t : Bool). cond t [] (name ++ answer)) (eq-eqb (length answer) 0 (omega (arith, f.size_is))) in
      put_as (sym none) (record { behind = omega arith; stored = refl })

  pub some-named : {o₁ o₂ : List ℕ} {from next : ℕ} → (n ≡ 0 → ⊥) → at + length name + longest ≤ length o → length left ≡ longest
      → Put o at (text_in o at name) o₁ from → Put o₁ from (text_in o₁ from (take n left)) o₂ next
      → Put o at (named name answer) o₂ next × (next ≤ at + length name + longest)
  some-named {o₁} {o₂} {from} {next} e room size p q =
      let some : named name answer ≡ name ++ answer =
      ap (λ (t : Bool). cond t [] (name ++ answer)) (ne_eqb (length answer) 0 (λ z. e (omega (arith, f.size_is)))) in
      let first = text-put o at name (omega arith) p in
      let few : length answer ≤ longest = omega (arith, f.size_is, f.within) in
      let second = text-put o₁ from answer (omega (arith, first.behind, put-size first)) (put_as (ap (text_in o₁ from) f.front) q) in
      (put_as (sym some) (put_two first second), omega (arith, first.behind, second.behind))

-- the line in the aligned form, and behind that word the one in the ordinary form
pub both_lines : {o o' rest : List ℕ} {end : ℕ} → end ≤ length o → Put o 0 (aligned ++ rest) o' end
    → (take (end - 8) (drop 8 o') ≡ rest) × (take end o' ≡ aligned ++ rest)
both_lines {o} {o'} {rest} {end} fits p =
    let tail : List ℕ = drop (length (aligned ++ rest)) o in
    let whole : o' ≡ (aligned ++ rest) ++ tail = put-over fits p in (
      ap (λ (l : List ℕ). take (end - 8) (drop 8 l)) whole ∙ take_at rest tail (end - 8) (omega (arith, p.behind)),
      ap (take end) whole ∙ take_at (aligned ++ rest) tail end (omega (arith, p.behind)),
    )

-- both answers, one behind the other, at the start
pub both_put : {o o₁ o₂ xs ys : List ℕ} {a b : ℕ} → Put o 0 xs o₁ a → Put o₁ a ys o₂ b → b ≤ length o → Written (xs ++ ys) o o₂ b
both_put {o} {o₁} {o₂} {xs} {ys} {a} {b} p q fits =
    let all = put_two p q in
    record { count = omega (arith, all.behind); whole = put-over fits all }
