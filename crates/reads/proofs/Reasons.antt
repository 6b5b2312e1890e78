-- What it tells that a program ends: which of the reasons to end applied. Assumes nothing.
use Rattle.std.proofs.Common.{◌≡◌, ℕ, ◌^◌, ◌≤◌, ◌<◌, Bool, true, false, cond, leb, refl, ap, sym, ◌∙◌, arith, Option, Some, None}
use borrow.Author.Tests.{leb-true, leb-false}
use Rattle.reads.specs.declared.machine.End.{End}
use Rattle.reads.specs.declared.machine.End.TheVariants.{EndOfInput, Refused, ReadFailed, WriteFailed, ByteLimit}
use Rattle.reads.specs.Reads.{most_bytes}
use Rattle.reads.specs.Machine.{ends_by}

-- no two of these are equal
abbrev pub number : Option End → ℕ
number None = 0
number (Some EndOfInput) = 1
number (Some Refused) = 2
number (Some ReadFailed) = 3
number (Some WriteFailed) = 4
number (Some ByteLimit) = 5

-- what holds where the machine has no reason of its own, since it holds where its reason applies
pub each-reason : (P : Option End → Type 0) (last : Bool) (offset : ℕ) → (last ≡ true → P (Some EndOfInput))
    → (last ≡ false → most_bytes ≤ offset → P (Some ByteLimit)) → (last ≡ false → offset < most_bytes → P None)
    → P (ends_by None last offset)
each-reason P true offset end limit on = end refl
each-reason P false offset end limit on = go (leb most_bytes offset) refl
  where
    go : (t : Bool) → leb most_bytes offset ≡ t → P (cond t (Some ByteLimit) None)
    go true t = limit refl (leb-true most_bytes offset t)
    go false t = on refl (leb-false most_bytes offset t)

-- what it takes to go on
pub goes_when : (end : Option End) (last : Bool) (offset : ℕ) → ends_by end last offset ≡ None → (end ≡ None) × (last ≡ false) × (offset < most_bytes)
goes_when (Some e) last offset h = let z : ◌≡◌ {A = Option End} None (Some e) = sym h in cc
goes_when None last offset h =
    each-reason (λ (e : Option End). e ≡ None → (◌≡◌ {A = Option End} None None) × (last ≡ false) × (offset < most_bytes)) last offset
    (λ a h. absurd (omega (arith, ap number h))) (λ a b h. absurd (omega (arith, ap number h))) (λ a b h. (refl, a, b)) h

module _ (last : Bool) (offset : ℕ) where
  pub end-last : ends_by None last offset ≡ Some EndOfInput → last ≡ true
  end-last =
      each-reason (λ (e : Option End). e ≡ Some EndOfInput → last ≡ true) last offset (λ a h. a)
      (λ a b h. absurd (omega (arith, ap number h))) (λ a b h. absurd (omega (arith, ap number h)))

  pub last-ends : last ≡ true → ends_by None last offset ≡ Some EndOfInput
  last-ends h = ap (λ (t : Bool). ends_by None t offset) h

  pub no-read-failed : ends_by None last offset ≡ Some ReadFailed → ⊥
  no-read-failed =
      each-reason (λ (e : Option End). e ≡ Some ReadFailed → ⊥) last offset (λ a h. omega (arith, ap number h))
      (λ a b h. omega (arith, ap number h)) (λ a b h. omega (arith, ap number h))

  pub unrefused : ends_by None last offset ≡ Some Refused → ⊥
  unrefused =
      each-reason (λ (e : Option End). e ≡ Some Refused → ⊥) last offset (λ a h. omega (arith, ap number h))
      (λ a b h. omega (arith, ap number h)) (λ a b h. omega (arith, ap number h))

-- the limit is beyond what any run uses
pub limit_when : (end : Option End) (last : Bool) (offset : ℕ) → (end ≡ Some ByteLimit → ⊥) → ends_by end last offset ≡ Some ByteLimit → 2 ^ 63 ≤ offset
limit_when (Some e) last offset n h = absurd (n h)
limit_when None last offset n h =
    each-reason (λ (e : Option End). e ≡ Some ByteLimit → 2 ^ 63 ≤ offset) last offset (λ a h. absurd (omega (arith, ap number h)))
    (λ a b h. omega (arith, b)) (λ a b h. absurd (omega (arith, ap number h))) h

-- a failed write is told from every other end
pub not_write : (now how : Option End) → now ≡ Some WriteFailed → (number how ≡ 4 → ⊥) → now ≡ how → ⊥
not_write now how w n h = n (ap number (sym h ∙ w))
