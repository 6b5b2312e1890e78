-- One step of each search over the table, and the shifts of a table.
-- Assumes nothing.
use Prim.Native.Nat.{ℕ, zero, suc, ◌+◌, ◌-◌, ◌≤◌, ◌<◌}
use mathlib.Core.Path.{◌≡◌, refl, ap, sym, ◌∙◌, subst}
use mathlib.Core.Bool.{Bool, true, false, cond, not, ◌||◌, ◌&&◌}
use mathlib.Core.List.{List, [], ◌∷◌, ◌++◌}
use native.Mathlib.Omega.{arith}
use native.Mathlib.Numerals.{add-one}
use lib.Dec.{eqb, ltb}
use borrow.Author.Tests.{ltb-false}
use lib.ListN.{replicate, length, take, drop, get_or, set}
use lib.Seq.{paste}
use Rattle.std.specs.List.{position, position_or_len, zip}
use Rattle.std.specs.Prelude.{Some, None, unwrap_or}
use Rattle.std.proofs.lemmas.List.Recursion.{is_position_or_len}
use Rattle.std.proofs.lemmas.List.Sums.{prefix_len-le-length}
use Rattle.units.specs.declared.Tunnel.{Tunnel}
use Rattle.rules.specs.Vcpu.{more_urgent}
use Rattle.rules.specs.Vcpu.{Description as Terms}
use Rattle.turns.specs.declared.Vcpu.{Vcpu}
use Rattle.turns.specs.Places.{seek, on_table, spot_in, inserted, removed}

-- the place sought is a position
pub seek_found : (t : ℕ) (l : List Tunnel) → length l ≡ 32 → position (λ (x : Tunnel). eqb x.0 t) l ≡ on_table (seek t l)
seek_found t l h =
    let e = is_position_or_len (seek t) (λ (x : Tunnel). eqb x.0 t) refl (λ x xs. ap (cond (eqb x.0 t) 0) (omega arith)) l in
    rw (sym e, h) refl

-- the newcomer's place is a position among the first n, or n
abbrev below_it : Terms → Vcpu × Tunnel → Bool
below_it d x = ltb d.priority x.0.priority || (eqb d.priority x.0.priority && ltb d.tunnel x.1.0)

spot-position : (d : Terms) (n : ℕ) (vs : List Vcpu) (ts : List Tunnel) → n ≤ length vs → n ≤ length ts
    → (length (zip (take n vs) (take n ts)) ≡ n) × (position_or_len (below_it d) (zip (take n vs) (take n ts)) ≡ spot_in d n vs ts)
unfolding more_urgent
spot-position d zero vs ts h g = (refl, refl)
spot-position d (suc n) [] ts h g = absurd (omega arith)
spot-position d (suc n) (v ∷ vs) [] h g = absurd (omega arith)
spot-position d (suc n) (v ∷ vs) (t ∷ ts) h g =
    let i = spot-position d n vs ts (omega arith) (omega arith) in (omega (arith, i.0), go (below_it d (v, t)) i.1)
  where
    go : (b : Bool) {x y : ℕ} → x ≡ y → cond (not b) (1 + x) 0 ≡ cond b 0 (suc y)
    go true e = refl
    go false e = omega (arith, e)

pub spot-found : (d : Terms) (n : ℕ) (vs : List Vcpu) (ts : List Tunnel) → n ≤ length vs → n ≤ length ts
    → unwrap_or (position (below_it d) (zip (take n vs) (take n ts))) n ≡ spot_in d n vs ts
spot-found d n vs ts h g =
    let i = spot-position d n vs ts h g in
    let l = prefix_len-le-length (λ x. not (below_it d x)) (zip (take n vs) (take n ts)) in
    rw (i.1, i.0) (go (ltb (spot_in d n vs ts) n) refl (omega (arith, l, i.0, i.1)))
  where
    go : (b : Bool) {x : ℕ} → ltb x n ≡ b → x ≤ n → unwrap_or (cond b (Some x) None) n ≡ x
    go true e k = refl
    go false e k = omega (arith, ltb-false _ _ e)

-- the two shifts of a table, as `copy_within` and one write make them of the places in use; the others hold a filler `z`
module _ {A : Type 0} where
  -- a filler put in front of fillers
  pushed_blank : (f : ℕ) (z y : A) (l : List A) → y ∷ l ≡ replicate f z → l ≡ inserted 0 y l
  pushed_blank f z y [] e = refl
  pushed_blank zero z y (x ∷ l) e = absurd (omega (arith, ap length e))
  pushed_blank (suc zero) z y (x ∷ l) e = absurd (omega (arith, ap length e))
  pushed_blank (suc (suc f)) z y (x ∷ l) e =
      let a : y ≡ z = ap (λ (r : List A). get_or r 0 y) e in
      let b : x ≡ z = ap (λ (r : List A). get_or r 1 y) e in
      ap (λ (w : A). w ∷ l) (b ∙ sym a) ∙ ap (λ (r : List A). y ∷ r) (pushed_blank (suc f) z x l (ap (drop 1) e))

  pushed : (m f : ℕ) (z y : A) (l : List A) → m ≤ length l → drop m (y ∷ l) ≡ replicate f z → take m (y ∷ l) ++ drop m l ≡ inserted 0 y l
  pushed zero f z y l h e = pushed_blank f z y l e
  pushed (suc m) f z y [] h e = absurd (omega arith)
  pushed (suc m) f z y (x ∷ l) h e = ap (λ (r : List A). y ∷ r) (pushed m f z x l (omega arith) e)

  put_in_at : (at m n e f : ℕ) (z y : A) (l : List A) → n ≡ at + m → e ≡ suc (at + m) → n < length l → drop n l ≡ replicate f z
      → set (take (suc at) l ++ take m (drop at l) ++ drop e l) at y ≡ inserted at y l
  put_in_at at m n e f z y [] g i h b = absurd (omega arith)
  put_in_at at m n zero f z y (x ∷ l) g i h b = absurd (omega arith)
  put_in_at zero m n (suc e) f z y (x ∷ l) g i h b =
      let j : e ≡ m = omega arith in
      let k : n ≡ m = omega arith in
      rw j (ap (λ (r : List A). y ∷ r) (pushed m f z x l (omega arith) (rw k at b)))
  put_in_at (suc k) m zero (suc e) f z y (x ∷ l) g i h b = absurd (omega arith)
  put_in_at (suc k) m (suc n) (suc e) f z y (x ∷ l) g i h b =
      ap (λ (r : List A). x ∷ r) (put_in_at k m n e f z y l (omega arith) (omega arith) (omega arith) b)

  pub put_in : (at n f : ℕ) (z y : A) (l : List A) → at ≤ n → n < length l → drop n l ≡ replicate f z
      → set (paste l (at + 1) (drop at l) (n - at)) at y ≡ inserted at y l
  put_in at n f z y l h g b =
      rw (add-one at) (put_in_at at (n - at) n (suc at + (n - at)) f z y l (omega arith) (omega arith) g b)

  -- a filler behind fillers
  ended_blank : (f : ℕ) (z : A) → z ∷ replicate f z ≡ replicate f z ++ z ∷ []
  ended_blank zero z = refl
  ended_blank (suc f) z = ap (λ (r : List A). z ∷ r) (ended_blank f z)

  closed : (k f : ℕ) (y z : A) (l : List A) → k ≤ length l → drop k l ≡ replicate f z → set (take k l ++ drop k (y ∷ l)) k z ≡ l ++ z ∷ []
  closed zero f y z l h b = rw b (ended_blank f z)
  closed (suc k) f y z [] h b = absurd (omega arith)
  closed (suc k) f y z (x ∷ l) h b = ap (λ (r : List A). x ∷ r) (closed k f x z l (omega arith) b)

  take_out_at : (at m e k f : ℕ) (z : A) (l : List A) → k ≡ at + m → e ≡ at + m → k < length l → drop (suc k) l ≡ replicate f z
      → set (take at l ++ take m (drop (suc at) l) ++ drop e l) k z ≡ removed at z l
  take_out_at at m e k f z [] g i h b = absurd (omega arith)
  take_out_at zero m e k f z (x ∷ l) g i h b =
      let j : m ≡ k = omega arith in
      let j' : e ≡ k = omega arith in
      rw (j, j') (closed k f x z l (omega arith) b)
  take_out_at (suc at) m zero k f z (x ∷ l) g i h b = absurd (omega arith)
  take_out_at (suc at) m (suc e) zero f z (x ∷ l) g i h b = absurd (omega arith)
  take_out_at (suc at) m (suc e) (suc k) f z (x ∷ l) g i h b =
      ap (λ (r : List A). x ∷ r) (take_out_at at m e k f z l (omega arith) (omega arith) (omega arith) b)

  pub take_out : (at n f : ℕ) (z : A) (l : List A) → at < n → n ≤ length l → drop n l ≡ replicate f z
      → set (paste l at (drop (at + 1) l) (n - (at + 1))) (n - 1) z ≡ removed at z l
  take_out at n f z l h g b =
      let i : n ≡ suc (n - 1) = omega arith in
      rw (add-one at)
      (take_out_at at (n - suc at) (at + (n - suc at)) (n - 1) f z l (omega arith) refl (omega arith)
      (subst (λ (j : ℕ). drop j l ≡ replicate f z) i b))
