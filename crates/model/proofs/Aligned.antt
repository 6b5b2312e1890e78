-- The aligned form supplies no less than the ordinary one over every length, so that what passes in the ordinary form passes in it; and
-- over t it supplies what the ordinary one does over t and a gap more. Assumes nothing.
use Prim.Native.Nat.{ℕ, zero, suc, ◌+◌, ◌*◌, ◌-◌, ◌/◌, ◌%◌, ◌≤◌, ◌<◌}
use mathlib.Core.Path.{◌≡◌, refl, ap, ◌∙◌}
use mathlib.Core.List.{List}
use mathlib.Core.Logic.{◌⊎◌, inl, inr}
use native.Mathlib.Omega.{arith}
use native.Mathlib.Nat.{div-add-mod', mod-lt, le-div_iff_mul-le, mul-le-mul_right}
use Rattle.model.specs.Form.{ordinary, aligned}
use Rattle.model.specs.Supply.{supply_of}
use Rattle.model.specs.Meaning.{Pass}
use Rattle.model.proofs.Tests.{below-or-from}
use Rattle.model.proofs.Supply.{supply-short, supply-long, supply-aligned, supply-means, supply-only}

-- with t = y·P + r and t - g = z·P + s, g = P - B
module _ (P B y z r s : ℕ) (fits : B ≤ P) (s-lt : s < P) (z-le : z ≤ y) where
  no_less : z * P + s + (P - B) ≡ y * P + r → z * B + (s - (P - B)) ≤ y * B + (r - (P - B))
  no_less e = go (below-or-from z y)
    where
      go : (z < y) ⊎ (y ≤ z) → z * B + (s - (P - B)) ≤ y * B + (r - (P - B))
      go (inl lt) = omega (arith, mul-le-mul_right B lt)
      go (inr ge) = let same : z ≡ y = omega arith in rw same (omega (arith, rw same at e))

pub supplies_no_less : (P B t : ℕ) → B ≤ P → 1 ≤ P → supply_of ordinary P B t ≤ supply_of aligned P B t
supplies_no_less P B t fits pos = go (below-or-from t (P - B))
  where
    go : (t < P - B) ⊎ (P - B ≤ t) → supply_of ordinary P B t ≤ supply_of aligned P B t
    go (inl h) = omega (arith, supply-short ordinary P B t h)
    go (inr h) =
        let y = t / P in
        let z = (t - (P - B)) / P in
        let t-is = div-add-mod' t P in
        let g-is = div-add-mod' (t - (P - B)) P in
        let r-lt = mod-lt t pos in
        omega (
          arith,
          supply-long P B t h,
          supply-aligned P B t h,
          t-is,
          g-is,
          no_less P B y z (t % P) ((t - (P - B)) % P) fits (mod-lt (t - (P - B)) pos)
              ((le-div_iff_mul-le {k = P} {x = z} {y = t} pos).1 (omega (arith, g-is))) (omega (arith, t-is, g-is)),
        )

-- what passes in the ordinary form passes in the aligned one
pub passes_too : (P B : ℕ) (ps es : List ℕ) → 1 ≤ P → B ≤ P → Pass ordinary P B ps es → Pass aligned P B ps es
passes_too P B ps es pos fits pass i from to =
    let m = pass i from to in
    let s = supply-only P B m.t ordinary m.supply m.supplied in
    record {
      t = m.t;
      supply = supply_of aligned P B m.t;
      demand = m.demand;
      from_1 = m.from_1;
      to_p = m.to_p;
      supplied = supply-means P B m.t aligned pos;
      demanded = m.demanded;
      enough = omega (arith, m.enough, s, supplies_no_less P B m.t fits pos);
    }

-- the aligned supply is the ordinary one a gap later
pub gap-later : (P B t : ℕ) → 1 ≤ P → supply_of aligned P B t ≡ supply_of ordinary P B (t + (P - B))
gap-later P B t pos = go (below-or-from t (P - B))
  where
    later : supply_of ordinary P B (t + (P - B)) ≡ t / P * B + (t + (P - B) - (2 * (P - B) + t / P * P))
    later =
        let back : t + (P - B) - (P - B) ≡ t = omega arith in
        supply-long P B (t + (P - B)) (omega arith)
        ∙ ap (λ (x : ℕ). x / P * B + (t + (P - B) - (2 * (P - B) + x / P * P))) back

    none : (q : ℕ) → q * P ≤ t → t < P → q ≡ 0
    none zero h l = refl
    none (suc q) h l = absurd (omega (arith, h, mul-le-mul_right {m = 1} {n = suc q} P (omega arith)))

    go : (t < P - B) ⊎ (P - B ≤ t) → supply_of aligned P B t ≡ supply_of ordinary P B (t + (P - B))
    go (inl h) =
        let z : t / P ≡ 0 = none (t / P) (omega (arith, div-add-mod' t P)) (omega arith) in
        let y : t / P * B ≡ 0 = ap (λ (q : ℕ). q * B) z ∙ omega arith in
        omega (arith, supply-short aligned P B t h, later, y)
    go (inr h) = omega (arith, supply-aligned P B t h, later)
