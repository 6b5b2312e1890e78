-- The laws of the supply curve on which the search rests, in either form: the shortest length that supplies d ticks, that it is the
-- inverse of supply, and that it falls as the budget grows. The two forms differ in how many gaps the first tick waits for, and in nothing
-- else. Assumes nothing.
use Prim.Native.Nat.{ℕ, zero, suc, ◌+◌, ◌*◌, ◌-◌, ◌/◌, ◌%◌, ◌≤◌, ◌<◌}
use mathlib.Core.Path.{◌≡◌, ap, ◌∙◌}
use mathlib.Core.Logic.{◌⊎◌, inl, inr}
use native.Mathlib.Omega.{arith}
use native.Mathlib.Nat.{div-add-mod', mod-lt, mul-le-mul, mul-le-mul_left, mul-le-mul_right, mul-add}
use Rattle.model.specs.Form.{Form, ordinary, aligned}
use Rattle.model.specs.Supply.{supply_of}
use Rattle.model.proofs.Tests.{below-or-from}
use Rattle.model.proofs.Supply.{supply-short, supply-long, supply-aligned}
use Rattle.shares.specs.Private.{gaps_of}
use Rattle.shares.proofs.Numbers.{div_mono, div_anti}

-- what the first whole period waits for: a gap less than the first tick
abbrev pub head_of : Form → ℕ → ℕ → ℕ
head_of form P B = (gaps_of form - 1) * (P - B)

-- how much longer than d ticks the shortest length is over which d ticks are supplied, and that length
abbrev pub waited_of : Form → ℕ → ℕ → ℕ → ℕ
waited_of form P B d = (P - B) * (gaps_of form + (d - 1) / B)

abbrev pub reach_of : Form → ℕ → ℕ → ℕ → ℕ
reach_of form P B d = d + waited_of form P B d

-- both formulas of model's specs/Supply.antt, as one
pub supply-from : (form : Form) (P B t : ℕ) → P - B ≤ t
    → supply_of form P B t ≡ (t - head_of form P B) / P * B + (t - (gaps_of form * (P - B) + (t - head_of form P B) / P * P))
supply-from ordinary P B t h =
    let e : head_of ordinary P B ≡ P - B = omega arith in
    rw e (supply-long P B t h)
supply-from aligned P B t h =
    let e : t - head_of aligned P B ≡ t = omega arith in
    let g : gaps_of aligned * (P - B) ≡ P - B = omega arith in
    rw (e, g) (supply-aligned P B t h)

-- with the number of gaps in hand
pub supply-with : (form : Form) (n P B t : ℕ) → n ≡ gaps_of form → P - B ≤ t
    → supply_of form P B t ≡ (t - (n - 1) * (P - B)) / P * B + (t - (n * (P - B) + (t - (n - 1) * (P - B)) / P * P))
supply-with form n P B t e h = rw e (supply-from form P B t h)

pub waited_with : (form : Form) (n P B d : ℕ) → n ≡ gaps_of form → (P - B) * (n + (d - 1) / B) ≡ waited_of form P B d
waited_with form n P B d e = ap (λ (m : ℕ). (P - B) * (m + (d - 1) / B)) e

pub gaps_few : (form : Form) → (1 ≤ gaps_of form) × (gaps_of form ≤ 2)
gaps_few ordinary = (omega arith, omega arith)
gaps_few aligned = (omega arith, omega arith)

-- the form that waits for n gaps: of those two, its own
abbrev pub form_of : ℕ → Form
form_of zero = ordinary
form_of (suc zero) = aligned
form_of (suc (suc n)) = ordinary

pub form_of_lem : (form : Form) (n : ℕ) → n ≡ gaps_of form → form_of n ≡ form
form_of_lem ordinary n e = rw e
form_of_lem aligned n e = rw e

-- with P = B + g, t = w + y·P + r and d = k·B + s + 1, both sides are sums of products of these
module _ (w B g y r k s : ℕ) (r-lt : r < B + g) (s-lt : s < B) where
  up : w + g + k * (B + g) + s + 1 ≤ w + y * (B + g) + r → k * B + s + 1 ≤ y * B + (r - g)
  up h = go (below-or-from k y) (below-or-from y k)
    where
      go : (k < y) ⊎ (y ≤ k) → (y < k) ⊎ (k ≤ y) → k * B + s + 1 ≤ y * B + (r - g)
      go (inl lt) _ = omega (arith, mul-le-mul_right B lt)
      go (inr ge) (inl gt) = absurd (omega (arith, mul-le-mul_right (B + g) gt))
      go (inr ge) (inr le) = let e : k ≡ y = omega arith in rw (← e) (omega (arith, rw (← e) at h))

  down : k * B + s + 1 ≤ y * B + (r - g) → w + g + k * (B + g) + s + 1 ≤ w + y * (B + g) + r
  down h = go (below-or-from k y) (below-or-from y k)
    where
      go : (k < y) ⊎ (y ≤ k) → (y < k) ⊎ (k ≤ y) → w + g + k * (B + g) + s + 1 ≤ w + y * (B + g) + r
      go (inl lt) _ = omega (arith, mul-le-mul_right (B + g) lt)
      go (inr ge) (inl gt) = absurd (omega (arith, mul-le-mul_right B gt))
      go (inr ge) (inr le) = let e : k ≡ y = omega arith in rw (← e) (omega (arith, rw (← e) at h))

-- the gaps are the head and one more
head-gap : (form : Form) (P B : ℕ) → (gaps_of form * (P - B) ≡ head_of form P B + (P - B)) × (head_of form P B ≤ P - B)
head-gap ordinary P B = (omega arith, omega arith)
head-gap aligned P B = (omega arith, omega arith)

-- the quantities of `up` and `down`, from P, B, t and d
module _ (form : Form) (P B t d : ℕ) (pos : 1 ≤ B) (fits : B ≤ P) (some-d : 1 ≤ d) where
  abbrev head : ℕ
  head = head_of form P B

  abbrev periods : ℕ
  periods = (t - head) / P

  abbrev rest : ℕ
  rest = (t - head) % P

  whole : P ≡ B + (P - B)
  whole = omega arith

  in_d : d ≡ (d - 1) / B * B + (d - 1) % B + 1
  in_d = omega (arith, div-add-mod' (d - 1) B)

  rest-d : (d - 1) % B < B
  rest-d = mod-lt (d - 1) pos

  in_t : P - B ≤ t → t ≡ head + periods * P + rest
  in_t h = omega (arith, head-gap form P B, div-add-mod' (t - head) P)

  rest-t : rest < P
  rest-t = mod-lt (t - head) (omega arith)

  reach_sum : reach_of form P B d ≡ head + (P - B) + (d - 1) / B * (B + (P - B)) + (d - 1) % B + 1
  reach_sum = omega (arith, in_d, head-gap form P B, mul-add (P - B) (gaps_of form) ((d - 1) / B), mul-add ((d - 1) / B) B (P - B))

  supply-sum : P - B ≤ t → supply_of form P B t ≡ periods * B + (rest - (P - B))
  supply-sum h = supply-from form P B t h ∙ omega (arith, in_t h, head-gap form P B)

  -- d ticks are supplied over every length that reaches them
  pub reached : reach_of form P B d ≤ t → d ≤ supply_of form P B t
  reached h =
      let long : P - B ≤ t = omega (arith, reach_sum) in
      let p : periods * P ≡ periods * (B + (P - B)) = ap (λ (n : ℕ). periods * n) whole in
      let step = up head B (P - B) periods rest ((d - 1) / B) ((d - 1) % B)
      (omega (arith, rest-t)) rest-d (omega (arith, reach_sum, in_t long)) in
      omega (arith, supply-sum long, in_d)

  -- and over no shorter one
  pub reaches : d ≤ supply_of form P B t → reach_of form P B d ≤ t
  reaches h = go (below-or-from t (P - B))
    where
      go : (t < P - B) ⊎ (P - B ≤ t) → reach_of form P B d ≤ t
      go (inl short) = absurd (omega (arith, supply-short form P B t short))
      go (inr long) =
          let p : periods * P ≡ periods * (B + (P - B)) = ap (λ (n : ℕ). periods * n) whole in
          let step = down head B (P - B) periods rest ((d - 1) / B) ((d - 1) % B)
          (omega (arith, rest-t)) rest-d (omega (arith, supply-sum long, in_d)) in
          omega (arith, reach_sum, in_t long)

-- more ticks wait no less
pub waited_grows : (form : Form) (P B c d : ℕ) → c ≤ d → waited_of form P B c ≤ waited_of form P B d
waited_grows form P B c d h =
    let turns : gaps_of form + (c - 1) / B ≤ gaps_of form + (d - 1) / B = omega (arith, div_mono (c - 1) (d - 1) B (omega arith)) in
    mul-le-mul_left (P - B) turns

-- a larger budget supplies as much over no longer a length
pub reach_falls : (form : Form) (P B C d : ℕ) → 1 ≤ B → B ≤ C → C ≤ P → reach_of form P C d ≤ reach_of form P B d
reach_falls form P B C d pos h fits =
    let gaps : P - C ≤ P - B = omega arith in
    let turns : gaps_of form + (d - 1) / C ≤ gaps_of form + (d - 1) / B = omega (arith, div_anti (d - 1) B C pos h) in
    omega (arith, mul-le-mul gaps turns)

-- so supply grows with the budget, wherever some is supplied
pub supply-grows : (form : Form) (P B C t d : ℕ) → 1 ≤ B → B ≤ C → C ≤ P → 1 ≤ d → d ≤ supply_of form P B t → d ≤ supply_of form P C t
supply-grows form P B C t d pos h fits some-d enough =
    reached form P C t d (omega arith) fits some-d
    (omega (arith, reach_falls form P B C d pos h fits, reaches form P B t d pos (omega arith) some-d enough))
