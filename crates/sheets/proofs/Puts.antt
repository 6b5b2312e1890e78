-- What `put_number`, `put_line` and `put_lines` have put is the decimal text of a number, a line and lines; and what `write` leaves.
-- Assumes nothing.
use Prim.Native.Nat.{ℕ, zero, suc, ◌+◌, ◌-◌, ◌*◌, ◌≤◌, ◌<◌}
use mathlib.Core.Path.{◌≡◌, refl, ap, sym, ◌∙◌}
use mathlib.Core.Bool.{Bool, true, false, cond}
use mathlib.Core.List.{List, [], ◌∷◌, ◌++◌, append_assoc, append-nil}
use mathlib.Core.Logic.{◌⊎◌, inl, inr}
use native.Mathlib.Omega.{arith}
use lib.Dec.{ltb}
use lib.ListN.{length, take, drop, set, length-append, length-set}
use lib.Seq.{take-append_seam}
use borrow.Author.Tests.{lt-ltb, le-ltb}
use Rattle.text.specs.Text.{decimal, field_in, end_in, text_in, over, Put}
use Rattle.text.proofs.Writing.{put_two, put-over, put_as, put_first, put-size, field_put, end-put, text-put}
use Rattle.model.specs.Reply.{gives, refuses}
use Rattle.model.specs.Rows.{row}
use Rattle.model.specs.Asked.{Work}
use Rattle.sheets.specs.Sheet.{line_of, written}
use Rattle.sheets.specs.Meaning.{Holds}
use Rattle.sheets.specs.Paper.{text_of, write_reply, written_in}
use Rattle.sheets.specs.Private.{Small}
use Rattle.sheets.proofs.Digits.{number-means, decimal-number}

-- the digits of a field of `text`, without its space
module _ (o o' : List ℕ) (n end : ℕ) (size : length o ≡ 21) (p : Put o 0 (field_in o 0 n) o' end) where
  field : Put o 0 (32 ∷ decimal n) o' end × (end ≤ 0 + 21)
  field = field_put o 0 n (omega arith) p

  pub field-ends : (1 ≤ end) × (end ≤ length o')
  field-ends = (omega (arith, field.0.behind), omega (arith, field.1, put-size field.0))

  pub field-digits : take (end - 1) (drop 1 o') ≡ decimal n
  field-digits =
      let all : end - 1 ≡ length (decimal n) = omega (arith, field.0.behind) in
      ap (λ (l : List ℕ). take (end - 1) (drop 1 l)) (put-over (omega (arith, field.1)) field.0)
      ∙ ap (λ (k : ℕ). take k (decimal n ++ drop (suc (length (decimal n))) o)) all
      ∙ take-append_seam (decimal n) (drop (suc (length (decimal n))) o)

pub number_put : (o o' : List ℕ) (a n b : ℕ) (part : List ℕ) → part ≡ decimal n → Put o a (text_in o a part) o' b
    → Put o a (text_in o a (decimal n)) o' b
number_put o o' a n b part e p = put_as (ap (text_in o a) e) p

-- numbers up to 9,999 have at most four digits
few : (n : ℕ) → n ≤ 9999 → length (decimal n) ≤ 4
few n h = (number-means (decimal n) (decimal-number n h)).1

number_fits : (o o' : List ℕ) (a n b : ℕ) → n ≤ 9999 → a + 4 ≤ length o → Put o a (text_in o a (decimal n)) o' b
    → Put o a (decimal n) o' b × (b ≤ a + 4)
number_fits o o' a n b h room p =
    let q = text-put o a (decimal n) (omega (arith, few n h)) p in (q, omega (arith, q.behind, few n h))

pub line-few : (p e : ℕ) → p ≤ 9999 → e ≤ 9999 → length (line_of p e) ≤ 10
line-few p e a b =
    omega (
      arith,
      few p a,
      few e b,
      length-append (decimal p) (32 ∷ (decimal e ++ (10 ∷ []))),
      length-append (decimal e) (10 ∷ []),
    )

-- a line: the period, the space, the cost and the newline
module _ (o : List ℕ) (a p e : ℕ) (room : a + 10 ≤ length o) (small-p : p ≤ 9999) (small-e : e ≤ 9999) where
  module _ (o₁ : List ℕ) (space : ℕ) (period : Put o a (text_in o a (decimal p)) o₁ space) where
    first : Put o a (decimal p) o₁ space × (space ≤ a + 4)
    first = number_fits o o₁ a p space small-p (omega arith) period

    pub space-fits : (space < length o₁) × (space ≤ a + 4)
    space-fits = (omega (arith, first.1, put-size first.0), first.1)

    module _ (o₂ : List ℕ) (end : ℕ) (cost : Put (set o₁ space 32) (space + 1) (text_in (set o₁ space 32) (space + 1) (decimal e)) o₂ end) where
      apart : Put (set o₁ space 32) (space + 1) (decimal e) o₂ end × (end ≤ space + 1 + 4)
      apart =
          number_fits (set o₁ space 32) o₂ (space + 1) e end small-e (omega (arith, first.1, put-size first.0, length-set o₁ space 32)) cost

      size : length o₂ ≡ length o
      size = put-size apart.0 ∙ length-set o₁ space 32 ∙ put-size first.0

      pub line-put : (o₃ : List ℕ) (r : ℕ) → Put o₂ end (end_in o₂ end) o₃ r → Put o a (line_of p e) o₃ r
      line-put o₃ r last =
          let ended = (end-put o₂ end (omega (arith, apart.1, first.1, size)) last).0 in
          put_two first.0 (put_first o₁ space 32 (put_two apart.0 ended))

-- so many lines are put, and those of the tasks left have room
pub record Lined (o periods costs out : List ℕ) (at : ℕ) (ps es : List ℕ) : Type 0 where
  pub text : List ℕ
  pub put : Put o 0 text out at
  pub all : written periods costs ≡ text ++ written ps es
  pub paired : length es ≡ length ps
  pub room : at + length ps * 10 ≤ length out
  pub small-periods : Small ps
  pub small-costs : Small es

pub lined-none : {o ps es : List ℕ} {w : Work} → Holds w → 160 ≤ length o → ps ≡ w.periods → es ≡ w.costs
    → Lined o w.periods w.costs o 0 ps es
lined-none {o} {ps} {es} {w} h size p e =
    rw (p, e)
    (record {
      text = [];
      put = record { behind = omega arith; stored = refl };
      all = refl;
      paired = h.paired;
      room = omega (arith, h.few, size);
      small-periods = h.small-periods;
      small-costs = h.small-costs;
    })

module _ {o periods costs out : List ℕ} {at : ℕ} {ps es : List ℕ} where
  module _ (l : Lined o periods costs out at ps es) where
    module _ {p e : ℕ} {ps' es' : List ℕ} (f : ps ≡ p ∷ ps') (g : es ≡ e ∷ es') where
      left : Lined o periods costs out at (p ∷ ps') (e ∷ es')
      left = rw (f, g) at l

      pub line-room : (at + 10 ≤ length out) × (p ≤ 9999) × (e ≤ 9999)
      line-room = (omega (arith, left.room), left.small-periods 0, left.small-costs 0)

      pub lined-more : {out' : List ℕ} {r : ℕ} → Put out at (line_of p e) out' r → Lined o periods costs out' r ps' es'
      lined-more {out'} {r} q = record {
        text = left.text ++ line_of p e;
        put = put_two left.put q;
        all = left.all ∙ sym (append_assoc left.text (line_of p e) (written ps' es'));
        paired = omega (arith, left.paired);
        room = omega (arith, left.room, q.behind, put-size q, line-few p e (left.small-periods 0) (left.small-costs 0));
        small-periods = λ i. left.small-periods (suc i);
        small-costs = λ i. left.small-costs (suc i);
      }

    pub lined-all : (ps ≡ []) ⊎ (es ≡ []) → Put o 0 (written periods costs) out at
    lined-all h = put_as (sym (l.all ∙ ap (λ (t : List ℕ). l.text ++ t) (none ps es l.paired h) ∙ append-nil l.text)) l.put
      where
        none : (ps es : List ℕ) → length es ≡ length ps → (ps ≡ []) ⊎ (es ≡ []) → written ps es ≡ []
        none [] es k h = refl
        none (p ∷ ps) [] k h = absurd (omega arith)
        none (p ∷ ps) (e ∷ es) k (inl h) = cc
        none (p ∷ ps) (e ∷ es) k (inr h) = cc

-- the lines of at most 16 tasks have room in 160 bytes
pub small-take : (l : List ℕ) (n : ℕ) → Small l → Small (take n l)
small-take [] zero s i = s i
small-take [] (suc n) s i = s i
small-take (x ∷ l) zero s zero = omega arith
small-take (x ∷ l) zero s (suc i) = omega arith
small-take (x ∷ l) (suc n) s zero = s 0
small-take (x ∷ l) (suc n) s (suc i) = small-take l n (λ j. s (suc j)) i

pub written-few : (ps es : List ℕ) → Small ps → Small es → length (written ps es) ≤ length ps * 10
written-few [] es a b = omega arith
written-few (p ∷ ps) [] a b = omega arith
written-few (p ∷ ps) (e ∷ es) a b =
    omega (
      arith,
      line-few p e (a 0) (b 0),
      written-few ps es (λ i. a (suc i)) (λ i. b (suc i)),
      length-append (line_of p e) (written ps es),
    )

pub sheet-fits : (w : Work) → Holds w → length (text_of w) ≤ 160
sheet-fits w h = omega (arith, h.few, written-few w.periods w.costs h.small-periods h.small-costs)

-- a text of which `size` bytes stand at the front of o', and the area that it is to be written in
module _ (o o' text : List ℕ) (size : ℕ) (fits : length text ≤ length o) (p : Put o 0 text o' size) where
  pub text-inside : size ≤ length o'
  text-inside = omega (arith, p.behind, put-size p)

  text-is : take size o' ≡ text
  text-is =
      let all : size ≡ length text = omega (arith, p.behind) in
      ap (take size) (put-over (omega arith) p)
      ∙ ap (λ (k : ℕ). take k (over text o)) all
      ∙ take-append_seam text (drop (length text) o)

  pub no_room : (area : List ℕ) → length area < size → (refuses 40 0 ≡ write_reply text area) × (area ≡ written_in text area)
  unfolding write_reply written_in
  no_room area h =
      let e : ltb (length area) (length text) ≡ true = lt-ltb (length area) (length text) (omega (arith, p.behind)) in
      (sym (ap (λ (t : Bool). row t 40 0 (gives (length text ∷ []))) e), sym (ap (λ (t : Bool). cond t area (over text area)) e))

  pub has_room : (area area' : List ℕ) (r : ℕ) → size ≤ length area → Put area 0 (text_in area 0 (take size o')) area' r
      → (gives (size ∷ []) ≡ write_reply text area) × (area' ≡ written_in text area)
  unfolding write_reply written_in
  has_room area area' r h q =
      let e : ltb (length area) (length text) ≡ false = le-ltb (length area) (length text) (omega (arith, p.behind)) in
      let all : size ≡ length text = omega (arith, p.behind) in
      let put = text-put area 0 text (omega arith) (put_as (ap (text_in area 0) text-is) q) in (
        ap (λ (n : ℕ). gives (n ∷ [])) all ∙ sym (ap (λ (t : Bool). row t 40 0 (gives (length text ∷ []))) e),
        put-over (omega (arith, put.behind)) put ∙ sym (ap (λ (t : Bool). cond t area (over text area)) e),
      )
