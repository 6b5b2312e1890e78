-- The reply table: the reply is refused with a row's number and detail exactly when that row is the first that applies, and accepted
-- exactly when none does; and the list of the rows has each of them once. Of every call, and of every card on which no identifier is
-- remembered twice, so of every one that calls make. Assumes nothing.
use mathlib.Core.Path.{◌≡◌, refl, ap, sym, ◌∙◌, subst}
use mathlib.Core.Bool.{Bool, true, false}
use mathlib.Core.List.{List, [], ◌∷◌}
use mathlib.Core.Logic.{◌⊎◌, inl, inr, ⊎_elim}
use mathlib.Core.Option.{Option, none, some}
use Prim.Native.Nat.{ℕ, ◌+◌, ◌≤◌, ◌<◌}
use native.Mathlib.Omega.{arith}
use lib.Dec.{leb, ltb, eqb}
use lib.ListN.{length}
use borrow.Author.Tests.{leb-false, eq-eqb, eqb-true, not-true, not-false}
use Rattle.rules.specs.Limits.{largest_time, largest_tunnel, largest_period, largest_kind, most_vcpus, in_range}
use Rattle.rules.specs.Lists.{any, count, Among}
use Rattle.rules.specs.Vcpu.{Description}
use Rattle.rules.specs.Remember.{Remembered, is_kept, kept, remembers, time_of}
use Rattle.rules.specs.Card.{Card, on_card}
use Rattle.rules.specs.Change.{Change, admit, wake, block, remove, tick}
use Rattle.rules.specs.Refuse.{Refusal, row, above_largest, below_last, is_late, row_late, above24_bits, row_remembered}
use Rattle.rules.specs.Refuse.{admit_rows, naming_rows, call_rows, refusal}
use Rattle.rules.specs.Turn.{Call, ok, refused, turn, answered, reported, settled}
use Rattle.rules.specs.History.{after}
use Rattle.rules.specs.Meaning.{Sporadic, Deferrable, Polling, OnTheCard, RememberedWith}
use Rattle.rules.specs.Rows.{AdmitOf, WakeBlockRemoveOf, Row, row_1, row_2, row_3, row_4, row_5, row_6, row_7, row_8}
use Rattle.rules.specs.Rows.{row_9, row_10, row_11, row_12, order, Higher, First, NoRow, Table}
use Rattle.rules.proofs.Tests.{tests, clash, no-some, and-false}
use Rattle.rules.proofs.Lists.{all_among, any-one, count_among, length-kept}
use Rattle.rules.proofs.Named.{on_card_says, is_on_card, kept-says, is-kept}
use Rattle.rules.proofs.ThreeKinds.{one_of_three}
use Rattle.rules.proofs.Accepted.{range-says}
use Rattle.rules.proofs.Memory.{none_of, recalled, time_of_lem}
use Rattle.rules.proofs.Meaning.{meaning}

-- what a call names, and what an admit carries

abbrev tunnel_of : Change → Option ℕ
tunnel_of (admit d) = some d.tunnel
tunnel_of (wake tunnel) = some tunnel
tunnel_of (block tunnel) = some tunnel
tunnel_of (remove tunnel) = some tunnel
tunnel_of tick = none

abbrev terms_of : Change → Option Description
terms_of (admit d) = some d
terms_of (wake tunnel) = none
terms_of (block tunnel) = none
terms_of (remove tunnel) = none
terms_of tick = none

others_name : (asked : Change) (tunnel : ℕ) → WakeBlockRemoveOf asked tunnel → (tunnel_of asked ≡ some tunnel) × (terms_of asked ≡ none)
others_name asked tunnel (inl e) = (ap tunnel_of e, ap terms_of e)
others_name asked tunnel (inr (inl e)) = (ap tunnel_of e, ap terms_of e)
others_name asked tunnel (inr (inr e)) = (ap tunnel_of e, ap terms_of e)

names : (asked : Change) (tunnel : ℕ) → AdmitOf asked tunnel ⊎ WakeBlockRemoveOf asked tunnel → tunnel_of asked ≡ some tunnel
names asked tunnel (inl p) = ap tunnel_of p.1 ∙ ap some p.2
names asked tunnel (inr p) = (others_name asked tunnel p).0

pub same : {A : Type 0} (o : Option A) (a b : A) → o ≡ some a → o ≡ some b → a ≡ b
same o a b e f = let g : some a ≡ some b = sym e ∙ f in cc

out_of_range_lem : (period : ℕ) → in_range period ≡ false → (period < 1) ⊎ (largest_period < period)
out_of_range_lem period e =
    ⊎_elim (λ f. inl (leb-false 1 period f)) (λ f. inr (leb-false period largest_period f))
    (and-false (leb 1 period) (leb period largest_period) e)

not-out : (period : ℕ) → in_range period ≡ true → (period < 1) ⊎ (largest_period < period) → ⊥
not-out period e = let p = range-says period e in ⊎_elim (λ h. omega (arith, p.0)) (λ h. omega (arith, p.1))

-- in any list of rows

lower : (n m : ℕ) (l : List ℕ) → Higher n m l → Among m l
lower n m [] x' = elim x' [ ]
lower n m (a ∷ l) (inl p) = inr p.1
lower n m (a ∷ l) (inr h) = inr (lower n m l h)

-- of two one is above the other
either : (n m : ℕ) (l : List ℕ) → Among n l → Among m l → (n ≡ m) ⊎ Higher n m l ⊎ Higher m n l
either n m [] x'' _ = elim x'' [ ]
either n m (a ∷ l) (inl e) (inl f) = inl (e ∙ sym f)
either n m (a ∷ l) (inl e) (inr j) = inr (inl (inl (e, j)))
either n m (a ∷ l) (inr i) (inl f) = inr (inr (inl (f, i)))
either n m (a ∷ l) (inr i) (inr j) =
    ⊎_elim inl (λ h. inr (⊎_elim (λ k. inl (inr k)) (λ k. inr (inr k)) h)) (either n m l i j)

abbrev often : ℕ → List ℕ → ℕ
often n l = count (λ m. eqb m n) l

twice : (n a : ℕ) (l : List ℕ) → n ≡ a → Among n l → 2 ≤ often n (a ∷ l)
twice n a l e i =
    let f : eqb a n ≡ true = eq-eqb a n (sym e) in
    rw f (omega (arith, count_among (λ m. eqb m n) l n i (eq-eqb n n refl)))

-- .. and only one of them, where neither stands twice
not_both : (n m : ℕ) (l : List ℕ) → Higher n m l → Higher m n l → (2 ≤ often n l) ⊎ (2 ≤ often m l)
not_both n m [] x'' _ = elim x'' [ ]
not_both n m (a ∷ l) (inl p) (inl q) = inl (twice n a l p.0 q.1)
not_both n m (a ∷ l) (inl p) (inr k) = inl (twice n a l p.0 (lower m n l k))
not_both n m (a ∷ l) (inr h) (inl q) = inr (twice m a l q.0 (lower n m l h))
not_both n m (a ∷ l) (inr h) (inr k) = ⊎_elim (λ x. inl (omega arith)) (λ x. inr (omega arith)) (not_both n m l h k)

-- the list of the rows has none twice
pub at-most-once : (n : ℕ) → Among n order → often n order ≤ 1
at-most-once = all_among (λ n. often n order ≤ 1) order (omega arith)

-- so of two rows at most one is above the other, and none is above itself
pub one_way : (n m : ℕ) → Higher n m order → Higher m n order → ⊥
one_way n m h k =
    ⊎_elim (λ x. omega (arith, at-most-once n (lower m n order k))) (λ x. omega (arith, at-most-once m (lower n m order h)))
    (not_both n m order h k)

pub strict : (n : ℕ) → Higher n n order → ⊥
strict n h = one_way n n h h

-- a test of the list says whether a row stands in it
listed : (n : ℕ) → any (λ m. eqb m n) order ≡ true → Among n order
listed n e =
    let p = any-one (λ m. eqb m n) order e in
    subst (λ (m : ℕ). Among m order) (eqb-true p.0 n p.2) p.1

module _ (c : Card) (call : Call) where
  -- the list has every row
  pub all_there : (n d : ℕ) → Row c call n d → Among n order
  all_there n d (row_1 h) = listed 1 refl
  all_there n d (row_2 h) = listed 2 refl
  all_there n d (row_3 t e h) = listed 3 refl
  all_there n d (row_4 t e h) = listed 4 refl
  all_there n d (row_5 t e h) = listed 5 refl
  all_there n d (row_11 t e h) = listed 11 refl
  all_there n d (row_12 t e h) = listed 12 refl
  all_there n d (row_10 t e f g h) = listed 10 refl
  all_there n d (row_6 t e h) = listed 6 refl
  all_there n d (row_9 t u e f h) = listed 9 refl
  all_there n d (row_7 t e h) = listed 7 refl
  all_there n d (row_8 t e h) = listed 8 refl

  -- from the top: only these rows are left that may apply, and they are the last of the table
  record Left (rest : List ℕ) : Type 0 where
    may_apply : (n d : ℕ) → Row c call n d → Among n rest
    last : (n m : ℕ) → Higher n m rest → Higher n m order

  -- those below the rows of the time
  abbrev call_order : List ℕ
  call_order = 4 ∷ 5 ∷ 11 ∷ 12 ∷ 10 ∷ 6 ∷ 9 ∷ 7 ∷ 8 ∷ []

  abbrev Not : ℕ → Type 0
  Not number = (d : ℕ) → Row c call number d → ⊥

  -- what the first row that applies says, or that none does
  abbrev Says : Option Refusal → Type 0
  Says none = NoRow c call
  Says (some r) = First c call r.number r.detail

  skip : (number : ℕ) (rest : List ℕ) → Not number → Left (number ∷ rest) → Left rest
  skip number rest f a =
      record {
        may_apply = λ n d r. ⊎_elim (λ e. absurd (f d (subst (λ (k : ℕ). Row c call k d) e r))) (λ i. i) (a.may_apply n d r);
        last = λ n m h. a.last n m (inr h);
      }

  -- a row either applies, and is the first, or the rows below it are left
  step : (o : Option Refusal) (t : Bool) (number detail : ℕ) (below : Option Refusal) (rest : List ℕ) → row t number detail below ≡ o
      → (t ≡ true → Row c call number detail) → (t ≡ false → Not number) → (below ≡ o → Left rest → Says o) → Left (number ∷ rest)
      → Says o
  step o true number detail below rest e f g next a = subst Says e (record { applies = f refl; none_above = none_above })
    where
      none_above : (n d : ℕ) → Higher n number order → Row c call n d → ⊥
      none_above n d h r =
          ⊎_elim (λ i. strict number (subst (λ (k : ℕ). Higher k number order) i h))
          (λ i. one_way n number h (a.last number n (inl (refl, i)))) (a.may_apply n d r)
  step o false number detail below rest e f g next a = next e (skip number rest (g refl) a)

  top : Left order
  top = record { may_apply = all_there; last = λ n m h. h }

  bottom : Left [] → Says none
  bottom a n d r = a.may_apply n d r

  -- each row taken apart

  of_1 : (d : ℕ) → Row c call 1 d → largest_time < call.now
  of_1 d (row_1 h) = h

  of_2 : (d : ℕ) → Row c call 2 d → call.now < c.last
  of_2 d (row_2 h) = h

  of_3 : (d : ℕ) → Row c call 3 d → (c.timer ≡ some d) × (d < call.now)
  of_3 d (row_3 t e h) = (e, h)

  of_4 : (d : ℕ) → Row c call 4 d → (t : ℕ) × (tunnel_of call.asked ≡ some t) × (largest_tunnel < t)
  of_4 d (row_4 t e h) = (t, names call.asked t e, h)

  of_7 : (d : ℕ) → Row c call 7 d
      → (t : ℕ) × (tunnel_of call.asked ≡ some t) × (terms_of call.asked ≡ none) × (OnTheCard c.vcpus t → ⊥)
  of_7 d (row_7 t e h) = let p = others_name call.asked t e in (t, p.0, p.1, h)

  -- the call is an admit, and this holds of what it carries
  abbrev Admitting : (Description → Type 0) → Type 0
  Admitting P = (t : Description) × (terms_of call.asked ≡ some t) × P t

  of_5 : (d : ℕ) → Row c call 5 d → Admitting (λ t. (t.period < 1) ⊎ (largest_period < t.period))
  of_5 d (row_5 t e h) = (t, ap terms_of e, h)

  of_11 : (d : ℕ) → Row c call 11 d → Admitting (λ t. t.capacity ≡ 0)
  of_11 d (row_11 t e h) = (t, ap terms_of e, h)

  of_12 : (d : ℕ) → Row c call 12 d → Admitting (λ t. t.period < t.capacity)
  of_12 d (row_12 t e h) = (t, ap terms_of e, h)

  of_10 : (d : ℕ) → Row c call 10 d → Admitting (λ t. (Sporadic t → ⊥) × (Deferrable t → ⊥) × (Polling t → ⊥))
  of_10 d (row_10 t e f g h) = (t, ap terms_of e, (f, g, h))

  of_6 : (d : ℕ) → Row c call 6 d → Admitting (λ t. OnTheCard c.vcpus t.tunnel)
  of_6 d (row_6 t e h) = (t, ap terms_of e, h)

  of_9 : (d : ℕ) → Row c call 9 d → Admitting (λ t. RememberedWith c.remembered t.tunnel d × (call.now < d))
  of_9 d (row_9 t u e f h) = (t, ap terms_of e, (f, h))

  -- those remembered at the call's time, as the rules keep them
  abbrev still : List Remembered
  still = kept call.now c.remembered

  abbrev together : ℕ
  together = length c.vcpus + count (λ r. ltb call.now r.time) c.remembered

  of_8 : (d : ℕ) → Row c call 8 d → Admitting (λ t. most_vcpus ≤ together)
  of_8 d (row_8 t e h) = (t, ap terms_of e, h)

  -- rows 5, 11, 12, 10, 6, 9 and 8 are an admit's: another call passes the first six, which stand together, and the last
  no-admit : terms_of call.asked ≡ none → {P : Description → Type 0} → Admitting P → ⊥
  no-admit f p = no-some (sym f ∙ p.1)

  others-pass : terms_of call.asked ≡ none → (rest : List ℕ) → Left (5 ∷ 11 ∷ 12 ∷ 10 ∷ 6 ∷ 9 ∷ rest) → Left rest
  others-pass f rest a =
      skip 9 _ (λ d r. no-admit f (of_9 d r)) (skip 6 _ (λ d r. no-admit f (of_6 d r)) (skip 10 _ (λ d r. no-admit f (of_10 d r))
      (skip 12 _ (λ d r. no-admit f (of_12 d r)) (skip 11 _ (λ d r. no-admit f (of_11 d r)) (skip 5 _ (λ d r. no-admit f (of_5 d r)) a)))))

  late : (o : Option Refusal) (u : Option ℕ) → c.timer ≡ u → (below : Option Refusal) (rest : List ℕ)
      → row_late u call.now below ≡ o → (below ≡ o → Left rest → Says o) → Left (3 ∷ rest) → Says o
  late o none e below rest w next a = next w (skip 3 rest (λ d r. no-some (sym e ∙ (of_3 d r).0)) a)
  late o (some t) e below rest w next a =
      step o (is_late t call.now) 3 t _ rest w (λ f. row_3 t e (omega (arith, tests)))
      (λ f d r. let q : t ≡ d = same c.timer t d e (of_3 d r).0 in omega (arith, tests, (of_3 d r).1)) next a

  -- "identifier above 24 bits"
  high : (t : ℕ) → AdmitOf call.asked t ⊎ WakeBlockRemoveOf call.asked t → (d : ℕ) → Row c call 4 d → largest_tunnel < t
  high t n d r =
      let p = of_4 d r in
      let q : t ≡ p.0 = same (tunnel_of call.asked) t p.0 (names call.asked t n) p.1 in
      omega (arith, p.2)

  admitting : (o : Option Refusal) (d : Description) → call.asked ≡ admit d → admit_rows c.vcpus still d ≡ o → Left call_order → Says o
  admitting o d e w a =
      step o (above24_bits d.tunnel) 4 0 _ _ w (λ f. row_4 d.tunnel (inl (d, e, refl)) (omega (arith, tests)))
      (λ f n r. omega (arith, tests, high d.tunnel (inl (d, e, refl)) n r))
      (λ w. step o _ 5 0 _ _ w (λ f. row_5 d e (out_of_range_lem d.period (not-true _ f)))
      (λ f n r. not-out d.period (not-false _ f) (its _ (of_5 n r)))
      (λ w. step o (eqb d.capacity 0) 11 0 _ _ w (λ f. row_11 d e (omega (arith, tests)))
      (λ f n r. omega (arith, tests, its _ (of_11 n r)))
      (λ w. step o (ltb d.period d.capacity) 12 0 _ _ w (λ f. row_12 d e (omega (arith, tests)))
      (λ f n r. omega (arith, tests, its _ (of_12 n r)))
      (λ w. step o (ltb largest_kind d.kind) 10 0 _ _ w
      (λ f. row_10 d e (λ k. omega (arith, tests)) (λ k. omega (arith, tests)) (λ k. omega (arith, tests)))
      (λ f n r. known (omega (arith, tests)) n r)
      (λ w. step o _ 6 0 _ _ w (λ f. row_6 d e (on_card_says c.vcpus d.tunnel f)) (λ f n r. clash (sym (there n r) ∙ f))
      (λ w. coming-back (time_of d.tunnel still) refl _ _ w
      (λ w b. step o (leb most_vcpus (length c.vcpus + length still)) 8 0 _ _ w
      (λ f. row_8 d e (omega (arith, tests, length-kept (is_kept call.now) c.remembered)))
      (λ f n r. omega (arith, tests, length-kept (is_kept call.now) c.remembered, (of_8 n r).2))
      (λ w k. subst Says w (bottom k)) (skip 7 _ not-7 b)))))))) a
    where
      its : (P : Description → Type 0) → Admitting P → P d
      its P p = subst P (same (terms_of call.asked) p.0 d p.1 (ap terms_of e)) p.2

      known : d.kind ≤ 2 → Not 10
      known h n r =
          let p = its _ (of_10 n r) in
          ⊎_elim p.0 (⊎_elim p.1 p.2) (one_of_three d h)

      there : (n : ℕ) → Row c call 6 n → on_card d.tunnel c.vcpus ≡ true
      there n r = is_on_card c.vcpus d.tunnel (its _ (of_6 n r))

      -- "identifier is remembered, with that time as the detail"
      coming-back : (u : Option ℕ) → time_of d.tunnel still ≡ u → (below : Option Refusal) (rest : List ℕ) → row_remembered u below ≡ o
          → (below ≡ o → Left rest → Says o) → Left (9 ∷ rest) → Says o
      coming-back none f below rest w next a =
          next w (skip 9 rest (λ n r. let p = its _ (of_9 n r) in
          let k = is-kept call.now d.tunnel n c.remembered p.0 p.1 in
          omega (
            arith,
            none_of d.tunnel still f,
            count_among (remembers d.tunnel) still k.0 k.1 (eq-eqb k.0.tunnel d.tunnel k.2),
          )) a)
      coming-back (some t) f below rest w next a =
          let p = kept-says call.now d.tunnel t c.remembered (recalled d.tunnel still t f) in
          step o true 9 t below rest w (λ z. row_9 d t e p.0 p.1) (λ z. clash z) next a

      not-7 : Not 7
      not-7 n r = no-some (sym (of_7 n r).2 ∙ ap terms_of e)

  naming : (o : Option Refusal) (t : ℕ) → WakeBlockRemoveOf call.asked t → naming_rows c.vcpus t ≡ o → Left call_order → Says o
  naming o t i w a =
      step o (above24_bits t) 4 0 _ _ w (λ f. row_4 t (inr i) (omega (arith, tests))) (λ f n r. omega (arith, tests, high t (inr i) n r))
      (λ w b. step o _ 7 0 _ _ w (λ f. row_7 t i (λ p. clash (sym (is_on_card c.vcpus t p) ∙ not-true _ f)))
      (λ f n r. not_there n r (on_card_says c.vcpus t (not-false _ f)))
      (λ w k. subst Says w (bottom (skip 8 _ (λ n r. no-admit other (of_8 n r)) k))) (others-pass other _ b)) a
    where
      other : terms_of call.asked ≡ none
      other = (others_name call.asked t i).1

      not_there : (n : ℕ) → Row c call 7 n → OnTheCard c.vcpus t → ⊥
      not_there n r k =
          let p = of_7 n r in
          p.3 (subst (λ (x : ℕ). OnTheCard c.vcpus x)
          (same (tunnel_of call.asked) t p.0 (others_name call.asked t i).0 p.1) k)

  asks : (o : Option Refusal) (a : Change) → call.asked ≡ a → call_rows c.vcpus still a ≡ o → Left call_order → Says o
  asks o (admit d) e = admitting o d e
  asks o (wake t) e = naming o t (inl e)
  asks o (block t) e = naming o t (inr (inl e))
  asks o (remove t) e = naming o t (inr (inr e))
  asks o tick e = λ w a. subst Says w
      (bottom (skip 8 _ (λ d r. no-admit (ap terms_of e) (of_8 d r)) (skip 7 _ (λ d r. nothing (of_7 d r).1)
      (others-pass (ap terms_of e) _ (skip 4 _ (λ d r. nothing (of_4 d r).1) a)))))
    where
      nothing : {t : ℕ} → tunnel_of call.asked ≡ some t → ⊥
      nothing f = no-some (ap tunnel_of (sym e) ∙ f)

  -- the rows as the rules have them say what the table says
  says : (o : Option Refusal) → refusal c call.now call.asked ≡ o → Says o
  unfolding refusal
  says o w =
      step o (above_largest call.now) 1 0 _ _ w (λ f. row_1 (omega (arith, tests))) (λ f d r. omega (arith, tests, of_1 d r))
      (λ w. step o (below_last c.last call.now) 2 0 _ _ w (λ f. row_2 (omega (arith, tests)))
      (λ f d r. omega (arith, tests, of_2 d r))
      (λ w. late o c.timer refl (call_rows c.vcpus still call.asked) _ w (asks o call.asked refl))) top

  pub not-given : NoRow c call → refusal c call.now call.asked ≡ none
  not-given h = go (refusal c call.now call.asked) refl
    where
      go : (o : Option Refusal) → refusal c call.now call.asked ≡ o → refusal c call.now call.asked ≡ none
      go none e = e
      go (some r) e = absurd (h r.number r.detail (says (some r) e).applies)

  -- row 9 has one detail where no identifier is remembered twice
  module _ (once : (tunnel : ℕ) → count (λ r. eqb r.tunnel tunnel) c.remembered ≤ 1) where
    one-detail : (n d e : ℕ) → Row c call n d → Row c call n e → d ≡ e
    one-detail n d e (row_1 h) (row_1 k) = refl
    one-detail n d e (row_2 h) (row_2 k) = refl
    one-detail n d e (row_3 t f h) (row_3 u g k) = same c.timer t u f g
    one-detail n d e (row_4 t f h) (row_4 u g k) = refl
    one-detail n d e (row_5 t f h) (row_5 u g k) = refl
    one-detail n d e (row_11 t f h) (row_11 u g k) = refl
    one-detail n d e (row_12 t f h) (row_12 u g k) = refl
    one-detail n d e (row_10 t f h i j) (row_10 u g k l m) = refl
    one-detail n d e (row_6 t f h) (row_6 u g k) = refl
    one-detail n d e (row_9 t a f h i) (row_9 u b g k l) =
        let one = time_of_lem t.tunnel c.remembered (once t.tunnel) in
        same (time_of t.tunnel c.remembered) a b ((one a).1 h)
        ((one b).1 (subst (λ (x : Description). RememberedWith c.remembered x.tunnel b)
        (same (terms_of call.asked) u t (ap terms_of g) (ap terms_of f)) k))
    one-detail n d e (row_7 t f h) (row_7 u g k) = refl
    one-detail n d e (row_8 t f h) (row_8 u g k) = refl

    -- of two that are first neither is above the other
    one-first : (n d m e : ℕ) → First c call n d → First c call m e → (n ≡ m) × (d ≡ e)
    one-first n d m e f g =
        let q : n ≡ m = ⊎_elim (λ p. p) above (either n m order (all_there n d f.applies) (all_there m e g.applies)) in
        (q, one-detail m d e (subst (λ (k : ℕ). Row c call k d) q f.applies) g.applies)
      where
        above : Higher n m order ⊎ Higher m n order → n ≡ m
        above (inl h) = absurd (g.none_above n d h f.applies)
        above (inr h) = absurd (f.none_above m e h g.applies)

    given : (n d : ℕ) → First c call n d → refusal c call.now call.asked ≡ some (record { number = n; detail = d })
    given n d f = go (refusal c call.now call.asked) refl
      where
        go : (o : Option Refusal) → refusal c call.now call.asked ≡ o
            → refusal c call.now call.asked ≡ some (record { number = n; detail = d })
        go none e = absurd (says none e n d f.applies)
        go (some r) e =
            let p = one-first r.number r.detail n d (says (some r) e) f in
            e ∙ ap some (ap (λ (k : ℕ). record { number = k; detail = r.detail }) p.0
            ∙ ap (λ (k : ℕ). record { number = n; detail = k }) p.1)

    pub table : Table c call
    unfolding turn settled
    table =
        record {
          refuses = λ n d. (
            reads (refusal c call.now call.asked) (says _ refl) n d,
            λ f. ap
                (λ (o : Option Refusal). (answered c call o).reply) (given n d f),
          );
          hands_back = back (refusal c call.now call.asked);
          accepts = (
            passes (refusal c call.now call.asked) (says _ refl),
            λ h. ap (λ (o : Option Refusal). (answered c call o).reply) (not-given h),
          );
          hands_on = λ h. ap (λ (o : Option Refusal). (answered c call o).card) (not-given h);
          at-now = λ h. ap (λ (o : Option Refusal). (answered c call o).card.last) (not-given h);
        }
      where
        reads : (o : Option Refusal) → Says o → (n d : ℕ) → (answered c call o).reply ≡ refused (record { number = n; detail = d })
            → First c call n d
        reads none s n d e = let z : ◌≡◌ {A = ℕ} 0 1 = cc in absurd (omega arith)
        reads (some r) s n d e =
            let q : r ≡ record { number = n; detail = d } = cc in
            subst (λ (x : Refusal). First c call x.number x.detail) q s

        back : (o : Option Refusal) (r : Refusal) → (answered c call o).reply ≡ refused r → (answered c call o).card ≡ c
        back none r e = let z : ◌≡◌ {A = ℕ} 0 1 = cc in absurd (omega arith)
        back (some q) r e = refl

        passes : (o : Option Refusal) → Says o → (answered c call o).reply ≡ ok (reported c call) → NoRow c call
        passes none s e = s
        passes (some r) s e = let z : ◌≡◌ {A = ℕ} 0 1 = cc in absurd (omega arith)

-- so of every card that calls make
pub table-after : (calls : List Call) (call : Call) → Table (after calls) call
table-after calls call = table (after calls) call (meaning calls).remembered-once

-- wake, block or remove of a remembered identifier, whether or not its time has come
pub remembered_seven : (calls : List Call) (call : Call) (tunnel time : ℕ) → RememberedWith (after calls).remembered tunnel time
    → WakeBlockRemoveOf call.asked tunnel → Row (after calls) call 7 0
remembered_seven calls call tunnel time r w = row_7 tunnel w ((meaning calls).never_both tunnel time r)
