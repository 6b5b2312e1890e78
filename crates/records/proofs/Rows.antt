-- The table of the record checks: a number is given exactly when a check with it is the first that applies, and an event exactly when none
-- does, with the call that the bytes say. The detail of a number is the offset. Of every list of bytes and every offset. Assumes nothing.
use Prim.Native.Nat.{ℕ, suc, ◌+◌, ◌≤◌, ◌<◌}
use mathlib.Core.Path.{◌≡◌, refl, ap, sym, ◌∙◌, subst}
use mathlib.Core.Bool.{Bool, true, false, not}
use mathlib.Core.List.{List, [], ◌∷◌}
use mathlib.Core.Logic.{⊎_elim}
use native.Mathlib.Omega.{arith}
use native.Mathlib.Nat.{zero-add}
use lib.Dec.{ltb, eqb}
use lib.ListN.{length, get_or}
use borrow.Author.Tests.{ltb-true, ltb-false, eqb-true, eqb-false, le-ltb, eq-eqb, not-true, not-false}
use Rattle.rules.proofs.Tests.{tests, clash, cases}
use Rattle.rules.specs.Change.{admit, wake, block, remove}
use Rattle.rules.specs.Turn.{Call}
use Rattle.records.specs.Bytes.{number}
use Rattle.records.specs.Record.{Reading, event, refused, row, known, payload, reading}
use Rattle.records.specs.Record.{tag, length_said, time, identifier, description, asked, call}
use Rattle.records.specs.Rows.{Begins, Layout, admit-has, wake-has, block-has, remove-has, tick-has}
use Rattle.records.specs.Rows.{Check, header-short, tag-unknown, length-other, payload-short, First, NoCheck}
use Rattle.records.specs.Rows.{Says, says-admit, says-wake, says-block, says-remove, says-tick, Detail, Table}
use Rattle.records.proofs.Paper.{same-call, same-terms}
use Rattle.records.proofs.Offset.{detail-is, told-detail}
use Rattle.records.proofs.Tags.{known-layout, layout-known}
use Rattle.records.proofs.Fields.{Stand, begins, stand}

module _ (offset : ℕ) (s : List ℕ) where
  -- none of the checks before this place applies
  abbrev Before : ℕ → Type 0
  Before place = (p n : ℕ) → p < place → Check s p n → ⊥

  -- what an answer says of the bytes
  abbrev Means : Reading → Type 0
  Means (refused r) = First s r.number × Detail offset r.detail
  Means (event c) = NoCheck s × Says s c

  -- a check either applies, and is the first, or those after it are left
  step : (o : Reading) (place number : ℕ) (t : Bool) (after : Reading) → row offset t number after ≡ o
      → (t ≡ true → Check s place number) → (t ≡ false → (n : ℕ) → Check s place n → ⊥)
      → (t ≡ false → after ≡ o → Before (suc place) → Means o) → Before place → Means o
  step o place number true after e f g next b =
      subst Means e (record { place = place; applies = f refl; none_before = b }, told-detail offset)
  step o place number false after e f g next b = next refl e past
    where
      past : Before (suc place)
      past p n h k =
          ⊎_elim (λ e. b p n (omega (arith, tests)) k) (λ e. g refl n (subst (λ (q : ℕ). Check s q n) (omega (arith, tests)) k))
          (cases (ltb p place))

  between : (p n : ℕ) → Check s p n → (1 ≤ p) × (p ≤ 4)
  between p n (header-short h) = omega arith
  between p n (tag-unknown t b h) = omega arith
  between p n (length-other t m b h) = omega arith
  between p n (payload-short t m b h) = omega arith

  -- each check taken apart, in the words of the rule

  of_1 : (n : ℕ) → Check s 1 n → length s < 3
  of_1 n (header-short h) = h

  of_2 : (n : ℕ) → Check s 2 n → (m : ℕ) → Layout (tag s) m → ⊥
  of_2 n (tag-unknown t b h) m l =
      let q = stand s 0 ((t, 1) ∷ []) (omega arith) b in
      h m (subst (λ (k : ℕ). Layout k m) (omega (arith, q.1)) l)

  of_3 : (n : ℕ) → Check s 3 n → Layout (tag s) (length_said s) → ⊥
  of_3 n (length-other t m b h) l =
      let q = stand s 0 ((t, 1) ∷ (m, 2) ∷ []) (omega arith) b in
      h (subst (Layout t) q.2.1 (subst (λ (k : ℕ). Layout k (length_said s)) (omega (arith, q.1)) l))

  of_4 : (n : ℕ) → Check s 4 n → length s < 3 + length_said s
  of_4 n (payload-short t m b h) =
      let q = stand s 0 ((t, 1) ∷ (m, 2) ∷ []) (omega arith) b in
      omega (arith, h, q.2.1)

  -- the numbers of a whole record stand in the bytes

  header : 3 ≤ length s → Begins s ((tag s, 1) ∷ (length_said s, 2) ∷ [])
  header h = begins s 0 ((tag s, 1) ∷ (length_said s, 2) ∷ []) (omega arith, zero-add (tag s), (omega arith, refl, tt))

  headed : (k n : ℕ) → tag s ≡ k → length_said s ≡ n → (fields : List (ℕ × ℕ)) → 11 ≤ length s → Stand s 11 fields
      → Begins s ((k, 1) ∷ (n, 2) ∷ (time s, 8) ∷ fields)
  headed k n t l fields p h =
      begins s 0 ((k, 1) ∷ (n, 2) ∷ (time s, 8) ∷ fields) (omega arith, zero-add (tag s) ∙ t, (omega arith, l, (omega arith, refl, h)))

  named : (k : ℕ) → tag s ≡ k → length_said s ≡ 11 → 14 ≤ length s → Begins s ((k, 1) ∷ (11, 2) ∷ (time s, 8) ∷ (identifier s, 3) ∷ [])
  named k t l p = headed k 11 t l ((identifier s, 3) ∷ []) (omega arith) (omega arith, refl, tt)

  says-call : (k n : ℕ) → Layout k n → tag s ≡ k → length_said s ≡ n → 3 + n ≤ length s
      → Says s (record { now = time s; asked = asked k s })
  says-call k n admit-has t l p =
      says-admit (description s) refl
      (headed 1 21 t l ((identifier s, 3) ∷ (number s 14 4, 4) ∷ (number s 18 4, 4) ∷ last) (omega arith)
      (omega arith, refl, (omega arith, refl, (omega arith, refl, last-stand))))
    where
      last : List (ℕ × ℕ)
      last = (get_or s 22 0, 1) ∷ (get_or s 23 0, 1) ∷ []

      last-stand : Stand s 22 last
      last-stand = (omega arith, zero-add (get_or s 22 0), (omega arith, zero-add (get_or s 23 0), tt))
  says-call k n wake-has t l p = says-wake (identifier s) refl (named 2 t l p)
  says-call k n block-has t l p = says-block (identifier s) refl (named 3 t l p)
  says-call k n remove-has t l p = says-remove (identifier s) refl (named 4 t l p)
  says-call k n tick-has t l p = says-tick refl (headed 5 8 t l [] (omega arith) tt)

  -- the checks of the rule, from the last to the first, say what the table says

  abbrev has : ℕ
  has = payload (tag s)

  abbrev from_4 : Reading
  from_4 = row offset (ltb (length s) (3 + has)) 20 (event (call s))

  abbrev from_3 : Reading
  from_3 = row offset (not (eqb (length_said s) has)) 22 from_4

  abbrev from_2 : Reading
  from_2 = row offset (not (known (tag s))) 21 from_3

  payload-check : (o : Reading) → 3 ≤ length s → Layout (tag s) has → length_said s ≡ has → from_4 ≡ o → Before 4 → Means o
  unfolding call
  payload-check o h l q e =
      step o 4 20 (ltb (length s) (3 + has)) _ e (λ f. payload-short (tag s) (length_said s) (header h) (omega (arith, tests)))
      (λ f n k. omega (arith, tests, of_4 n k))
      (λ f e b.
      subst Means e ((λ p n k. b p n (omega (arith, (between p n k).1)) k), says-call (tag s) has l refl q (omega (arith, tests))))

  length-check : (o : Reading) → 3 ≤ length s → Layout (tag s) has → from_3 ≡ o → Before 3 → Means o
  length-check o h l e =
      step o 3 22 (not (eqb (length_said s) has)) _ e other (λ f n k. of_3 n k (is-its f)) (λ f e. payload-check o h l (same f) e)
    where
      same : not (eqb (length_said s) has) ≡ false → length_said s ≡ has
      same f = eqb-true (length_said s) has (not-false _ f)

      is-its : not (eqb (length_said s) has) ≡ false → Layout (tag s) (length_said s)
      is-its f = subst (Layout (tag s)) (sym (same f)) l

      other : not (eqb (length_said s) has) ≡ true → Check s 3 22
      other f =
          length-other (tag s) (length_said s) (header h)
          (λ l. eqb-false (length_said s) has (not-true _ f) (sym (layout-known (tag s) (length_said s) l).1))

  tag-check : (o : Reading) → 3 ≤ length s → from_2 ≡ o → Before 2 → Means o
  tag-check o h e = step o 2 21 (not (known (tag s))) _ e unknown (λ f n k. of_2 n k has (its f)) (λ f e. length-check o h (its f) e)
    where
      its : not (known (tag s)) ≡ false → Layout (tag s) has
      its f = known-layout (tag s) (not-false _ f)

      unknown : not (known (tag s)) ≡ true → Check s 2 21
      unknown f =
          let b = header h in
          tag-unknown (tag s) (b.0, b.1, b.2, b.3, b.4, tt) (λ n l. clash (sym (layout-known (tag s) n l).0 ∙ not-true _ f))

  means : (o : Reading) → reading offset s ≡ o → Means o
  unfolding reading
  means o e =
      step o 1 20 (ltb (length s) 3) _ e (λ f. header-short (omega (arith, tests))) (λ f n k. omega (arith, tests, of_1 n k))
      (λ f e. tag-check o (omega (arith, tests)) e) (λ p n h k. omega (arith, (between p n k).0))

  -- and a whole record is read as the call that it says

  whole : (k n : ℕ) → Layout k n → tag s ≡ k → length_said s ≡ n → 3 + n ≤ length s
      → reading offset s ≡ event (record { now = time s; asked = asked k s })
  unfolding reading call
  whole k n l t e p =
      let h = layout-known k n l in
      rw (
        le-ltb (length s) 3 (omega arith),
        ap known t ∙ h.0,
        eq-eqb (length_said s) (payload (tag s)) (e ∙ sym (ap payload t ∙ h.1)),
        le-ltb (length s) (3 + payload (tag s)) (omega (arith, ap payload t ∙ h.1)),
      )
      (ap (λ (x : ℕ). event (record { now = time s; asked = asked x s })) t)

  names : (k now tunnel : ℕ) → Layout k 11 → Begins s ((k, 1) ∷ (11, 2) ∷ (now, 8) ∷ (tunnel, 3) ∷ [])
      → (reading offset s ≡ event (record { now = time s; asked = asked k s })) × (time s ≡ now) × (identifier s ≡ tunnel)
  names k now tunnel l b =
      let q = stand s 0 ((k, 1) ∷ (11, 2) ∷ (now, 8) ∷ (tunnel, 3) ∷ []) (omega arith) b in
      (whole k 11 l (sym (zero-add (tag s)) ∙ q.1) q.2.1 q.2.2.2.0, q.2.2.1, q.2.2.2.1)

  said : (c : Call) → Says s c → reading offset s ≡ event c
  said c (says-admit d e b) =
      let terms : List (ℕ × ℕ) = (d.tunnel, 3) ∷ (d.period, 4) ∷ (d.capacity, 4) ∷ (d.priority, 1) ∷ (d.kind, 1) ∷ [] in
      let q = stand s 0 ((1, 1) ∷ (21, 2) ∷ (c.now, 8) ∷ terms) (omega arith) b in
      let f = q.2.2.2 in
      let priority : get_or s 22 0 ≡ d.priority = sym (zero-add (get_or s 22 0)) ∙ f.2.2.2.1 in
      let kind : get_or s 23 0 ≡ d.kind = sym (zero-add (get_or s 23 0)) ∙ f.2.2.2.2.1 in
      whole 1 21 admit-has (sym (zero-add (tag s)) ∙ q.1) q.2.1 f.2.2.2.2.0
      ∙ ap event
      (same-call q.2.2.1 (ap admit (same-terms d f.1 f.2.1 f.2.2.1 priority kind) ∙ sym e))
  said c (says-wake t e b) = let q = names 2 c.now t wake-has b in q.0 ∙ ap event (same-call q.1 (ap wake q.2 ∙ sym e))
  said c (says-block t e b) = let q = names 3 c.now t block-has b in q.0 ∙ ap event (same-call q.1 (ap block q.2 ∙ sym e))
  said c (says-remove t e b) = let q = names 4 c.now t remove-has b in q.0 ∙ ap event (same-call q.1 (ap remove q.2 ∙ sym e))
  said c (says-tick e b) =
      let q = stand s 0 ((5, 1) ∷ (8, 2) ∷ (c.now, 8) ∷ []) (omega arith) b in
      whole 5 8 tick-has (sym (zero-add (tag s)) ∙ q.1) q.2.1 q.2.2.0 ∙ ap event (same-call q.2.2.1 (sym e))

  -- of two that are first neither stands before the other
  one-first : (n m : ℕ) → First s n → First s m → n ≡ m
  one-first n m f g = one_number g.place n m (subst (λ (p : ℕ). Check s p n) same f.applies) g.applies
    where
      not-before : (a b : ℕ) → (x : First s a) (y : First s b) (t : Bool) → ltb x.place y.place ≡ t → y.place ≤ x.place
      not-before a b x y true h = absurd (y.none_before x.place a (ltb-true x.place y.place h) x.applies)
      not-before a b x y false h = ltb-false x.place y.place h

      same : f.place ≡ g.place
      same = omega (arith, not-before n m f g _ refl, not-before m n g f _ refl)

      one_number : (p a b : ℕ) → Check s p a → Check s p b → a ≡ b
      one_number p a b (header-short h) (header-short k) = refl
      one_number p a b (tag-unknown t x h) (tag-unknown u y k) = refl
      one_number p a b (length-other t i x h) (length-other u j y k) = refl
      one_number p a b (payload-short t i x h) (payload-short u j y k) = refl

  pub table : Table offset s
  table =
      record {
        refuses = λ n d. (means (refused (record { number = n; detail = d })), λ h. given n d h (reading offset s) refl);
        gives = λ c. (λ e. (means (event c) e).1, said c);
        reads = (λ x. (means (event x.0) x.1).0, λ h. read h (reading offset s) refl);
      }
    where
      given : (n d : ℕ) → First s n × Detail offset d → (o : Reading) → reading offset s ≡ o
          → reading offset s ≡ refused (record { number = n; detail = d })
      given n d h (event c) e = absurd ((means (event c) e).0 h.0.place n h.0.applies)
      given n d h (refused r) e =
          let m = means (refused r) e in
          e ∙ ap (λ (x : ℕ). refused (record { number = x; detail = r.detail })) (one-first r.number n m.0 h.0)
          ∙ ap (λ (x : ℕ). refused (record { number = n; detail = x }))
          (detail-is offset r.detail m.1 ∙ sym (detail-is offset d h.1))

      read : NoCheck s → (o : Reading) → reading offset s ≡ o → (c : Call) × (reading offset s ≡ event c)
      read h (event c) e = (c, e)
      read h (refused r) e = let f = (means (refused r) e).0 in absurd (h f.place r.number f.applies)
