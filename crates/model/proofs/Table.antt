-- The reply table, rows 30 to 36: a row's number and detail are given exactly when it is the first that applies, and a result, the right
-- one, exactly when none does. Of everything that can be asked. Assumes nothing.
use Prim.Native.Nat.{ℕ, suc, ◌-◌, ◌≤◌, ◌<◌}
use mathlib.Core.Path.{◌≡◌, refl, ap, sym, ◌∙◌, subst}
use mathlib.Core.Bool.{Bool, true, false, cond, not, ◌&&◌}
use mathlib.Core.List.{List, [], ◌∷◌}
use mathlib.Core.Logic.{◌⊎◌, inl, inr, ⊎_elim}
use native.Mathlib.Omega.{arith}
use native.Mathlib.Nat.{le-suc_iff, eq-zero-or-pos}
use lib.Dec.{leb, ltb, eqb}
use borrow.Author.Tests.{leb-true, leb-false, ltb-true, ltb-false, eqb-true, eqb-false}
use lib.ListN.{length, get_or}
use Rattle.model.specs.Search.{first}
use Rattle.model.specs.Form.{Form, suits, takes}
use Rattle.model.specs.Supply.{supply_of}
use Rattle.model.specs.Demand.{demand_of}
use Rattle.model.specs.Share.{Share, passes, least_of, best_of}
use Rattle.model.specs.Reply.{Reply, gives, refuses}
use Rattle.model.specs.Rows.{within, row, in_range, miscounted, out_of_range, falls, first_out, first_fall, tasks_rows, unaligned}
use Rattle.model.specs.Rows.{supply_reply, demand_reply, check_reply, least_reply, best_reply}
use Rattle.model.specs.Meaning.{Suits, Takes, Pass}
use Rattle.model.specs.Asked.{Work, Asked, supply, demand, check, least, best, reply_to}
use Rattle.model.specs.Table.{Outside, OutOfRange, Miscounted, TaskOut, PeriodFalls, FirstTask, OfTasks}
use Rattle.model.specs.Table.{ShareOut, NotAligned, LengthOut, NonePasses}
use Rattle.model.specs.Table.{Row, row_30, row_31, row_32, row_33, row_34, row_35, row_36, rows, First, NoRow, Result, Table}
use Rattle.model.proofs.Tests.{Tells, never, either, refuted, clash, below-or-from, neither_below}
use Rattle.model.proofs.Places.{first-smallest}
use Rattle.model.proofs.Supply.{supply-means, supply-only}
use Rattle.model.proofs.Demand.{demand-means, demand-only}
use Rattle.model.proofs.Divides.{suits-tells, takes-tells}
use Rattle.model.proofs.Meaning.{Whole, pass-passes, passes-means}
use Rattle.model.proofs.Meaning.{least-means, least-none, least-only, best-means, best_none, best-only}

not_both : {A B : Type 0} (a b : Bool) → Tells (not a) A → Tells (not b) B → Tells (not (a && b)) (A ⊎ B)
not_both true b x y = (λ e. inr (y.0 e), λ e. ⊎_elim (x.1 refl) (y.1 e))
not_both false b x y = (λ e. inl (x.0 refl), λ e o. clash refl e)

outside : (x n : ℕ) → Tells (not (within x n)) (Outside 1 n x)
outside x n = not_both (leb 1 x) (leb x n) (under 1 x) (under x n)
  where
    under : (a b : ℕ) → Tells (not (leb a b)) (b < a)
    under a b = go (leb a b) refl
      where
        go : (t : Bool) → leb a b ≡ t → Tells (not t) (b < a)
        go true h = (λ e. absurd (clash e refl), λ e l. omega (arith, leb-true a b h))
        go false h = (λ e. leb-false a b h, λ e l. clash refl e)

out_of_range_lem : (P B : ℕ) → Tells (not (in_range P B)) (OutOfRange P B)
out_of_range_lem P B = not_both (within P 2000) (within B P) (outside P 2000) (outside B P)

above : (n t : ℕ) → Tells (ltb n t) (n < t)
above n t = (ltb-true n t, λ e l. omega (arith, ltb-false n t e))

-- a test tells the first place of its kind: where it holds that is k, and where it does not there is none
abbrev TellsFirst : Bool → ℕ → (ℕ → Type 0) → Type 0
TellsFirst b k Such = (b ≡ true → Such k × ((j : ℕ) → j < k → Such j → ⊥)) × (b ≡ false → (j : ℕ) → Such j → ⊥)

first-tells : (f : ℕ → Bool) (n : ℕ) (Such : ℕ → Type 0) → ((k : ℕ) → Such k → (1 ≤ k) × (k ≤ n))
    → ((k : ℕ) → 1 ≤ k → k ≤ n → Tells (f k) (Such k)) → TellsFirst (ltb 0 (first f n)) (first f n) Such
first-tells f n Such inside tells = (there, nowhere)
  where
    there : ltb 0 (first f n) ≡ true → Such (first f n) × ((j : ℕ) → j < first f n → Such j → ⊥)
    there e =
        let p = ltb-true 0 (first f n) e in
        let i = first-smallest f n in
        let before : (j : ℕ) → j < first f n → Such j → ⊥ =
        λ j l x. let at = inside j x in (tells j at.0 at.1).1 (i.least j at.0 l) x in
        ((tells (first f n) p i.most).0 (i.holds p), before)

    nowhere : ltb 0 (first f n) ≡ false → (j : ℕ) → Such j → ⊥
    nowhere e j x =
        let z : first f n ≡ 0 = omega (arith, ltb-false 0 (first f n) e) in
        let at = inside j x in
        (tells j at.0 at.1).1 ((first-smallest f n).none z j at.0 at.1) x

-- where there is one there is a first
has_first : (b : Bool) (k : ℕ) (Such : ℕ → Type 0) → TellsFirst b k Such → (j : ℕ) → Such j → Such k × ((j : ℕ) → j < k → Such j → ⊥)
has_first true k Such tells j x = tells.0 refl
has_first false k Such tells j x = absurd (tells.1 refl j x)

module _ (w : Work) where
  abbrev ps : List ℕ
  ps = w.periods

  abbrev es : List ℕ
  es = w.costs

  pub count-out : Tells (miscounted ps es) (Miscounted w)
  count-out = (λ e. there (a.0 e), λ e x. a.1 e (back x))
    where
      unlike : Tells (not (eqb (length ps) (length es))) (length ps ≡ length es → ⊥)
      unlike = go (eqb (length ps) (length es)) refl
        where
          go : (t : Bool) → eqb (length ps) (length es) ≡ t → Tells (not t) (length ps ≡ length es → ⊥)
          go true h = (λ e. absurd (clash e refl), λ e n. n (eqb-true _ _ h))
          go false h = (λ e. eqb-false _ _ h, λ e n. clash refl e)

      a : Tells (miscounted ps es) (Outside 1 16 (length ps) ⊎ (length ps ≡ length es → ⊥))
      a = either (not (within (length ps) 16)) (not (eqb (length ps) (length es))) (outside (length ps) 16) unlike

      there : Outside 1 16 (length ps) ⊎ (length ps ≡ length es → ⊥) → Miscounted w
      there (inl (inl none)) = inl (omega (arith, none))
      there (inl (inr many)) = inr (inl many)
      there (inr unpaired) = inr (inr unpaired)

      back : Miscounted w → Outside 1 16 (length ps) ⊎ (length ps ≡ length es → ⊥)
      back (inl none) = inl (inl (omega (arith, none)))
      back (inr (inl many)) = inl (inr many)
      back (inr (inr unpaired)) = inr unpaired

  pub task-out : TellsFirst (ltb 0 (first_out ps es)) (first_out ps es) (TaskOut w)
  task-out = first-tells (out_of_range ps es) (length ps) (TaskOut w) (λ k x. (x.0, x.1)) told
    where
      told : (k : ℕ) → 1 ≤ k → k ≤ length ps → Tells (out_of_range ps es k) (TaskOut w k)
      told k from to =
          let r = out_of_range_lem (get_or ps (k - 1) 0) (get_or es (k - 1) 0) in
          (λ e. (from, to, r.0 e), λ e x. r.1 e x.2)

  pub period-falls : TellsFirst (ltb 0 (first_fall ps)) (first_fall ps) (PeriodFalls w)
  period-falls = first-tells (falls ps) (length ps) (PeriodFalls w) (λ k x. (omega (arith, x.0), x.1)) told
    where
      both : {A B : Type 0} (a b : Bool) → Tells a A → Tells b B → Tells (a && b) (A × B)
      both true b x y = (λ e. (x.0 refl, y.0 e), λ e p. y.1 e p.1)
      both false b x y = (λ e. absurd (clash e refl), λ e p. x.1 refl p.0)

      told : (k : ℕ) → 1 ≤ k → k ≤ length ps → Tells (falls ps k) (PeriodFalls w k)
      told k from to =
          let r = both (ltb 1 k) (ltb (get_or ps (k - 1) 0) (get_or ps (k - 2) 0)) (above 1 k) (above _ _) in
          (λ e. let x = r.0 e in (x.0, to, x.1), λ e x. r.1 e (x.0, x.2))

  -- rows 31 and 32 apply where there is such a task, whichever
  pub some_out : (j : ℕ) → TaskOut w j → FirstTask TaskOut (first_out ps es) w
  some_out = has_first (ltb 0 (first_out ps es)) (first_out ps es) (TaskOut w) task-out

  pub some_fall : (j : ℕ) → PeriodFalls w j → FirstTask PeriodFalls (first_fall ps) w
  some_fall = has_first (ltb 0 (first_fall ps)) (first_fall ps) (PeriodFalls w) period-falls

  -- where row 31 does not apply, a ceil by each period exists
  pub whole : ((k : ℕ) → FirstTask TaskOut k w → ⊥) → Whole ps
  whole fit k l = go (eq-zero-or-pos (get_or ps k 0))
    where
      go : (get_or ps k 0 ≡ 0) ⊎ (0 < get_or ps k 0) → 1 ≤ get_or ps k 0
      go (inl z) =
          let e : suc k - 1 ≡ k = omega arith in
          let out : get_or ps (suc k - 1) 0 < 1 = rw e (omega (arith, z)) in
          absurd (fit (first_out ps es) (some_out (suc k) (omega arith, l, inl (inl out))))
      go (inr pos) = pos

-- a test with what it tells
abbrev Test : Type 0 → Type 0
Test A = (b : Bool) × Tells b A

-- a test with the detail of which it tells: where it holds this one is right, and where it does not none is
abbrev TellsDetail : Bool → ℕ → (ℕ → Type 0) → Type 0
TellsDetail b d A = (b ≡ true → A d) × (b ≡ false → (e : ℕ) → A e → ⊥)

abbrev DetailTest : (ℕ → Type 0) → Type 0
DetailTest A = (b : Bool) × (d : ℕ) × TellsDetail b d A

-- what is asked is answered by tests of the table's rows from the top, and by the one result; whether a budget passes is told where row 31
-- does not apply
record Told (asked : Asked) : Type 0 where
  is_30 : Test (OfTasks Miscounted asked)
  is_31 : DetailTest (λ k. OfTasks (FirstTask TaskOut k) asked)
  is_32 : DetailTest (λ k. OfTasks (FirstTask PeriodFalls k) asked)
  is_33 : Test (ShareOut asked)
  is_36 : Test (NotAligned asked)
  is_35 : Test (LengthOut asked)
  is_34 : Bool
  tells_34 : ((k : ℕ) → OfTasks (FirstTask TaskOut k) asked → ⊥) → Tells is_34 (NonePasses asked)
  values : List ℕ
  right : NoRow asked → Result asked values
  only : NoRow asked → (v : List ℕ) → Result asked v → values ≡ v
  reply : reply_to asked
      ≡ row is_30.0 30 0 (row is_31.0 31 is_31.1 (row is_32.0 32 is_32.1
      (row is_33.0 33 0 (row is_36.0 36 0 (row is_35.0 35 0 (row is_34 34 0 (gives values)))))))

-- a period that is not out of range is at least 1
positive : (P : ℕ) → (Outside 1 2000 P → ⊥) → 1 ≤ P
positive P not_out = go (eq-zero-or-pos P)
  where
    go : (P ≡ 0) ⊎ (0 < P) → 1 ≤ P
    go (inl z) = absurd (not_out (inl (omega (arith, z))))
    go (inr pos) = pos

told-supply : (form : Form) (P B t : ℕ) → Told (supply form P B t)
unfolding supply_reply
told-supply form P B t =
    record {
      is_30 = (_, never);
      is_31 = (_, 0, (never.0, λ e k. never.1 e));
      is_32 = (_, 0, (never.0, λ e k. never.1 e));
      is_33 = (_, out_of_range_lem P B);
      is_36 = (_, never);
      is_35 = (_, above 2000 t);
      is_34 = _;
      tells_34 = λ fit. never;
      values = supply_of form P B t ∷ [];
      right = λ h. (supply_of form P B t, refl, supply-means P B t form (positive P (λ x. h 33 0 (row_33 (inl x)))));
      only = λ h v r. ap (λ (s : ℕ). s ∷ []) (supply-only P B t form r.0 r.2) ∙ sym r.1;
      reply = refl;
    }

module _ (w : Work) where
  abbrev is-out : DetailTest (λ k. FirstTask TaskOut k w)
  is-out = (_, first_out (ps w) (es w), ((task-out w).0, λ e k x. (task-out w).1 e k x.0))

  abbrev is_fall : DetailTest (λ k. FirstTask PeriodFalls k w)
  is_fall = (_, first_fall (ps w), ((period-falls w).0, λ e k x. (period-falls w).1 e k x.0))

  told-demand : (i t : ℕ) → Told (demand w i t)
  unfolding tasks_rows demand_reply
  told-demand i t =
      record {
        is_30 = (_, count-out w);
        is_31 = is-out;
        is_32 = is_fall;
        is_33 = (_, never);
        is_36 = (_, never);
        is_35 = (_, either (ltb 2000 t) (not (within i (length (ps w)))) (above 2000 t) (outside i (length (ps w))));
        is_34 = _;
        tells_34 = λ fit. never;
        values = demand_of (ps w) (es w) i t ∷ [];
        right = λ h. (demand_of (ps w) (es w) i t, refl, demand-means (ps w) (es w) i t (periods h));
        only = λ h v r. ap (λ (d : ℕ). d ∷ []) (demand-only (ps w) (es w) i t r.0 r.2) ∙ sym r.1;
        reply = refl;
      }
    where
      periods : NoRow (demand w i t) → (k : ℕ) → k < i → 1 ≤ get_or (ps w) k 0
      periods h k l = go (below-or-from (length (ps w)) i)
        where
          go : (length (ps w) < i) ⊎ (i ≤ length (ps w)) → 1 ≤ get_or (ps w) k 0
          go (inl behind) = absurd (h 35 0 (row_35 (inr (inr behind))))
          go (inr inside) = whole w (λ k x. h 31 k (row_31 k x)) k (omega arith)

  pub unaligned-tells : (form : Form) (P : ℕ) → Tells (unaligned form P (ps w)) ((Suits form (ps w) → ⊥) ⊎ (Takes form P (ps w) → ⊥))
  unaligned-tells form P =
      not_both (suits form (ps w)) (takes form P (ps w)) (refuted _ (suits-tells form (ps w))) (refuted _ (takes-tells form P (ps w)))

  told-check : (form : Form) (P B : ℕ) → Told (check form w P B)
  unfolding tasks_rows check_reply
  told-check form P B =
      record {
        is_30 = (_, count-out w);
        is_31 = is-out;
        is_32 = is_fall;
        is_33 = (_, out_of_range_lem P B);
        is_36 = (_, unaligned-tells form P);
        is_35 = (_, never);
        is_34 = _;
        tells_34 = λ fit. never;
        values = cond (passes form P (ps w) (es w) B) 1 0 ∷ [];
        right = λ h. right h (passes form P (ps w) (es w) B) refl;
        only = λ h v r. only h (passes form P (ps w) (es w) B) refl v r;
        reply = refl;
      }
    where
      pass : NoRow (check form w P B) → passes form P (ps w) (es w) B ≡ true → Pass form P B (ps w) (es w)
      pass h = (passes-means form P B (ps w) (es w) (positive P (λ x. h 33 0 (row_33 (inl x)))) (whole w (λ k x. h 31 k (row_31 k x)))).0

      right : NoRow (check form w P B) → (b : Bool) → passes form P (ps w) (es w) B ≡ b → Result (check form w P B) (cond b 1 0 ∷ [])
      right h true e = inl (refl, pass h e)
      right h false e = inr (refl, λ p. clash (pass-passes form P B (ps w) (es w) p) e)

      only : NoRow (check form w P B) → (b : Bool) → passes form P (ps w) (es w) B ≡ b → (v : List ℕ) → Result (check form w P B) v → cond b 1 0 ∷ [] ≡ v
      only h true e v (inl r) = sym r.0
      only h true e v (inr r) = absurd (r.1 (pass h e))
      only h false e v (inl r) = absurd (clash (pass-passes form P B (ps w) (es w) r.1) e)
      only h false e v (inr r) = sym r.0

  -- a budget of 0 stands for none
  none : (x : ℕ) (A : Type 0) → (x ≡ 0 → A) → (A → x ≡ 0) → Tells (eqb x 0) A
  none x A there back = (λ e. there (eqb-true x 0 e), λ e a. eqb-false x 0 e (back a))

  told-least : (form : Form) (P : ℕ) → Told (least form w P)
  unfolding tasks_rows least_reply
  told-least form P =
      record {
        is_30 = (_, count-out w);
        is_31 = is-out;
        is_32 = is_fall;
        is_33 = (_, outside P 2000);
        is_36 = (_, unaligned-tells form P);
        is_35 = (_, never);
        is_34 = _;
        tells_34 = λ fit. let m = least-none form P (ps w) (es w) (whole w fit) in none (least_of form P (ps w) (es w)) _ m.0 m.1;
        values = least_of form P (ps w) (es w) ∷ [];
        right = λ h.
            let fit = whole w (λ k x. h 31 k (row_31 k x)) in
            let some : least_of form P (ps w) (es w) ≡ 0 → ⊥ = λ z. h 34 0 (row_34 ((least-none form P (ps w) (es w) fit).0 z)) in
            (least_of form P (ps w) (es w), refl, least-means form P (ps w) (es w) fit (omega arith));
        only = λ h v r. ap (λ (B : ℕ). B ∷ []) (least-only form P (ps w) (es w) (whole w (λ k x. h 31 k (row_31 k x))) r.0 r.2) ∙ sym r.1;
        reply = refl;
      }

  told-best : (form : Form) (P-max : ℕ) → Told (best form w P-max)
  unfolding tasks_rows best_reply
  told-best form P-max =
      record {
        is_30 = (_, count-out w);
        is_31 = is-out;
        is_32 = is_fall;
        is_33 = (_, outside P-max 2000);
        is_36 = (_, refuted (suits form (ps w)) (suits-tells form (ps w)));
        is_35 = (_, never);
        is_34 = _;
        tells_34 = λ fit. let m = best_none form (ps w) (es w) (whole w fit) P-max in none (best_of form (ps w) (es w) P-max).budget _ m.0 m.1;
        values = (best_of form (ps w) (es w) P-max).period ∷ (best_of form (ps w) (es w) P-max).budget ∷ [];
        right = λ h.
            let fit = whole w (λ k x. h 31 k (row_31 k x)) in
            let some : (best_of form (ps w) (es w) P-max).budget ≡ 0 → ⊥ = λ z. h 34 0 (row_34 ((best_none form (ps w) (es w) fit P-max).0 z)) in
            (best_of form (ps w) (es w) P-max, refl, best-means form (ps w) (es w) fit P-max (omega arith));
        only = λ h v r.
            ap (λ (s : Share). s.period ∷ s.budget ∷ []) (best-only form (ps w) (es w) (whole w (λ k x. h 31 k (row_31 k x))) P-max r.0 r.2)
            ∙ sym r.1;
        reply = refl;
      }

told : (asked : Asked) → Told asked
told (supply form P B t) = told-supply form P B t
told (demand w i t) = told-demand w i t
told (check form w P B) = told-check w form P B
told (least form w P) = told-least w form P
told (best form w P-max) = told-best w form P-max

-- the first place of its kind is one
one_place : (Such : Work → ℕ → Type 0) (w : Work) (k j : ℕ) → FirstTask Such k w → FirstTask Such j w → k ≡ j
one_place Such w k j x y = neither_below k j (λ l. y.1 k l x.0) (λ l. x.1 j l y.0)

module _ (asked : Asked) where
  -- none of the rows above this place applies
  abbrev Above : ℕ → Type 0
  Above place = (p d : ℕ) → p < place → Row asked (get_or rows p 0) d → ⊥

  -- what a reply says of the rows
  abbrev Says : Reply → Type 0
  Says (refuses number detail) = First asked number detail
  Says (gives values) = NoRow asked × Result asked values

  -- a row either applies, and is the first, or the rows below it are left
  step : (o : Reply) (place : ℕ) (t : Bool) (detail : ℕ) (below : Reply) → row t (get_or rows place 0) detail below ≡ o
      → TellsDetail t detail (Row asked (get_or rows place 0)) → (below ≡ o → Above (suc place) → Says o) → Above place → Says o
  step o place true detail below e tells next a =
      subst Says e (record { place = place; stands = refl; applies = tells.0 refl; none_above = a })
  step o place false detail below e tells next a = next e past
    where
      past : Above (suc place)
      past p d h r = go (le-suc_iff.0 h)
        where
          go : (suc p ≤ place) ⊎ (suc p ≡ suc place) → ⊥
          go (inl l) = a p d l r
          go (inr e) = let here : p ≡ place = omega arith in tells.1 refl d (subst (λ (q : ℕ). Row asked (get_or rows q 0) d) here r)

  bottom : Above 7 → NoRow asked
  bottom a n d (row_30 x) = a 0 0 (omega arith) (row_30 x)
  bottom a n d (row_31 k x) = a 1 k (omega arith) (row_31 k x)
  bottom a n d (row_32 k x) = a 2 k (omega arith) (row_32 k x)
  bottom a n d (row_33 x) = a 3 0 (omega arith) (row_33 x)
  bottom a n d (row_36 x) = a 4 0 (omega arith) (row_36 x)
  bottom a n d (row_35 x) = a 5 0 (omega arith) (row_35 x)
  bottom a n d (row_34 x) = a 6 0 (omega arith) (row_34 x)

  -- a test of what a row says is a test of the row
  same : {A : ℕ → Type 0} {b : Bool} {d n : ℕ} → TellsDetail b d A → (A d → Row asked n d) → ((e : ℕ) → Row asked n e → A e)
      → TellsDetail b d (Row asked n)
  same x there back = (λ e. there (x.0 e), λ e d r. x.1 e d (back d r))

  plain : {A : Type 0} {b : Bool} {n : ℕ} → Tells b A → (A → Row asked n 0) → ((e : ℕ) → Row asked n e → A) → TellsDetail b 0 (Row asked n)
  plain x there back = (λ e. there (x.0 e), λ e d r. x.1 e (back d r))

  of_30 : (d : ℕ) → Row asked 30 d → OfTasks Miscounted asked
  of_30 d (row_30 x) = x

  of_31 : (d : ℕ) → Row asked 31 d → OfTasks (FirstTask TaskOut d) asked
  of_31 d (row_31 k x) = x

  of_32 : (d : ℕ) → Row asked 32 d → OfTasks (FirstTask PeriodFalls d) asked
  of_32 d (row_32 k x) = x

  of_33 : (d : ℕ) → Row asked 33 d → ShareOut asked
  of_33 d (row_33 x) = x

  pub of_36 : (d : ℕ) → Row asked 36 d → NotAligned asked
  of_36 d (row_36 x) = x

  of_35 : (d : ℕ) → Row asked 35 d → LengthOut asked
  of_35 d (row_35 x) = x

  pub of_34 : (d : ℕ) → Row asked 34 d → NonePasses asked
  of_34 d (row_34 x) = x

  abbrev t : Told asked
  t = told asked

  says : (o : Reply) → reply_to asked ≡ o → Says o
  says o e =
      step o 0 _ _ _ (sym t.reply ∙ e) (plain t.is_30.1 row_30 of_30)
      (λ e. step o 1 _ _ _ e (same t.is_31.2 (row_31 _) of_31)
      (λ e. step o 2 _ _ _ e (same t.is_32.2 (row_32 _) of_32)
      (λ e. step o 3 _ _ _ e (plain t.is_33.1 row_33 of_33)
      (λ e. step o 4 _ _ _ e (plain t.is_36.1 row_36 of_36)
      (λ e. step o 5 _ _ _ e (plain t.is_35.1 row_35 of_35)
      (λ e a. step o 6 _ _ _ e (plain (t.tells_34 (λ k x. a 1 k (omega arith) (row_31 k x))) row_34 of_34)
      (λ e a. subst Says e (bottom a, t.right (bottom a))) a)))))) (λ p d h r. absurd (omega arith))

  -- of two that are first neither stands above the other
  one-first : (n m d k : ℕ) → First asked n d → First asked m k → n ≡ m
  one-first n m d k f g =
      let e : f.place ≡ g.place = neither_below f.place g.place (not-above n m d k f g) (not-above m n k d g f) in
      sym f.stands ∙ ap (λ (p : ℕ). get_or rows p 0) e ∙ g.stands
    where
      not-above : (a b c d : ℕ) (x : First asked a c) (y : First asked b d) → x.place < y.place → ⊥
      not-above a b c d x y l = y.none_above x.place c l (subst (λ (r : ℕ). Row asked r c) (sym x.stands) x.applies)

  -- a row has one detail
  one-task : (a : Asked) (Such : Work → ℕ → Type 0) (k j : ℕ) → OfTasks (FirstTask Such k) a → OfTasks (FirstTask Such j) a → k ≡ j
  one-task (supply form P B t) Such k j x y = absurd x
  one-task (demand w i t) Such k j x y = one_place Such w k j x y
  one-task (check form w P B) Such k j x y = one_place Such w k j x y
  one-task (least form w P) Such k j x y = one_place Such w k j x y
  one-task (best form w P-max) Such k j x y = one_place Such w k j x y

  one-detail : (n d e : ℕ) → Row asked n d → Row asked n e → d ≡ e
  one-detail n d e (row_30 x) (row_30 y) = refl
  one-detail n d e (row_31 k x) (row_31 j y) = one-task asked TaskOut k j x y
  one-detail n d e (row_32 k x) (row_32 j y) = one-task asked PeriodFalls k j x y
  one-detail n d e (row_33 x) (row_33 y) = refl
  one-detail n d e (row_36 x) (row_36 y) = refl
  one-detail n d e (row_35 x) (row_35 y) = refl
  one-detail n d e (row_34 x) (row_34 y) = refl

  pub table : Table asked
  table =
      record {
        refused = λ n d. (says (refuses n d), λ h. refused n d h (reply_to asked) refl);
        given = λ v. (says (gives v), λ h. given v h (reply_to asked) refl);
        answered = (λ x. (says (gives x.0) x.1).0, λ h. answered h (reply_to asked) refl);
      }
    where
      refused : (n d : ℕ) → First asked n d → (o : Reply) → reply_to asked ≡ o → reply_to asked ≡ refuses n d
      refused n d h (gives v) e = absurd ((says (gives v) e).0 n d h.applies)
      refused n d h (refuses m k) e =
          let s : First asked m k = says (refuses m k) e in
          let number : m ≡ n = one-first m n k d s h in
          let detail : k ≡ d = one-detail n k d (subst (λ (x : ℕ). Row asked x k) number s.applies) h.applies in
          e ∙ ap (λ (x : ℕ). refuses x k) number ∙ ap (refuses n) detail

      given : (v : List ℕ) → NoRow asked × Result asked v → (o : Reply) → reply_to asked ≡ o → reply_to asked ≡ gives v
      given v h (gives u) e = e ∙ ap gives (sym (t.only h.0 u (says (gives u) e).1) ∙ t.only h.0 v h.1)
      given v h (refuses m k) e = absurd (h.0 m k (says (refuses m k) e).applies)

      answered : NoRow asked → (o : Reply) → reply_to asked ≡ o → (values : List ℕ) × (reply_to asked ≡ gives values)
      answered h (gives v) e = (v, e)
      answered h (refuses m k) e = absurd (h m k (says (refuses m k) e).applies)
