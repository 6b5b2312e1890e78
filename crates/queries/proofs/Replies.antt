-- The numbers that are kept get the reply that those of the line get: they are alike, and where the line has more than 17 tasks, row 30
-- refuses both. Assumes nothing.
use Prim.Native.Nat.{ℕ, zero, suc, ◌+◌, ◌-◌, ◌*◌, ◌/◌, ◌≤◌, ◌<◌, min}
use mathlib.Core.Path.{◌≡◌, refl, ap, sym, ◌∙◌, subst}
use mathlib.Core.Bool.{Bool, true, false}
use mathlib.Core.List.{List, [], ◌∷◌, map}
use mathlib.Core.Logic.{◌⊎◌, inl, inr, ⊎_elim}
use native.Mathlib.Omega.{arith}
use native.Mathlib.Nat.{add-zero}
use lib.Dec.{leb}
use lib.ListN.{length, get_or, take, drop, length-drop, length-map, get_or-map}
use lib.Seq.{get_or-take, get_or-drop, length-take-le}
use borrow.Author.Tests.{lt-leb}
use Rattle.model.specs.Form.{Form}
use Rattle.model.specs.Asked.{reply_to}
use Rattle.model.specs.Reply.{Reply}
use Rattle.model.specs.Rows.{miscounted, tasks_rows, demand_reply, check_reply, least_reply, best_reply}
use Rattle.model.proofs.Tests.{and_right, below-or-from}
use Rattle.model.proofs.TaskRows.{by_30}
use Rattle.text.specs.Text.{number}
use Rattle.queries.specs.declared.ask.Word.{Word}
use Rattle.queries.specs.declared.ask.Word.TheVariants.{Supply, Demand, Check, Least, Best}
use Rattle.queries.specs.Text.{line_of}
use Rattle.queries.specs.Meaning.{heads, every_other, question, asks}
use Rattle.queries.specs.declared.ask.Fields.{Fields}
use Rattle.queries.specs.Private.{Kept, EveryOther, Answers}
use Rattle.queries.proofs.Alike.{Alike, alike-kept, supply-alike}
use Rattle.queries.proofs.AlikeTasks.{Alikes, demand-alike, check-alike, least-alike, best-alike}

-- of n numbers of tasks, the periods and the costs that are handed on: 17 are too many already
abbrev periods_of : ℕ → ℕ
periods_of n = (min n 34 + 1) / 2

abbrev costs_of : ℕ → ℕ
costs_of n = min n 34 / 2

abbrev skipped : Bool → ℕ
skipped true = 0
skipped false = 1

every_at : (t : Bool) (xs : List ℕ) (i : ℕ) → get_or (every_other t xs) i 0 ≡ get_or xs (2 * i + skipped t) 0
every_at t [] i = refl
every_at true (x ∷ xs) zero = refl
every_at true (x ∷ xs) (suc i) = let e : 2 * suc i + 0 ≡ suc (2 * i + 1) = omega arith in rw e (every_at false xs i)
every_at false (x ∷ xs) i = let e : 2 * i + 1 ≡ suc (2 * i + 0) = omega arith in rw e (every_at true xs i)

every_length : (t : Bool) (xs : List ℕ) → length (every_other t xs) ≡ (length xs + (1 - skipped t)) / 2
every_length true [] = refl
every_length false [] = refl
every_length true (x ∷ xs) = omega (arith, every_length false xs)
every_length false (x ∷ xs) = omega (arith, every_length true xs)

-- beyond a list there is nothing
get_or_out : (l : List ℕ) (i : ℕ) → length l ≤ i → get_or l i 0 ≡ 0
get_or_out [] i h = refl
get_or_out (x ∷ l) zero h = absurd (omega arith)
get_or_out (x ∷ l) (suc i) h = get_or_out l i (omega arith)

-- the kept numbers of the fields fs
module _ (fs : List (List ℕ)) (numbers : List ℕ) (k : Kept fs numbers) where
  abbrev ns : List ℕ
  ns = map number fs

  alike_at : (i : ℕ) → i < 37 → i < length fs → Alike 3000 (get_or numbers i 0) (get_or ns i 0)
  alike_at i a b = rw (k i a b, get_or-map number fs i []) (alike-kept (number (get_or fs i [])))

  -- m of every other number from `from` on are like those of the line behind h fields
  others-alike : (t : Bool) (h m : ℕ) (r : List ℕ) → m ≤ 17 → length r ≡ 17 → h + skipped t ≤ 3
      → m ≡ (length fs - h + (1 - skipped t)) / 2 → EveryOther numbers (h + skipped t) r
      → Alikes (take m r) (every_other t (drop h ns))
  others-alike t h m r few size low count e = record { sizes = sizes; each = λ i. go i (below-or-from i m) }
    where
      short : length (take m r) ≡ m
      short = length-take-le m r (omega arith)

      sizes : length (take m r) ≡ length (every_other t (drop h ns))
      sizes = omega (arith, short, every_length t (drop h ns), length-drop h ns, length-map fs number)

      place : (i : ℕ) → get_or (every_other t (drop h ns)) i 0 ≡ get_or ns (h + skipped t + 2 * i) 0
      place i =
          let p : h + (2 * i + skipped t) ≡ h + skipped t + 2 * i = omega arith in
          every_at t (drop h ns) i ∙ get_or-drop h ns (2 * i + skipped t) 0 ∙ ap (λ (j : ℕ). get_or ns j 0) p

      go : (i : ℕ) → (i < m) ⊎ (m ≤ i) → Alike 3000 (get_or (take m r) i 0) (get_or (every_other t (drop h ns)) i 0)
      go i (inl low-i) =
          rw (get_or-take m r i 0 low-i, e i (omega arith), place i)
          (alike_at (h + skipped t + 2 * i) (omega arith) (omega (arith, each t count)))
        where
          each : (t : Bool) → m ≡ (length fs - h + (1 - skipped t)) / 2 → h + skipped t + 2 * i < length fs
          each true c = omega arith
          each false c = omega arith
      go i (inr out) =
          inl (get_or_out (take m r) i (omega (arith, short)) ∙ sym (get_or_out (every_other t (drop h ns)) i (omega (arith, short, sizes))))

  -- the tasks behind h fields, as they are handed on
  module _ (h : ℕ) (ps es : List ℕ) (inside : h ≤ length fs) (few : h ≤ 2) (p-size : length ps ≡ 17) (e-size : length es ≡ 17)
      (p : EveryOther numbers h ps) (e : EveryOther numbers (h + 1) es) where
    abbrev n : ℕ
    n = length fs - h

    abbrev handed-periods : List ℕ
    handed-periods = take (periods_of n) ps

    abbrev handed-costs : List ℕ
    handed-costs = take (costs_of n) es

    periods-alike : n ≤ 34 → Alikes handed-periods (every_other true (drop h ns))
    periods-alike l =
        others-alike true h (periods_of n) ps (omega arith) p-size (omega arith) (omega arith)
        (subst (λ (i : ℕ). EveryOther numbers i ps) (sym (add-zero h)) p)

    costs-alike : n ≤ 34 → Alikes handed-costs (every_other false (drop h ns))
    costs-alike l = others-alike false h (costs_of n) es (omega arith) e-size (omega arith) (omega arith) e

    -- too many tasks are refused, whatever else they are
    too_many : (qs fs' : List ℕ) → 16 < length qs → miscounted qs fs' ≡ true
    too_many qs fs' m = rw (and_right (leb 1 (length qs)) (leb (length qs) 16) (lt-leb (length qs) 16 m))

    many-rows : 34 < n → (X Y : Reply)
        → tasks_rows handed-periods handed-costs X ≡ tasks_rows (every_other true (drop h ns)) (every_other false (drop h ns)) Y
    many-rows m X Y =
        let handed : 16 < length handed-periods = omega (arith, length-take-le (periods_of n) ps (omega arith)) in
        let line : 16 < length (every_other true (drop h ns)) =
        omega (arith, every_length true (drop h ns), length-drop h ns, length-map fs number) in
        by_30 handed-periods handed-costs (too_many handed-periods handed-costs handed) X
        ∙ sym (by_30 (every_other true (drop h ns)) (every_other false (drop h ns))
        (too_many (every_other true (drop h ns)) (every_other false (drop h ns)) line) Y)

    -- so where lists that are alike get one reply, these do
    tasks-same : (X Y : Reply)
        → (Alikes handed-periods (every_other true (drop h ns)) → Alikes handed-costs (every_other false (drop h ns))
        → tasks_rows handed-periods handed-costs X ≡ tasks_rows (every_other true (drop h ns)) (every_other false (drop h ns)) Y)
        → tasks_rows handed-periods handed-costs X ≡ tasks_rows (every_other true (drop h ns)) (every_other false (drop h ns)) Y
    tasks-same X Y r = ⊎_elim (λ m. many-rows m X Y) (λ l. r (periods-alike l) (costs-alike l)) (below-or-from 34 n)

  -- the reply to the kept numbers is that to the line's
  pub kept-reply : (form : Form) (w : Word) (ps es : List ℕ) → heads w ≤ length fs → length ps ≡ 17 → length es ≡ 17 → EveryOther numbers (heads w) ps
      → EveryOther numbers (heads w + 1) es
      → reply_to (question form w (get_or numbers 0 0) (get_or numbers 1 0) (get_or numbers 2 0)
      (record { periods = take (periods_of (length fs - heads w)) ps; costs = take (costs_of (length fs - heads w)) es })) ≡ reply_to (asks form w ns)
  unfolding demand_reply check_reply least_reply best_reply
  kept-reply form Supply ps es h s t p e =
      supply-alike form _ _ _ _ _ _ (alike_at 0 (omega arith) (omega arith)) (alike_at 1 (omega arith) (omega arith))
      (alike_at 2 (omega arith) (omega arith))
  kept-reply form Demand ps es h s t p e =
      tasks-same 2 ps es h (omega arith) s t p e _ _
      (λ a b. demand-alike _ _ _ _ a b _ _ (alike_at 0 (omega arith) (omega arith)) _ _ (alike_at 1 (omega arith) (omega arith)))
  kept-reply form Check ps es h s t p e =
      tasks-same 2 ps es h (omega arith) s t p e _ _
      (λ a b. check-alike _ _ _ _ a b _ _ (alike_at 0 (omega arith) (omega arith)) form _ _ (alike_at 1 (omega arith) (omega arith)))
  kept-reply form Least ps es h s t p e =
      tasks-same 1 ps es h (omega arith) s t p e _ _ (λ a b. least-alike _ _ _ _ a b _ _ (alike_at 0 (omega arith) (omega arith)) form)
  kept-reply form Best ps es h s t p e =
      tasks-same 1 ps es h (omega arith) s t p e _ _ (λ a b. best-alike _ _ _ _ a b _ _ (alike_at 0 (omega arith) (omega arith)) form)

-- so what the word asks is answered, with the counts as the code has them
pub asked-reply : (form : Form) (w : Word) (r : Fields) (h n : ℕ) (ps es text : List ℕ) → h ≡ heads w → n ≡ min (r.count - h) 34
    → length ps ≡ 17 → length es ≡ 17 → EveryOther r.numbers h ps → EveryOther r.numbers (h + 1) es → heads w ≤ r.count
    → text ≡ line_of (reply_to (question form w (get_or r.numbers 0 0) (get_or r.numbers 1 0) (get_or r.numbers 2 0)
    (record { periods = take ((n + 1) / 2) ps; costs = take (n / 2) es })))
    → Answers form w r text
asked-reply form w r h n ps es text eh en s t a b inside e fs k c =
    e
    ∙ rw (en, eh, c)
    (ap line_of (kept-reply fs r.numbers k form w ps es (omega arith) s t (subst (λ (i : ℕ). EveryOther r.numbers i ps) eh a)
    (subst (λ (i : ℕ). EveryOther r.numbers (i + 1) es) eh b)))
