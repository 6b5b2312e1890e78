-- Reading gives tasks where the bytes are their sheet and nothing else (`reads-sheet`), so that what was read is written in the same bytes
-- (`same_bytes`) and what was written reads back the same (`same-sheet`); and it names the first bad line (`reads-bad`). Assumes nothing.
use Prim.Native.Nat.{ℕ, zero, suc, ◌+◌, ◌-◌, ◌≤◌}
use mathlib.Core.Path.{◌≡◌, refl, ap, sym, ◌∙◌, subst}
use mathlib.Core.Bool.{Bool, true, false}
use mathlib.Core.Logic.{◌⊎◌, inl, inr}
use mathlib.Core.List.{List, [], ◌∷◌, ◌++◌, append_assoc, append-nil}
use native.Mathlib.Omega.{arith}
use lib.ListN.{length, get_or}
use Rattle.text.specs.Text.{number}
use Rattle.model.specs.Asked.{Work}
use Rattle.model.proofs.Tests.{clash}
use Rattle.sheets.specs.Sheet.{Read, sheet, bad, digits, cost_at, is_line, behind_line, no_tasks, before, read_from, read_of, line_of, written}
use Rattle.sheets.specs.Meaning.{Holds, IsSheet, NoLine, FirstBad}
use Rattle.sheets.specs.Private.{Small, behind}
use Rattle.sheets.proofs.OneLine.{Begins, line-said, line_reads, read_none, read_more, read-bad, read-line}

-- bytes that begin with the lines of at most n tasks
pub record Lines (n : ℕ) (bs : List ℕ) (w : Work) (rest : List ℕ) : Type 0 where
  pub paired : length w.costs ≡ length w.periods
  pub few : length w.periods ≤ n
  pub small-periods : Small w.periods
  pub small-costs : Small w.costs
  pub same : bs ≡ written w.periods w.costs ++ rest

abbrev task : ℕ → ℕ → Work → Work
task p e w = record { periods = p ∷ w.periods; costs = e ∷ w.costs }

small-more : (n : ℕ) (ns : List ℕ) → n ≤ 9999 → Small ns → Small (n ∷ ns)
small-more n ns h s zero = h
small-more n ns h s (suc i) = s i

lines_none : (n : ℕ) (rest : List ℕ) → Lines n rest no_tasks rest
lines_none n rest = record {
  paired = refl;
  few = omega arith;
  small-periods = λ i. none i;
  small-costs = λ i. none i;
  same = refl;
}
  where
    none : (i : ℕ) → get_or [] i 0 ≤ 9999
    none zero = omega arith
    none (suc i) = omega arith

lines_more : {n : ℕ} {bs more rest : List ℕ} {w : Work} {p e : ℕ} → Begins bs p e more → Lines n more w rest
    → Lines (suc n) bs (task p e w) rest
lines_more {n} {bs} {more} {rest} {w} {p} {e} b l = record {
  paired = ap suc l.paired;
  few = omega (arith, l.few);
  small-periods = small-more p w.periods b.small-period l.small-periods;
  small-costs = small-more e w.costs b.small-cost l.small-costs;
  same =
      b.same
      ∙ ap (λ (r : List ℕ). line_of p e ++ r) l.same
      ∙ sym (append_assoc (line_of p e) (written w.periods w.costs) rest);
}

-- good lines, and behind them what is no line or too many
pub record Stops (n k : ℕ) (bs : List ℕ) (j : ℕ) : Type 0 where
  pub good : Work
  pub rest : List ℕ
  pub lines : Lines n bs good rest
  pub place : j ≡ k + length good.periods
  pub some_left : 1 ≤ length rest
  pub reason : (length good.periods ≡ n) ⊎ NoLine rest

-- what reading tells
abbrev Told : ℕ → ℕ → List ℕ → Read → Type 0
Told n k bs (sheet w) = Lines n bs w []
Told n k bs (bad j) = Stops n k bs j

no_line : (bs : List ℕ) → is_line bs ≡ false → NoLine bs
no_line bs e p q more a b same =
    clash (line_reads bs p q more (record { same = same; small-period = a; small-cost = b })).line e

module _ (n k : ℕ) (bs more : List ℕ) (p e : ℕ) (b : Begins bs p e more) where
  told_more : (r : Read) → Told n (suc k) more r → Told (suc n) k bs (before p e r)
  told_more (sheet w) t = lines_more b t
  told_more (bad j) t = record {
    good = task p e t.good;
    rest = t.rest;
    lines = lines_more b t.lines;
    place = omega (arith, t.place);
    some_left = t.some_left;
    reason = reason t.reason;
  }
    where
      reason : (length t.good.periods ≡ n) ⊎ NoLine t.rest → (suc (length t.good.periods) ≡ suc n) ⊎ NoLine t.rest
      reason (inl h) = inl (ap suc h)
      reason (inr h) = inr h

stops-here : (n k : ℕ) (bs : List ℕ) → 1 ≤ length bs → (0 ≡ n) ⊎ NoLine bs → Stops n k bs k
stops-here n k bs some r =
    record { good = no_tasks; rest = bs; lines = lines_none n bs; place = omega arith; some_left = some; reason = r }

told : (n k : ℕ) (bs : List ℕ) → Told n k bs (read_from n k bs)
told zero k [] = subst (Told 0 k []) (sym (read_none 0 k)) (lines_none 0 [])
told zero k (b ∷ bs) = subst (Told 0 k (b ∷ bs)) (sym (read_more k (b ∷ bs) (omega arith))) (stops-here 0 k (b ∷ bs) (omega arith) (inl refl))
told (suc n) k [] = subst (Told (suc n) k []) (sym (read_none (suc n) k)) (lines_none (suc n) [])
told (suc n) k (b ∷ bs) = go (is_line (b ∷ bs)) refl (told n (suc k) (behind_line (b ∷ bs)))
  where
    go : (t : Bool) → is_line (b ∷ bs) ≡ t → Told n (suc k) (behind_line (b ∷ bs)) (read_from n (suc k) (behind_line (b ∷ bs)))
        → Told (suc n) k (b ∷ bs) (read_from (suc n) k (b ∷ bs))
    go true e h =
        subst (Told (suc n) k (b ∷ bs)) (sym (read-line n k (b ∷ bs) e))
        (told_more n k (b ∷ bs) (behind_line (b ∷ bs)) (number (digits (b ∷ bs))) (number (digits (cost_at (b ∷ bs)))) (line-said (b ∷ bs) e)
        (read_from n (suc k) (behind_line (b ∷ bs))) h)
    go false e h =
        subst (Told (suc n) k (b ∷ bs)) (sym (read-bad n k (b ∷ bs) (omega arith) e))
        (stops-here (suc n) k (b ∷ bs) (omega arith) (inr (no_line (b ∷ bs) e)))

-- the other way: lines that were written are read as their tasks, and then what stands behind them
behind-none : (r : Read) → r ≡ behind [] [] r
behind-none (sheet w) = refl
behind-none (bad k) = refl

behind_more : (p e : ℕ) (ps es : List ℕ) (r : Read) → before p e (behind ps es r) ≡ behind (p ∷ ps) (e ∷ es) r
behind_more p e ps es (sheet w) = refl
behind_more p e ps es (bad k) = refl

line_read_lem : (n k : ℕ) (bs : List ℕ) (p e : ℕ) (more : List ℕ) → Begins bs p e more
    → read_from (suc n) k bs ≡ before p e (read_from n (suc k) more)
line_read_lem n k bs p e more b =
    let r = line_reads bs p e more b in
    read-line n k bs r.line
    ∙ ap (λ (x : ℕ). before x (number (digits (cost_at bs))) (read_from n (suc k) (behind_line bs))) r.period
    ∙ ap (λ (x : ℕ). before p x (read_from n (suc k) (behind_line bs))) r.cost
    ∙ ap (λ (l : List ℕ). before p e (read_from n (suc k) l)) r.rest

pub read-written : (n m k j : ℕ) (ps es rest : List ℕ) → length es ≡ length ps → Small ps → Small es → m ≡ length ps + n → j ≡ k + length ps
    → read_from m k (written ps es ++ rest) ≡ behind ps es (read_from n j rest)
read-written n m k j [] [] rest h a b s t =
    let same : m ≡ n = omega arith in
    let here : k ≡ j = omega arith in
    ap (λ (x : ℕ). read_from x k rest) same ∙ ap (λ (x : ℕ). read_from n x rest) here ∙ behind-none (read_from n j rest)
read-written n m k j [] (e ∷ es) rest h a b s t = absurd (omega arith)
read-written n m k j (p ∷ ps) [] rest h a b s t = absurd (omega arith)
read-written n m k j (p ∷ ps) (e ∷ es) rest h a b s t =
    let more : List ℕ = written ps es ++ rest in
    let big : m ≡ suc (length ps + n) = omega arith in
    ap (λ (x : ℕ). read_from x k ((line_of p e ++ written ps es) ++ rest)) big
    ∙ ap (read_from (suc (length ps + n)) k) (append_assoc (line_of p e) (written ps es) rest)
    ∙ line_read_lem (length ps + n) k (line_of p e ++ more) p e more (record { same = refl; small-period = a 0; small-cost = b 0 })
    ∙ ap (before p e)
    (read-written n (length ps + n) (suc k) j ps es rest (omega arith) (λ i. a (suc i)) (λ i. b (suc i)) refl (omega arith))
    ∙ behind_more p e ps es (read_from n j rest)

-- what is read behind all tasks of a sheet
of_holds : (w : Work) (rest : List ℕ) → Holds w
    → read_of (written w.periods w.costs ++ rest)
    ≡ behind w.periods w.costs (read_from (16 - length w.periods) (suc (length w.periods)) rest)
of_holds w rest h =
    read-written (16 - length w.periods) 16 1 (suc (length w.periods)) w.periods w.costs rest h.paired h.small-periods
    h.small-costs (omega (arith, h.few)) (omega arith)

holding : (bs : List ℕ) (w : Work) (rest : List ℕ) → Lines 16 bs w rest → Holds w
holding bs w rest l =
    record { paired = l.paired; few = l.few; small-periods = l.small-periods; small-costs = l.small-costs }

pub reads-sheet : (bytes : List ℕ) (w : Work) → (read_of bytes ≡ sheet w → IsSheet bytes w) × (IsSheet bytes w → read_of bytes ≡ sheet w)
reads-sheet bytes w = (there, back)
  where
    there : read_of bytes ≡ sheet w → IsSheet bytes w
    there e =
        let l : Lines 16 bytes w [] = subst (Told 16 1 bytes) e (told 16 1 bytes) in
        record { holds = holding bytes w [] l; same_bytes = l.same ∙ append-nil (written w.periods w.costs) }

    back : IsSheet bytes w → read_of bytes ≡ sheet w
    back s =
        let ps : List ℕ = w.periods in
        let es : List ℕ = w.costs in
        ap read_of (s.same_bytes ∙ sym (append-nil (written ps es)))
        ∙ of_holds w [] s.holds
        ∙ ap (behind ps es) (read_none (16 - length ps) (suc (length ps)))
        ∙ ap (λ (l : List ℕ). sheet (record { periods = l; costs = es ++ [] })) (append-nil ps)
        ∙ ap (λ (l : List ℕ). sheet (record { periods = ps; costs = l })) (append-nil es)

-- bytes that begin with no line
not_line : (bs : List ℕ) → NoLine bs → is_line bs ≡ false
not_line bs never = go (is_line bs) refl
  where
    go : (t : Bool) → is_line bs ≡ t → t ≡ false
    go true e =
        let b = line-said bs e in
        absurd (never (number (digits bs)) (number (digits (cost_at bs))) (behind_line bs) b.small-period b.small-cost b.same)
    go false e = refl

stop : (n k : ℕ) (bs : List ℕ) → 1 ≤ length bs → (n ≡ 0) ⊎ NoLine bs → read_from n k bs ≡ bad k
stop n k bs some (inl z) = ap (λ (x : ℕ). read_from x k bs) z ∙ read_more k bs some
stop zero k bs some (inr never) = read_more k bs some
stop (suc n) k bs some (inr never) = read-bad n k bs some (not_line bs never)

pub reads-bad : (bytes : List ℕ) (k : ℕ) → (read_of bytes ≡ bad k → FirstBad bytes k) × (FirstBad bytes k → read_of bytes ≡ bad k)
reads-bad bytes k = (there, back)
  where
    there : read_of bytes ≡ bad k → FirstBad bytes k
    there e =
        let t : Stops 16 1 bytes k = subst (Told 16 1 bytes) e (told 16 1 bytes) in
        record {
          good = t.good;
          rest = t.rest;
          holds = holding bytes t.good t.rest t.lines;
          same_bytes = t.lines.same;
          place = omega (arith, t.place);
          some_left = t.some_left;
          reason = reason (length t.good.periods) t.rest t.place t.reason;
        }
      where
        reason : (n : ℕ) (rest : List ℕ) → k ≡ 1 + n → (n ≡ 16) ⊎ NoLine rest → (k ≡ 17) ⊎ NoLine rest
        reason n rest e (inl h) = inl (omega arith)
        reason n rest e (inr h) = inr h

    back : FirstBad bytes k → read_of bytes ≡ bad k
    back f =
        ap read_of f.same_bytes
        ∙ of_holds f.good f.rest f.holds
        ∙ ap (behind f.good.periods f.good.costs)
        (stop (16 - length f.good.periods) (suc (length f.good.periods)) f.rest f.some_left
        (reason (length f.good.periods) f.rest f.place f.reason))
        ∙ ap bad (sym f.place)
      where
        reason : (n : ℕ) (rest : List ℕ) → k ≡ suc n → (k ≡ 17) ⊎ NoLine rest → (16 - n ≡ 0) ⊎ NoLine rest
        reason n rest e (inl h) = inl (omega arith)
        reason n rest e (inr h) = inr h

-- "and write it back in the same bytes"
pub same_bytes : (bytes : List ℕ) (w : Work) → read_of bytes ≡ sheet w → written w.periods w.costs ≡ bytes
same_bytes bytes w e = sym ((reads-sheet bytes w).0 e).same_bytes

-- and what was written reads back the same
pub same-sheet : (w : Work) → Holds w → read_of (written w.periods w.costs) ≡ sheet w
same-sheet w h = (reads-sheet (written w.periods w.costs) w).1 (record { holds = h; same_bytes = refl })
